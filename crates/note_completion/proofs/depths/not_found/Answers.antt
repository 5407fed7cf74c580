use Rattle.std.proofs.Common.{refl, subst}
use Rattle.stack_needs.specs.Calls.{HasStackCause}
use Rattle.note_completion.specs.Causes.{by_stack}
use Rattle.note_completion.proofs.CauseLaws.{depths_rule, refused_rule}
use Rattle.note_completion.proofs.depths.not_found.Goals as goal

pub returns-in-Uneven : goal.returns-in-Uneven
returns-in-Uneven c =
    let image = c.args._image.now in
    let draft = c.args.draft.now in
    depths_rule image draft c.refused.result
    (refused_rule image draft.notes c.in-Uneven.place _ c.refused.result c.refused.ensures
    (by_stack (subst (HasStackCause image draft.notes) c.in-Uneven.is c.requires.cause) refl))
