use Rattle.std.proofs.Common.{List, length, sym, subst, ◌∙◌}
use Rattle.note_types.specs.declared.notes.FnNote.{FnNote}
use Rattle.image_warnings.specs.ImageEffects.{AreEffects}
use Rattle.image_warnings.specs.Walks.{WarnedBefore}
use Rattle.image_warnings.specs.Warned.{AreWarnings}
use Rattle.image_warnings.proofs.Gathering.{gathered_all}
use Rattle.image_warnings.proofs.walk.warnings.Goals as goal

pub append_each-requires-clause-effects : goal.append_each-requires-clause-effects
append_each-requires-clause-effects c =
    subst (AreEffects c.args.image.now c.args.notes.now) (sym c.as_slice.ensures.value) c.in_ok-effects.ensures

pub append_each-requires-clause-texts : goal.append_each-requires-clause-texts
append_each-requires-clause-texts c = c.as_slice-2.ensures.value ∙ c.in_ok-texts.ensures

pub returns : goal.returns
returns c =
    subst (AreWarnings c.args.image.now c.args.notes.now) (sym c.new.ensures)
    (gathered_all c.args.image.now c.args.notes.now c.append_each.new.out.items
    (subst (λ (fs : List FnNote). WarnedBefore c.args.image.now c.args.notes.now (length fs) c.append_each.new.out.items)
    c.as_slice-3.ensures
    c.in_ok-append_each.ensures))
