use Rattle.std.proofs.Common.{List, length, subst}
use Rattle.note_types.specs.declared.notes.FnNote.{FnNote}
use Rattle.image_warnings.specs.ImageEffects.{EffectsBefore}
use Rattle.image_warnings.proofs.Collecting.{effects_all}
use Rattle.image_warnings.proofs.gather.image_effects.Goals as goal

pub returns : goal.returns
returns c =
    effects_all c.args.image.now c.args.notes.now c.add_each.new.out.items
    (subst (λ (fs : List FnNote). EffectsBefore c.args.image.now c.args.notes.now (length fs) c.add_each.new.out.items) c.as_slice.ensures
    c.in_ok-add_each.ensures)
