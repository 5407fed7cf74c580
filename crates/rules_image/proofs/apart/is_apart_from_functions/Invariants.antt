use Rattle.std.proofs.Common.{ℕ, ◌-◌, ◌<◌}
use Rattle.note_types.specs.declared.notes.FnNote.{FnNote}
use Rattle.rules_image.specs.Images.{AreApart}
use Rattle.rules_image.proofs.Firsts.{HoldsOf}
use Rattle.rules_image.proofs.apart.is_apart_from_functions.Given as goal

abbrev pub invariant-loop-number : goal.invariant-loop-number
invariant-loop-number l = (k : ℕ) → k < l.number → HoldsOf (λ j (f : FnNote). AreApart l.place l.size f.place
    (f.end - f.place)) l.functions k
