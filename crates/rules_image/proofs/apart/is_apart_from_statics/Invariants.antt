use Rattle.std.proofs.Common.{ℕ, ◌<◌, ◌≤◌}
use Rattle.note_types.specs.declared.notes.Static.{Static}
use Rattle.rules_image.specs.Checks.{IsApartFromStatic}
use Rattle.rules_image.proofs.Firsts.{HoldsOf}
use Rattle.rules_image.proofs.apart.is_apart_from_statics.Given as goal

abbrev pub invariant-loop-later : goal.invariant-loop-later
invariant-loop-later l = (k : ℕ) → k < l.later → HoldsOf (λ j (y : Static). l.from ≤ j
    → IsApartFromStatic l.notes l.place l.size y) l.statics k
