use Rattle.std.proofs.Common.{ℕ, ◌<◌, ◌≤◌}
use Rattle.note_types.specs.declared.notes.Thunk.{Thunk}
use Rattle.rules_image.specs.Images.{AreApart}
use Rattle.rules_image.proofs.Firsts.{HoldsOf}
use Rattle.rules_image.proofs.apart.is_apart_from_thunks.Given as goal

abbrev pub invariant-loop-later : goal.invariant-loop-later
invariant-loop-later l = (k : ℕ) → k < l.later → HoldsOf (λ j (y : Thunk). l.from ≤ j → AreApart l.place l.size y.place 8) l.thunks k
