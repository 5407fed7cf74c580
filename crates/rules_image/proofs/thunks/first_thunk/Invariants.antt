use Rattle.std.proofs.Common.{ℕ, ◌<◌}
use Rattle.rules_image.specs.Images.{IsThunk}
use Rattle.rules_image.proofs.Firsts.{HoldsOf}
use Rattle.rules_image.proofs.thunks.first_thunk.Given as goal

abbrev pub invariant-loop-number : goal.invariant-loop-number
invariant-loop-number l = (k : ℕ) → k < l.number → HoldsOf (IsThunk l.image l.notes) l.thunks k
