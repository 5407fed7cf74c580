use Rattle.std.proofs.Common.{ℕ, ◌<◌}
use Rattle.note_types.specs.declared.shape.Field.{Field}
use Rattle.rules_image.specs.Images.{MayBeZero}
use Rattle.rules_image.proofs.Firsts.{HoldsOf}
use Rattle.rules_image.proofs.content.may_all_be_zero.Given as goal

abbrev pub invariant-loop-y : goal.invariant-loop-y
invariant-loop-y l = (k : ℕ) → k < l.y-index → HoldsOf (λ j (y : Field). MayBeZero y.cell) l.fields k
