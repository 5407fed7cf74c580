use Rattle.std.proofs.Common.{◌≡◌, ℕ, ◌<◌}
use Rattle.std.specs.Prelude.{Some, slice_get}
use Rattle.pe_image.specs.declared.image.Section.{Section}
use Rattle.rules_image.specs.Images.{IsInside}
use Rattle.rules_image.proofs.tables.home.Given as goal

abbrev pub invariant-loop-number : goal.invariant-loop-number
invariant-loop-number l = (k : ℕ) (s : Section) → k < l.number → slice_get l.sections k ≡ Some s → IsInside s l.from l.to → ⊥
