use Rattle.std.proofs.Common.{take}
use Rattle.std.specs.Prelude.{AllPairs}
use Rattle.ebc_object.specs.Objects.{AreNamedApart}
use Rattle.ebc_object.proofs.conditions.are_named_apart.Given as goal

abbrev pub invariant-loop-i : goal.invariant-loop-i
invariant-loop-i l = AllPairs AreNamedApart (take l.i l.symbols)
