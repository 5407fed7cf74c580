use Rattle.std.proofs.Common.{take}
use Rattle.std.specs.Prelude.{AllPairs}
use Rattle.ebc_object.specs.Objects.{EndsBefore}
use Rattle.ebc_object.specs.Walks.{HasLast}
use Rattle.ebc_object.proofs.conditions.ascend.Given as goal

abbrev pub invariant-loop-i : goal.invariant-loop-i
invariant-loop-i l =
    record {
      pairs : AllPairs EndsBefore (take l.i l.fixups);
      last : HasLast (take l.i l.fixups);
    }
