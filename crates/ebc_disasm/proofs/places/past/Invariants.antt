use Rattle.std.proofs.Common.{drop}
use Rattle.ebc_disasm.specs.Walks.{IsLeft}
use Rattle.ebc_disasm.proofs.places.past.Given as goal

abbrev pub invariant-loop-i : goal.invariant-loop-i
invariant-loop-i l = IsLeft l.span l.place l.places (drop l.i l.places)
