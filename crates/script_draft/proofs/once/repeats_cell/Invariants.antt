use Rattle.script_draft.proofs.CellLaws.{AreSeen}
use Rattle.script_draft.proofs.once.repeats_cell.Given as goal

abbrev pub invariant-loop-number : goal.invariant-loop-number
invariant-loop-number l = AreSeen l.cells l.number l.seen.keys
