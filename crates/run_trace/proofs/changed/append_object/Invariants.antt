use Rattle.run_trace.specs.Changes.{row_line_of}
use Rattle.run_trace.proofs.RowLaws.{AreChosen, row_differs}
use Rattle.run_trace.proofs.changed.append_object.Given as goal

abbrev pub invariant-loop-k : goal.invariant-loop-k
invariant-loop-k l =
    AreChosen (row_differs l.old l.new) (row_line_of l.notes l.base l.object l.old l.new) l.k l.rows l.fn.out.items l.out.items
