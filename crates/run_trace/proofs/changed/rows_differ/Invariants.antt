use Rattle.std.proofs.Common.{◌≡◌, true}
use Rattle.run_trace.proofs.RowLaws.{rows_same}
use Rattle.run_trace.proofs.changed.rows_differ.Given as goal

abbrev pub invariant-loop-k : goal.invariant-loop-k
invariant-loop-k l = rows_same l.old l.new l.k ≡ true
