use Rattle.std.proofs.Common.{arith}
use Rattle.run_trace.proofs.RowLaws.{differ_at, same_more}
use Rattle.run_trace.proofs.changed.rows_differ.Goals as goal

pub returns-then-byte_differs : goal.returns-then-byte_differs
returns-then-byte_differs c = differ_at c.args.old.now c.args.new.now c.loop-k.k (omega arith) c.if-byte_differs.ensures

pub loop-k-preserved : goal.loop-k-preserved
loop-k-preserved c = same_more c.args.old.now c.args.new.now c.loop-k.k c.loop-k.invariant c.if-byte_differs.ensures
