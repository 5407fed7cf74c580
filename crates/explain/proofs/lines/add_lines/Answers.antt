use Rattle.explain.proofs.HeadLaws.{begins-more, begins-same, begins-then}
use Rattle.explain.proofs.lines.add_lines.Goals as goal

pub loop-line-init : goal.loop-line-init
loop-line-init c = begins-same _

pub loop-line-preserved : goal.loop-line-preserved
loop-line-preserved c = begins-then _ _ _ c.loop-line.invariant (begins-more _ _ _ c.in_ok-line.ensures)
