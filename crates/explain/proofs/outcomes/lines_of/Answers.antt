use Rattle.explain.proofs.HeadLaws.{begins-nothing, ok-always}
use Rattle.explain.proofs.outcomes.lines_of.Goals as goal

pub returns-in-Done-clause-agrees : goal.returns-in-Done-clause-agrees
returns-in-Done-clause-agrees c = rw c.in-Done.is (ok-always c.done_lines.result _ begins-nothing)

pub returns-in-WriteFault-clause-agrees : goal.returns-in-WriteFault-clause-agrees
returns-in-WriteFault-clause-agrees c =
    rw c.in-WriteFault.is (ok-always c.other_lines.result _ begins-nothing)

pub returns-in-TooLarge-clause-agrees : goal.returns-in-TooLarge-clause-agrees
returns-in-TooLarge-clause-agrees c =
    rw c.in-TooLarge.is (ok-always c.other_lines-in-TooLarge.result _ begins-nothing)

pub returns-in-Differ-clause-agrees : goal.returns-in-Differ-clause-agrees
returns-in-Differ-clause-agrees c = rw c.in-Differ.is (ok-always c.differ_lines.result _ begins-nothing)
