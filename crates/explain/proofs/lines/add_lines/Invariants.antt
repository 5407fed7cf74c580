use Rattle.explain.specs.Heads.{BeginsWith}
use Rattle.explain.proofs.lines.add_lines.Given as goal

abbrev pub invariant-loop-line : goal.invariant-loop-line
invariant-loop-line l = BeginsWith l.initial.told l.told
