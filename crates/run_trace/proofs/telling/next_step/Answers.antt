use Rattle.std.proofs.Common.{arith}
use Rattle.std.proofs.lemmas.Result.{on_ok_weaker}
use Rattle.run_trace.proofs.telling.next_step.Goals as goal

pub step-requires : goal.step-requires
step-requires g c = (omega arith, (c.requires.width, (c.args.taken, c.requires.before)))

pub returns-then-taken-first-clause-after : goal.returns-then-taken-first-clause-after
returns-then-taken-first-clause-after g c = on_ok_weaker c.step.result (λ h. h c.args.taken c.requires.before) c.step.ensures.after
