use Rattle.std.proofs.Common.{arith, ◌+◌}
use Rattle.run_trace.proofs.PointingLaws.{base-none}
use Rattle.run_trace.proofs.pointing.script_at.Goals as goal

pub returns-in-None : goal.returns-in-None
returns-in-None g c = λ image world s read size is.
    base-none g.row.W image world c.args.runner.now s c.requires.width read size is c.requires.runs (3 + c.args.number)
    (let far = c.in-None.ensures in omega (arith, far))
