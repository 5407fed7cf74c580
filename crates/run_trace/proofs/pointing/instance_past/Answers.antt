use Rattle.std.proofs.Common.{arith, sym, ◌+◌, ◌*◌}
use Rattle.run_trace.proofs.PointingLaws.{rest-past}
use Rattle.run_trace.proofs.pointing.instance_past.Goals as goal

pub returns-in-None : goal.returns-in-None
returns-in-None g c = λ image world s read size is.
    sym (rest-past g.row.W image world c.args.runner.now s c.requires.width read size is (c.args.at + c.args.instance * c.args.size)
    (let far = c.in-None.ensures in omega (arith, far)))
