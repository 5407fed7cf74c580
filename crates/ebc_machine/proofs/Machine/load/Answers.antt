use Rattle.std.proofs.Common.{◌∙◌}
use Rattle.ebc_machine.proofs.Memories.{loaded-same}
use Rattle.ebc_machine.proofs.Machine.load.Goals as goal

pub returns : goal.returns
returns g c = c.load.ensures.number ∙ loaded-same c.args.self.now c.args.mem.now c.args.addr c.args.count
