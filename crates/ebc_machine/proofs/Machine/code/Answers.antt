use Rattle.ebc_machine.proofs.Memories.{rest_from-same}
use Rattle.ebc_machine.proofs.Machine.code.Goals as goal

pub returns-clause-found : goal.returns-clause-found
returns-clause-found g c =
    rw (← rest_from-same c.args.self.now c.args.mem.now c.args.self.now.ip c.bytes_from.ensures.memory)
    c.bytes_from.ensures.found

pub returns-clause-none : goal.returns-clause-none
returns-clause-none g c =
    rw (← rest_from-same c.args.self.now c.args.mem.now c.args.self.now.ip c.bytes_from.ensures.memory)
    c.bytes_from.ensures.none
