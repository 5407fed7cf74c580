use Rattle.std.proofs.Common.{ap}
use Rattle.object_memory.specs.Memory.{ranges}
use Rattle.note_types.specs.Concrete.{Concrete}
use Rattle.run_trace.proofs.OpenedLaws.{holdings-are}
use Rattle.run_trace.proofs.holding.holdings.Goals as goal

pub returns : goal.returns
returns g c = λ world s is.
    holdings-are c.args.notes.now s (ranges c.args.runner.now.mem) c.registers.result c.ip.result c.registers_held.result c.held.result
    c.has_c.result (ap (λ (m : Concrete). m.objects) is.at.machine) (c.registers.ensures world s is) (c.ip.ensures world s is)
    c.registers_held.ensures c.held.ensures (c.has_c.ensures world s is)
