use Rattle.std.proofs.Common.{ap}
use Rattle.object_memory.specs.Memory.{ranges}
use Rattle.note_types.specs.Concrete.{Concrete}
use Rattle.run_trace.proofs.BeforeLaws.{step-is}
use Rattle.run_trace.proofs.before.Before.step.Goals as goal

pub returns-clause-step : goal.returns-clause-step
returns-clause-step g c = λ world r s its same is.
    step-is g.row.W world c.args.number r s c.args.notes.now c.args.self.now c.register_changes.result c.flag_change.result
    c.stored_in.result (ranges c.args.runner.now.mem) c.registers.result c.has_c.result its same
    (ap (λ (s : Concrete). s.objects) is.at.machine) c.register_changes.ensures (c.registers.ensures world s is)
    c.flag_change.ensures (c.has_c.ensures world s is) (c.stored_in.ensures world s is)
