use Rattle.std.proofs.Common.{refl}
use Rattle.object_memory.specs.Memory.{ranges}
use Rattle.run_trace.proofs.OpenedLaws.{open-is}
use Rattle.run_trace.proofs.opened.opened.Goals as goal

pub returns : goal.returns
returns g c = λ f is.
    open-is c.args.notes.now (ranges c.args.runner.now.mem) f c.function_of-function.result c.saved_ip.result c.from.result _ c.held.result
    (c.function_of-function.ensures f is) (c.saved_ip.ensures f is) c.from.ensures refl c.held.ensures
