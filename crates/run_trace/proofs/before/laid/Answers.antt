use Rattle.std.proofs.Common.{None, Some, ap, ◌∙◌}
use Rattle.note_types.specs.Concrete.{Concrete}
use Rattle.object_memory.specs.Memory.{ranges}
use Rattle.step_texts.specs.declared.step.Change.{Change}
use Rattle.run_trace.specs.Steps.{bytes_of}
use Rattle.run_trace.proofs.BeforeLaws.{laid-is}
use Rattle.run_trace.proofs.before.laid.Goals as goal

pub returns-in-Some : goal.returns-in-Some
returns-in-Some g c = λ world s is.
    ap Some (c.bytes_of.ensures ∙ ap (λ (a : Change). bytes_of a c.args.range.size c.in-Some.rest.now) c.held-address.ensures)
    ∙ laid-is c.args.notes.now s.machine c.args.range (ranges c.args.runner.now.mem) (Some c.in-Some.rest.now)
    (ap (λ (s : Concrete). s.objects) is.at.machine) (c.in-Some.ensures.found world s is)

pub returns-in-None : goal.returns-in-None
returns-in-None g c = λ world s is.
    laid-is c.args.notes.now s.machine c.args.range (ranges c.args.runner.now.mem) None (ap (λ (s : Concrete). s.objects) is.at.machine)
    (c.in-None.ensures.none world s is)
