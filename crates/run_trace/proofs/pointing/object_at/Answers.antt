use Rattle.std.proofs.Common.{ap, ◌∙◌}
use Rattle.run_trace.specs.Pointed.{of_64_bits}
use Rattle.run_trace.proofs.PointedObjects.{read-from}
use Rattle.run_trace.proofs.PointingLaws.{static-place}
use Rattle.run_trace.proofs.pointing.object_at.Goals as goal

pub returns-in-Some : goal.returns-in-Some
returns-in-Some g c = λ image world s read size is.
    let look = c.in-Some.ensures.lookup in
    c.static_at.ensures image world s read size is
    ∙ ap of_64_bits (static-place c.args.notes.now s.machine c.args.object c.in-Some.it.now
    (read-from c.as_slice-statics.result.now c.args.notes.now.statics c.args.object c.in-Some.it.now
    c.as_slice-statics.ensures look.3.0 look.1))
