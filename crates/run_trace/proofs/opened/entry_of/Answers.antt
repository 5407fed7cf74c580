use Rattle.std.proofs.Common.{◌*◌, ◌∙◌}
use Rattle.std.specs.Prelude.{slice_index}
use Rattle.run_trace.proofs.OpenedLaws.{entry-lies}
use Rattle.run_trace.proofs.opened.entry_of.Goals as goal

pub returns : goal.returns
returns c = λ f is.
    c.load.ensures.number ∙ entry-lies (slice_index c.region.result.now) (224 * c.args.below) f (c.region.ensures.frames c.args.below f is)
