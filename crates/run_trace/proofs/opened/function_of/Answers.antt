use Rattle.std.proofs.Common.{◌*◌, ◌∙◌}
use Rattle.std.specs.Prelude.{slice_index}
use Rattle.run_trace.proofs.OpenedLaws.{function-lies}
use Rattle.run_trace.proofs.opened.function_of.Goals as goal

pub returns : goal.returns
returns c = λ f is.
    c.load.ensures.number
    ∙ function-lies (slice_index c.region.result.now) (224 * c.args.below) f (c.region.ensures.frames c.args.below f is)
