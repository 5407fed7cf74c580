use Rattle.std.specs.Prelude.{◌≡◌, ◌++◌, slice_index_or}
use Rattle.std.specs.List.{flat_map, range_with_len}
use Rattle.host_model.specs.RunState.{RunState}
use Rattle.host_model.specs.World.{World}
use Rattle.pe_image.specs.Images.{IsImage}
use Rattle.pe_image.specs.declared.image.Image.{Image}
use Rattle.twin_run.specs.Runner.{IsRunner}
use Rattle.run_trace.specs.Pointed.{argument_line, unseen}
use Rattle.run_trace.proofs.pointing.append_arguments.Given as goal

abbrev pub invariant-loop-argument : goal.invariant-loop-argument
invariant-loop-argument g l =
    (image : Image) (world : World) (s : RunState) → world.notes ≡ l.program.notes.now → world.script ≡ l.program.script.now
    → IsImage image → world.image_size ≡ image.size → IsRunner g.row.W world l.runner s → l.out.items ≡ l.fn.out.items
    ++ flat_map (λ k. argument_line g.row.W world s.machine k (slice_index_or l.args k unseen)) (range_with_len 0 l.argument)
