use Rattle.std.specs.Prelude.{◌≡◌, ◌++◌, take}
use Rattle.std.specs.List.{flat_map}
use Rattle.host_model.specs.RunState.{RunState}
use Rattle.host_model.specs.World.{World}
use Rattle.pe_image.specs.Images.{IsImage}
use Rattle.pe_image.specs.declared.image.Image.{Image}
use Rattle.twin_run.specs.Runner.{IsRunner}
use Rattle.run_trace.specs.Pointed.{event_lines}
use Rattle.run_trace.proofs.pointing.append_pointed_to.Given as goal

abbrev pub invariant-loop-event : goal.invariant-loop-event
invariant-loop-event g l =
    (image : Image) (world : World) (s : RunState) → world.notes ≡ l.program.notes.now → world.script ≡ l.program.script.now
    → IsImage image → world.image_size ≡ image.size → IsRunner g.row.W world l.runner s
    → l.out.items ≡ l.fn.out.items ++ flat_map (event_lines g.row.W world s.machine) (take l.event-index l.events)
