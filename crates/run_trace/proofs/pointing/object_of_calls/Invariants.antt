use Rattle.std.specs.Prelude.{◌≡◌, length, slice_get}
use Rattle.std.specs.List.{flat_map}
use Rattle.host_model.specs.Objects.{objects_of}
use Rattle.run_trace.proofs.pointing.object_of_calls.Given as goal

abbrev pub invariant-loop-rest : goal.invariant-loop-rest
invariant-loop-rest l = slice_get (flat_map objects_of l.calls) l.number ≡ slice_get (flat_map objects_of l.rest) l.left

abbrev pub decreases-loop-rest : goal.decreases-loop-rest
decreases-loop-rest l = length l.rest
