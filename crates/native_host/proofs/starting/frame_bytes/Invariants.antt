use Rattle.native_host.proofs.Common.{◌≡◌, ◌+◌, drop, frame_bytes, params_bytes}
use Rattle.native_host.proofs.starting.frame_bytes.Given as goal

abbrev pub invariant-loop-param : goal.invariant-loop-param
invariant-loop-param g l =
    l.bytes + params_bytes g.row.W (drop l.param-index l.function.params) ≡ frame_bytes g.row.W l.function
