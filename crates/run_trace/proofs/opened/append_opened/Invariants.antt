use Rattle.std.proofs.Common.{◌≡◌, ◌++◌, drop}
use Rattle.object_memory.specs.Memory.{ranges}
use Rattle.twin_run.specs.Runner.{hosts_of}
use Rattle.run_trace.specs.States.{frames_lines}
use Rattle.run_trace.proofs.opened.append_opened.Given as goal

abbrev pub invariant-loop-above : goal.invariant-loop-above
invariant-loop-above g l =
    l.out.items ++ frames_lines l.notes l.script (ranges l.runner.mem) l.calls (drop l.above (hosts_of l.asked l.frames))
    ≡ l.fn.out.items ++ frames_lines l.notes l.script (ranges l.runner.mem) l.calls (hosts_of l.asked l.frames)
