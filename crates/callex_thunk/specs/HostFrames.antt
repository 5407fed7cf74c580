-- For proofs: what a frame of the region is as a frame of the host in a run's state. docs/HOST.md, "The state".
use Rattle.std.specs.Prelude.{ℕ, ◌%◌, ◌^◌, nat_eq, nat_le, take, if◌then◌else◌}
use Rattle.frame_stack.specs.declared.Frame.{Frame}
use Rattle.host_model.specs.Progress.{NativeCall, NoCall, Accepted}
use Rattle.host_model.specs.RunState.{SavedFrame}
use Rattle.callex_thunk.specs.declared.TheConstants.{NO_ENTRY}

-- the native call that is under way above a frame, once it was accepted; one that is asked for stands beside the frames
unfoldable pub call_of : Frame → NativeCall ℕ
call_of f = if nat_eq f.entry NO_ENTRY then NoCall else Accepted f.entry f.callback (take f.count f.slots)

-- the frame of the host: a function that was entered as a notification has 2 ^ 31 added to its number
unfoldable pub saved_of : Frame → SavedFrame
saved_of f = record {
  func = f.func % 2 ^ 31;
  notified = nat_le (2 ^ 31) f.func;
  registers = f.regs;
  ip = f.ip;
  flags = f.flags;
  call = call_of f;
}
