use Rattle.native_host.proofs.Common.{◌≡◌, ◌++◌, Some, drop, length, slice_get, Frame, byte_at, arguments_read, placement_of}
use Rattle.native_host.proofs.host.Host.arguments.Given as goal

abbrev pub invariant-loop-k : goal.invariant-loop-k
invariant-loop-k g l = record {
  count : length l.args ≡ l.k;
  read : (f : Frame) → slice_get l.frames 0 ≡ Some f
      → l.args ++ arguments_read g.row.W l.notes (placement_of l.self.places) l.self.made.items (byte_at l.mem) (drop l.k l.params)
      (drop l.k f.slots)
      ≡ arguments_read g.row.W l.notes (placement_of l.self.places) l.self.made.items (byte_at l.mem) l.params f.slots;
}
