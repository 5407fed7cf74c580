use Rattle.protocol_script.proofs.Common.{◌≡◌, ◌+◌, ◌≤◌, ◌^◌, take, sum_by, room_of}
use Rattle.protocol_script.proofs.limits.Load.with_all.Given as goal

abbrev pub invariant-loop-object : goal.invariant-loop-object
invariant-loop-object l = record {
  room : l.load.room ≡ l.fn.self.room + sum_by (room_of l.notes) (take l.object-index l.objects);
  objects : l.load.objects ≡ l.fn.self.objects + l.object-index;
  within : (l.load.room ≤ 2 ^ 23) × (l.load.objects ≤ 4096);
}
