use Rattle.native_host.proofs.Common.{◌≡◌, ◌+◌, ◌≤◌, length, map, take, vec_capacity, static_object}
use Rattle.native_host.proofs.starting.statics_made.Given as goal

abbrev pub invariant-loop-object : goal.invariant-loop-object
invariant-loop-object l = record {
  made : l.made.items ≡ map static_object (take l.object-index l.statics);
  room : length l.statics + l.more ≤ vec_capacity l.made;
}
