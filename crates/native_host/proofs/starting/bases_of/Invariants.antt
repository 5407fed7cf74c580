use Rattle.native_host.proofs.Common.{◌≡◌, ◌+◌, ◌++◌, ◌≤◌, drop, length, placed_objects, bases_in, bases_made, rooms_in, rooms_made}
use Rattle.native_host.proofs.starting.bases_of.Given as goal

abbrev pub invariant-loop-call : goal.invariant-loop-call
invariant-loop-call l = record {
  bases : l.bases.items ++ bases_made l.sizes l.next (drop l.call-index l.script.call)
      ≡ bases_in l.sizes l.first (placed_objects l.script (length l.script.call));
  rose : l.first ≤ l.next;
  past : l.next + rooms_made l.sizes (drop l.call-index l.script.call)
      ≡ l.first + rooms_in l.sizes (placed_objects l.script (length l.script.call));
}
