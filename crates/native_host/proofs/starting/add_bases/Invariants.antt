use Rattle.native_host.proofs.Common.{◌≡◌, ◌+◌, ◌++◌, ◌≤◌, drop, bases_in, rooms_in}
use Rattle.native_host.proofs.starting.add_bases.Given as goal

abbrev pub invariant-loop-object : goal.invariant-loop-object
invariant-loop-object l = record {
  bases : l.bases.items ++ bases_in l.sizes l.next (drop l.object-index l.objects) ≡ l.fn.bases.items ++ bases_in l.sizes l.first l.objects;
  rose : l.first ≤ l.next;
  past : l.next + rooms_in l.sizes (drop l.object-index l.objects) ≡ l.first + rooms_in l.sizes l.objects;
}
