use Rattle.native_host.proofs.Common.{◌≡◌, ℕ, ◌+◌, List, drop, Concrete, KeepsObjects, filling, after_stores, with_memory, placement_of}
use Rattle.native_host.proofs.host.Host.fill_objects.Given as goal

abbrev pub invariant-loop-k : goal.invariant-loop-k
invariant-loop-k g l = record {
  stores : (s : Concrete) (slots : List ℕ) → after_stores g.row.W l.notes (placement_of l.self.places) l.self.made.items slots
      (filling l.notes (l.first + l.k) (drop l.k l.objects)) (with_memory s l.mem)
      ≡ after_stores g.row.W l.notes (placement_of l.self.places) l.self.made.items slots (filling l.notes l.first l.objects)
      (with_memory s l.fn.mem);
  objects : KeepsObjects l.fn.mem l.mem;
}
