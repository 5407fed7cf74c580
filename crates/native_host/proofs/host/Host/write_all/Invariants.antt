use Rattle.native_host.proofs.Common.{◌≡◌, ℕ, List, drop, flat_map, Concrete, KeepsObjects, after_stores, with_memory, placement_of}
use Rattle.native_host.proofs.Common.{write_store}
use Rattle.native_host.proofs.host.Host.write_all.Given as goal

abbrev pub invariant-loop-write : goal.invariant-loop-write
invariant-loop-write g l = record {
  stores : (s : Concrete) (slots : List ℕ) → after_stores g.row.W l.notes (placement_of l.self.places) l.self.made.items slots
      (flat_map (write_store l.notes l.self.made.items) (drop l.write-index l.writes)) (with_memory s l.mem)
      ≡ after_stores g.row.W l.notes (placement_of l.self.places) l.self.made.items slots (flat_map (write_store l.notes l.self.made.items)
      l.writes) (with_memory s l.fn.mem);
  objects : KeepsObjects l.fn.mem l.mem;
}
