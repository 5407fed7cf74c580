use Rattle.native_host.proofs.Common.{◌≡◌, ℕ, List, drop, flat_map, Concrete, KeepsObjects, after_stores, with_memory, placement_of}
use Rattle.native_host.proofs.Common.{cell_store}
use Rattle.native_host.proofs.host.Host.fill_cells.Given as goal

abbrev pub invariant-loop-cell : goal.invariant-loop-cell
invariant-loop-cell g l = record {
  stores : (s : Concrete) (slots : List ℕ) → after_stores g.row.W l.notes (placement_of l.self.places) l.self.made.items slots
      (flat_map (cell_store l.notes l.number l.object) (drop l.cell-index l.cells)) (with_memory s l.mem)
      ≡ after_stores g.row.W l.notes (placement_of l.self.places) l.self.made.items slots
      (flat_map (cell_store l.notes l.number l.object) l.cells) (with_memory s l.fn.mem);
  objects : KeepsObjects l.fn.mem l.mem;
}
