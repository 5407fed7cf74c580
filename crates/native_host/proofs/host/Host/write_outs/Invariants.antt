use Rattle.native_host.proofs.Common.{◌≡◌, drop, flat_map, Concrete, KeepsObjects, after_stores, with_memory, placement_of, out_store}
use Rattle.native_host.proofs.Common.{top_slots}
use Rattle.native_host.proofs.host.Host.write_outs.Given as goal

abbrev pub invariant-loop-out : goal.invariant-loop-out
invariant-loop-out g l = record {
  stores : (s : Concrete) → after_stores g.row.W l.notes (placement_of l.self.places) l.self.made.items (top_slots l.frames)
      (flat_map (out_store l.params) (drop l.out-index l.outs)) (with_memory s l.mem)
      ≡ after_stores g.row.W l.notes (placement_of l.self.places) l.self.made.items (top_slots l.frames) (flat_map (out_store l.params)
      l.outs) (with_memory s l.fn.mem);
  objects : KeepsObjects l.fn.mem l.mem;
}
