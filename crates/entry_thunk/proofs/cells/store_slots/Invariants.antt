use Rattle.entry_thunk.proofs.Common.{◌≡◌, true, drop, ranges, Concrete, KeepsObjects, with_slots, params_of, with_memory, slots_mapped}
use Rattle.entry_thunk.proofs.cells.store_slots.Given as goal

abbrev pub invariant-loop-k : goal.invariant-loop-k
invariant-loop-k g l = record {
  stored : (s : Concrete) → with_slots g.row.W l.first (params_of l.kinds) l.args (with_memory s l.fn.mem) ≡ with_slots g.row.W l.addr
      (params_of (drop l.k l.kinds)) (drop l.k l.args) (with_memory s l.mem);
  mapped : slots_mapped g.row.W (ranges l.mem) l.addr (drop l.k l.kinds) ≡ true;
  objects : KeepsObjects l.fn.mem l.mem;
}
