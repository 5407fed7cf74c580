use Rattle.entry_thunk.proofs.Common.{◌+◌, ◌%◌, ◌^◌, ◌<◌, length, drop, get_or, refl, sym, ap, ◌∙◌, arith, holds, ranges, stored}
use Rattle.entry_thunk.proofs.Common.{with_memory, slots_mapped}
use Rattle.entry_thunk.proofs.CellLaws.{mapped-parts, stored-next, stored-end, keeps-none, keeps-more}
use Rattle.entry_thunk.proofs.cells.store_slots.Goals as goal

pub loop-k-init : goal.loop-k-init
loop-k-init g c = record { stored = λ s. refl; mapped = c.requires.mapped; objects = keeps-none c.args.mem.now }

pub store-requires : goal.store-requires
store-requires g c =
    let parts = mapped-parts g.row.W (ranges c.loop-k.mem) c.loop-k.addr c.loop-k.k c.slot_bytes-bytes.result c.args.kinds.now _
    c.requires.width c.loop-k-test.true c.slot_bytes-bytes.ensures.bytes c.loop-k.invariant.mapped in (
      omega arith,
      (
        c.slot_bytes-bytes.ensures.access,
        ap (λ a. holds (ranges c.loop-k.mem) a c.slot_bytes-bytes.result) c.cut.ensures
            ∙ parts.0,
      ),
    )

pub loop-k-preserved : goal.loop-k-preserved
loop-k-preserved g c =
    let parts = mapped-parts g.row.W (ranges c.loop-k.mem) c.loop-k.addr c.loop-k.k c.slot_bytes-bytes.result c.args.kinds.now _
    c.requires.width c.loop-k-test.true c.slot_bytes-bytes.ensures.bytes c.loop-k.invariant.mapped in
    let below : c.loop-k.k < length c.args.args.now = omega (arith, c.loop-k-test.true, c.requires.each) in
    record {
      stored = λ s.
          c.loop-k.invariant.stored s
          ∙ stored-next g.row.W c.loop-k.addr c.loop-k.k c.slot_bytes-bytes.result c.args.kinds.now c.args.args.now _ 0
          (with_memory s c.loop-k.mem) (with_memory s c.store.new.mem)
          c.requires.width c.loop-k-test.true below c.slot_bytes-bytes.ensures.bytes
          (ap (λ a. stored (with_memory s c.loop-k.mem) a c.slot_bytes-bytes.result (get_or c.args.args.now c.loop-k.k 0))
          (sym c.cut.ensures) ∙ c.store.ensures.stored s);
      mapped = ap (λ os. slots_mapped g.row.W os ((c.loop-k.addr + c.slot_bytes-bytes.result) % 2 ^ 64)
          (drop (c.loop-k.k + 1) c.args.kinds.now)) c.store.ensures.objects.objects ∙ parts.1;
      objects = keeps-more c.args.mem.now c.loop-k.mem c.store.new.mem c.loop-k.invariant.objects c.store.ensures.objects;
    }

pub returns-clause-stored : goal.returns-clause-stored
returns-clause-stored g c s =
    c.loop-k.invariant.stored s ∙ stored-end g.row.W c.loop-k.addr c.loop-k.k c.args.kinds.now c.args.args.now
    (with_memory s c.loop-k.mem) c.loop-k-test.false
