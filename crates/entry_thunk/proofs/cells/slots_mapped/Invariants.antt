use Rattle.entry_thunk.proofs.Common.{◌≡◌, drop, ranges, slots_mapped}
use Rattle.entry_thunk.proofs.cells.slots_mapped.Given as goal

abbrev pub invariant-loop-kind : goal.invariant-loop-kind
invariant-loop-kind g l = slots_mapped g.row.W (ranges l.mem) l.addr (drop l.kind-index l.kinds) ≡ slots_mapped g.row.W
    (ranges l.mem) l.first l.kinds
