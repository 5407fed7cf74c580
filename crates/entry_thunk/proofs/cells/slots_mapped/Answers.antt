use Rattle.entry_thunk.proofs.Common.{sym, ap, ◌∙◌, holds, ranges}
use Rattle.entry_thunk.proofs.CellLaws.{mapped-step, mapped-stop, mapped-end}
use Rattle.entry_thunk.proofs.cells.slots_mapped.Goals as goal

pub returns-then-not-holds : goal.returns-then-not-holds
returns-then-not-holds g c =
    sym (sym c.loop-kind.invariant
    ∙ mapped-stop g.row.W (ranges c.args.mem.now) c.loop-kind.addr c.loop-kind.kind-index c.slot_bytes-bytes.result c.args.kinds.now _
    c.requires c.loop-kind-test.true c.slot_bytes-bytes.ensures.bytes
    (ap (λ a. holds (ranges c.args.mem.now) a c.slot_bytes-bytes.result) (sym c.cut.ensures)
    ∙ (sym c.holds.ensures.answer ∙ c.if-not-holds.true)))

pub loop-kind-preserved : goal.loop-kind-preserved
loop-kind-preserved g c =
    mapped-step g.row.W (ranges c.args.mem.now) c.loop-kind.addr c.loop-kind.kind-index c.slot_bytes-bytes.result c.args.kinds.now _
    c.requires c.loop-kind-test.true c.slot_bytes-bytes.ensures.bytes
    (ap (λ a. holds (ranges c.args.mem.now) a c.slot_bytes-bytes.result) (sym c.cut.ensures)
    ∙ (sym c.holds.ensures.answer ∙ c.if-not-holds.false))
    ∙ c.loop-kind.invariant

pub returns : goal.returns
returns g c =
    sym (sym c.loop-kind.invariant
    ∙ mapped-end g.row.W (ranges c.args.mem.now) c.loop-kind.addr c.loop-kind.kind-index c.args.kinds.now c.loop-kind-test.false)
