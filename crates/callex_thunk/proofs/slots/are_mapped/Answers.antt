use Rattle.std.proofs.Common.{sym, ap, ◌∙◌}
use Rattle.ebc_width.specs.Ranges.{holds}
use Rattle.object_memory.specs.Memory.{ranges}
use Rattle.callex_thunk.specs.Slots.{memory_state}
use Rattle.callex_thunk.proofs.SlotLaws.{mapped-step, mapped-stop, mapped-end}
use Rattle.callex_thunk.proofs.slots.are_mapped.Goals as goal

pub returns-then-not-holds : goal.returns-then-not-holds
returns-then-not-holds g c =
    sym (sym c.loop-param.invariant
    ∙ mapped-stop g.row.W c.args.mem.now c.loop-param.addr c.loop-param.param-index c.slot_bytes-bytes.result c.args.params.now _ c.requires
    c.loop-param-test.true c.slot_bytes-bytes.ensures.bytes
    (ap (λ a. holds (ranges c.args.mem.now) a c.slot_bytes-bytes.result) (sym c.cut.ensures)
    ∙ (sym c.holds.ensures.answer ∙ c.if-not-holds.true)))

pub loop-param-preserved : goal.loop-param-preserved
loop-param-preserved g c =
    mapped-step g.row.W c.args.mem.now c.loop-param.addr c.loop-param.param-index c.slot_bytes-bytes.result c.args.params.now _ c.requires
    c.loop-param-test.true c.slot_bytes-bytes.ensures.bytes
    (ap (λ a. holds (ranges c.args.mem.now) a c.slot_bytes-bytes.result) (sym c.cut.ensures)
    ∙ (sym c.holds.ensures.answer ∙ c.if-not-holds.false))
    ∙ c.loop-param.invariant

pub returns : goal.returns
returns g c =
    sym (sym c.loop-param.invariant
    ∙ mapped-end g.row.W (memory_state c.args.mem.now) c.loop-param.addr c.loop-param.param-index c.args.params.now c.loop-param-test.false)
