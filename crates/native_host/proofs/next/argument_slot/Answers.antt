use Rattle.native_host.proofs.Common.{◌<◌, arith, slice_index}
use Rattle.native_host.proofs.TopLaws.{slot-here, slot-none}
use Rattle.native_host.proofs.next.argument_slot.Goals as goal

pub returns-then-number-ge16 : goal.returns-then-number-ge16
returns-then-number-ge16 c =
    slot-none (slice_index c.region.result.now) c.args.frames.now c.args.number c.region.ensures.frames c.if-number-ge16.true

pub returns : goal.returns
returns c =
    slot-here c.args.frames.now c.args.number c.mark-count.result.2 c.depth.result c.slot.result c.mark-count.ensures.count
    (let less : c.args.number < c.mark-count.result.2 = omega (arith, c.if-from-number.false, c.from.ensures) in less)
    c.depth.ensures.count c.requires c.slot.ensures
