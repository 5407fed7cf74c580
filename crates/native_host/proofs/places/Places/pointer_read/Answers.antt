use Rattle.native_host.proofs.Common.{None, Some, sym, ◌∙◌, placement_of}
use Rattle.native_host.proofs.ReadingLaws.{pointer-end, pointer-step}
use Rattle.native_host.proofs.places.Places.pointer_read.Goals as goal

pub returns-in-Some : goal.returns-in-Some
returns-in-Some c w notes of =
    sym (pointer-step w notes c.args.self.now c.args.made.now c.loop-k.k c.args.x c.object_base-base.result c.instance_bytes-size.result _
    (Some c.in-Some.instance) of c.loop-k-test.true c.object_base-base.ensures c.instance_bytes-size.ensures
    (sym c.in-Some.is ∙ c.instance_named.ensures))
    ∙ c.loop-k.invariant w notes of

pub loop-k-preserved : goal.loop-k-preserved
loop-k-preserved c w notes of =
    sym (pointer-step w notes c.args.self.now c.args.made.now c.loop-k.k c.args.x c.object_base-base.result c.instance_bytes-size.result _
    None of c.loop-k-test.true c.object_base-base.ensures c.instance_bytes-size.ensures
    (sym c.in_default.is ∙ c.instance_named.ensures))
    ∙ c.loop-k.invariant w notes of

pub returns : goal.returns
returns c w notes of =
    sym (pointer-end w notes (placement_of c.args.self.now) c.args.made.now c.loop-k.k c.args.x c.loop-k-test.false)
    ∙ c.loop-k.invariant w notes of
