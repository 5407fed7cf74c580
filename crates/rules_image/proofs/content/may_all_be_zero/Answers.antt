use Rattle.std.proofs.Common.{arith}
use Rattle.note_types.specs.declared.shape.Field.{Field}
use Rattle.rules_image.specs.Images.{MayBeZero}
use Rattle.rules_image.proofs.Firsts.{holds_all, holds_more, item_there}
use Rattle.rules_image.proofs.RangesLemmas.{holds}
use Rattle.rules_image.proofs.Disjoint.{refuted}
use Rattle.rules_image.proofs.content.may_all_be_zero.Goals as goal

pub returns-then-not-may_be_zero : goal.returns-then-not-may_be_zero
returns-then-not-may_be_zero c =
    refuted (λ all.
    let there = item_there (λ j (y : Field). MayBeZero y.cell) c.args.fields.now c.loop-y.y-index c.y-item.result
    (omega arith) c.y-item.is in
    let yes = c.may_be_zero.ensures.1 (all c.loop-y.y-index c.y-item.result there) in
    let is = c.if-not-may_be_zero.true in cc)

pub loop-y-preserved : goal.loop-y-preserved
loop-y-preserved c =
    holds_more (λ j (y : Field). MayBeZero y.cell) c.args.fields.now c.loop-y.y-index c.y-item.result
    (omega arith) c.y-item.is c.loop-y.invariant
    (c.may_be_zero.ensures.0 c.if-not-may_be_zero.false)

pub returns : goal.returns
returns c = holds (holds_all (λ j (y : Field). MayBeZero y.cell) c.args.fields.now c.loop-y.y-index (omega arith) c.loop-y.invariant)
