use Rattle.std.proofs.Common.{arith}
use Rattle.pe_image.specs.declared.image.Section.{Section}
use Rattle.rules_image.proofs.Firsts.{holds_all, holds_more, item_there}
use Rattle.rules_image.proofs.RangesLemmas.{holds}
use Rattle.rules_image.proofs.ranges.are_zero_in.Goals as goal
use Rattle.rules_image.specs.Contents.{IsZeroIn}
use Rattle.rules_image.proofs.Disjoint.{refuted}

pub returns-then-not-is_zero_in : goal.returns-then-not-is_zero_in
returns-then-not-is_zero_in c =
    refuted (λ all.
    let there = item_there (λ j (s : Section). IsZeroIn s c.args.from c.args.to) c.args.sections.now c.loop-s.s-index c.s-item.result
    (omega arith) c.s-item.is in
    let yes = c.is_zero_in.ensures.1 (all c.loop-s.s-index c.s-item.result there) in
    let is = c.if-not-is_zero_in.true in cc)

pub loop-s-preserved : goal.loop-s-preserved
loop-s-preserved c =
    holds_more (λ j (s : Section). IsZeroIn s c.args.from c.args.to) c.args.sections.now c.loop-s.s-index c.s-item.result
    (omega arith) c.s-item.is c.loop-s.invariant
    (c.is_zero_in.ensures.0 c.if-not-is_zero_in.false)

pub returns : goal.returns
returns c = holds (holds_all (λ j (s : Section). IsZeroIn s c.args.from c.args.to) c.args.sections.now c.loop-s.s-index
    (omega arith) c.loop-s.invariant)
