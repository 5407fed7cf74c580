use Rattle.std.proofs.Common.{sym}
use Rattle.std.specs.Prelude.{nat_eq}
use Rattle.note_draft.proofs.RepeatLaws.{IsSeen-more, IsSeen-all, first_repeat-seen}
use Rattle.note_draft.proofs.repeats.repeated_place.Goals as goal

pub returns-then-not-branch : goal.returns-then-not-branch
returns-then-not-branch g c =
    let seen = c.loop-number in
    let item = c.index-items-number in
    sym (first_repeat-seen nat_eq g.T.Placed.place c.args.items.now seen.number seen.places.keys item.result c.place.result
    c.loop-number-test.true item.is c.place.ensures seen.invariant _ c.in_ok-insert.ensures.added c.if-not-branch.true)

pub loop-number-preserved : goal.loop-number-preserved
loop-number-preserved g c =
    let seen = c.loop-number in
    let item = c.index-items-number in
    IsSeen-more nat_eq g.T.Placed.place c.args.items.now seen.number seen.places.keys item.result c.place.result c.loop-number-test.true
    item.is c.place.ensures seen.invariant _ c.in_ok-insert.ensures.added c.insert.new.self.keys c.if-not-branch.false
    c.in_ok-insert.ensures.keys

pub returns : goal.returns
returns g c =
    sym (IsSeen-all nat_eq g.T.Placed.place c.args.items.now c.loop-number.places.keys c.loop-number.number c.loop-number-test.false
    c.loop-number.invariant).0
