use Rattle.std.proofs.Common.{sym, ◌∙◌, map}
use Rattle.std.proofs.lemmas.Bool.{le-leb, lt-leb}
use Rattle.note_draft.proofs.RepeatLaws.{AscendsBelow-more, descends-map, first_descent-some, first_descent-none}
use Rattle.note_draft.proofs.repeats.first_descent.Goals as goal

pub returns-then-place : goal.returns-then-place
returns-then-place g c =
    let v = g.T.Placed.place in
    let items = c.args.items.now in
    let i = c.loop-number.number in
    let here = c.index-items-number in
    let before = c.index-items-number-in-loop-number in
    let e = descends-map v items i here.result before.result c.place.result c.place-in-loop-number.result c.loop-number.auto.number
    c.loop-number-test.true here.is before.is c.place.ensures c.place-in-loop-number.ensures in
    sym (first_descent-some v items i c.loop-number.auto.number c.loop-number-test.true
    (e ∙ le-leb _ _ c.if-place.true) c.loop-number.invariant)

pub loop-number-preserved : goal.loop-number-preserved
loop-number-preserved g c =
    let v = g.T.Placed.place in
    let items = c.args.items.now in
    let i = c.loop-number.number in
    let here = c.index-items-number in
    let before = c.index-items-number-in-loop-number in
    let e = descends-map v items i here.result before.result c.place.result c.place-in-loop-number.result c.loop-number.auto.number
    c.loop-number-test.true here.is before.is c.place.ensures c.place-in-loop-number.ensures in
    AscendsBelow-more (map v items) i c.loop-number.invariant (e ∙ lt-leb _ _ c.if-place.false)

pub returns : goal.returns
returns g c =
    sym (first_descent-none g.T.Placed.place c.args.items.now c.loop-number.number c.loop-number-test.false c.loop-number.invariant)
