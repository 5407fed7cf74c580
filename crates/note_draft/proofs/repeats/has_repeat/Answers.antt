use Rattle.std.proofs.Common.{sym, ◌∙◌}
use Rattle.note_draft.proofs.RepeatLaws.{AreNewBelow-next, has_repeat-some, has_repeat-none}
use Rattle.note_draft.proofs.repeats.has_repeat.Goals as goal

pub returns-then-has_same : goal.returns-then-has_same
returns-then-has_same g c =
    let item = c.index-items-number in
    sym (has_repeat-some g.T.Distinct.same c.args.items.now c.loop-number.number item.result c.loop-number-test.true item.is
    c.loop-number.invariant (sym c.has_same.ensures ∙ c.if-has_same.true))

pub loop-number-preserved : goal.loop-number-preserved
loop-number-preserved g c =
    let item = c.index-items-number in
    AreNewBelow-next g.T.Distinct.same c.args.items.now c.loop-number.number item.result c.loop-number-test.true item.is
    c.loop-number.invariant (sym c.has_same.ensures ∙ c.if-has_same.false)

pub returns : goal.returns
returns g c = sym (has_repeat-none g.T.Distinct.same c.args.items.now c.loop-number.number c.loop-number-test.false c.loop-number.invariant)
