use Rattle.std.specs.Prelude.{bytes_eq}
use Rattle.note_draft.proofs.RepeatLaws.{IsSeen-more, IsSeen-all, first_repeat-seen}
use Rattle.note_draft.proofs.repeats.name_table.Goals as goal

pub returns-then-not-branch : goal.returns-then-not-branch
returns-then-not-branch g c =
    let seen = c.loop-number in
    let item = c.index-items-number in
    first_repeat-seen bytes_eq g.T.Named.name c.args.items.now seen.number seen.names item.result c.name.result.now c.loop-number-test.true
    item.is c.name.ensures seen.invariant _ c.in_ok-add.ensures.new c.if-not-branch.true

pub loop-number-preserved : goal.loop-number-preserved
loop-number-preserved g c =
    let seen = c.loop-number in
    let item = c.index-items-number in
    IsSeen-more bytes_eq g.T.Named.name c.args.items.now seen.number seen.names item.result c.name.result.now c.loop-number-test.true
    item.is c.name.ensures seen.invariant _ c.in_ok-add.ensures.new c.add.new.self c.if-not-branch.false c.in_ok-add.ensures.ok

pub returns : goal.returns
returns g c =
    IsSeen-all bytes_eq g.T.Named.name c.args.items.now c.loop-number.names c.loop-number.number c.loop-number-test.false
    c.loop-number.invariant
