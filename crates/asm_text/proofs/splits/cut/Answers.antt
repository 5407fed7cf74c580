use Rattle.std.proofs.Common.{rules, ◌≡◌, true, false, drop}
use Rattle.asm_text.specs.Splits.{starts_cut}
use Rattle.asm_text.proofs.Pieces.{cut_here, cut_more, cut_done}
use Rattle.asm_text.proofs.splits.cut.Goals as goal

pub returns-then-starts_cut : goal.returns-then-starts_cut
returns-then-starts_cut c =
    let here : starts_cut (drop c.loop-at.at c.args.text.now) ≡ true = search rules in
    rw (c.split_at-then-starts_cut.ensures.front, c.split_at-then-starts_cut-2.ensures.back)
    (cut_here c.loop-at.at c.args.text.now _ c.loop-at-test.true here c.loop-at.invariant)

pub loop-at-preserved : goal.loop-at-preserved
loop-at-preserved c =
    let other : starts_cut (drop c.loop-at.at c.args.text.now) ≡ false = search rules in
    cut_more c.loop-at.at c.args.text.now _ c.loop-at-test.true other c.loop-at.invariant

pub returns : goal.returns
returns c = cut_done c.loop-at.at c.args.text.now _ c.loop-at-test.false c.loop-at.invariant
