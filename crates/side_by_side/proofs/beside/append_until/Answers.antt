use Rattle.std.proofs.Common.{◌≡◌, Some, sym, ◌∙◌}
use Rattle.asm_text.specs.Splits.{line_cut}
use Rattle.ebc_asm.proofs.SourceLaws.{next_shorter}
use Rattle.side_by_side.proofs.BesideLaws.{until_behind, until_here, until_none}
use Rattle.side_by_side.proofs.beside.append_until.Goals as goal

pub returns-then-same_subject : goal.returns-then-same_subject
returns-then-same_subject c = λ rest.
    let cut : line_cut c.loop-next.left.now ≡ Some (c.in-Some.next.now, c.in-Some.after.now) = sym c.in-Some.ensures in
    until_here c.loop-next.left.now c.in-Some.next.now c.in-Some.after.now cut c.args.line.now rest c.loop-next.out.items
    c.append_pair.new.out.items _ (c.loop-next.invariant rest) (sym c.same_subject.ensures ∙ c.if-same_subject.true)
    c.in_ok-append_pair.ensures

pub loop-next-smaller : goal.loop-next-smaller
loop-next-smaller c =
    let cut : line_cut c.loop-next.left.now ≡ Some (c.in-Some.next.now, c.in-Some.after.now) = sym c.in-Some.ensures in
    next_shorter c.loop-next.left.now c.in-Some.next.now c.in-Some.after.now cut

pub loop-next-preserved : goal.loop-next-preserved
loop-next-preserved c = λ rest.
    let cut : line_cut c.loop-next.left.now ≡ Some (c.in-Some.next.now, c.in-Some.after.now) = sym c.in-Some.ensures in
    until_behind c.loop-next.left.now c.in-Some.next.now c.in-Some.after.now cut c.args.line.now rest c.loop-next.out.items
    c.append_marked.new.out.items _ (c.loop-next.invariant rest) (sym c.same_subject.ensures ∙ c.if-same_subject.false)
    c.in_ok-append_marked.ensures

pub returns : goal.returns
returns c = λ rest.
    until_none c.loop-next.left.now (sym c.in_default.ensures) c.args.line.now rest c.loop-next.out.items _ (c.loop-next.invariant rest)
