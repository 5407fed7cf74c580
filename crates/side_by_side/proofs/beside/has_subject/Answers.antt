use Rattle.std.proofs.Common.{◌≡◌, Some, sym, ◌∙◌}
use Rattle.asm_text.specs.Splits.{line_cut}
use Rattle.ebc_asm.proofs.SourceLaws.{next_shorter}
use Rattle.side_by_side.proofs.BesideLaws.{any_behind, any_here, any_none}
use Rattle.side_by_side.proofs.beside.has_subject.Goals as goal

pub returns-then-same_subject : goal.returns-then-same_subject
returns-then-same_subject c =
    let cut : line_cut c.loop-next.rest.now ≡ Some (c.in-Some.next.now, c.in-Some.after.now) = sym c.in-Some.ensures in
    any_here c.loop-next.rest.now c.in-Some.next.now c.in-Some.after.now cut c.args.line.now _ c.loop-next.invariant
    (sym c.same_subject.ensures ∙ c.if-same_subject.true)

pub loop-next-smaller : goal.loop-next-smaller
loop-next-smaller c =
    let cut : line_cut c.loop-next.rest.now ≡ Some (c.in-Some.next.now, c.in-Some.after.now) = sym c.in-Some.ensures in
    next_shorter c.loop-next.rest.now c.in-Some.next.now c.in-Some.after.now cut

pub loop-next-preserved : goal.loop-next-preserved
loop-next-preserved c =
    let cut : line_cut c.loop-next.rest.now ≡ Some (c.in-Some.next.now, c.in-Some.after.now) = sym c.in-Some.ensures in
    any_behind c.loop-next.rest.now c.in-Some.next.now c.in-Some.after.now cut c.args.line.now _ c.loop-next.invariant
    (sym c.same_subject.ensures ∙ c.if-same_subject.false)

pub returns : goal.returns
returns c = any_none c.loop-next.rest.now (sym c.in_default.ensures) c.args.line.now _ c.loop-next.invariant
