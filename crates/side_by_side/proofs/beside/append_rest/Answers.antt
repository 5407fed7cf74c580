use Rattle.std.proofs.Common.{◌≡◌, Some, sym}
use Rattle.asm_text.specs.Splits.{line_cut}
use Rattle.ebc_asm.proofs.SourceLaws.{next_shorter}
use Rattle.side_by_side.proofs.BesideLaws.{rest_behind, rest_none}
use Rattle.side_by_side.proofs.beside.append_rest.Goals as goal

pub loop-next-smaller : goal.loop-next-smaller
loop-next-smaller c =
    let cut : line_cut c.loop-next.rest.now ≡ Some (c.in-Some.next.now, c.in-Some.after.now) = sym c.in-Some.ensures in
    next_shorter c.loop-next.rest.now c.in-Some.next.now c.in-Some.after.now cut

pub loop-next-preserved : goal.loop-next-preserved
loop-next-preserved c =
    let cut : line_cut c.loop-next.rest.now ≡ Some (c.in-Some.next.now, c.in-Some.after.now) = sym c.in-Some.ensures in
    rest_behind c.loop-next.rest.now c.in-Some.next.now c.in-Some.after.now cut c.loop-next.out.items c.append_marked.new.out.items _
    c.loop-next.invariant c.in_ok-append_marked.ensures

pub returns : goal.returns
returns c = rest_none c.loop-next.rest.now (sym c.in_default.ensures) c.loop-next.out.items _ c.loop-next.invariant
