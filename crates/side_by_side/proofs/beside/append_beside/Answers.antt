use Rattle.std.proofs.Common.{◌≡◌, Some, sym}
use Rattle.std.proofs.lemmas.Result.{on_ok_weaker}
use Rattle.asm_text.specs.Splits.{line_cut}
use Rattle.ebc_asm.proofs.SourceLaws.{next_shorter}
use Rattle.side_by_side.specs.SideBySide.{side_by_side}
use Rattle.side_by_side.proofs.BesideLaws.{line_behind, line_none}
use Rattle.side_by_side.proofs.beside.append_beside.Goals as goal

pub loop-line-smaller : goal.loop-line-smaller
loop-line-smaller c =
    let cut : line_cut c.loop-line.left.now ≡ Some (c.in-Some.line.now, c.in-Some.after.now) = sym c.in-Some.ensures in
    next_shorter c.loop-line.left.now c.in-Some.line.now c.in-Some.after.now cut

pub loop-line-preserved : goal.loop-line-preserved
loop-line-preserved c =
    let cut : line_cut c.loop-line.left.now ≡ Some (c.in-Some.line.now, c.in-Some.after.now) = sym c.in-Some.ensures in
    line_behind c.loop-line.left.now c.in-Some.line.now c.in-Some.after.now cut c.loop-line.other.now c.in_ok-below.below.now
    c.loop-line.out.items c.append_line.new.out.items _ c.loop-line.invariant c.in_ok-below.ensures

pub returns : goal.returns
unfolding side_by_side
returns c =
    on_ok_weaker c.append_rest.result (line_none c.loop-line.left.now (sym c.in_default.ensures) c.loop-line.other.now
    c.loop-line.out.items c.append_rest.new.out.items _ c.loop-line.invariant) c.append_rest.ensures
