use Rattle.std.proofs.Common.{◌≡◌, Some, sym}
use Rattle.asm_text.specs.Splits.{line_cut, lines_of}
use Rattle.ebc_asm.proofs.SourceLaws.{labels_all, labels_more, next_shorter}
use Rattle.ebc_asm.proofs.source.labels_in.Goals as goal

pub loop-text-smaller : goal.loop-text-smaller
loop-text-smaller c =
    let cut : line_cut c.loop-text.rest.now ≡ Some (c.in-Some.text.now, c.in-Some.more.now) = cc c.in-Some.ensures in
    next_shorter c.loop-text.rest.now c.in-Some.text.now c.in-Some.more.now cut

pub loop-text-preserved : goal.loop-text-preserved
loop-text-preserved c =
    let cut : line_cut c.loop-text.rest.now ≡ Some (c.in-Some.text.now, c.in-Some.more.now) = cc c.in-Some.ensures in
    labels_more c.loop-text.labels c.add_label.new.labels c.loop-text.rest.now c.in-Some.text.now c.in-Some.more.now
    (lines_of c.args.source.now) cut c.in_ok-add_label.ensures c.loop-text.invariant

pub returns : goal.returns
returns c = labels_all c.loop-text.labels c.loop-text.rest.now (lines_of c.args.source.now) (sym c.in_default.ensures) c.loop-text.invariant
