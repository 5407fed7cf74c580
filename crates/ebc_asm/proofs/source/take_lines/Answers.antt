use Rattle.std.proofs.Common.{◌≡◌, ◌<◌, Some, length, sym, arith}
use Rattle.asm_text.specs.Splits.{line_cut, lines_of}
use Rattle.ebc_asm.proofs.SourceLaws.{all_held, next_shorter, one_more, refused}
use Rattle.ebc_asm.proofs.source.take_lines.Goals as goal

pub returns-in-Err : goal.returns-in-Err
returns-in-Err c =
    let cut : line_cut c.loop-text.rest.now ≡ Some (c.in-Some.text.now, c.in-Some.more.now) = cc c.in-Some.ensures in
    let h = c.loop-text.invariant.lines in
    rw c.at.ensures
    (refused (lines_of c.args.source.now) c.loop-text.rest.now c.in-Some.text.now c.in-Some.more.now c.loop-text.number
    c.loop-text.assembler c.take_text.new.self c.in-Err.end h cut
    (c.in-Err.ensures.takes (lines_of c.args.source.now) c.requires h.before h.holds))

pub loop-text-smaller : goal.loop-text-smaller
loop-text-smaller c =
    let cut : line_cut c.loop-text.rest.now ≡ Some (c.in-Some.text.now, c.in-Some.more.now) = cc c.in-Some.ensures in
    next_shorter c.loop-text.rest.now c.in-Some.text.now c.in-Some.more.now cut

pub loop-text-preserved : goal.loop-text-preserved
loop-text-preserved c =
    let cut : line_cut c.loop-text.rest.now ≡ Some (c.in-Some.text.now, c.in-Some.more.now) = cc c.in-Some.ensures in
    let h = c.loop-text.invariant.lines in
    let less : length c.in-Some.more.now < length c.loop-text.rest.now =
    next_shorter c.loop-text.rest.now c.in-Some.text.now c.in-Some.more.now cut in
    record {
      fits = c.in_default-take_text.ensures.fits;
      number = omega (arith, less, c.loop-text.invariant.number);
      lines = one_more
          (lines_of c.args.source.now) c.loop-text.rest.now c.in-Some.text.now c.in-Some.more.now c.loop-text.number c.loop-text.assembler
          c.take_text.new.self h cut
          (c.in_default-take_text.ensures.takes (lines_of c.args.source.now) c.requires h.before h.holds);
    }

pub returns : goal.returns
returns c =
    let t = all_held (lines_of c.args.source.now) c.loop-text.rest.now c.loop-text.number c.loop-text.assembler
    (sym c.in_default.ensures) c.loop-text.invariant.lines in
    (t.0, (t.1.0, (t.1.1, c.loop-text.invariant.fits)))
