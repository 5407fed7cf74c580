use Rattle.std.proofs.Common.{◌≡◌, None, rules, sym, ◌∙◌}
use Rattle.note_texts.proofs.Digits.{digit_more, digit_bad, digits_done}
use Rattle.note_texts.proofs.number.digits.Goals as goal

pub returns-in_err-number : goal.returns-in_err-number
returns-in_err-number c =
    let none : c.from_residual.result ≡ None = search rules in
    none ∙ digit_bad c.loop-byte.number c.loop-byte.byte-index c.args.text.now 0 _ c.loop-byte-test.true
    (sym c.in_err-number.ensures) c.loop-byte.invariant

pub loop-byte-preserved : goal.loop-byte-preserved
loop-byte-preserved c = digit_more c.loop-byte.number c.loop-byte.byte-index c.args.text.now 0 c.in_ok-number.number _ c.loop-byte-test.true
    (sym c.in_ok-number.ensures) c.loop-byte.invariant

pub returns : goal.returns
returns c = digits_done c.loop-byte.number c.loop-byte.byte-index c.args.text.now _ c.loop-byte-test.false c.loop-byte.invariant
