use Rattle.std.proofs.lemmas.Result.{err_from_is_err_and}
use Rattle.asm_text.specs.Texts.{seen_line}
use Rattle.ebc_asm.proofs.TakeLaws.{text_refused, text_taken}
use Rattle.ebc_asm.proofs.assembler.Assembler.take_text.Goals as goal

pub returns-in_err-line-clause-takes : goal.returns-in_err-line-clause-takes
returns-in_err-line-clause-takes c = λ texts known before holds.
    let p = err_from_is_err_and c.from_residual.result c.from_residual.ensures.1 in
    rw (p.1, p.2) (text_refused texts before c.args.text.now c.in_err-line.field-0.0 c.in_err-line.ensures.same)

pub returns-clause-takes : goal.returns-clause-takes
returns-clause-takes c = λ texts known before holds.
    text_taken c.take.result texts before (seen_line c.in_ok-line.line) c.args.text.now c.take.new.self c.in_ok-line.ensures.same
    (c.take.ensures.takes texts known before holds)
