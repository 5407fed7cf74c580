use Rattle.std.proofs.Common.{ap, sym, ◌∙◌, ◌++◌, append_assoc}
use Rattle.std.proofs.lemmas.Result.{IfOk-weaker}
use Rattle.asm_text.specs.Splits.{lines_of}
use Rattle.side_by_side.specs.SideBySide.{only32}
use Rattle.side_by_side.proofs.BesideLaws.{line_alone, line_found}
use Rattle.side_by_side.proofs.beside.append_line.Goals as goal

pub returns-then-has_subject : goal.returns-then-has_subject
returns-then-has_subject c =
    IfOk-weaker c.append_until.result _ _ (λ left put rest. put rest ∙ ap (λ t. c.args.out.now.items ++ t)
    (line_found c.args.line.now rest (lines_of c.args.text.now) (sym c.if-has_subject.true ∙ c.has_subject.ensures))) c.append_until.ensures

pub returns : goal.returns
returns c = λ rest.
    ap (λ t. t ++ rest (lines_of c.args.text.now)) c.in_ok-append_marked.ensures
    ∙ (append_assoc c.args.out.now.items (only32 c.args.line.now) (rest (lines_of c.args.text.now))
    ∙ ap (λ t. c.args.out.now.items ++ t)
    (line_alone c.args.line.now rest (lines_of c.args.text.now) (sym c.if-has_subject.false ∙ c.has_subject.ensures)))
