use Rattle.plain_check.proofs.Common.{refl, sym, ◌∙◌, arith, length-drop, drop-drop, marked}
use Rattle.plain_check.proofs.Places.{judged-read, judged-none}
use Rattle.plain_check.proofs.plain.rule_at.Goals as goal

pub returns-in_default-clause-judged : goal.returns-in_default-clause-judged
returns-in_default-clause-judged c =
    judged-none (marked c.args.marks.now) _ c.args.at _ c.in_default.field-0 (omega (arith, length-drop c.args.at c.args.code.now))
    (sym c.decode.ensures.reading ∙ c.in_default.is)

pub returns-in-None-clause-judged : goal.returns-in-None-clause-judged
returns-in-None-clause-judged c =
    judged-read (marked c.args.marks.now) _ c.args.at _ c.in-Ok.insn c.in-Ok.len (sym c.decode.ensures.reading ∙ c.in-Ok.is)
    ∙ rw (← c.instruction_rule.ensures, c.in-None.is, drop-drop c.in-Ok.len c.args.at c.args.code.now) refl

pub returns-in-Some-clause-judged : goal.returns-in-Some-clause-judged
returns-in-Some-clause-judged c =
    judged-read (marked c.args.marks.now) _ c.args.at _ c.in-Ok.insn c.in-Ok.len (sym c.decode.ensures.reading ∙ c.in-Ok.is)
    ∙ rw (← c.instruction_rule.ensures, c.in-Some.is) refl
