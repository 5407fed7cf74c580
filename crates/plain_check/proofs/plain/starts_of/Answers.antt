use Rattle.plain_check.proofs.Common.{sym, ◌∙◌, arith}
use Rattle.plain_check.proofs.{Places.marks-more, Places.marks-end, Places.marks-stop, plain.starts_of.Goals.else-loop-at-test}
use Rattle.plain_check.proofs.plain.starts_of.Goals.{then-loop-at-test+in_default}
use Rattle.plain_check.proofs.plain.starts_of.Goals as goal

pub loop-at-preserved : goal.loop-at-preserved
loop-at-preserved c =
    marks-more c.args.code.now c.loop-at.at c.loop-at.marks.items c.in-Ok.field-0-0 c.in-Ok.len c.loop-at.invariant
    (sym c.decode.ensures.reading ∙ c.in-Ok.is)

pub returns : goal.returns
returns c = elim c.loop-at-test.branch [
  | else-loop-at-test w ↦ marks-end c.args.code.now c.loop-at.at c.loop-at.marks.items c.loop-at.invariant (omega arith)
  | then-loop-at-test+in_default w ↦ marks-stop c.args.code.now c.loop-at.at c.loop-at.marks.items w.in_default.field-0 c.loop-at.invariant
      (omega arith) (sym w.decode.ensures.reading ∙ w.in_default.is)
]
