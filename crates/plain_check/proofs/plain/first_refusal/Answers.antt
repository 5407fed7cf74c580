use Rattle.plain_check.proofs.Common.{sym, ◌∙◌, arith, length, marked}
use Rattle.plain_check.proofs.Places.{judged-end}
use Rattle.plain_check.proofs.plain.first_refusal.Goals as goal

pub returns : goal.returns
returns c = sym (c.loop-at.invariant.1 ∙ judged-end (marked c.args.marks.now) (length c.args.code.now) c.loop-at.at c.args.code.now
    (omega arith))
