use Rattle.twin_run.proofs.Common.{◌∙◌, sym, signature_result}
use Rattle.twin_run.proofs.BoundLaws.{answer_ok, answered_at, made_there}
use Rattle.twin_run.proofs.runner.Runner.answer.Goals as goal

pub returns-clause-answered : goal.returns-clause-answered
returns-clause-answered g c = λ world r notes run.
    let w = g.row.W in
    let x = c.args.self.now in
    let n = c.in_ok-number.number in
    let is = sym c.in_ok-number.was ∙ c.bound_reply.ensures.answer world r notes run.at.tells.entries (made_there w world x r run.at) in
    answered_at w world x r c.bound_reply.new.frames n (signature_result c.args.notes.now c.args.signature) c.args.value.now run
    (answer_ok _ _ n is).1 c.in_ok-number.ensures.hosts
