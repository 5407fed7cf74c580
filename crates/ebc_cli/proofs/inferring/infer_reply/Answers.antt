use Rattle.ebc_cli.proofs.inferring.infer_reply.Goals as goal

pub returns-clause-tells : goal.returns-clause-tells
returns-clause-tells c = record {
  answer = c.in_ok-answer.answer;
  inferred = c.in_ok-answer.ensures.inferred;
  told = c.in_ok-inferred_reply.ensures;
}
