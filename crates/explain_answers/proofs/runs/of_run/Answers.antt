use Rattle.explain_answers.proofs.runs.of_run.Goals as goal

pub of_named_width-requires : goal.of_named_width-requires
of_named_width-requires c = c.in-Some.ensures
