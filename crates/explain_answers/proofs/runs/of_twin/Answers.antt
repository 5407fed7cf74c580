use Rattle.explain_answers.proofs.runs.of_twin.Goals as goal

pub of_both_widths-requires : goal.of_both_widths-requires
of_both_widths-requires c = c.in-Some.ensures
