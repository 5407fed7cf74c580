use Rattle.explain_answers.proofs.runs.of_pair.Goals as goal

pub of_drivers-requires-clause-a : goal.of_drivers-requires-clause-a
of_drivers-requires-clause-a c = c.in-Some.ensures

pub of_drivers-requires-clause-b : goal.of_drivers-requires-clause-b
of_drivers-requires-clause-b c = c.in-Some-driver_of.ensures
