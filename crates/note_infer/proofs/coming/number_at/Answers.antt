use Rattle.note_infer.proofs.Searching.{climb_of, not_there}
use Rattle.note_infer.proofs.coming.number_at.Goals as goal

pub returns-in-Err-clause-none : goal.returns-in-Err-clause-none
returns-in-Err-clause-none c =
    not_there c.args.leaders.now c.args.place c.in-Err.field-0 c.in-Err.ensures.position (climb_of c.args.leaders.now c.requires)
