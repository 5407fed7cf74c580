use Rattle.note_completion.proofs.CauseLaws.{caused_points}
use Rattle.note_completion.proofs.task.Task.points_in.Goals as goal

pub returns : goal.returns
returns c =
    record { cause = caused_points c.args.self c.args.draft.now c.found_points.result c.requires.drafted c.found_points.ensures.cause }
