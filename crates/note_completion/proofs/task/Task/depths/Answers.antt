use Rattle.note_completion.proofs.CauseLaws.{caused_depths}
use Rattle.note_completion.proofs.task.Task.depths.Goals as goal

pub returns : goal.returns
returns c =
    record {
      cause = caused_depths c.args.self c.in_ok-draft.draft c.depths_of.result c.in_ok-draft.ensures.drafted c.depths_of.ensures.cause;
    }
