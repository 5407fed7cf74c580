use Rattle.note_infer.proofs.Answering.{stuck_answer}
use Rattle.note_infer.proofs.finder.find_points.Goals as goal

pub returns-in-Err-Stuck : goal.returns-in-Err-Stuck
returns-in-Err-Stuck c =
    rw (c.state.ensures, c.in-Err-Stuck.stop-is)
    (stuck_answer c.args.image.now c.args.notes.now c.args.leaders.now c.in-Err-Stuck.field-0 c.in-Err-Stuck.stop c.in-Err-Stuck.field-0-is
    c.in-Err-Stuck.ensures.stuck)
