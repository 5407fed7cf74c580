use Rattle.note_infer.proofs.Changing.{ChangedFirst}
use Rattle.note_infer.proofs.rounds.Rounds.turn_all.Given as goal

abbrev pub invariant-loop-index : goal.invariant-loop-index
invariant-loop-index l = ChangedFirst l.self.notes.now l.self.leaders.now l.fn.coming l.coming l.starts.items l.index
