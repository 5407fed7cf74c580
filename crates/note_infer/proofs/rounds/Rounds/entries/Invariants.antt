use Rattle.note_infer.proofs.Common.{◌≡◌, IsComing, state_at, Entered}
use Rattle.note_infer.proofs.rounds.Rounds.entries.Given as goal

abbrev pub invariant-loop-func : goal.invariant-loop-func
invariant-loop-func l =
    record {
      coming : IsComing l.self.leaders.now l.coming;
      before : l.coming.before.items ≡ l.fn.coming.before.items;
      entered : Entered l.self.notes.now l.self.leaders.now (state_at l.self.leaders.now l.coming.states.items) l.starts.items l.func;
    }
