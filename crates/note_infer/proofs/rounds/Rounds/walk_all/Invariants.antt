use Rattle.note_infer.proofs.Common.{◌≡◌, IsComing, state_at}
use Rattle.note_infer.proofs.Rounding.{Walked}
use Rattle.note_infer.proofs.rounds.Rounds.walk_all.Given as goal

abbrev pub invariant-loop-start : goal.invariant-loop-start
invariant-loop-start l =
    record {
      coming : IsComing l.self.leaders.now l.coming;
      before : l.coming.before.items ≡ l.fn.coming.before.items;
      walked : Walked l.self.image.now l.self.notes.now l.self.leaders.now (state_at l.self.leaders.now l.coming.before.items)
          (state_at l.self.leaders.now l.coming.states.items) l.starts l.start-index;
    }
