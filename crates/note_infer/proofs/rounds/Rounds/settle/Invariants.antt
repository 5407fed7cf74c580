use Rattle.note_infer.proofs.Common.{leaders_rank, IsComing, state_at}
use Rattle.note_infer.proofs.Turning.{IsTurn}
use Rattle.note_infer.proofs.rounds.Rounds.settle.Given as goal

abbrev pub invariant-loop-end : goal.invariant-loop-end
invariant-loop-end l =
    record {
      coming : IsComing l.self.leaders.now l.coming;
      turn : IsTurn l.self.image.now l.self.notes.now l.self.leaders.now l.starts.items l.coming.before.items l.coming.states.items;
    }

abbrev pub decreases-loop-end : goal.decreases-loop-end
decreases-loop-end l = leaders_rank (state_at l.self.leaders.now l.coming.before.items) l.self.leaders.now
