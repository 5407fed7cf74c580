use Rattle.note_infer.proofs.Common.{ℕ, ◌≡◌, ◌-◌, ◌<◌, ◌≤◌, Contains, HasState, IsComing, state_at, Reached}
use Rattle.note_infer.proofs.walk.Walk.go.Given as goal

abbrev pub invariant-loop-next : goal.invariant-loop-next
invariant-loop-next l =
    record {
      coming : IsComing l.self.leaders.now l.coming;
      before : l.coming.before.items ≡ l.fn.coming.before.items;
      reached : Reached l.self.image.now l.self.notes.now l.self.leaders.now (state_at l.self.leaders.now l.coming.before.items)
          (state_at l.self.leaders.now l.coming.states.items) l.at;
      has : HasState l.self.image.now l.self.notes.now l.self.leaders.now (state_at l.self.leaders.now l.coming.before.items) l.self.func
          l.self.f.now l.at l.state;
      from : l.from ≤ l.at;
      alone : (p : ℕ) → l.from < p → p ≤ l.at → Contains l.self.leaders.now p → ⊥;
    }

abbrev pub decreases-loop-next : goal.decreases-loop-next
decreases-loop-next l = l.self.f.now.end - l.at
