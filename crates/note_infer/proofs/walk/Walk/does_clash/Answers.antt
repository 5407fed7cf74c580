use Rattle.note_infer.proofs.Common.{ℕ, List, subst, Takes, given, state_at}
use Rattle.note_infer.specs.Turns.{after_turn}
use Rattle.note_infer.proofs.walk.Walk.does_clash.Goals as goal

pub returns-in-Ok-clause-taken : goal.returns-in-Ok-clause-taken
returns-in-Ok-clause-taken c =
    let leaders : List ℕ = c.args.self.now.leaders.now in (
      state_at leaders c.take_turn.new.coming.states.items,
      subst (λ s. Takes leaders c.args.self.now.f.now (λ (l : ℕ). given l c.args.next (after_turn s c.args.turn))
          (state_at leaders c.args.coming.now.states.items) (state_at leaders c.take_turn.new.coming.states.items))
          c.copy-after.ensures c.in-Ok.ensures.taken,
    )
