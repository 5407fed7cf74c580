use Rattle.note_infer.proofs.Common.{List, [], refl, ℕ, State, state_at}
use Rattle.note_infer.proofs.StatesAt.{takes_none}
use Rattle.note_infer.proofs.walk.Walk.take_step.Goals as goal

pub returns-in-Ends-clause-taken : goal.returns-in-Ends-clause-taken
returns-in-Ends-clause-taken c =
    rw c.in-Ends.is
    (takes_none c.args.self.now.leaders.now c.args.self.now.f.now (λ (l : ℕ). let none : List State = [] in none)
    (state_at c.args.self.now.leaders.now c.args.coming.now.states.items) (λ l there w. refl))
