use Rattle.note_infer.specs.Coming.{state_at}
use Rattle.note_infer.specs.Turns.{fallen}
use Rattle.note_infer.proofs.StatesAt.{takes_fall_apart}
use Rattle.note_infer.proofs.walk.Walk.take_fall.Goals as goal

pub returns-clause-taken : goal.returns-clause-taken
returns-clause-taken c =
    takes_fall_apart c.args.self.now.leaders.now c.args.self.now.f.now c.args.next (fallen c.args.state.now c.args.fall)
    (state_at c.args.self.now.leaders.now c.args.coming.now.states.items)
    (λ l. let yes = c.is_leader.ensures.1 l in let no = c.if-is_leader.false in cc)
