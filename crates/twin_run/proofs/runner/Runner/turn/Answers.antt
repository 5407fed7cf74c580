use Rattle.twin_run.proofs.Common.{true, refl, subst, is_due, call_under_way, own_placement, IsAt}
use Rattle.twin_run.proofs.{RunnerLaws.gate_there, TurnLaws.quiet_at, TurnLaws.quiet_none, TurnLaws.turn_is}
use Rattle.twin_run.proofs.runner.Runner.turn.Goals as goal

pub returns-then-self-clause-host : goal.returns-then-self-clause-host
returns-then-self-clause-host g c = λ world r none notes script at.
    let w = g.row.W in
    let gate = gate_there w world c.args.self.now r at c.if-self.true in
    quiet_at w world c.leave_function.new.self _ 0
    (subst (IsAt w world c.leave_function.new.self)
    (turn_is w world (own_placement w world) r true (call_under_way r.hosts) (is_due world.script r.script) gate refl refl)
    (c.leave_function.ensures.at world r notes gate at))

pub returns-then-self-clause-quiet : goal.returns-then-self-clause-quiet
returns-then-self-clause-quiet g c = quiet_none c.args.script.now (record c.leave_function.new.self { quiet = 0 }) refl

pub returns-then-free-gt0-clause-machine : goal.returns-then-free-gt0-clause-machine
returns-then-free-gt0-clause-machine g c =
    let some = c.if-free-gt0.true in
    record {
      some = some;
      inside = c.free-free.ensures.inside some;
      free = c.free-free.ensures.free c.args.script.now some c.requires.quiet;
      same = λ i. c.args.self.now;
    }
