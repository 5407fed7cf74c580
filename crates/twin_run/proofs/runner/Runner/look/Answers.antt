use Rattle.twin_run.proofs.Common.{arith, false, true, refl, subst, is_due, own_placement, Asked, NoCall, under-way, IsAt}
use Rattle.twin_run.proofs.{RunnerLaws.away_there, SteppingOn.free_one, TurnLaws.asked_call, TurnLaws.due_there, TurnLaws.none_when}
use Rattle.twin_run.proofs.TurnLaws.{other_call, quiet_at, quiet_next, quiet_none, turn_is}
use Rattle.twin_run.proofs.runner.Runner.look.Goals as goal

pub returns-in-Some-clause-host : goal.returns-in-Some-clause-host
returns-in-Some-clause-host g c = λ world r none_left notes script at.
    let w = g.row.W in
    let x = c.args.self.now in
    let away = away_there w world x r at c.requires.inside in
    let a = c.in-Some.asked in
    quiet_at w world c.call.new.self _ 0
    (subst (IsAt w world c.call.new.self)
    (turn_is w world (own_placement w world) r false (Asked a.place a.target) (is_due world.script r.script) away (asked_call w world x r a
    at c.in-Some.is c.requires.ready.inside) refl)
    (c.call.ensures.at world r notes script away at))

pub returns-then-is_called-clause-host : goal.returns-then-is_called-clause-host
returns-then-is_called-clause-host g c = λ world r none_left notes script at.
    let w = g.row.W in
    let x = c.args.self.now in
    let away = away_there w world x r at c.requires.inside in
    let called = c.if-is_called.ensures.called in
    quiet_at w world c.next.new.self _ 0
    (subst (IsAt w world c.next.new.self)
    (turn_is w world (own_placement w world) r false _ (is_due world.script r.script) away (other_call w world x r _ at (none_when x.asked
    c.in_default.not-Some)
    (under-way x.frames called)) refl)
    (c.next.ensures.at world r notes script away at))

pub returns-then-due-clause-host : goal.returns-then-due-clause-host
returns-then-due-clause-host g c = λ world r none_left notes script at.
    let w = g.row.W in
    let x = c.args.self.now in
    let away = away_there w world x r at c.requires.inside in
    let none = other_call w world x r NoCall at (none_when x.asked c.in_default.not-Some) c.if-is_called.ensures.none in
    let due = due_there w world x r c.args.script.now true at script c.if-due.ensures in
    quiet_at w world c.notify.new.self _ 0
    (subst (IsAt w world c.notify.new.self)
    (turn_is w world (own_placement w world) r false NoCall true away none due)
    (c.notify.ensures.at world r notes script away none due at))

pub returns-else-due-clause-machine : goal.returns-else-due-clause-machine
returns-else-due-clause-machine g c =
    let x = c.args.self.now in
    record {
      some = omega arith;
      inside = c.requires.inside;
      free = free_one c.args.script.now x c.quiet_ahead-self.result (none_when x.asked c.in_default.not-Some) c.if-is_called.ensures.none
          c.if-due.ensures;
      same = λ i. record x { quiet = c.quiet_ahead-self.result };
    }

pub returns-in-Some-clause-quiet : goal.returns-in-Some-clause-quiet
returns-in-Some-clause-quiet g c = quiet_none c.args.script.now (record c.call.new.self { quiet = 0 }) refl

pub returns-then-is_called-clause-quiet : goal.returns-then-is_called-clause-quiet
returns-then-is_called-clause-quiet g c = quiet_none c.args.script.now (record c.next.new.self { quiet = 0 }) refl

pub returns-then-due-clause-quiet : goal.returns-then-due-clause-quiet
returns-then-due-clause-quiet g c = quiet_none c.args.script.now (record c.notify.new.self { quiet = 0 }) refl

pub returns-else-due-clause-quiet : goal.returns-else-due-clause-quiet
returns-else-due-clause-quiet g c =
    quiet_next c.args.script.now c.args.self.now c.quiet_ahead-self.result (none_when c.args.self.now.asked c.in_default.not-Some)
    c.if-is_called.ensures.none c.quiet_ahead-self.ensures
