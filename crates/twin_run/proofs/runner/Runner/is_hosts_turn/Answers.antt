use Rattle.twin_run.proofs.Common.{false, refl, is_due, NoCall, under-way}
use Rattle.twin_run.proofs.{RunnerLaws.away_there, TurnLaws.due_there, TurnLaws.none_when, TurnLaws.other_call, WatchingLaws.turn_of}
use Rattle.twin_run.proofs.runner.Runner.is_hosts_turn.Goals as goal

pub returns-then-is_called : goal.returns-then-is_called
returns-then-is_called g c = λ world r script is.
    let w = g.row.W in
    let x = c.args.self.now in
    turn_of world r false _ (is_due world.script r.script) (away_there w world x r is.at c.if-self.false)
    (other_call w world x r _ is.at (none_when x.asked c.in_default.not-Some) (under-way x.frames c.if-is_called.ensures.called)) refl

pub returns : goal.returns
returns g c = λ world r script is.
    let w = g.row.W in
    let x = c.args.self.now in
    turn_of world r false NoCall c.due.result (away_there w world x r is.at c.if-self.false)
    (other_call w world x r NoCall is.at (none_when x.asked c.in_default.not-Some) c.if-is_called.ensures.none)
    (due_there w world x r c.args.script.now c.due.result is.at script c.due.ensures)
