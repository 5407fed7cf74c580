use Rattle.twin_run.proofs.Common.{vec_capacity, ◌∙◌, ◌≤◌, ap, arith, subst, sym, Script, IsFree, IsQuiet}
use Rattle.twin_run.proofs.SteppingOn.{free_fewer, goes_one, machines_at, one_on, went_on_for}
use Rattle.twin_run.proofs.{TurnLaws.is_ready, runner.Runner.go_on.Goals.then-free-most, runner.Runner.go_on.Goals.else-free-most}
use Rattle.twin_run.proofs.runner.Runner.go_on.Goals as goal

pub turn-requires : goal.turn-requires
turn-requires g c =
    let runs = c.requires.runs in (
      omega arith,
      (
        c.requires.width,
        (
          is_ready g.row.W c.args.notes.now c.args.script.now c.args.self.now runs c.requires.running,
          subst (λ (s : Script). IsQuiet s c.args.self.now) runs.its_script runs.is.quiet,
        ),
      ),
    )

pub returns-in-None-clause-steps : goal.returns-in-None-clause-steps
returns-in-None-clause-steps g c = λ world r notes script is.
    let w = g.row.W in
    let on = sym is.at.ending ∙ c.requires.running in
    went_on_for w world c.args.self.now c.turn.new.self 1 r is
    (one_on w world c.turn.new.self r on (c.turn.ensures.host world r c.in-None.is notes script is.at)) (goes_one w world r on)
    (subst (λ (s : Script). IsQuiet s c.turn.new.self) (sym script) c.turn.ensures.quiet) c.turn.ensures.capacity

pub returns-in-None-clause-goes_on : goal.returns-in-None-clause-goes_on
returns-in-None-clause-goes_on g c = λ world r notes script is. goes_one g.row.W world r (sym is.at.ending ∙ c.requires.running)

pub returns-after-free-most-clause-goes_on : goal.returns-after-free-most-clause-goes_on
returns-after-free-most-clause-goes_on g c = λ world r notes script is.
    let w = g.row.W in
    let y = c.turn.new.self in
    let its = c.in-Some.ensures.machine in
    let fewer : c.if-free-most.instructions ≤ c.in-Some.free =
    elim c.if-free-most.branch as (λ _. c.if-free-most.instructions ≤ c.in-Some.free) [
      | then-free-most v ↦ let same = v.instructions-is in omega (arith, same)
      | else-free-most v ↦ let same = v.instructions-is in let more = v.if-free-most.false in omega (arith, same, more)
    ] in
    c.instructions.ensures.done.goes_on world r notes
    (subst (λ (s : Script). IsFree s y c.if-free-most.instructions) (sym script)
    (free_fewer c.args.script.now y c.in-Some.free c.if-free-most.instructions its.free fewer))
    (sym is.at.ending ∙ c.requires.running) (machines_at w world c.args.script.now c.args.self.now y c.in-Some.free r its is.at)

pub returns-after-free-most-clause-steps : goal.returns-after-free-most-clause-steps
returns-after-free-most-clause-steps g c = λ world r notes script is.
    let w = g.row.W in
    let y = c.turn.new.self in
    let z = c.instructions.new.self in
    let its = c.in-Some.ensures.machine in
    let fewer : c.if-free-most.instructions ≤ c.in-Some.free =
    elim c.if-free-most.branch as (λ _. c.if-free-most.instructions ≤ c.in-Some.free) [
      | then-free-most v ↦ let same = v.instructions-is in omega (arith, same)
      | else-free-most v ↦ let same = v.instructions-is in let more = v.if-free-most.false in omega (arith, same, more)
    ] in
    let at = c.instructions.ensures.done.at world r notes
    (subst (λ (s : Script). IsFree s y c.if-free-most.instructions) (sym script)
    (free_fewer c.args.script.now y c.in-Some.free c.if-free-most.instructions its.free fewer))
    (sym is.at.ending ∙ c.requires.running) (machines_at w world c.args.script.now c.args.self.now y c.in-Some.free r its is.at) in
    let trace = ap (λ t. vec_capacity t) c.instructions.ensures.done.trace in
    let capacity = c.turn.ensures.capacity in
    went_on_for w world c.args.self.now z c.instructions.result r is at (returns-after-free-most-clause-goes_on g c world r notes script is)
    (c.instructions.ensures.done.quiet world.script (subst (λ (s : Script). IsQuiet s y) (sym script) c.turn.ensures.quiet))
    (omega (arith, trace, capacity))
