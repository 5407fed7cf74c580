use Rattle.twin_run.proofs.Common.{◌≡◌, refl, subst, asking_at, Placement}
use Rattle.native_host.specs.Bound.{bound_step}
use Rattle.twin_run.proofs.BoundLaws.{bytes_there, made_there, ranges_there, slots_at, slots_there}
use Rattle.twin_run.proofs.RunnerLaws.{is_placed}
use Rattle.twin_run.proofs.runner.Runner.bound_call.Goals as goal

pub returns-clause-step : goal.returns-clause-step
returns-clause-step g c = λ world r notes at.
    let w = g.row.W in
    let x = c.args.self.now in
    let a = c.args.asked.now in
    subst (λ (P : Placement). c.bound_call.result ≡ bound_step a.place (asking_at w world P r a.place a.target))
    (is_placed w world x.host at.serving at.size)
    (c.bound_call.ensures.step world r notes (slots_there w world x r _ at refl) (ranges_there w world x r at) (bytes_there w world x r
    at) (made_there w world x r at))

pub returns-clause-called : goal.returns-clause-called
returns-clause-called g c = λ world r notes at.
    let w = g.row.W in
    let x = c.args.self.now in
    c.bound_call.ensures.called world r notes (slots_there w world x r _ at refl) (ranges_there w world x r at) (bytes_there w world x r
    at) (made_there w world x r at)

pub returns-clause-slots : goal.returns-clause-slots
returns-clause-slots g c = λ world r notes at.
    let w = g.row.W in
    let x = c.args.self.now in
    c.bound_call.ensures.slots world r notes (slots_there w world x r _ at refl) (ranges_there w world x r at) (bytes_there w world x r
    at)

pub returns-clause-at : goal.returns-clause-at
returns-clause-at g c = λ world r at.
    slots_at g.row.W world c.args.self.now r c.args.asked.now c.bound_call.new.frames c.requires.asked c.bound_call.ensures.hosts at
