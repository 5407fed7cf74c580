use Rattle.pair_host.proofs.Common.{◌∙◌, ap, arith, refl, subst, sym, asking_at, Placement, own_placement, bound_call_of, own, pair_world}
use Rattle.pair_host.proofs.Common.{stage_of}
use Rattle.native_host.specs.Hosts.{HasStack}
use Rattle.native_host.proofs.AcceptLaws.{stack-there}
use Rattle.twin_run.proofs.{BoundLaws.frames_some, RunnerLaws.is_placed}
use Rattle.pair_host.proofs.Calls.{a_on, caller_bound, caller_calls, caller_goes, can_be_called}
use Rattle.pair_host.proofs.pair_runner.PairRunner.caller_step.Goals as goal

pub call_step-requires : goal.call_step-requires
call_step-requires g c =
    let w = g.row.W in
    let x = c.args.self.now in
    let a = c.args.a.now in
    let b = c.args.b.now in
    let world = pair_world a b c.args.binds.now in
    let p = c.requires.runs.state in
    let is = c.requires.runs.is in
    let at = is.a.at in
    let goes = a_on w world x p is (sym is.stage ∙ ap stage_of c.requires.stage) (sym is.ending ∙ c.requires.on) in
    let paired = c.requires.paired in
    let stack = subst (λ (P : Placement). HasStack w a.notes.now P x.a.mem) (sym (is_placed w world.a x.a.host at.serving at.size))
    (stack-there w world.a (own_placement w world.a) x.a.host.entries x.a.mem at.memory) in
    let called = can_be_called a.notes.now b.notes.now c.args.binds.now c.in-Some.asked.place (bound_call_of c.in-Some-bound_at.call)
    paired.caller.notes paired.agree (sym c.in-Some-bound_at.ensures.bound) in (
      omega arith,
      (
        c.requires.width,
        (
          paired.caller.notes,
          (
            paired.provider.notes,
            (
              at.serving.host.notes,
              (
                stack,
                (
                  frames_some w world.a x.a (own x.a p.a) is.a goes,
                  (
                    c.in-Some.ensures.asked,
                    (called, c.requires.room),
                  ),
                ),
              ),
            ),
          ),
        ),
      ),
    )

pub returns-in-None-clause-step : goal.returns-in-None-clause-step
returns-in-None-clause-step g c = λ p is.
    let w = g.row.W in
    let x = c.args.self.now in
    let world = pair_world c.args.a.now c.args.b.now c.args.binds.now in
    let stage = sym is.stage ∙ ap stage_of c.requires.stage in
    let on = sym is.ending ∙ c.requires.on in
    caller_goes w world x _ p (c.in-None.ensures.none world.a (own x.a p.a) is.a (a_on w world x p is stage on))
    (c.step_a.ensures.step world p refl stage on is)

pub returns-in-None-bound_at-clause-step : goal.returns-in-None-bound_at-clause-step
returns-in-None-bound_at-clause-step g c = λ p is.
    let w = g.row.W in
    let x = c.args.self.now in
    let world = pair_world c.args.a.now c.args.b.now c.args.binds.now in
    let stage = sym is.stage ∙ ap stage_of c.requires.stage in
    let on = sym is.ending ∙ c.requires.on in
    let asked = c.in-Some.asked in
    let seen = c.in-Some.ensures.seen world.a (own x.a p.a) is.a (a_on w world x p is stage on) in
    caller_calls w world x _ p asked.place (asking_at w world.a (own_placement w world.a) (own x.a p.a) asked.place asked.target) seen
    (sym c.in-None-bound_at.ensures.bound) (c.step_a-in-None-bound_at.ensures.step world p refl stage on is)

pub returns-in-Some-bound_at-clause-step : goal.returns-in-Some-bound_at-clause-step
returns-in-Some-bound_at-clause-step g c = λ p is.
    let w = g.row.W in
    let x = c.args.self.now in
    let world = pair_world c.args.a.now c.args.b.now c.args.binds.now in
    let stage = sym is.stage ∙ ap stage_of c.requires.stage in
    let on = sym is.ending ∙ c.requires.on in
    let asked = c.in-Some.asked in
    let seen = c.in-Some.ensures.seen world.a (own x.a p.a) is.a (a_on w world x p is stage on) in
    caller_bound w world x _ p asked.place asked.target (bound_call_of c.in-Some-bound_at.call) seen
    (sym c.in-Some-bound_at.ensures.bound) (c.call_step.ensures.step world p refl refl stage on is)
