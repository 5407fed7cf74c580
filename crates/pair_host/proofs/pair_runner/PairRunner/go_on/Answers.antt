use Rattle.pair_host.proofs.Common.{◌∙◌, List, ap, arith, length, map, refl, subst, sym, Seen, Value, CanBeEntered, pair_world, stage_of}
use Rattle.ebc_base.proofs.Lists.{length-map}
use Rattle.pair_host.proofs.{Calls.b_rests, GoingOn.caller_inside, GoingOn.turned}
use Rattle.pair_model.specs.Pairs as pairs
use Rattle.pair_host.proofs.pair_runner.PairRunner.go_on.Goals as goal

pub reply_step-requires : goal.reply_step-requires
reply_step-requires g c =
    let is = c.requires.runs.is in
    let world = pair_world c.args.a.now c.args.b.now c.args.binds.now in (
      omega arith,
      (
        c.requires.width,
        (
          is.a.at.serving.host.notes,
          (
            caller_inside g.row.W world c.args.self.now c.requires.runs.state c.in-CallReturned.signature c.in-CallReturned.value is
                c.in-CallReturned.is c.requires.on,
            c.requires.room,
          ),
        ),
      ),
    )

pub enter_step-requires : goal.enter_step-requires
enter_step-requires g c =
    let is = c.requires.runs.is in
    let p = c.requires.runs.state in
    let world = pair_world c.args.a.now c.args.b.now c.args.binds.now in
    let stage = sym is.stage ∙ ap stage_of c.in-CallTaken.is in
    let enters = subst (CanBeEntered world.b) stage is.enters in
    let rests = b_rests g.row.W world c.args.self.now p is (ap pairs.running_side stage) (sym is.ending ∙ c.requires.on) in
    let value : Seen → Value = λ (s : Seen). s.value in
    let each = sym (length-map value c.copy-args.result)
    ∙ (ap (λ (xs : List Seen). length (map value xs)) c.copy-args.ensures ∙ enters.1) in (
      omega arith,
      (
        c.requires.width,
        (
          c.requires.paired.provider.notes,
          (
            rests.at.serving.host.notes,
            (enters.0, (each, (rests.outside, (rests.settled, c.requires.room)))),
          ),
        ),
      ),
    )

pub returns-in-ProviderRuns-clause-step : goal.returns-in-ProviderRuns-clause-step
returns-in-ProviderRuns-clause-step g c = λ p is.
    let world = pair_world c.args.a.now c.args.b.now c.args.binds.now in
    turned g.row.W world c.args.self.now _ p pairs.ProviderRuns is (ap stage_of c.in-ProviderRuns.is) c.requires.on
    (λ at on. c.provider_step.ensures.step world p refl at on is)

pub returns-in-CallerRuns-clause-step : goal.returns-in-CallerRuns-clause-step
returns-in-CallerRuns-clause-step g c = λ p is.
    let world = pair_world c.args.a.now c.args.b.now c.args.binds.now in
    turned g.row.W world c.args.self.now _ p pairs.CallerRuns is (ap stage_of c.in-CallerRuns.is) c.requires.on
    (λ at on. c.caller_step.ensures.step p is)

pub returns-in-CallTaken-clause-step : goal.returns-in-CallTaken-clause-step
returns-in-CallTaken-clause-step g c = λ p is.
    let world = pair_world c.args.a.now c.args.b.now c.args.binds.now in
    let signature = c.in-CallTaken.signature in
    let function = c.in-CallTaken.function in
    turned g.row.W world c.args.self.now _ p (pairs.CallTaken signature function (map (λ (s : Seen). s.value) c.copy-args.result)) is
    (ap stage_of c.in-CallTaken.is
    ∙ ap (λ xs. pairs.CallTaken signature function (map (λ (s : Seen). s.value) xs)) (sym c.copy-args.ensures))
    c.requires.on (λ at on. c.enter_step.ensures.step world p refl at on is)

pub returns-in-CallRuns-clause-step : goal.returns-in-CallRuns-clause-step
returns-in-CallRuns-clause-step g c = λ p is.
    let world = pair_world c.args.a.now c.args.b.now c.args.binds.now in
    turned g.row.W world c.args.self.now _ p (pairs.CallRuns c.in-CallRuns.signature) is (ap stage_of c.in-CallRuns.is) c.requires.on
    (λ at on. c.function_step.ensures.step world p refl at on is)

pub returns-in-CallReturned-clause-step : goal.returns-in-CallReturned-clause-step
returns-in-CallReturned-clause-step g c = λ p is.
    let world = pair_world c.args.a.now c.args.b.now c.args.binds.now in
    turned g.row.W world c.args.self.now _ p (pairs.CallReturned c.in-CallReturned.signature c.in-CallReturned.value) is
    (ap stage_of c.in-CallReturned.is) c.requires.on (λ at on. c.reply_step.ensures.step world p refl at on is)
