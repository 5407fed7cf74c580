use Rattle.pair_host.proofs.Common.{◌≢◌, ◌≡◌, ◌⊎◌, ℕ, Bool, false, if◌then◌else◌, Option, Some, None, sym, ap, ◌∙◌, subst, refl, inl, inr}
use Rattle.pair_host.proofs.Common.{arith, length, false≢true, Running, PairsDifferAt, ArePairsInStep, own_pair_run, images_for, pair_world}
use Rattle.pair_host.proofs.pairs.step_together.Goals.{then-loop-same-test+then-taken-limit+else-goes_on}
use Rattle.pair_host.proofs.PairOnItsWay.{goes-on_in_step, parts, starts-in_step}
use Rattle.pair_host.proofs.pairs.step_together.Goals.{then-loop-same-test+else-taken-limit, else-loop-same-test}
use Rattle.pair_host.proofs.pairs.step_together.Goals as goal

pub loop-same-init : goal.loop-same-init
loop-same-init c =
    let images = images_for c.args.a.now c.args.b.now in
    let world = pair_world c.args.a.now c.args.b.now c.args.binds.now in
    let at4 = c.requires.at4.there in
    let at8 = c.requires.at8.there in
    starts-in_step images world c.args.limit c.args.at4.now c.args.at8.now c.same_but_first-same.result at4 at8
    (omega (arith, c.requires.at4.room)) (omega (arith, c.requires.at8.room)) (c.same_but_first-same.ensures world _ _ at4 at8)

pub loop-same-preserved : goal.loop-same-preserved
loop-same-preserved c =
    let images = images_for c.args.a.now c.args.b.now in
    let world = pair_world c.args.a.now c.args.b.now c.args.binds.now in
    let are = c.loop-same.invariant in
    let in_step = ArePairsInStep images world c.args.limit c.loop-same.taken c.loop-same.at4 c.loop-same.at8 in
    let were = subst in_step c.loop-same-test.true are in
    goes-on_in_step images world c.args.limit c.loop-same.taken c.len-told.result c.loop-same.at4 c.step.new.self c.loop-same.at8
    c.step-in-loop-same.new.self c.same_but_first-same-in-loop-same.result were c.if-taken-limit.true
    ((c.goes_on.ensures world _ are.at4.there).0 c.if-goes_on.true)
    ((c.len-told.ensures ∙ c.trace.result.now.ok.0) ∙ ap length (c.trace.ensures world _ are.at4.there)) c.step.ensures.step
    c.step.ensures.room c.step-in-loop-same.ensures.step c.step-in-loop-same.ensures.room
    (c.same_but_first-same-in-loop-same.ensures world)

pub returns-then-same-clause-differ : goal.returns-then-same-clause-differ
returns-then-same-clause-differ c =
    let images = images_for c.args.a.now c.args.b.now in
    let world = pair_world c.args.a.now c.args.b.now c.args.binds.now in
    let are = c.loop-same.invariant in
    let over : (c.loop-same.same ≡ false) ⊎ (((own_pair_run 4 images world c.loop-same.taken).ending ≢ Running)
    ⊎ (c.loop-same.taken ≡ c.args.limit)) =
    elim c.loop-same-test.branch as (λ _. (c.loop-same.same ≡ false) ⊎ (((own_pair_run 4 images world c.loop-same.taken).ending ≢ Running)
    ⊎ (c.loop-same.taken ≡ c.args.limit))) [
      | then-loop-same-test+then-taken-limit+else-goes_on w ↦
          inr (inl (λ e. false≢true (sym w.if-goes_on.false ∙ (w.goes_on.ensures world _ are.at4.there).1 e)))
      | then-loop-same-test+else-taken-limit w ↦ inr (inr (omega (arith, w.if-taken-limit.false, are.at4.most)))
      | else-loop-same-test w ↦ inl w.loop-same-test.false
    ] in
    let answer : Bool → Option ℕ = λ b. if b then None else Some c.loop-same.taken in
    subst (PairsDifferAt images world c.args.limit) (ap answer c.if-same.true)
    (parts images world c.args.limit c.loop-same.taken c.loop-same.at4 c.loop-same.at8 c.loop-same.same are over)

pub returns-else-same-clause-differ : goal.returns-else-same-clause-differ
returns-else-same-clause-differ c =
    let images = images_for c.args.a.now c.args.b.now in
    let world = pair_world c.args.a.now c.args.b.now c.args.binds.now in
    let in_step = ArePairsInStep images world c.args.limit c.loop-same.taken c.loop-same.at4 c.loop-same.at8 in
    parts images world c.args.limit c.loop-same.taken c.loop-same.at4 c.loop-same.at8 false
    (subst in_step c.if-same.false c.loop-same.invariant) (inl refl)
