use Rattle.twin_run.proofs.Common.{◌≢◌, ◌≡◌, ◌⊎◌, ℕ, Bool, false, if◌then◌else◌, Option, Some, None, refl, sym, ap, ◌∙◌, subst, inl, inr}
use Rattle.twin_run.proofs.Common.{arith, false≢true, Running, Image, world_of, World, DifferAt, AreInStep, own_run}
use Rattle.twin_run.proofs.two_runs.twin.Goals.{then-loop-same-test+then-taken-steps+else-goes_on, then-loop-same-test+else-taken-steps}
use Rattle.twin_run.proofs.{OnItsWay.goes-on_in_step, OnItsWay.parts, OnItsWay.starts-in_step, OnItsWay.told, Runs.typed_never_differ}
use Rattle.twin_run.proofs.two_runs.twin.Goals.{else-loop-same-test, then-same, else-same}
use Rattle.twin_run.proofs.two_runs.twin.Goals as goal

pub loop-same-init : goal.loop-same-init
loop-same-init c =
    let world : World = world_of c.args.image.now c.args.notes.now c.args.script.now in
    let at4 = c.in_ok-at4.ensures.start in
    let at8 = c.in_ok-at8.ensures.start in
    starts-in_step c.args.image.now world c.args.steps c.in_ok-at4.at4 c.in_ok-at8.at8 c.same_but_first-same.result at4 at8
    c.in_ok-at4.ensures.taken c.in_ok-at8.ensures.taken (c.same_but_first-same.ensures world _ _ at4 at8)

pub steps-requires-clause-running4 : goal.steps-requires-clause-running4
steps-requires-clause-running4 c =
    let world : World = world_of c.args.image.now c.args.notes.now c.args.script.now in
    let there = c.loop-same.invariant.at4.there in
    there.at.ending ∙ (c.goes_on.ensures world _ there).0 c.if-goes_on.true

pub steps-requires-clause-running8 : goal.steps-requires-clause-running8
steps-requires-clause-running8 c =
    let world : World = world_of c.args.image.now c.args.notes.now c.args.script.now in
    let are = c.loop-same.invariant in
    are.at8.there.at.ending ∙ (sym (are.now.0 c.loop-same-test.true).ending ∙ (c.goes_on.ensures world _ are.at4.there).0 c.if-goes_on.true)

pub loop-same-preserved : goal.loop-same-preserved
loop-same-preserved c =
    let image : Image = c.args.image.now in
    let world : World = world_of c.args.image.now c.args.notes.now c.args.script.now in
    let are = c.loop-same.invariant in
    let were = subst (AreInStep image world c.args.steps c.loop-same.taken c.loop-same.at4 c.loop-same.at8) c.loop-same-test.true are in
    goes-on_in_step image world c.args.steps c.loop-same.taken c.steps.result c.len-told.result c.loop-same.at4 c.steps.new.at4
    c.loop-same.at8 c.steps.new.at8 c.same_but_first-same-in-loop-same.result were c.steps.ensures.most c.if-taken-steps.true
    (omega arith)
    (told image world c.args.steps c.loop-same.taken c.loop-same.at4 c.len-told.result c.trace.result.now.items are.at4
    (c.len-told.ensures ∙ c.trace.result.now.ok.0)
    (c.trace.ensures world))
    c.steps.ensures.steps4 c.steps.ensures.steps8 (λ r s is4 is8 alike. c.steps.ensures.same world r s refl refl is4 is8 alike)
    (c.same_but_first-same-in-loop-same.ensures world)

pub returns-clause-differ : goal.returns-clause-differ
returns-clause-differ c =
    let image : Image = c.args.image.now in
    let world : World = world_of c.args.image.now c.args.notes.now c.args.script.now in
    let are = c.loop-same.invariant in
    let over : (c.loop-same.same ≡ false) ⊎ (((own_run 4 image world c.loop-same.taken).ending ≢ Running)
    ⊎ (c.loop-same.taken ≡ c.args.steps)) =
    elim c.loop-same-test.branch as (λ _. (c.loop-same.same ≡ false) ⊎ (((own_run 4 image world c.loop-same.taken).ending ≢ Running)
    ⊎ (c.loop-same.taken ≡ c.args.steps))) [
      | then-loop-same-test+then-taken-steps+else-goes_on w ↦
          inr (inl (λ e. false≢true (sym w.if-goes_on.false ∙ (w.goes_on.ensures world _ are.at4.there).1 e)))
      | then-loop-same-test+else-taken-steps w ↦ inr (inr (omega (arith, w.if-taken-steps.false, are.at4.most)))
      | else-loop-same-test w ↦ inl w.loop-same-test.false
    ] in
    let where_they_part = parts image world c.args.steps c.loop-same.taken c.loop-same.at4 c.loop-same.at8 c.loop-same.same are over in
    let answer : Bool → Option ℕ = λ b. if b then None else Some c.loop-same.taken in
    elim c.if-same.branch as (λ _. DifferAt image world c.args.steps c.if-same.result) [
      | then-same w ↦ subst (DifferAt image world c.args.steps) (ap answer w.if-same.true ∙ sym w.result-is) where_they_part
      | else-same w ↦ subst (DifferAt image world c.args.steps) (ap answer w.if-same.false ∙ sym w.result-is) where_they_part
    ]

pub returns-clause-same_where_typed : goal.returns-clause-same_where_typed
returns-clause-same_where_typed c = λ typed.
    (typed_never_differ c.args.image.now (world_of c.args.image.now c.args.notes.now c.args.script.now) c.args.steps c.if-same.result
    (record {
      well_formed = c.requires.image;
      bytes = c.requires.bytes;
      size = refl;
      notes = c.requires.notes;
      script = c.requires.script;
      typed = typed;
    })).0 (returns-clause-differ c)
