-- A step of a pair that goes on: what its runner is at, by the stage that the code is in.
use Rattle.pair_host.proofs.Common.{◌≡◌, ℕ, ◌<◌, length, refl, sym, ap, ◌∙◌, subst, Running, Value, RunState, own_placements, pair_step_at}
use Rattle.pair_host.proofs.Common.{sides_at, PairWorld, PairState, stage_step, IsPair, SidesGoOn, own, stage_of, stepped, PairRunner}
use Rattle.twin_run.proofs.TurnLaws.{is_ready}
use Rattle.pair_host.proofs.Turns.{turn}
use Rattle.pair_model.specs.Pairs as pairs
use Rattle.pair_host.specs.declared.stage.Stage.TheVariants as stage

module _ (w : ℕ) (world : PairWorld) where
  -- while a bound call waits for its reply, image A is inside a function
  pub caller_inside : (x : PairRunner w) (p : PairState RunState) (g : ℕ) (v : Value) → IsPair w world x p
      → x.stage ≡ stage.CallReturned g v → x.ending ≡ Running → 0 < length x.a.frames
  caller_inside x p g v is at on =
      let there : pairs.CallReturned g v ≡ p.stage = sym (ap stage_of at) ∙ is.stage in
      let goes : p.a.ending ≡ Running =
      subst (λ (s : pairs.Stage). SidesGoOn s p.a.ending p.b.ending) (sym there) (is.goes_on (sym is.ending ∙ on)) in
      (is_ready w world.a.notes world.a.script x.a
      (record { world = world.a; its_notes = refl; its_script = refl; state = own x.a p.a; is = is.a }) (is.a.at.ending ∙ goes)).inside

  -- what the rule of a stage gives is what the pair's step gives
  pub turned : (x y : PairRunner w) (p : PairState RunState) (s : pairs.Stage) → IsPair w world x p → stage_of x.stage ≡ s
      → x.ending ≡ Running
      → (p.stage ≡ s → p.ending ≡ Running
      → IsPair w world y (stepped (stage_step world (sides_at w world (own_placements w world)) p s) p))
      → IsPair w world y (pair_step_at w world (own_placements w world) p)
  turned x y p s is at on step =
      let there : s ≡ p.stage = sym at ∙ is.stage in
      let goes : p.ending ≡ Running = sym is.ending ∙ on in
      subst (IsPair w world y) (sym (turn w world (own_placements w world) p s there goes)) (step (sym there) goes)
