-- The induction: at either width the run of a pair of typed images whose binds agree follows the neutral pair. It cites the laws of
-- the pair's steps and no row of the rules. So the runs at both widths are the same.
use Rattle.pair_laws.proofs.Common.{◌≡◌, ℕ, zero, suc, map, Some, option_and_then, refl, sym, ap, ◌∙◌, subst, inl, inr, same_Some, IsWidth}
use Rattle.pair_laws.proofs.Common.{Placement, RunState, given, World, world_meets, Config, neutral_pair_run, neutral_sides, Ending}
use Rattle.pair_laws.proofs.Common.{IsPairAt, PairStands, SideGoesWell, StageGoesWell, TypedPair, TypedSide, ArePlaced, pair_run, Both}
use Rattle.pair_laws.proofs.Common.{PairWorld, OfA, OfB, Stage, ProviderRuns, CallerRuns, CallTaken, CallRuns, CallReturned, PairState}
use Rattle.pair_laws.proofs.Common.{SideOf, enter_step, pair_step, reply_step, stage_step, mapped, Image, state_below, StepGoesWell}
use Rattle.pair_laws.proofs.Common.{RaisesOnlyDivideError, States, sound_room}
use Rattle.host_laws.proofs.SeenStands.{spot_is}
use Rattle.host_model.specs.Runs.{run_after}
use Rattle.neutral_machine.specs.{NeutralImage.static_cells, NeutralRuns.neutral_start}
use Rattle.pair_laws.specs.NeutralPair.{neutral_pair_spot, neutral_pair_step, neutral_side_spot}
use Rattle.pair_laws.specs.{PairLaw.PairFollows, PairLaw.PairsAreSame, PairLaw.PairsFollow, SamePairs.SamePairAfter}
use Rattle.pair_model.specs.{PairRuns.pair_spot, PairRuns.side_spot, Pairs.Side, Pairs.running_side, Rules.pair_start, Rules.step_if}
use Rattle.step_sound.proofs.{Keeping.holds_of, Keeping.start_meets, Read.read_is_run, Read.read_is_run_at}
use Rattle.step_sound.specs.Invariant.{RunHolds}
use Rattle.invariant_laws.specs.{Laws.states_by, Sound.SoundBelow}
use Rattle.invariant_laws.proofs.Same.{cells_of_live}
use Rattle.neutral_machine.specs.Memory.{memory_of}
use Rattle.twin_run.specs.Behaviour.{cell_seen}
use Rattle.twin_run.proofs.CellsSeen.{cell_shown, neutral_cell}
use Rattle.pair_laws.proofs.Joining.{Ready, StageHolds, PairHolds, Goes, own_goes, enter_goes, b_goes, reply_goes, reply_known, world_b}
use Rattle.pair_laws.proofs.{Calling.a_goes, Crossing.enter_well, SideSteps.side_steps, Steps.pair_step_keeps_standing}
use Rattle.note_types.specs.declared.ending.Ending.TheVariants as ending
use Rattle.note_types.specs.declared.event.Event.TheVariants as event

-- ---- a side

-- a side's own step goes well at either width
side_well : (image : Image) (world : World) (states : States) → TypedSide image world states → (w : ℕ) → IsWidth w → (a : Config)
    → Ready world states a → SideGoesWell w image world a
side_well image world states t w h a r =
    let s = side_steps image world states t.read t.rules a r.holds r.running in
    record {
      running = r.running;
      room = sound_room w world a h r.holds.sound;
      step = λ b e. subst (StepGoesWell w image world a) (same_Some s.after b (sym s.is ∙ e)) (s.well w h);
    }

module _ (images : Both Image) (world : PairWorld) (sa sb : States) (t : TypedPair images world sa sb) where
  abbrev N : Both (SideOf Config)
  N = neutral_sides world images

  abbrev Held : PairState Config → Type 0
  Held p = PairHolds images world sa sb t.a t.b p

  -- ---- a step goes well

  stage_well : (w : ℕ) → IsWidth w → (p : PairState Config) (s : Stage) → StageHolds images world sa sb t.a t.b p s
      → StageGoesWell w images world p s
  stage_well w h p ProviderRuns x = side_well images.b world.b sb t.b w h p.b x.1
  stage_well w h p CallerRuns x = side_well images.a world.a sa t.a w h p.a x.0
  stage_well w h p (CallTaken g f vs) x =
      enter_well world.b sb (world_b images world sa sb t.a t.b) state_below w p.b (event.Entered f (map given vs)) f vs h x.2
  stage_well w h p (CallRuns g) x = side_well images.b world.b sb t.b w h p.b x.2
  stage_well w h p (CallReturned g v) x = record {
    room = sound_room w world.a p.a h x.0.holds.sound;
    value = λ e. reply_known images world sa sb t.a t.b p.a.script g v x.3 e;
  }

  -- both sides are sound while the pair runs
  sides_sound : (p : PairState Config) (s : Stage) → StageHolds images world sa sb t.a t.b p s → SoundBelow world.a p.a
      × SoundBelow world.b p.b
  sides_sound p ProviderRuns x = (x.0.holds.sound, x.1.holds.sound)
  sides_sound p CallerRuns x = (x.0.holds.sound, x.1.sound)
  sides_sound p (CallTaken g f vs) x = (x.0.holds.sound, x.2.rests.sound)
  sides_sound p (CallRuns g) x = (x.0.holds.sound, x.2.holds.sound)
  sides_sound p (CallReturned g v) x = (x.0.holds.sound, x.2.sound)

  -- ---- a step is there

  -- what the pair is at a width, which says that what one image's host reads the other's texts may have
  module _ (w : ℕ) (P : Both Placement) (at : IsPairAt w images world P) where
    stage_goes : (p : PairState Config) (q : PairState RunState) → PairStands w images world P p q → p.ending ≡ ending.Running → (s : Stage)
        → p.stage ≡ s → StageHolds images world sa sb t.a t.b p s → Goes images world sa sb t.a t.b (stage_step world N p s)
    stage_goes p q st on ProviderRuns e x = own_goes images world sa sb t.a t.b p e x.0 x.1
    stage_goes p q st on CallerRuns e x = a_goes images world sa sb t.a t.b w P p q at st t.binds e x.0 x.1
    stage_goes p q st on (CallTaken g f vs) e x = record {
      after = enter_step N p g f vs;
      is = refl;
      holds = enter_goes images world sa sb t.a t.b p g f vs x.0 x.1 x.2;
    }
    stage_goes p q st on (CallRuns g) e x = b_goes images world sa sb t.a t.b p g e x.0 x.1 x.2
    stage_goes p q st on (CallReturned g v) e x = record {
      after = reply_step world N p g v;
      is = refl;
      holds = reply_goes images world sa sb t.a t.b t.binds p g v on x.0 x.1 x.2;
    }

    step_goes : (p : PairState Config) (q : PairState RunState) → PairStands w images world P p q → Held p
        → Goes images world sa sb t.a t.b (neutral_pair_step world images p)
    unfolding pair_step
    step_goes p q st x = by_ending p.ending refl
      where
        stays : Goes images world sa sb t.a t.b (Some p)
        stays = record { after = p; is = refl; holds = x }

        by_ending : (e : Ending) → p.ending ≡ e → Goes images world sa sb t.a t.b (step_if world N p e)
        by_ending ending.Running on = stage_goes p q st on p.stage refl (x.on on)
        by_ending c on = stays

  -- ---- each number of steps

  -- what follows, with what holds of the neutral pair
  record HoldsAfter (w : ℕ) (P : Both Placement) (k : ℕ) : Type 0 where
    pair : PairState Config
    reached : neutral_pair_run world images k ≡ Some pair
    stands : PairStands w images world P pair (pair_run w world P images k)
    holds : Held pair

  module _ (w : ℕ) (P : Both Placement) (h : IsWidth w) (placed : ArePlaced w world P) where
    at_width : IsPairAt w images world P
    at_width = record {
      a = read_is_run_at w images.a world.a P.a h t.a.read placed.a;
      b = read_is_run_at w images.b world.b P.b h t.b.read placed.b;
    }

    run_a : RunHolds w images.a world.a P.a sa
    run_a = record { width = h; read = t.a.read; placement = placed.a; rules = t.a.rules }

    run_b : RunHolds w images.b world.b P.b sb
    run_b = record { width = h; read = t.b.read; placement = placed.b; rules = t.b.rules }

    starts : HoldsAfter w P zero
    unfolding neutral_pair_run neutral_start pair_run run_after
    starts =
        let x = start_meets w images.a world.a P.a sa run_a in
        let y = start_meets w images.b world.b P.b sb run_b in
        record {
          pair = pair_start N (neutral_start world.a (static_cells world.a images.a))
              (neutral_start world.b (static_cells world.b images.b));
          reached = refl;
          stands = record { a = x.standing.stands; b = y.standing.stands; stage = refl; trace = refl; ending = y.standing.stands.ending };
          holds = record {
            on = λ on. (
              record { holds = holds_of w images.a world.a P.a sa run_a _ _ x; running = refl },
              record { holds = holds_of w images.b world.b P.b sb run_b _ _ y; running = refl },
            );
            raised = tt;
          };
        }

    goes_on : (k : ℕ) → HoldsAfter w P k → HoldsAfter w P (suc k)
    unfolding neutral_pair_run pair_run
    goes_on k x =
        let s = step_goes w P at_width x.pair (pair_run w world P images k) x.stands x.holds in
        record {
          pair = s.after;
          reached = ap (option_and_then (neutral_pair_step world images)) x.reached ∙ s.is;
          stands = pair_step_keeps_standing w images world P x.pair s.after (pair_run w world P images k) at_width
              (λ on. stage_well w h x.pair x.pair.stage (x.holds.on on)) x.stands s.is;
          holds = s.holds;
        }

    after : (k : ℕ) → HoldsAfter w P k
    after zero = starts
    after (suc k) = goes_on k (after k)

    pub pair_follows : (k : ℕ) → PairFollows w images world P k
    pair_follows k = let x = after k in record { pair = x.pair; reached = x.reached; stands = x.stands; raised = x.holds.raised }

    -- what the cells of both images' objects are read as, while the pair runs
    cells_shown : (k : ℕ) (x : HoldsAfter w P k) → x.pair.ending ≡ ending.Running → ((o i f : ℕ)
        → cell_seen w world.a P.a (pair_run w world P images k).a o i f ≡ neutral_cell world.a x.pair.a o i f)
        × ((o i f : ℕ) → cell_seen w world.b P.b (pair_run w world P images k).b o i f ≡ neutral_cell world.b x.pair.b o i f)
    cells_shown k x on =
        let s = sides_sound x.pair x.pair.stage (x.holds.on on) in (
          cell_shown w images.a world.a P.a h t.a.read placed.a x.pair.a _ x.stands.a
              (cells_of_live world.a.notes (memory_of world.a x.pair.a) s.0.cells) (sound_room w world.a x.pair.a h s.0),
          cell_shown w images.b world.b P.b h t.b.read placed.b x.pair.b _ x.stands.b
              (cells_of_live world.b.notes (memory_of world.b x.pair.b) s.1.cells) (sound_room w world.b x.pair.b h s.1),
        )

    -- where the side stands that runs is where it does in the neutral pair
    pub pair_spot_is : (p : PairState Config) (q : PairState RunState) → PairStands w images world P p q
        → pair_spot world P q ≡ neutral_pair_spot p
    pair_spot_is p q st = ap (side_spot world P q) (ap running_side st.stage) ∙ by_side (running_side p.stage)
      where
        by_side : (s : Side) → side_spot world P q s ≡ neutral_side_spot p s
        by_side OfA = spot_is w world.a P.a (mapped images.a P.a.image) h
            (world_meets images.a world.a (read_is_run images.a world.a t.a.read)) placed.a p.a q.a st.a
        by_side OfB = spot_is w world.b P.b (mapped images.b P.b.image) h
            (world_meets images.b world.b (read_is_run images.b world.b t.b.read)) placed.b p.b q.b st.b

  -- ---- both widths

  pub pair_is_same : (P Q : Both Placement) (k : ℕ) → ArePlaced 4 world P → ArePlaced 8 world Q → SamePairAfter images world P Q k
  pair_is_same P Q k p q =
      let x = after 4 P (inl refl) p k in
      let y = after 8 Q (inr refl) q k in
      let one : y.pair ≡ x.pair = same_Some y.pair x.pair (sym y.reached ∙ x.reached) in
      let s = x.stands in
      let u = subst (λ c. PairStands 8 images world Q c (pair_run 8 world Q images k)) one y.stands in
      record {
        same = record {
          side = ap running_side s.stage ∙ sym (ap running_side u.stage);
          spot = pair_spot_is 4 P (inl refl) p x.pair _ s ∙ sym (pair_spot_is 8 Q (inr refl) q x.pair _ u);
          trace = s.trace ∙ sym u.trace;
          ending = s.ending ∙ sym u.ending;
        };
        cells = λ on.
            let running : x.pair.ending ≡ ending.Running = sym s.ending ∙ on in
            let c = cells_shown 4 P (inl refl) p k x running in
            let d = cells_shown 8 Q (inr refl) q k y (ap (λ (z : PairState Config). z.ending) one ∙ running) in (
              λ o i f. c.0 o i f ∙ ap (λ (z : PairState Config). neutral_cell world.a z.a o i f) (sym one) ∙ sym (d.0 o i f),
              λ o i f. c.1 o i f ∙ ap (λ (z : PairState Config). neutral_cell world.b z.b o i f) (sym one) ∙ sym (d.1 o i f),
            );
        raised = subst RaisesOnlyDivideError (sym s.ending) x.holds.raised;
      }

-- ---- the laws

pub pairs_follow : PairsFollow
pairs_follow w images world a b P k h t p = pair_follows images world (states_by a) (states_by b) t w P h p k

pub pairs_are_same : PairsAreSame
pairs_are_same images world a b P Q k t p q = pair_is_same images world (states_by a) (states_by b) t P Q k p q
