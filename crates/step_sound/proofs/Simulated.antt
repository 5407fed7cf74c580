-- One step at one width: the machine does what the neutral machine does, and both go on soundly.
use Rattle.step_sound.proofs.Common.{IfOk, Ok, Err, ◌≡◌, ◌⊎◌, ℕ, ◌%◌, ◌<◌, ◌≤◌, List, Option, Some, None, refl, sym, subst, arith, inl, inr}
use Rattle.step_sound.proofs.Common.{slice_get, machine_step, StepEnd, Insn, IsWidth, IsInsnOf, world_meets, NeutralRow, executed, Concrete}
use Rattle.step_sound.proofs.Common.{FnNote, Notes, State, mapped, Image, after_data, after_flow, falls, Successors, FunctionFrame, Frame}
use Rattle.step_sound.proofs.Common.{Config, Gives, Raises, Stuck, Placement, World, Accepts, WorldTyped, here_of, StandsTyped, EndsSound}
use Rattle.step_sound.proofs.Common.{one_rule, room_fits, spelled_at}
use Rattle.instruction_laws.proofs.ImageSteps.{image_step}
use Rattle.neutral_machine.specs.Alike.{StepAlike}
use Rattle.rules_base.specs.declared.here.Here.{Here}
use Rattle.typing_laws.specs.OneRule.{Accepted}
use Rattle.step_sound.specs.Simulation.{StepStands, StepSimulated, Simulated, site_of}
use Rattle.host_model.specs.Runs.{world_of}
use Rattle.step_sound.proofs.{EvenPlaces.place_even, EvenPlaces.spelling_even, Read.read_is_run, RowLeads.falls_where_it_may}
use Rattle.step_sound.proofs.Worlds.{world_typed}
use Rattle.rules_base.specs.Outcomes.{OrRule as Given}
use Rattle.rules_image.specs.Spelled.{IsSpelledAt}

module _ (w : ℕ) (h : IsWidth w) (image : Image) (world : World) (P : Placement) (a : Config) (f : FunctionFrame) (fs : List Frame)
    (note : FnNote) (here : Here) (s : State) (i : Insn) (c : Concrete) (st : StepStands w image world P a f fs note here s i c)
    (x : Successors) (accepted : Accepted world.notes here s i x) where
  -- the place is even, and inside the function
  stands_at : (here.place % 2 ≡ 0) × (note.place ≤ here.place) × (here.place < note.end)
  stands_at =
      place_even image world.notes st.read.notes st.read.functions st.places here.func note st.place.0 here.place st.there st.place.1

  spelled : IsSpelledAt image note here.place i here.next
  spelled = spelled_at image note here.place here.next i st.decoded

  insn_of : IsInsnOf image world (site_of here) i
  insn_of = record { k = here.func; f = note; function = st.there; from = stands_at.1; decoded = spelled; relocation = st.relocation }

  inside : (o : Option State) → x.fall ≡ o → (o ≡ None) ⊎ (here.next < world.image_size)
  inside None e = inl refl
  inside (Some t) e = inr (
      let l = st.ends (falls_where_it_may world.notes here s i x note st.there accepted t e) in
      let code = (world_meets image world (read_is_run image world st.read)).code_inside here.func note st.there in
      let k = code.1 in omega (arith, l, k))

  stands : StandsTyped world a f fs note (site_of here) s i x
  stands = record {
    frames = st.frames;
    spot = st.spot;
    there = subst (λ n. slice_get world.notes.function n ≡ Some note) (sym st.func) st.there;
    well_formed = spelled.well_formed;
    even = (let n = spelled.next_is in let e = spelling_even i in let q = stands_at.0 in omega (arith, n, e, q));
    inside = inside x.fall refl;
    sound = st.sound;
    state = st.state;
    accepted = subst (λ n. Accepted world.notes (here_of (site_of here) n) s i x) (sym st.func) accepted;
  }

  typed : WorldTyped world
  typed = world_typed image world st.read st.places

  pub simulated : Simulated w world P (mapped image P.image) (site_of here) x i a f fs c (executed world a (site_of here) i)
      (machine_step w c)
  simulated = go (executed world a (site_of here) i)
      (image_step w image world P a c (site_of here) i h st.placement (read_is_run image world st.read) st.standing st.spot insn_of
      (room_fits w world a f fs note (site_of here) s i x h typed stands))
      (one_rule world a f fs note (site_of here) s i x typed stands)
    where
      go : (o : NeutralRow) → StepAlike w world P (mapped image P.image) c o (machine_step w c)
          → Accepts (EndsSound world (site_of here) x i a f fs) o
          → Simulated w world P (mapped image P.image) (site_of here) x i a f fs c o (machine_step w c)
      go Stuck alike sound = sound
      go (Raises e) alike sound = (sound, alike)
      go (Gives (e, b)) alike sound = (alike, sound)

-- ---- what the two calls do

-- the step of an instruction on data that its rule accepts
pub data_simulated : (w : ℕ) (notes : Notes) (here : Here) (s : State) (i : Insn) (before : Concrete) (after : StepEnd × Concrete)
    → IsWidth w → after ≡ machine_step w before
    → IfOk (after_data notes here s i) (λ t. StepSimulated w notes here s i before after (falls t))
data_simulated w notes here s i before after h e = go (after_data notes here s i) refl
  where
    go : (r : Given State) → after_data notes here s i ≡ r → IfOk r (λ t. StepSimulated w notes here s i before after (falls t))
    go (Err r) q = tt
    go (Ok t) q = λ image script P a f fs note st.
        subst (λ y. Simulated w (world_of image notes script) P (mapped image P.image) (site_of here) (falls t) i a f fs before
        (executed (world_of image notes script) a (site_of here) i) y) (sym e)
        (simulated w h image (world_of image notes script) P a f fs note here s i before st (falls t) (inl (t, q, refl)))

-- and of one of control or of the stack
pub flow_simulated : (w : ℕ) (notes : Notes) (here : Here) (s : State) (i : Insn) (before : Concrete) (after : StepEnd × Concrete)
    → IsWidth w → after ≡ machine_step w before
    → IfOk (after_flow notes here s i) (λ x. StepSimulated w notes here s i before after x)
flow_simulated w notes here s i before after h e = go (after_flow notes here s i) refl
  where
    go : (r : Given Successors) → after_flow notes here s i ≡ r → IfOk r (λ x. StepSimulated w notes here s i before after x)
    go (Err r) q = tt
    go (Ok x) q = λ image script P a f fs note st.
        subst (λ y. Simulated w (world_of image notes script) P (mapped image P.image) (site_of here) x i a f fs before
        (executed (world_of image notes script) a (site_of here) i) y) (sym e)
        (simulated w h image (world_of image notes script) P a f fs note here s i before st x (inr q))
