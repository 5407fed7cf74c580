-- A step of a typed program's run: the neutral machine isn't stuck, and the invariant holds after it.
use Rattle.step_sound.proofs.Common.{Ok, Err, ◌≡◌, ◌⊎◌, ℕ, ◌%◌, ◌<◌, ◌≤◌, Bool, true, false, if◌then◌else◌, List, [], ◌∷◌, length, Option}
use Rattle.step_sound.proofs.Common.{Some, None, option_and_then, refl, sym, ap, ap₂, ◌∙◌, subst, arith, inl, inr, eq-eqb, true≢false}
use Rattle.step_sound.proofs.Common.{spelling, Insn, IsWidth, State, Image, after_data, after_flow, falls, Successors, FunctionFrame, Frame}
use Rattle.step_sound.proofs.Common.{Function, Host, Config, call_under_way, with_call, host_turn, is_due, neutral_host_step, thunk_made}
use Rattle.step_sound.proofs.Common.{is_gate, Outcome, Gives, Raises, Stuck, NativeCall, NoCall, Asked, one_instruction, Neutral, World}
use Rattle.step_sound.proofs.Common.{Site, NeutralEnd, Next, Native, MakeThunk, executed, IsInsnOf, IsRunOf, world_meets, instruction_at}
use Rattle.step_sound.proofs.Common.{site_at, instruction_left, instruction_from, IsReadWorld, StepGoesWell, row_of, is_flow, live_memory}
use Rattle.step_sound.proofs.Common.{here_of, StandsTyped, States, RunsAt, TopHolds, SpotHolds, Holds, StatesFitBelow, one_rule, room_fits}
use Rattle.step_sound.proofs.Common.{StatesHold, spelled_at}
use Rattle.rules_base.specs.Outcomes.{gives_map, OrRule as Given}
use Rattle.neutral_machine.specs.{NeutralRuns.running_step, NeutralRun.neutral_instruction}
use Rattle.step_sound.specs.{StepLaw.InsnStands, PlaceStates.InsnHolds}
use Rattle.typing_laws.specs.OneRule.{Accepted as RuleAccepts}
use Rattle.invariant_laws.specs.{Sound.TopFits, Sound.Sound, Waiting.Chain, Hosted.HostGoesOn, Hosted.Turn, Hosted.of_host, Hosted.of_code}
use Rattle.typing_laws.proofs.{Rooms.sound_room, StatesBelow.state_fits_below}
use Rattle.invariant_laws.proofs.Turns.{turn_holds}
use Rattle.step_sound.proofs.{EvenPlaces.place_even, EvenPlaces.spelling_even, Read.read_is_run, RowLeads.falls_where_it_may}
use Rattle.step_sound.proofs.{RunSteps.found_there, RunSteps.site_there, Worlds.run_world, Worlds.world_typed, Worlds.thunks_enter}
use Rattle.step_sound.proofs.Instructing.{Before, HoldsAfter, instruction_holds}
use Rattle.rules_image.specs.{Images.reloc_at, Spelled.IsSpelledAt}
use Rattle.note_types.specs.declared.ending.Ending.TheVariants as ending
use Rattle.note_types.specs.declared.spot.Spot.TheVariants as spot

-- what fits a state fits each state above it
pub state_below : StatesFitBelow
state_below notes m d f s t regs c made = state_fits_below notes m d f s t regs c made

module _ (image : Image) (world : World) (states : States) (r : IsReadWorld image world) (hold : StatesHold image world states) where
  run : IsRunOf image world
  run = read_is_run image world r

  -- ---- the instruction at a place

  instruction_is : (c : Config) (here : Site) (i : Insn) → IsInsnOf image world here i → c.spot ≡ spot.Place here.place
      → neutral_instruction world image c ≡ instruction_left world c here.place (executed world c here i)
  unfolding neutral_instruction
  instruction_is c here i at e =
      ap (instruction_from world image c) e
      ∙ ap (λ (o : Option (Insn × ℕ)). option_and_then (λ (f : Insn × ℕ). instruction_left world c here.place
      (executed world c (site_at image here.place f.1) f.0)) o) (found_there image world run here i at)
      ∙ ap (λ (y : Site). instruction_left world c here.place (executed world c y i)) (site_there image world run here i at)

  -- an instruction that meets its rules, of the function on top
  module _ (p : ℕ) (f : FunctionFrame) (fs : List Frame) (s : State) (m : InsnHolds image world.notes states f.func p s) where
    abbrev here : Site
    here = record { place = p; next = m.next; reloc = reloc_at image m.next }

    reached : (p % 2 ≡ 0) × (m.f.place ≤ p) × (p < m.f.end)
    reached = place_even image world.notes r.notes r.functions hold.places f.func m.f m.place_of.0 p m.there m.place_of.1

    spelled : IsSpelledAt image m.f p m.insn m.next
    spelled = spelled_at image m.f p m.next m.insn m.decoded

    insn_of : IsInsnOf image world here m.insn
    insn_of = record { k = f.func; f = m.f; function = m.there; from = reached.1; decoded = spelled; relocation = m.relocation }

    accepted : RuleAccepts world.notes (here_of here f.func) s m.insn m.successors
    unfolding row_of
    accepted = go (is_flow m.insn) m.row
      where
        of_data : (g : Given State) → after_data world.notes (here_of here f.func) s m.insn ≡ g → gives_map falls g ≡ Ok m.successors
            → RuleAccepts world.notes (here_of here f.func) s m.insn m.successors
        of_data (Ok t) is e = inl (t, is, sym (same_Ok (falls t) m.successors e))
          where
            same_Ok : (x y : Successors) → ◌≡◌ {A = Given Successors} (Ok x) (Ok y) → x ≡ y
            same_Ok x y e = cc
        of_data (Err q) is e = absurd (cc)

        go : (t : Bool) → (if t then after_flow world.notes (here_of here f.func) s m.insn
            else gives_map falls (after_data world.notes (here_of here f.func) s m.insn)) ≡ Ok m.successors
            → RuleAccepts world.notes (here_of here f.func) s m.insn m.successors
        go true e = inr e
        go false e = of_data (after_data world.notes (here_of here f.func) s m.insn) refl e

    stands : (x : Config) → x.frames ≡ Function f ∷ fs → x.spot ≡ spot.Place p → Sound world x s
        → StandsTyped world x f fs m.f here s m.insn m.successors
    stands x fr sp sound = record {
      frames = fr;
      spot = sp;
      there = m.there;
      well_formed = spelled.well_formed;
      even = (let n = spelled.next_is in let e = spelling_even m.insn in let q = reached.0 in omega (arith, n, e, q));
      inside = inside m.successors.fall refl;
      sound = sound;
      state = m.state;
      accepted = accepted;
    }
      where
        inside : (o : Option State) → m.successors.fall ≡ o → (o ≡ None) ⊎ (m.next < world.image_size)
        inside None e = inl refl
        inside (Some t) e = inr (
            let l = m.ends (falls_where_it_may world.notes (here_of here f.func) s m.insn m.successors m.f m.there accepted t e) in
            let code = (world_meets image world run).code_inside f.func m.f m.there in
            let c = code.1 in omega (arith, l, c))

  -- ---- a step

  -- A step of the neutral machine: it isn't stuck, what holds holds after it, and it goes well at either width.
  pub record StepHolds (a : Config) : Type 0 where
    pub after : Config
    pub is : running_step world (neutral_instruction world image) a ≡ Some after
    pub holds : Holds world states after
    pub well : (w : ℕ) → IsWidth w → StepGoesWell w image world a after

  -- where no native call is under way an instruction stands at the spot, and the stack has room for it
  insn_stands : (a : Config) → Holds world states a → a.ending ≡ ending.Running → (p : ℕ) → a.spot ≡ spot.Place p
      → call_under_way a.frames ≡ NoCall → (w : ℕ) → IsWidth w → InsnStands w image world a p
  insn_stands a h on p sp under w hw =
      go a.frames refl (subst (λ n. TopHolds world states a n p a.frames) under (subst (SpotHolds world states a) sp (h.well on).top))
    where
      go : (gs : List Frame) → a.frames ≡ gs → TopHolds world states a NoCall p gs → InsnStands w image world a p
      go [] fr x = absurd x
      go (Host k ∷ gs) fr x = absurd x
      go (Function f ∷ fs) fr x =
          let q = hold.insns f.func p x.state x.here in
          let sound : Sound world a x.state = record { top = subst (λ gs. TopFits world a gs x.state) (sym fr) x.fits; below = h.sound } in
          let site = here p f fs x.state q in
          record {
            here = site;
            insn = q.insn;
            stands = insn_of p f fs x.state q;
            at = refl;
            room = room_fits w world a f fs q.f site x.state q.insn q.successors hw (world_typed image world r hold.places)
                (stands p f fs x.state q a fr sp sound);
          }

  -- a step goes well from where it holds to where it holds
  goes_well : (a b : Config) → Holds world states a → a.ending ≡ ending.Running → Holds world states b → (w : ℕ) → IsWidth w
      → StepGoesWell w image world a b
  goes_well a b h on k w hw = record {
    there = λ p sp under. insn_stands a h on p sp under w hw;
    before = sound_room w world a hw h.sound;
    after = sound_room w world b hw k.sound;
  }

  -- the host's step
  host_holds : (a : Config) → Holds world states a → a.ending ≡ ending.Running
      → host_turn (is_gate a.spot) (call_under_way a.frames) (is_due world.script a.script) ≡ true → HostGoesOn world states a → StepHolds a
  host_holds a h on turn g = record {
    after = g.after;
    is = ap (λ t. if t then neutral_host_step world a else neutral_instruction world image
        (record a { script = one_instruction a.script })) turn ∙ g.is;
    holds = g.holds;
    well = goes_well a g.after h on g.holds;
  }

  -- what an instruction leaves
  left_is : (c : Config) (p : ℕ) (o : Outcome (NeutralEnd × Config)) → HoldsAfter world states c p o → (b : Config)
      × (instruction_left world c p o ≡ Some b) × Holds world states b
  left_is c p Stuck h = absurd h
  left_is c p (Raises e) h = (record c { ending = ending.Raised e }, refl, h)
  left_is c p (Gives (Next, b)) h = (b, refl, h)
  left_is c p (Gives (Native v, b)) h = (record b { frames = with_call (Asked p v) b.frames }, refl, h)
  left_is c p (Gives (MakeThunk i, b)) h = (h.1, ap (λ t. if t then thunk_made world b else None) (eq-eqb i b.made h.0) ∙ h.2, h.3)

  -- the instruction's step
  insn_holds : (a : Config) (p : ℕ) (f : FunctionFrame) (fs : List Frame) → Holds world states a → a.ending ≡ ending.Running
      → a.spot ≡ spot.Place p → a.frames ≡ Function f ∷ fs → call_under_way fs ≡ NoCall → is_due world.script a.script ≡ false
      → RunsAt world states a p f fs → StepHolds a
  insn_holds a p f fs h on sp fr under due x =
      let q = hold.insns f.func p x.state x.here in
      let c = record a { script = one_instruction a.script } in
      let sound_c : Sound world c x.state = record {
        top = subst (λ gs. TopFits world c gs x.state) (sym fr) x.fits;
        below = record { cells = h.sound.cells; frames = h.sound.frames; few = h.sound.few };
      } in
      let wt = world_typed image world r hold.places in
      let st = stands p f fs x.state q c fr sp sound_c in
      let site = here p f fs x.state q in
      let before : Before world states c f fs = record {
        frames = fr;
        under = under;
        running = on;
        served = h.served;
        thunks = h.thunks;
        sound = record { cells = h.sound.cells; frames = h.sound.frames; few = h.sound.few };
        waiting = subst (Chain world states (live_memory world a) a.made) fr (h.well on).waiting;
      } in
      let accepts = one_rule world c f fs q.f site x.state q.insn q.successors wt st in
      let after = instruction_holds world states (run_world image world r states hold) state_below
      (thunks_enter image world r) c f fs before site q.insn q.successors q.leads accepts in
      let left = left_is c p (executed world c site q.insn) after in
      let is = instruction_is c site q.insn (insn_of p f fs x.state q) sp in
      let call : call_under_way a.frames ≡ NoCall = ap call_under_way fr ∙ under in
      let turn : host_turn (is_gate a.spot) (call_under_way a.frames) (is_due world.script a.script) ≡ false =
      ap₂ (λ s (n : NativeCall Neutral). host_turn (is_gate s) n (is_due world.script a.script)) sp call ∙ due in
      record {
        after = left.0;
        is = ap (λ t. if t then neutral_host_step world a else neutral_instruction world image
            (record a { script = one_instruction a.script })) turn ∙ is ∙ left.1;
        holds = left.2;
        well = goes_well a left.0 h on left.2;
      }

  -- ---- whose turn it is

  -- the host's
  pub host_keeps : (a : Config) → Holds world states a → a.ending ≡ ending.Running
      → host_turn (is_gate a.spot) (call_under_way a.frames) (is_due world.script a.script) ≡ true → StepHolds a
  host_keeps a h on t = go (turn_holds world states (run_world image world r states hold) state_below a h on)
    where
      go : Turn world states a → StepHolds a
      go (of_host turn g) = host_holds a h on turn g
      go (of_code p f fs es ef en ed x) =
          absurd (true≢false (sym t ∙ ap₂ (λ s (n : NativeCall Neutral). host_turn (is_gate s) n (is_due world.script a.script)) es
          (ap call_under_way ef ∙ en) ∙ ed))

  -- an instruction's
  pub code_keeps : (a : Config) → Holds world states a → a.ending ≡ ending.Running
      → host_turn (is_gate a.spot) (call_under_way a.frames) (is_due world.script a.script) ≡ false → StepHolds a
  code_keeps a h on t = go (turn_holds world states (run_world image world r states hold) state_below a h on)
    where
      go : Turn world states a → StepHolds a
      go (of_host turn g) = absurd (true≢false (sym turn ∙ t))
      go (of_code p f fs es ef en ed x) = insn_holds a p f fs h on es ef en ed x

  -- the instruction at the spot, where it is one's turn
  pub code_there : (a : Config) (p : ℕ) (f : FunctionFrame) (fs : List Frame) → RunsAt world states a p f fs → (i : Insn) × (n : ℕ)
      × (instruction_at image p ≡ Some (i, n))
  code_there a p f fs x =
      let q = hold.insns f.func p x.state x.here in
      (q.insn, length (spelling q.insn), found_there image world run (here p f fs x.state q) q.insn (insn_of p f fs x.state q))
