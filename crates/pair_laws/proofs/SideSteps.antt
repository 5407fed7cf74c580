-- A step of a side's own, as a pair takes it: it is there, what holds goes on to hold, it goes well at either width, and it ends with
-- a result only where no frame is left.
use Rattle.pair_laws.proofs.Common.{◌≡◌, ℕ, Bool, true, false, if◌then◌else◌, List, [], ◌∷◌, Option, Some, refl, sym, ap, ap₂, ◌∙◌, subst}
use Rattle.pair_laws.proofs.Common.{some_of_map, Insn, IsWidth, and_then_some, View, Returns, host_plan, host_turn, is_due, NativeCall}
use Rattle.pair_laws.proofs.Common.{one_instruction, Neutral, World, turn_holds, Turn, of_host, of_code, FunctionFrame, Frame, Function}
use Rattle.pair_laws.proofs.Common.{Config, call_under_way, instruction_left, neutral_instruction, is_gate, step_if, neutral_step, executed}
use Rattle.pair_laws.proofs.Common.{Value, Image, state_below, run_world, StepGoesWell, Holds, States}
use Rattle.neutral_machine.specs.{NeutralImage.instruction_at, NeutralImage.site_at, NeutralRun.instruction_from, NeutralRuns.running_step}
use Rattle.step_sound.proofs.Steps.{StepHolds, host_keeps, code_keeps}
use Rattle.step_sound.specs.{PlaceStates.StatesHold, ReadWorld.IsReadWorld}
use Rattle.pair_laws.proofs.Finishing.{Unfinished, goes_unfinished, plan_goes, left_none, insn_unfinished}
use Rattle.neutral_machine.specs.NeutralHost as neutral
use Rattle.note_types.specs.declared.ending.Ending.TheVariants as ending
use Rattle.note_types.specs.declared.spot.Spot.TheVariants as spot

-- what a step of a side leaves
pub record SideSteps (image : Image) (world : World) (states : States) (a : Config) : Type 0 where
  pub after : Config
  pub is : neutral_step world (neutral_instruction world image) a ≡ Some after
  pub holds : Holds world states after
  pub finished : (v : Value) → after.ending ≡ ending.Finished v → after.frames ≡ []
  pub well : (w : ℕ) → IsWidth w → StepGoesWell w image world a after

module _ (image : Image) (world : World) (states : States) (r : IsReadWorld image world) (hold : StatesHold image world states) where
  -- it ends with a result only where no frame is left
  abbrev EndsBare : Config → Type 0
  EndsBare b = (v : Value) → b.ending ≡ ending.Finished v → b.frames ≡ []

  unfinished_ends : (b : Config) → Unfinished b.ending → EndsBare b
  unfinished_ends b u v e = absurd (subst Unfinished e u)

  -- the host's step
  plan_ends : (a : Config) (v : View) → Holds world states a → a.ending ≡ ending.Running → neutral.host_view world a a.spot ≡ Some v
      → EndsBare (neutral.performed world a (host_plan world a.script v))
  unfolding neutral.performed host_plan
  plan_ends a v h on e = go v e
    where
      other : (v : View) → ((f : ℕ) (u : Value) → v ≡ Returns true f u → ⊥)
          → EndsBare (neutral.performed world a (host_plan world a.script v))
      other v n = unfinished_ends (neutral.performed world a (host_plan world a.script v))
          (goes_unfinished world a (host_plan world a.script v) on (plan_goes world a.script v n))

      first : (f : ℕ) (u : Value) → neutral.host_view world a a.spot ≡ Some (Returns true f u)
          → (neutral.performed world a (host_plan world a.script (Returns true f u))).frames ≡ []
      first f u e = left_none world a f u h.sound e

      go : (v : View) → neutral.host_view world a a.spot ≡ Some v → EndsBare (neutral.performed world a (host_plan world a.script v))
      go (Returns true f x) e = λ u is. first f x e
      go c e = other c (λ g y z. cc)

  host_ends : (a b : Config) → Holds world states a → a.ending ≡ ending.Running → neutral.neutral_host_step world a ≡ Some b → EndsBare b
  unfolding neutral.neutral_host_step
  host_ends a b h on e =
      let q = some_of_map (λ v. neutral.performed world a (host_plan world a.script v)) (neutral.host_view world a a.spot) b e in
      subst EndsBare q.2 (plan_ends a q.0 h on q.1)

  -- the instruction's step
  code_ends : (a b : Config) (p : ℕ) (f : FunctionFrame) (fs : List Frame) → a.spot ≡ spot.Place p → a.frames ≡ Function f ∷ fs
      → a.ending ≡ ending.Running → neutral_instruction world image (record a { script = one_instruction a.script }) ≡ Some b → EndsBare b
  unfolding neutral_instruction
  code_ends a b p f fs es ef on e =
      let c = record a { script = one_instruction a.script } in
      let x = and_then_some (λ (found : Insn × ℕ). instruction_left world c p (executed world c (site_at image p found.1) found.0))
      (instruction_at image p) b (sym (ap (instruction_from world image c) es) ∙ e) in
      unfinished_ends b (insn_unfinished world c b f fs (site_at image p x.0.1) x.0.0 ef on p
      (executed world c (site_at image p x.0.1) x.0.0) refl x.2)

  step_holds : (a : Config) → Holds world states a → a.ending ≡ ending.Running → StepHolds image world states r hold a
  step_holds a h on = go (host_turn (is_gate a.spot) (call_under_way a.frames) (is_due world.script a.script)) refl
    where
      go : (t : Bool) → host_turn (is_gate a.spot) (call_under_way a.frames) (is_due world.script a.script) ≡ t
          → StepHolds image world states r hold a
      go true t = host_keeps image world states r hold a h on t
      go false t = code_keeps image world states r hold a h on t

  abbrev step_of : Config → Bool → Option Config
  step_of a t = if t then neutral.neutral_host_step world a
      else neutral_instruction world image (record a { script = one_instruction a.script })

  pub side_steps : (a : Config) → Holds world states a → a.ending ≡ ending.Running → SideSteps image world states a
  unfolding neutral_step
  side_steps a h on =
      let s = step_holds a h on in
      record {
        after = s.after;
        is = ap (step_if world (neutral_instruction world image) a) on ∙ s.is;
        holds = s.holds;
        finished = by_turn s.after s.is (turn_holds world states (run_world image world r states hold) state_below a h on);
        well = s.well;
      }
    where
      by_turn : (b : Config) → running_step world (neutral_instruction world image) a ≡ Some b → Turn world states a → EndsBare b
      by_turn b is (of_host turn g) = host_ends a b h on (sym (ap (step_of a) turn) ∙ is)
      by_turn b is (of_code p f fs es ef en ed x) =
          let turn : host_turn (is_gate a.spot) (call_under_way a.frames) (is_due world.script a.script) ≡ false =
          ap₂ (λ s (n : NativeCall Neutral). host_turn (is_gate s) n (is_due world.script a.script)) es (ap call_under_way ef ∙ en)
          ∙ ed in
          code_ends a b p f fs es ef on (sym (ap (step_of a) turn) ∙ is)
