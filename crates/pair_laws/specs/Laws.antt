-- For proofs: the law of a step of a pair at a width: by each rule the pair goes on standing for that of the neutral machine.
-- docs/PAIRS.md, "Laws".
use Rattle.std.specs.Prelude.{◌≡◌, ℕ, ◌≤◌, Option, Some, None}
use Rattle.host_laws.specs.PlanFits.{CanEnter}
use Rattle.neutral_machine.specs.Stands.{Stands}
use Rattle.note_types.specs.declared.ending.Ending.TheVariants.{Running}
use Rattle.note_types.specs.declared.types.Ty.{Ty}
use Rattle.note_types.specs.declared.value.Value.{Value}
use Rattle.note_types.specs.declared.value.Value.TheVariants as value
use Rattle.pe_image.specs.Mapped.{mapped}
use Rattle.pe_image.specs.declared.image.Image.{Image}
use Rattle.step_sound.specs.StepLaw.{IsRunAt, StepGoesWell}
use Rattle.neutral_machine.specs.Config.{Config}
use Rattle.host_model.specs.HostPlans.{signature_result}
use Rattle.neutral_machine.specs.Layout.{total}
use Rattle.neutral_machine.specs.NeutralRuns.{neutral_step}
use Rattle.host_model.specs.Placements.{Placement, stack_bytes}
use Rattle.host_model.specs.RunState.{RunState}
use Rattle.host_model.specs.World.{World}
use Rattle.neutral_machine.specs.WrittenLaw.{IsValue}
use Rattle.neutral_machine.specs.NeutralRun.{neutral_instruction}
use Rattle.pair_laws.specs.NeutralPair.{neutral_pair_step}
use Rattle.pair_model.specs.Pairs.{PairWorld, Both, Stage, ProviderRuns, CallerRuns, CallTaken, CallRuns, CallReturned, PairState}
use Rattle.pair_model.specs.Rules.{reply_refused}
use Rattle.pair_model.specs.PairRuns.{pair_step_at}

-- what a pair has at either width: each side has what a run has
pub record IsPairAt (w : ℕ) (images : Both Image) (world : PairWorld) (P : Both Placement) : Type 0 where
  pub a : IsRunAt w images.a world.a P.a
  pub b : IsRunAt w images.b world.b P.b

-- A pair at a width stands for one of the neutral machine: each side does, and they have come as far, with the same events.
pub record PairStands (w : ℕ) (images : Both Image) (world : PairWorld) (P : Both Placement) (p : PairState Config)
    (q : PairState RunState) : Type 0 where
  pub a : Stands w world.a P.a (mapped images.a P.a.image) p.a q.a
  pub b : Stands w world.b P.b (mapped images.b P.b.image) p.b q.b
  pub stage : q.stage ≡ p.stage
  pub trace : q.trace ≡ p.trace
  pub ending : q.ending ≡ p.ending

-- What typing is to give of a side before a step of its own: it runs, its frames fit the stack, and each step goes well.
pub record SideGoesWell (w : ℕ) (image : Image) (world : World) (a : Config) : Type 0 where
  pub running : a.ending ≡ Running
  pub room : total w a.frames ≤ stack_bytes w world.notes
  pub step : (b : Config) → neutral_step world (neutral_instruction world image) a ≡ Some b → StepGoesWell w image world a b

-- the value that R7 of A gets by the type of the result: none is told where there is no result
abbrev pub value_given : Option Ty → Value → Value
value_given None v = value.Any
value_given (Some t) v = v

-- What typing is to give of a reply: A's frames fit the stack, and a value that fits is one that its own texts may have.
pub record ReplyGoesWell (w : ℕ) (world : World) (a : Config) (kind : Option Ty) (v : Value) : Type 0 where
  pub room : total w a.frames ≤ stack_bytes w world.notes
  pub value : reply_refused world a.script kind v ≡ None → IsValue world.notes (value_given kind v)

-- what typing is to give of a pair before a step, by how far the pair is
abbrev pub StageGoesWell : ℕ → Both Image → PairWorld → PairState Config → Stage → Type 0
StageGoesWell w images world p ProviderRuns = SideGoesWell w images.b world.b p.b
StageGoesWell w images world p CallerRuns = SideGoesWell w images.a world.a p.a
StageGoesWell w images world p (CallTaken g f values) = CanEnter w world.b p.b f values
StageGoesWell w images world p (CallRuns g) = SideGoesWell w images.b world.b p.b
StageGoesWell w images world p (CallReturned g v) = ReplyGoesWell w world.a p.a (signature_result world.a.notes g) v

-- After a step the pair stands for what the step leaves. Of one that has ended nothing is asked.
abbrev pub PairStepKeepsStanding : Type 0
PairStepKeepsStanding =
    (w : ℕ) (images : Both Image) (world : PairWorld) (P : Both Placement) (p b : PairState Config) (q : PairState RunState)
    → IsPairAt w images world P
    → (p.ending ≡ Running → StageGoesWell w images world p p.stage) → PairStands w images world P p q
    → neutral_pair_step world images p ≡ Some b
    → PairStands w images world P b (pair_step_at w world P q)
