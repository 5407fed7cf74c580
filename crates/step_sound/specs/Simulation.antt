-- For proofs: the simulation of one step at one width: at an instruction that its rule accepts, from a configuration for
-- which the machine stands and that is sound with the state, the machine does what the neutral machine does, and both go on
-- so. docs/SIMULATION.md, "One step".
use Rattle.std.specs.Prelude.{◌≡◌, ℕ, List, ◌∷◌, None, Some, slice_get}
use Rattle.ebc_insn.specs.declared.Insn.{Insn}
use Rattle.ebc_machine.specs.declared.StepEnd.{StepEnd}
use Rattle.ebc_machine.specs.declared.StepEnd.TheVariants as ends
use Rattle.neutral_machine.specs.Alike.{RowsAlike}
use Rattle.neutral_machine.specs.Rows.{Site, NeutralRow, executed}
use Rattle.neutral_machine.specs.Stands.{MachineStands}
use Rattle.note_types.specs.Concrete.{Concrete}
use Rattle.note_types.specs.Known.{IsState}
use Rattle.note_types.specs.declared.ending.Ending.TheVariants.{Running}
use Rattle.note_types.specs.declared.exception.Exception.TheVariants.{DivideError}
use Rattle.note_types.specs.declared.notes.FnNote.{FnNote}
use Rattle.note_types.specs.declared.notes.Notes.{Notes}
use Rattle.note_types.specs.declared.script.Script.{Script}
use Rattle.note_types.specs.declared.spot.Spot.TheVariants.{Place}
use Rattle.note_types.specs.declared.state.State.{State}
use Rattle.pe_image.specs.Mapped.{mapped}
use Rattle.pe_image.specs.declared.image.Image.{Image}
use Rattle.rules_base.specs.declared.here.Here.{Here}
use Rattle.rules_image.specs.Images.{EndHolds, IsDecoded, RelocationHolds}
use Rattle.rules_flow.specs.declared.successors.Successors.{Successors}
use Rattle.neutral_machine.specs.Config.{FunctionFrame, Frame, Function, Config, call_under_way}
use Rattle.neutral_machine.specs.Outcomes.{Gives, Raises, Stuck}
use Rattle.host_model.specs.Placements.{Placement, IsPlacement}
use Rattle.host_model.specs.Progress.{NoCall}
use Rattle.host_model.specs.World.{World}
use Rattle.invariant_laws.specs.Sound.{Sound}
use Rattle.typing_laws.specs.OneRule.{EndsSound}
use Rattle.rules_image.specs.Places.{IsPlaceOf}
use Rattle.step_sound.specs.PlaceStates.{PlacesHold}
use Rattle.step_sound.specs.ReadWorld.{IsReadWorld}
use Rattle.host_model.specs.Runs.{world_of}

-- ---- before the step

-- where an instruction stands, without its function
abbrev pub site_of : Here → Site
site_of here = record { place = here.place; next = here.next; reloc = here.reloc }

-- What is asked before a step: of the image, its notes and the script; of the machine and the configuration for which it stands; and of
-- the instruction, which stands at the configuration's spot, in the function on top.
pub record StepStands (w : ℕ) (image : Image) (world : World) (P : Placement) (a : Config) (f : FunctionFrame) (fs : List Frame)
    (note : FnNote) (here : Here) (s : State) (i : Insn) (c : Concrete) : Type 0 where
  -- image, notes and script were read, and the rules on shapes, functions, static objects and thunk cells hold
  pub read : IsReadWorld image world
  -- at each place of a function an instruction decodes, and no point lies inside it
  pub places : PlacesHold image world.notes
  -- the placement is valid
  pub placement : IsPlacement w world P
  -- the machine and its memory stand for the configuration
  pub standing : MachineStands w world P (mapped image P.image) None a c
  -- which is sound with the state, one of the function on top
  pub sound : Sound world a s
  pub state : IsState world.notes note s
  -- it goes on, and no native call is under way
  pub running : a.ending ≡ Running
  pub under : call_under_way a.frames ≡ NoCall
  -- the instruction stands at its spot, a place of the function on top
  pub frames : a.frames ≡ Function f ∷ fs
  pub func : f.func ≡ here.func
  pub there : slice_get world.notes.function here.func ≡ Some note
  pub spot : a.spot ≡ Place here.place
  pub place : IsPlaceOf image note here.place
  -- it keeps the rules `decode`, `relocation` and `end`
  pub decoded : IsDecoded image note here.place i here.next
  pub relocation : RelocationHolds image world.notes here.place i here.next here.reloc
  pub ends : EndHolds note i here.next

-- ---- after it

-- The neutral machine isn't stuck; a division by zero alone is raised, by both, and leaves the machine as it was; and else both end
-- alike, the machine stands for the configuration that is given, and this one is sound as the instruction asks: with the state of the
-- successor that was taken, with the entry state of the called function, and but for a state once a function returns or a native
-- method is called.
abbrev pub Simulated : ℕ → World → Placement → (ℕ → ℕ) → Site → Successors → Insn → Config → FunctionFrame → List Frame → Concrete
    → NeutralRow → StepEnd × Concrete → Type 0
Simulated w world P loaded here x i a f fs c Stuck t = ⊥
Simulated w world P loaded here x i a f fs c (Raises e) t = (e ≡ DivideError) × (t ≡ (ends.Raised e, c))
Simulated w world P loaded here x i a f fs c (Gives (e, b)) t = RowsAlike w world P loaded (e, b) t × EndsSound world here x i a f fs (e, b)

-- So a step from one state of the machine leads to another, with the successors that the rule gives: for every image, script, valid
-- placement and configuration for which this is asked.
abbrev pub StepSimulated : ℕ → Notes → Here → State → Insn → Concrete → StepEnd × Concrete → Successors → Type 0
StepSimulated w notes here s i before after x =
    (image : Image) (script : Script) (P : Placement) (a : Config) (f : FunctionFrame) (fs : List Frame) (note : FnNote)
    → StepStands w image (world_of image notes script) P a f fs note here s i before
    → Simulated w (world_of image notes script) P (mapped image P.image) (site_of here) x i a f fs before
    (executed (world_of image notes script) a (site_of here) i) after
