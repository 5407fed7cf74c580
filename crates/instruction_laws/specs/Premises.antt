-- For proofs: what the laws of an instruction ask, met by an image that keeps the rules on shapes, functions, static objects
-- and thunk cells, and at each instruction those on decoding and relocations. docs/RULES.md, "The image";
-- docs/SIMULATION.md, "What the laws ask".
use Rattle.std.specs.Prelude.{◌≡◌, ℕ, ◌+◌, ◌<◌, ◌≤◌, length, Option, Some, None, Ok, slice_get, ℤ, ⊤}
use Rattle.std.specs.Option.{option_map_or}
use Rattle.ebc_width.specs.Width.{IsWidth, signed_at}
use Rattle.ebc_width.specs.Bytes.{window}
use Rattle.ebc_decode.specs.Reading.{read}
use Rattle.ebc_insn.specs.Spelling.{spelling}
use Rattle.ebc_insn.specs.declared.Extra.{Extra}
use Rattle.ebc_insn.specs.declared.Extra.TheVariants as extras
use Rattle.ebc_insn.specs.declared.Insn.{Insn}
use Rattle.ebc_insn.specs.declared.Insn.TheVariants as insns
use Rattle.ebc_machine.specs.Step.{machine_step}
use Rattle.ebc_machine.specs.declared.StepEnd.{StepEnd}
use Rattle.ebc_machine.specs.declared.StepEnd.TheVariants as ends
use Rattle.note_types.specs.Concrete.{Concrete}
use Rattle.note_types.specs.Records.{Each, IsNotes}
use Rattle.note_types.specs.declared.notes.FnNote.{FnNote}
use Rattle.note_types.specs.declared.notes.Notes.{Notes}
use Rattle.note_types.specs.declared.script.ScriptObject.{ScriptObject}
use Rattle.note_types.specs.declared.spot.Spot.TheVariants.{Place}
use Rattle.pe_image.specs.Images.{IsImage}
use Rattle.pe_image.specs.Mapped.{mapped, image_byte}
use Rattle.pe_image.specs.declared.image.Image.{Image}
use Rattle.neutral_machine.specs.Config.{Config}
use Rattle.host_model.specs.Objects.{placed_objects}
use Rattle.neutral_machine.specs.Outcomes.{Gives, Raises, Stuck}
use Rattle.host_model.specs.Placements.{Placement, IsPlacement}
use Rattle.host_model.specs.RunState.{RunState}
use Rattle.host_model.specs.Values.{word}
use Rattle.host_model.specs.World.{World}
use Rattle.rules_image.specs.Images.{ShapeHolds, FunctionHolds, StaticHolds, ThunkHolds, RelocationHolds}
use Rattle.rules_image.specs.Spelled.{IsSpelledAt}
use Rattle.neutral_machine.specs.Alike.{EndsAlike, StepAlike}
use Rattle.neutral_machine.specs.Instructions.{IsAt}
use Rattle.neutral_machine.specs.Room.{HasRoom}
use Rattle.neutral_machine.specs.Rows.{Site, NeutralRow, executed}
use Rattle.neutral_machine.specs.Stands.{MachineStands, Stands}
use Rattle.neutral_machine.specs.WorldFits.{WorldFits}

-- ---- the world of a run

-- an object that a script has or makes is of a shape of the notes, with at least one instance
pub record IsObjectNote (notes : Notes) (o : ScriptObject) : Type 0 where
  pub shape : o.shape < length notes.shape
  pub count : 1 ≤ o.count

-- A run of an image whose shapes, functions, static objects and thunk cells keep their rules, with notes and a script as they
-- are read.
pub record IsRunOf (image : Image) (world : World) : Type 0 where
  pub well_formed : IsImage image
  pub size : world.image_size ≡ image.size
  pub notes : IsNotes world.notes
  pub objects : Each (IsObjectNote world.notes) (placed_objects world.script (length world.script.call))
  pub shapes : (k : ℕ) → ShapeHolds world.notes k
  pub functions : (k : ℕ) → FunctionHolds image world.notes k
  pub statics : (k : ℕ) → StaticHolds image world.notes k
  pub thunks : (k : ℕ) → ThunkHolds image world.notes k

-- The world of such a run is as the laws ask it to be.
abbrev pub WorldMeets : Type 0
WorldMeets = (image : Image) (world : World) → IsRunOf image world → WorldFits world

-- ---- the instruction at a place

-- an instruction with another immediate
abbrev pub extra_with : ℤ → Extra → Extra
extra_with v (extras.Imm old) = extras.Imm v
extra_with v extra = extra

unfoldable pub with_immediate : ℤ → Insn → Insn
with_immediate v (insns.MoveImm size bits left lidx imm) = insns.MoveImm size bits left lidx v
with_immediate v (insns.Jump cond far relative op extra) = insns.Jump cond far relative op (extra_with v extra)
with_immediate v (insns.Call far native relative op extra) = insns.Call far native relative op (extra_with v extra)
with_immediate v i = i

-- the machine's instruction where the image has one: a relocated immediate is the address of the place that it names
abbrev pub loaded_insn : Placement → Option ℕ → Insn → Insn
loaded_insn P reloc i = option_map_or (λ p. with_immediate (signed_at 64 (word (P.image + p))) i) reloc i

-- An instruction of a function of the image stands at a place, and keeps the rules on decoding and relocations.
pub record IsInsnOf (image : Image) (world : World) (here : Site) (i : Insn) : Type 0 where
  pub k : ℕ
  pub f : FnNote
  pub function : slice_get world.notes.function k ≡ Some f
  pub from : f.place ≤ here.place
  pub decoded : IsSpelledAt image f here.place i here.next
  pub relocation : RelocationHolds image world.notes here.place i here.next here.reloc

-- The decoder reads it there, of as many bytes of the image as one likes.
abbrev pub InstructionRead : Type 0
InstructionRead =
    (image : Image) (world : World) (here : Site) (i : Insn) (more : ℕ) → IsInsnOf image world here i
    → read (window (image_byte image) here.place (length (spelling i) + more)) ≡ Ok (i, length (spelling i))

-- Where a state stands for a configuration at such an instruction, the machine is at it, its relocated immediate moved.
abbrev pub InstructionThere : Type 0
InstructionThere =
    (w : ℕ) (image : Image) (world : World) (P : Placement) (but : Option ℕ) (a : Config) (s : Concrete) (here : Site) (i : Insn)
    → IsRunOf image world → MachineStands w world P (mapped image P.image) but a s → a.spot ≡ Place here.place → IsInsnOf image world here i
    → IsAt world P a s here (loaded_insn P here.reloc i)

-- The neutral machine does the same for the image's instruction and for the machine's.
abbrev pub SameExecuted : Type 0
SameExecuted =
    (image : Image) (world : World) (P : Placement) (a : Config) (here : Site) (i : Insn)
    → IsInsnOf image world here i → executed world a here (loaded_insn P here.reloc i) ≡ executed world a here i

-- One step of the machine at either width, at an instruction of the image: it does what the neutral machine does with the
-- image's instruction, unless that is stuck.
abbrev pub ImageStep : Type 0
ImageStep =
    (w : ℕ) (image : Image) (world : World) (P : Placement) (a : Config) (s : Concrete) (here : Site) (i : Insn)
    → IsWidth w → IsPlacement w world P → IsRunOf image world → MachineStands w world P (mapped image P.image) None a s
    → a.spot ≡ Place here.place
    → IsInsnOf image world here i → HasRoom w world a i
    → StepAlike w world P (mapped image P.image) s (executed world a here i) (machine_step w s)

-- what a step of the machine in a run is beside what the neutral machine gives: the run's state stands for the configuration
-- that it gives, its script place, events and ending as they were; a step that raises leaves the machine
abbrev pub RunAlike : ℕ → World → Placement → (ℕ → ℕ) → RunState → NeutralRow → StepEnd × Concrete → Type 0
RunAlike w world P mapped r Stuck t = ⊤
RunAlike w world P mapped r (Raises e) t = t ≡ (ends.Raised e, r.machine)
RunAlike w world P mapped r (Gives (e, b)) (f, t) = EndsAlike w world P b e f × Stands w world P mapped b (record r { machine = t })

-- One step of the machine in a run at either width, at an instruction of the image.
abbrev pub ImageRunStep : Type 0
ImageRunStep =
    (w : ℕ) (image : Image) (world : World) (P : Placement) (a : Config) (r : RunState) (here : Site) (i : Insn)
    → IsWidth w → IsPlacement w world P → IsRunOf image world → Stands w world P (mapped image P.image) a r → a.spot ≡ Place here.place
    → IsInsnOf image world here i → HasRoom w world a i
    → RunAlike w world P (mapped image P.image) r (executed world a here i) (machine_step w r.machine)
