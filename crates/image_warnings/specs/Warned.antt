-- For proofs: the warnings of an image under notes, and their order: docs/FIRMWARE.md, "Warnings".
use Rattle.std.specs.Prelude.{◌≡◌, ◌↔◌, ℕ, ◌+◌, ◌*◌, ◌<◌, Bool, true, List, [], ◌∷◌, ◌++◌, Some, slice_get, if◌then◌else◌}
use Rattle.std.specs.List.{AllPairs, Contains}
use Rattle.ebc_insn.specs.declared.Insn.{Insn}
use Rattle.note_types.specs.declared.notes.FnNote.{FnNote}
use Rattle.note_types.specs.declared.notes.Notes.{Notes}
use Rattle.note_types.specs.declared.state.State.{State}
use Rattle.pe_image.specs.declared.image.Image.{Image}
use Rattle.departures.specs.Departures.{departs}
use Rattle.image_warnings.specs.Around.{IsAround}
use Rattle.image_warnings.specs.ImageEffects.{InsnAt}
use Rattle.departures.specs.declared.departure.Around.{Around}
use Rattle.departures.specs.declared.kind.Kind.{Kind}
use Rattle.departures.specs.declared.kind.Kind.TheVariants as kinds
use Rattle.image_warnings.specs.declared.warning.Warning.{Warning}

-- at a place of function `func` the interpreter departs so, by the state before the instruction there and what is around it
pub record IsWarnedIn (image : Image) (notes : Notes) (func : ℕ) (f : FnNote) (w : Warning) : Type 0 where
  pub at : InsnAt image notes func f w.place
  pub around : Around
  pub is_around : IsAround image notes f w.place at.state at.insn at.next around
  pub holds : departs w.kind notes f w.place at.state around at.insn ≡ true

-- at a place of a function of the notes
pub record IsWarned (image : Image) (notes : Notes) (w : Warning) : Type 0 where
  pub func : ℕ
  pub f : FnNote
  pub there : slice_get notes.function func ≡ Some f
  pub warned : IsWarnedIn image notes func f w

-- the kinds in the order of their lines at one place
abbrev pub kinds_in_order : List Kind
kinds_in_order =
    kinds.Status ∷ kinds.Narrow ∷ kinds.Popn ∷ kinds.Divide ∷ kinds.Shift ∷ kinds.Compare ∷ kinds.Break ∷ kinds.Unwritten ∷ kinds.Far
    ∷ kinds.Odd ∷ kinds.Frame ∷ kinds.String ∷ []

-- the turn of a kind there
abbrev pub turn : Kind → ℕ
turn kinds.Status = 0
turn kinds.Narrow = 1
turn kinds.Popn = 2
turn kinds.Divide = 3
turn kinds.Shift = 4
turn kinds.Compare = 5
turn kinds.Break = 6
turn kinds.Unwritten = 7
turn kinds.Far = 8
turn kinds.Odd = 9
turn kinds.Frame = 10
turn kinds.String = 11

-- a warning comes before another one: its place does, or at one place its kind
abbrev pub rank : Warning → ℕ
rank w = 12 * w.place + turn w.kind

abbrev pub Precedes : Warning → Warning → Type 0
Precedes v w = rank v < rank w

-- they are the warnings of an image under notes, in their order
pub record AreWarnings (image : Image) (notes : Notes) (warnings : List Warning) : Type 0 where
  pub warned : (w : Warning) → Contains warnings w ↔ IsWarned image notes w
  pub ordered : AllPairs Precedes warnings

-- ---- the warnings of an instruction

-- the warning of a kind, if it is due
abbrev pub due : ℕ → Kind → Bool → List Warning
due place kind holds = if holds then record { place = place; kind = kind } ∷ [] else []

-- those of the kinds that are due at a place
unfoldable pub due_of : ℕ → (Kind → Bool) → List Kind → List Warning
due_of place holds [] = []
due_of place holds (kind ∷ rest) = due place kind (holds kind) ++ due_of place holds rest

abbrev pub all_due : ℕ → (Kind → Bool) → List Warning
all_due place holds = due_of place holds kinds_in_order

abbrev pub warnings_at : ℕ → Notes → FnNote → State → Around → Insn → List Warning
warnings_at place notes f s around i = all_due place (λ kind. departs kind notes f place s around i)
