-- For proofs: how far a round has come, place by place, and what has come to the leaders by then.
use Rattle.std.specs.Prelude.{◌≡◌, ℕ, zero, suc, ◌<◌, ◌≤◌, List, Option, Some, Ok, slice_get}
use Rattle.std.specs.List.{Contains}
use Rattle.ebc_insn.specs.declared.Insn.{Insn}
use Rattle.note_types.specs.Notes.{entry_state}
use Rattle.note_types.specs.declared.notes.FnNote.{FnNote}
use Rattle.note_types.specs.declared.notes.Notes.{Notes}
use Rattle.note_types.specs.declared.state.State.{State}
use Rattle.pe_image.specs.declared.image.Image.{Image}
use Rattle.rules_flow.specs.declared.successors.Successors.{Successors}
use Rattle.rules_image.specs.Images.{EndHolds, IsDecoded, PointHolds, RelocationHolds, reloc_at}
use Rattle.width_checker.specs.Rows.{here_at, row_of}
use Rattle.note_infer.specs.JoinStates.{join_states}
use Rattle.note_infer.specs.PointStates.{IsFound}
use Rattle.note_infer.specs.Rounds.{Comes, FallsTo, HasCome, HasState, IsWithin, States, given, marked}

-- ---- what comes again

-- what has come takes a state without a change
abbrev pub Settles : Option State → State → Type 0
Settles come t = (s : State) × (come ≡ Some s) × (join_states s t ≡ Some s)

abbrev pub SettlesAll : Option State → List State → Type 0
SettlesAll come ts = (j : ℕ) (t : State) → slice_get ts j ≡ Some t → Settles come t

-- ---- instructions that were passed

-- the place at which the state before an instruction began
unfoldable pub origin : (image : Image) (notes : Notes) (leaders : List ℕ) (states : States) (func : ℕ) (f : FnNote) (n place : ℕ)
    (s : State) → Comes image notes leaders states func f n place s → ℕ
unfolding Comes
origin image notes leaders states func f zero place s c = place
origin image notes leaders states func f (suc n) place s c = origin image notes leaders states func f n c.last c.state c.has_state

-- the instruction at a place has a state and meets its rules, and what it gives was taken by what has come to the leaders
pub record Passed (image : Image) (notes : Notes) (leaders : List ℕ) (states come : States) (func : ℕ) (f : FnNote) (place : ℕ) : Type 0
  where
    pub state : State
    pub has_state : HasState image notes leaders states func f place state
    pub insn : Insn
    pub next : ℕ
    pub decode : IsDecoded image f place insn next
    pub point : PointHolds (marked notes leaders) place next
    pub relocation : RelocationHolds image notes place insn next (reloc_at image next)
    pub x : Successors
    pub row : row_of (marked notes leaders) (here_at image func place next) state insn ≡ Ok x
    pub ends : EndHolds f insn next
    pub settles : (leader : ℕ) → Contains leaders leader → IsWithin f leader → SettlesAll (come leader) (given leader next x)

-- a place was passed: no instruction with a state is there, or it meets its rules
pub data Stood (image : Image) (notes : Notes) (leaders : List ℕ) (states come : States) (func : ℕ) (f : FnNote) (place : ℕ) : Type 0 where
  stood_none : ((s : State) → HasState image notes leaders states func f place s → ⊥)
      → Stood image notes leaders states come func f place
  stood : Passed image notes leaders states come func f place → Stood image notes leaders states come func f place

-- a place need not be passed again but for walks that begin at these places
pub data Rests (image : Image) (notes : Notes) (leaders : List ℕ) (states : States) (work : List ℕ) (func : ℕ) (f : FnNote) (place : ℕ)
    : Type 0 where
  rests_none : ((n : ℕ) (s : State) (c : Comes image notes leaders states func f n place s)
      → Contains work (origin image notes leaders states func f n place s c)) → Rests image notes leaders states work func f place
  rests : Passed image notes leaders states states func f place → Rests image notes leaders states work func f place

abbrev pub AllRest : Image → Notes → List ℕ → States → List ℕ → Type 0
AllRest image notes leaders states work =
    (k : ℕ) (f : FnNote) → slice_get notes.function k ≡ Some f → (p : ℕ) → p < f.end → Rests image notes leaders states work k f p

-- ---- how far a round has come

-- the round has passed all places before this one, in every function
pub record Reached (image : Image) (notes : Notes) (leaders : List ℕ) (states come : States) (place : ℕ) : Type 0 where
  pub stands : (k : ℕ) (f : FnNote) → slice_get notes.function k ≡ Some f → (p : ℕ) → p < place → p < f.end
      → Stood image notes leaders states come k f p
  pub comes : (k : ℕ) (f : FnNote) → slice_get notes.function k ≡ Some f → (leader : ℕ) → Contains leaders leader → IsWithin f leader
      → place ≤ f.end → HasCome image notes leaders states k f leader place (come leader)
  pub done : (k : ℕ) (f : FnNote) → slice_get notes.function k ≡ Some f → (leader : ℕ) → Contains leaders leader → IsWithin f leader
      → f.end ≤ place → HasCome image notes leaders states k f leader f.end (come leader)
  pub keeps : (k : ℕ) (f : FnNote) → slice_get notes.function k ≡ Some f → (leader : ℕ) → Contains leaders leader → IsWithin f leader
      → (t : State) → IsFound notes f t → Settles (states leader) t → Settles (come leader) t
  pub entered : (k : ℕ) (f : FnNote) → slice_get notes.function k ≡ Some f → Contains leaders f.place
      → Settles (come f.place) (entry_state notes k)

-- nothing falls over a place
abbrev pub IsClosed : Image → Notes → List ℕ → States → ℕ → Type 0
IsClosed image notes leaders states place =
    (k : ℕ) (f : FnNote) → slice_get notes.function k ≡ Some f → (n p : ℕ) (s : State)
    → (c : FallsTo image notes leaders k f (Comes image notes leaders states k f n) p s) → c.last < place → place ≤ p → ⊥
