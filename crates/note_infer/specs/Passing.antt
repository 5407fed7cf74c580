-- For proofs: what is known where an instruction was passed.
use Rattle.std.specs.Prelude.{◌≡◌, ℕ, ◌<◌, ◌≤◌, List, Option, Ok, length}
use Rattle.std.specs.List.{Contains}
use Rattle.ebc_insn.specs.declared.Insn.{Insn}
use Rattle.note_types.specs.Limits.{point_limit}
use Rattle.note_types.specs.Records.{IsNotes}
use Rattle.note_types.specs.declared.notes.FnNote.{FnNote}
use Rattle.note_types.specs.declared.notes.Notes.{Notes}
use Rattle.note_types.specs.declared.state.State.{State}
use Rattle.pe_image.specs.Images.{IsImage}
use Rattle.pe_image.specs.declared.image.Image.{Image}
use Rattle.rules_flow.specs.declared.successors.Successors.{Successors}
use Rattle.rules_image.specs.Images.{EndHolds, FunctionHolds, IsDecoded, PointHolds, RelocationHolds, reloc_at}
use Rattle.width_checker.specs.Rows.{here_at, row_of}
use Rattle.note_infer.specs.Leaders.{AreLeaders}
use Rattle.note_infer.specs.Rounds.{States, given, marked}
use Rattle.note_infer.specs.Coming.{Takes}
use Rattle.note_infer.specs.Reaching.{IsClosed, Reached}

-- an image under notes whose functions are as the rules ask, with the leaders as points of other notes
pub record IsSetting (image : Image) (notes other : Notes) (leaders : List ℕ) : Type 0 where
  pub sound : IsImage image
  pub read : IsNotes notes
  pub functions : (k : ℕ) → FunctionHolds image notes k
  pub all : AreLeaders image notes leaders
  pub few : length leaders ≤ point_limit notes.version
  pub marks : other ≡ marked notes leaders

-- an instruction meets its rules in a state, and what it gives was joined in
pub record Passes (image : Image) (notes : Notes) (leaders : List ℕ) (func : ℕ) (f : FnNote) (place next : ℕ) (i : Insn) (s : State)
    (old new : States) (fall : Option State) : Type 0 where
  pub decode : IsDecoded image f place i next
  pub point : PointHolds (marked notes leaders) place next
  pub relocation : RelocationHolds image notes place i next (reloc_at image next)
  pub x : Successors
  pub row : row_of (marked notes leaders) (here_at image func place next) s i ≡ Ok x
  pub takes : Takes leaders f (λ (l : ℕ). given l next x) old new
  pub ends : EndHolds f i next
  pub fall_is : x.fall ≡ fall

-- an instruction that is there passes
abbrev pub Steps : Image → Notes → List ℕ → ℕ → FnNote → ℕ → ℕ → State → States → States → Option State → Type 0
Steps image notes leaders func f place next s old new fall = (i : Insn)
    × Passes image notes leaders func f place next i s old new fall

-- a walk has passed a place of a function: the round has come further, past no other leader, and nothing falls over where the
-- walk ended
pub record HasPassed (image : Image) (notes : Notes) (leaders : List ℕ) (f : FnNote) (states come : States) (place : ℕ) : Type 0 where
  pub end : ℕ
  pub later : place < end
  pub inside : end ≤ f.end
  pub alone : (p : ℕ) → place < p → p < end → Contains leaders p → ⊥
  pub reached : Reached image notes leaders states come end
  pub closed : IsClosed image notes leaders states end
