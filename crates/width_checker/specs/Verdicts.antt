-- Meaning: the verdict on an image under notes: neutral where it is typed, and else the first place at which a rule fails,
-- with the first rule that fails there. docs/RULES.md, "The verdict", has the words.
use Rattle.std.specs.Prelude.{◌≡◌, ℕ, ◌<◌, Ok, Err, Some, slice_get}
use Rattle.ebc_insn.specs.declared.Insn.{Insn}
use Rattle.note_types.specs.declared.notes.FnNote.{FnNote}
use Rattle.note_types.specs.declared.notes.Notes.{Notes}
use Rattle.note_types.specs.declared.notes.Static.{Static}
use Rattle.note_types.specs.declared.notes.Thunk.{Thunk}
use Rattle.note_types.specs.declared.rule.RuleName.{RuleName}
use Rattle.note_types.specs.declared.rule.RuleName.TheVariants as rule
use Rattle.note_types.specs.declared.state.State.{State}
use Rattle.pe_image.specs.declared.image.Image.{Image}
use Rattle.rules_base.specs.FirstRule.{IsFirst}
use Rattle.rules_image.specs.Images.{EndHolds, FunctionHolds, IsDecoded, PointHolds, RelocationHolds, ShapeHolds, StaticHolds, ThunkHolds}
use Rattle.rules_image.specs.Images.{reloc_at, IsFirstFailing}
use Rattle.rules_flow.specs.declared.successors.Successors.{Successors}
use Rattle.plain_check.specs.declared.verdict.Verdict.{Verdict}
use Rattle.plain_check.specs.declared.verdict.Verdict.TheVariants.{Neutral, Refused}
use Rattle.rules_image.specs.Places.{IsPlaceOf}
use Rattle.width_checker.specs.StatesAt.{StateAt}
use Rattle.width_checker.specs.Rows.{here_at, row_of}
use Rattle.width_checker.specs.Typed.{BelowHolds, MeetsRules, TablesHold, Typed}

-- ---- shapes, functions, static objects and thunk cells

-- the first shape that isn't well formed is refused; its place is its number
pub record RefusesShape (notes : Notes) (place : ℕ) : Type 0 where
  pub first : IsFirstFailing (ShapeHolds notes) place

-- the first function of which the rule doesn't hold, where it holds of all shapes
pub record RefusesFunction (image : Image) (notes : Notes) (place : ℕ) : Type 0 where
  pub shapes : (k : ℕ) → ShapeHolds notes k
  pub number : ℕ
  pub f : FnNote
  pub there : slice_get notes.function number ≡ Some f
  pub first : IsFirstFailing (FunctionHolds image notes) number
  pub at : place ≡ f.place

-- the first static object of which the rule doesn't hold, where the rules of shapes and functions hold
pub record RefusesStatic (image : Image) (notes : Notes) (place : ℕ) : Type 0 where
  pub shapes : (k : ℕ) → ShapeHolds notes k
  pub functions : (k : ℕ) → FunctionHolds image notes k
  pub number : ℕ
  pub x : Static
  pub there : slice_get notes.statics number ≡ Some x
  pub first : IsFirstFailing (StaticHolds image notes) number
  pub at : place ≡ x.place

-- the first thunk cell of which the rule doesn't hold, where the rule holds of all static objects too
pub record RefusesThunk (image : Image) (notes : Notes) (place : ℕ) : Type 0 where
  pub shapes : (k : ℕ) → ShapeHolds notes k
  pub functions : (k : ℕ) → FunctionHolds image notes k
  pub statics : (k : ℕ) → StaticHolds image notes k
  pub number : ℕ
  pub x : Thunk
  pub there : slice_get notes.thunk number ≡ Some x
  pub first : IsFirstFailing (ThunkHolds image notes) number
  pub at : place ≡ x.place

-- ---- instructions

-- an instruction decodes at a place, and goes on to the next one
pub record IsInsn (image : Image) (f : FnNote) (place : ℕ) : Type 0 where
  pub insn : Insn
  pub next : ℕ
  pub decode : IsDecoded image f place insn next

-- there is a state before the instruction at a place
abbrev pub HasState : Image → Notes → ℕ → FnNote → ℕ → Type 0
HasState image notes func f place = (s : State) × StateAt image notes func f place s

-- The rules that fail at a place of function `func`. Those behind `decode` are asked of the instruction there. Those of its
-- row are asked in the state before it, where the rules tried before them hold, and `below` of the states to which the row
-- leads.
pub data FailsAt (image : Image) (notes : Notes) (func : ℕ) (f : FnNote) (place : ℕ) (r : RuleName) : Type 0 where
  fails_decode : ¬ IsInsn image f place → r ≡ rule.Decode → FailsAt image notes func f place r
  fails_state : ¬ HasState image notes func f place → r ≡ rule.State → FailsAt image notes func f place r
  fails_point : (i : Insn) (next : ℕ) → IsDecoded image f place i next → ¬ PointHolds notes place next → r ≡ rule.Point
      → FailsAt image notes func f place r
  fails_relocation : (i : Insn) (next : ℕ) → IsDecoded image f place i next
      → ¬ RelocationHolds image notes place i next (reloc_at image next) → r ≡ rule.Relocation → FailsAt image notes func f place r
  fails_row : (i : Insn) (next : ℕ) (s : State) → IsDecoded image f place i next → StateAt image notes func f place s
      → PointHolds notes place next → RelocationHolds image notes place i next (reloc_at image next)
      → row_of notes (here_at image func place next) s i ≡ Err r → FailsAt image notes func f place r
  fails_below : (i : Insn) (next : ℕ) (s : State) (x : Successors) → IsDecoded image f place i next
      → StateAt image notes func f place s → row_of notes (here_at image func place next) s i ≡ Ok x
      → ¬ BelowHolds notes func f place next x → r ≡ rule.Below → FailsAt image notes func f place r
  fails_end : (i : Insn) (next : ℕ) → IsDecoded image f place i next → ¬ EndHolds f i next → r ≡ rule.End
      → FailsAt image notes func f place r

-- each place of a function before this one meets its rules
abbrev pub AllMeetBefore : Image → Notes → ℕ → Type 0
AllMeetBefore image notes place =
    (k : ℕ) (f : FnNote) → slice_get notes.function k ≡ Some f → (p : ℕ) → IsPlaceOf image f p → p < place → MeetsRules image notes k f p

-- the first place of a function at which a rule fails, where the rules of shapes, functions, static objects and thunk cells
-- hold, and the first rule that fails there
pub record RefusesInsn (image : Image) (notes : Notes) (place : ℕ) (r : RuleName) : Type 0 where
  pub tables : TablesHold image notes
  pub number : ℕ
  pub f : FnNote
  pub there : slice_get notes.function number ≡ Some f
  pub reached : IsPlaceOf image f place
  pub fails : IsFirst (FailsAt image notes number f place) r
  pub before : AllMeetBefore image notes place

-- ---- the verdict

-- the image is refused at a place by a rule
pub data IsRefused (image : Image) (notes : Notes) (place : ℕ) (r : RuleName) : Type 0 where
  by_shape : RefusesShape notes place → r ≡ rule.Shape → IsRefused image notes place r
  by_function : RefusesFunction image notes place → r ≡ rule.Function → IsRefused image notes place r
  by_static : RefusesStatic image notes place → r ≡ rule.Static → IsRefused image notes place r
  by_thunk : RefusesThunk image notes place → r ≡ rule.Static → IsRefused image notes place r
  by_insn : RefusesInsn image notes place r → IsRefused image notes place r

-- the verdict: neutral where the image is typed, else refused as above
abbrev pub IsVerdict : Image → Notes → Verdict → Type 0
IsVerdict image notes Neutral = Typed image notes
IsVerdict image notes (Refused place r) = IsRefused image notes place r
