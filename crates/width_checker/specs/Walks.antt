-- For proofs: how the checker goes through sorted lists and through a function's code, each by the place where it stands.
use Rattle.std.specs.Prelude.{◌≡◌, ◌↔◌, ℕ, ◌+◌, ◌-◌, ◌<◌, ◌≤◌, Option, Some, slice_get}
use Rattle.note_types.specs.declared.notes.FnNote.{FnNote}
use Rattle.note_types.specs.declared.notes.Notes.{Notes}
use Rattle.note_types.specs.declared.state.State.{State}
use Rattle.pe_image.specs.declared.image.Image.{Image}
use Rattle.rules_base.specs.FirstRule.{IsFirst}
use Rattle.rules_image.specs.declared.marks.Marks.{Marks}
use Rattle.width_checker.specs.declared.refusal.Refusal.{Refusal}
use Rattle.rules_image.specs.Places.{IsPlaceOf}
use Rattle.width_checker.specs.StatesAt.{Comes, IsBefore}
use Rattle.width_checker.specs.Typed.{MeetsRules}
use Rattle.width_checker.specs.Verdicts.{FailsAt}
use Rattle.rules_image.specs.Marks.{PointsFrom, RelocsFrom}
use Rattle.ebc_base.specs.Steps.{only_if}

-- ---- sorted lists

-- ---- code

-- what comes to a place, where it is one of the function's
abbrev pub ComesTo : Image → Notes → ℕ → FnNote → ℕ → Option State → Type 0
ComesTo image notes func f place come = (n : ℕ) × Comes image notes func f n place come

-- The checker stands at a place of a function, or at its end: in the lists, and with the state that comes.
pub record StandsAt (image : Image) (notes : Notes) (func : ℕ) (f : FnNote) (place : ℕ) (marks : Marks) (s : State) : Type 0 where
  pub points : PointsFrom notes place marks.point
  pub relocs : RelocsFrom image place marks.reloc
  pub within : place ≤ f.end
  pub comes : place < f.end → ComesTo image notes func f place (only_if marks.falls s)

-- the places of a function before this one meet their rules
abbrev pub AllMeetBelow : Image → Notes → ℕ → FnNote → ℕ → Type 0
AllMeetBelow image notes func f place = (p : ℕ) → IsPlaceOf image f p → p < place → MeetsRules image notes func f p

-- the state before the instruction at a place is the one that comes from now on, or there is none
abbrev pub Arrives : Notes → ℕ → Option State → Option State → Type 0
Arrives notes place come after = (s : State) → (after ≡ Some s) ↔ IsBefore notes place come s

-- An instruction was passed: it meets its rules, and the checker stands at the next place.
pub record Passes (image : Image) (notes : Notes) (func : ℕ) (f : FnNote) (place next : ℕ) (marks : Marks) (s : State) : Type 0 where
  pub meets : MeetsRules image notes func f place
  pub next_is : meets.next ≡ next
  pub stands : StandsAt image notes func f next marks s

-- the walk through a function stops at the first of its places at which a rule fails, by the first rule that fails there
pub record FailsIn (image : Image) (notes : Notes) (func : ℕ) (f : FnNote) (r : Refusal) : Type 0 where
  pub reached : IsPlaceOf image f r.place
  pub before : AllMeetBelow image notes func f r.place
  pub fails : IsFirst (FailsAt image notes func f r.place) r.rule

-- the functions before this one meet their rules
abbrev pub FunctionsMeet : Image → Notes → ℕ → Type 0
FunctionsMeet image notes n = (k : ℕ) (f : FnNote) → k < n → slice_get notes.function k ≡ Some f → (p : ℕ) → IsPlaceOf image f p
    → MeetsRules image notes k f p
