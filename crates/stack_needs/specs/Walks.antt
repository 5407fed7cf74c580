-- For proofs: what walks have seen, and the functions whose calls are being looked at.
use Rattle.std.specs.Prelude.{◌≡◌, ◌⊎◌, ◌<◌, ℕ, ◌+◌, ◌*◌, List, [], ◌∷◌, ◌++◌, All, map, Option, Some, pos, slice_get}
use Rattle.ebc_insn.specs.declared.Insn.{Insn}
use Rattle.note_types.specs.declared.notes.FnNote.{FnNote}
use Rattle.note_types.specs.declared.notes.Notes.{Notes}
use Rattle.pe_image.specs.declared.image.Image.{Image}
use Rattle.rules_image.specs.Images.{reloc_at}
use Rattle.stack_needs.specs.Calls.{CallsFrom, HasChain, called_place}
use Rattle.stack_needs.specs.Ways.{HasWay, IsUneven}
use Rattle.stack_needs.specs.declared.depth.Depth.{Depth}
use Rattle.stack_needs.specs.declared.order.Mark.{Mark}
use Rattle.stack_needs.specs.declared.order.Mark.TheVariants.{Open}
use Rattle.stack_needs.specs.declared.order.Visit.{Visit}
use Rattle.stack_needs.specs.declared.outcome.NotFound.{NotFound}
use Rattle.stack_needs.specs.declared.outcome.NotFound.TheVariants as ends
use Rattle.stack_needs.specs.declared.walk.Called.{Called}
use Rattle.stack_needs.specs.declared.walk.Course.{Course}
use Rattle.stack_needs.specs.declared.walk.Reached.{Reached}
use Rattle.stack_needs.specs.declared.walk.Walked.{Walked}

-- ---- the walk through a function

-- an instruction before `next` calls the function of this number
pub record IsCallee (image : Image) (notes : Notes) (next : ℕ) (i : Insn) (callee : ℕ) : Type 0 where
  pub g : FnNote
  pub there : slice_get notes.function callee ≡ Some g
  pub calls : called_place next (reloc_at image next) i ≡ Some (pos g.place)

-- a place was come to with so much on the stack
abbrev pub IsReachedPlace : Image → FnNote → Reached → Type 0
IsReachedPlace image f r = HasWay image f r.place r.depth

-- each call that was seen is one
abbrev pub AreCalls : Image → Notes → FnNote → List Called → Type 0
AreCalls image notes f calls = All (λ (c : Called). CallsFrom image notes f c.function) calls

-- what is written at even places is what some way leaves there
abbrev pub AreWrittenDepths : Image → FnNote → List (Option Depth) → Type 0
AreWrittenDepths image f at = (k : ℕ) (d : Depth) → slice_get at k ≡ Some (Some d) → HasWay image f (f.place + 2 * k) d

-- a walk under way has seen what is there
pub record IsCourse (image : Image) (notes : Notes) (f : FnNote) (c : Course) : Type 0 where
  pub at : AreWrittenDepths image f c.at.items
  pub pending : All (IsReachedPlace image f) c.pending.items
  pub calls : AreCalls image notes f c.walked.calls.items

-- a walk ends where two ways differ, or memory ran out
abbrev pub EndsWalk : Image → FnNote → NotFound → Type 0
EndsWalk image f (ends.Uneven place) = IsUneven image f place
EndsWalk image f ends.NoMemory = Unit {0}
EndsWalk image f (ends.Recursion function) = ⊥

-- ---- the order of functions

-- a walk has a call of a function
abbrev pub Sees : List Walked → ℕ → ℕ → Type 0
Sees walks k j = (w : Walked) × ((slice_get walks k ≡ Some w)
    × ((i : ℕ) × ((c : Called) × ((slice_get w.calls.items i ≡ Some c) × (c.function ≡ j)))))

-- the functions of visits
abbrev pub functions_of : List Visit → List ℕ
functions_of visits = map (λ (v : Visit). v.function) visits

-- Calls lead from each of the functions to each behind it, and a function that is open is one of them.
pub record IsStack (R : ℕ → ℕ → Type 0) (marks : List Mark) (stack : List ℕ) : Type 0 where
  pub leads : (i j k l : ℕ) → i < j → slice_get stack i ≡ Some k → slice_get stack j ≡ Some l → HasChain R k l
  pub opened : (k : ℕ) → slice_get marks k ≡ Some Open → (i : ℕ) × (slice_get stack i ≡ Some k)

-- the last of the functions calls one
abbrev pub LastCalls : (ℕ → ℕ → Type 0) → List ℕ → ℕ → Type 0
LastCalls R stack k = (stack ≡ []) ⊎ ((before : List ℕ) × ((last : ℕ) × ((stack ≡ before ++ last ∷ []) × R last k)))

-- a search ends where calls lead back, or memory ran out
abbrev pub EndsSearch : (ℕ → ℕ → Type 0) → NotFound → Type 0
EndsSearch R (ends.Recursion function) = HasChain R function function
EndsSearch R ends.NoMemory = Unit {0}
EndsSearch R (ends.Uneven place) = ⊥
