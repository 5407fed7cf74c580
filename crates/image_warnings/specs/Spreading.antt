-- For proofs: how the places are found at which bits of R7 may be as a native call left them.
use Rattle.std.specs.Prelude.{◌≡◌, ◌↔◌, ℕ, suc, ◌+◌, ◌-◌, ◌<◌, Bool, true, false, IsTrue, List, [], ◌∷◌, ◌++◌, Some, length, slice_get}
use Rattle.std.specs.List.{Contains}
use Rattle.note_types.specs.declared.notes.FnNote.{FnNote}
use Rattle.pe_image.specs.declared.image.Image.{Image}
use Rattle.image_warnings.specs.Uncut.{BeginsAt, ComesFromSuch, ComesUncut, GoesOn, UncutAt, Way}
use Rattle.image_warnings.specs.declared.spread.Spread.{Spread}

-- each byte of a function's code has a mark, which says whether they may be so at its place
pub record AreUncut (image : Image) (f : FnNote) (way : Way) (marks : List Bool) : Type 0 where
  pub size : length marks ≡ f.end - f.place
  pub exact : (k : ℕ) (b : Bool) → slice_get marks k ≡ Some b → IsTrue b ↔ UncutAt image f way (f.place + k)

-- ---- how far they are found

-- how many marks don't say so
unfoldable pub unmarked : List Bool → ℕ
unmarked [] = 0
unmarked (true ∷ marks) = unmarked marks
unmarked (false ∷ marks) = suc (unmarked marks)

-- they may be so at each place that is reached, and just these are marked, each reached once
pub record IsSpread (image : Image) (f : FnNote) (way : Way) (s : Spread) : Type 0 where
  pub size : length s.marks.items ≡ f.end - f.place
  pub uncut : (p : ℕ) → Contains s.reached.items p → UncutAt image f way p
  pub marked : (k : ℕ) → (slice_get s.marks.items k ≡ Some true) ↔ Contains s.reached.items (f.place + k)
  pub once : unmarked s.marks.items + length s.reached.items ≡ length s.marks.items

-- a list goes on behind another one
abbrev pub Extends : List ℕ → List ℕ → Type 0
Extends xs ys = (zs : List ℕ) × (ys ≡ xs ++ zs)

-- the places are reached to which the instructions before a place lead behind which a path begins
abbrev pub ReachesCallsBefore : Image → FnNote → Way → ℕ → List ℕ → Type 0
ReachesCallsBefore image f way place reached =
    (q : ℕ) → ComesFromSuch image f (λ p i. (p < place) × BeginsAt image f way p i) q → Contains reached q

-- those to which all such instructions lead are
abbrev pub ReachesCalls : Image → FnNote → Way → List ℕ → Type 0
ReachesCalls image f way reached = (q : ℕ) → ComesUncut image f way 0 q → Contains reached q

-- a place is followed: those to which the instruction there leads are reached, if a path goes on over it
abbrev pub IsFollowed : Image → FnNote → Way → ℕ → List ℕ → Type 0
IsFollowed image f way place reached = (q : ℕ) → ComesFromSuch image f (GoesOn way (λ p. p ≡ place)) q → Contains reached q

-- so many of the places that are reached are followed
abbrev pub AreFollowed : Image → FnNote → Way → ℕ → List ℕ → Type 0
AreFollowed image f way count reached = (k p : ℕ) → k < count → slice_get reached k ≡ Some p → IsFollowed image f way p reached
