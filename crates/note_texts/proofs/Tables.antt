-- What is read by a table of words.
use Rattle.std.proofs.Common.{◌≡◌, ℕ, List, Option, Some, None, cond, refl, subst, inl, inr}
use Rattle.std.proofs.lemmas.Bool.{cases_Bool}
use Rattle.std.proofs.lemmas.Option.{same_Some}
use Rattle.std.proofs.lemmas.Slice.Eq.{bytes_eq-Decides}
use Rattle.std.specs.Prelude.{option_map, bytes_eq}

-- one line of a table of words
pub by_word : {A : Type 0} {P : Type 0} (word lit : List ℕ) (here further : Option A) (x : A)
    → cond (bytes_eq word lit) here further ≡ Some x
    → (word ≡ lit → here ≡ Some x → P) → (further ≡ Some x → P) → P
by_word word lit here further x h one rest = elim (cases_Bool (bytes_eq word lit)) [
  | inl same ↦ let d = bytes_eq-Decides word lit in one (d.0 same) (rw same at h)
  | inr other ↦ rest (rw other at h)
]

-- what holds of the value that a line gives holds of the value that was read
pub moved : {A : Type 0} (P : A → Type 0) (x y : A) → Some x ≡ Some y → P x → P y
moved P x y e h = subst P (same_Some x y e) h

pub map_some : {A B : Type 0} {P : Type 0} (f : A → B) (o : Option A) (y : B) → option_map f o ≡ Some y
    → ((x : A) → o ≡ Some x → Some (f x) ≡ Some y → P) → P
map_some f None y h k = cc h
map_some f (Some x) y h k = k x refl h

pub none_read : {A P : Type 0} (x : A) → None ≡ Some x → P
none_read x h = cc h
