-- The bits of a set of fields that names name.
use Rattle.std.proofs.Common.{◌≡◌, ℕ, ◌<◌, ◌^◌, List, [], ◌∷◌, ◌⊎◌, inl, inr, Option, Some, None, max, refl, ap, sym, ◌∙◌, ⊎_elim, arith}
use Rattle.std.specs.Prelude.{bytes_eq}
use Rattle.std.specs.Int.{bit_at}
use Rattle.std.specs.Int.Bits.{bit_or}
use Rattle.std.specs.List.{fold, position}
use Rattle.std.proofs.lemmas.Bool.{cases_lt, le-ltb, lt-ltb}
use Rattle.std.proofs.lemmas.Nat.Bits.{bit_at-lt, bit_at_or, bit_at-pow_other, bit_at-pow_same, bit_at-zero}
use Rattle.note_types.specs.FieldSets.{HasField}
use Rattle.note_texts.specs.declared.cell.FieldText.{FieldText}
use Rattle.type_notes.specs.Locals.{IsFieldSet, SomeNames, below_64, field_bit, field_number, field_set}

-- the bit of a number that was found is set exactly where it is that one, below 64
bit-sound : (found : Option ℕ) (f : ℕ) → HasField (field_bit (below_64 found)) f → (f < 64) × (found ≡ Some f)
bit-sound None f h =
    let z : bit_at 0 f ≡ 0 = bit_at-zero f in
    let q : bit_at 0 f ≡ 1 = h in
    absurd (omega arith)
bit-sound (Some m) f h =
    ⊎_elim
    (λ below.
    let n : below_64 (Some m) ≡ m = rw (lt-ltb m 64 below) refl in
    let b : field_bit m ≡ 2 ^ m = rw (lt-ltb m 64 below) refl in
    let p : bit_at (2 ^ m) f ≡ 1 = ap (λ x. bit_at x f) (sym (ap field_bit n ∙ b)) ∙ h in
    ⊎_elim
    (λ lower. let z : bit_at (2 ^ m) f ≡ 0 = bit_at-pow_other m f (λ e. omega arith) in absurd (omega arith))
    (λ least. ⊎_elim
    (λ higher. let z : bit_at (2 ^ m) f ≡ 0 = bit_at-pow_other m f (λ e. omega arith) in absurd (omega arith))
    (λ most. let same : m ≡ f = omega arith in (omega arith, ap Some same))
    (cases_lt m f))
    (cases_lt f m))
    (λ above.
    let n : below_64 (Some m) ≡ 64 = rw (le-ltb m 64 above) refl in
    let z : bit_at (field_bit (below_64 (Some m))) f ≡ 0 = ap (λ x. bit_at (field_bit x) f) n ∙ bit_at-zero f in
    let q : bit_at (field_bit (below_64 (Some m))) f ≡ 1 = h in
    absurd (omega arith))
    (cases_lt m 64)

bit-complete : (found : Option ℕ) (f : ℕ) → f < 64 → found ≡ Some f → HasField (field_bit (below_64 found)) f
bit-complete found f small e = rw (e, lt-ltb f 64 small) (rw (lt-ltb f 64 small) (bit_at-pow_same f))

-- a field of one set or of the other
or-sound : (a b f : ℕ) → HasField (bit_or a b) f → HasField a f ⊎ HasField b f
or-sound a b f h =
    let e : max (bit_at a f) (bit_at b f) ≡ 1 = sym (bit_at_or a b f) ∙ h in
    let x : bit_at a f < 2 = bit_at-lt a f in
    let y : bit_at b f < 2 = bit_at-lt b f in
    ⊎_elim (λ none. let r : bit_at b f ≡ 1 = omega arith in inr r) (λ some. let l : bit_at a f ≡ 1 = omega arith in inl l)
    (cases_lt (bit_at a f) 1)

or-left : (a b f : ℕ) → HasField a f → HasField (bit_or a b) f
or-left a b f h =
    let y : bit_at b f < 2 = bit_at-lt b f in
    let x : bit_at a f ≡ 1 = h in
    let m : max (bit_at a f) (bit_at b f) ≡ 1 = omega arith in
    bit_at_or a b f ∙ m

or-right : (a b f : ℕ) → HasField b f → HasField (bit_or a b) f
or-right a b f h =
    let x : bit_at a f < 2 = bit_at-lt a f in
    let y : bit_at b f ≡ 1 = h in
    let m : max (bit_at a f) (bit_at b f) ≡ 1 = omega arith in
    bit_at_or a b f ∙ m

sound : (fields : List FieldText) (names : List (List ℕ)) (set f : ℕ)
    → HasField (fold (λ s name. bit_or s (field_bit (field_number fields name))) set names) f → HasField set f
    ⊎ ((f < 64) × SomeNames fields f names)
unfolding field_number
sound fields [] set f h = inl h
sound fields (name ∷ names) set f h =
    ⊎_elim
    (λ first. ⊎_elim (λ before. inl before) (λ here. let p = bit-sound (position (λ x. bytes_eq x.name name) fields) f here in
    inr (p.0, inl p.1)) (or-sound set (field_bit (field_number fields name)) f first))
    (λ later. inr (later.0, inr later.1))
    (sound fields names (bit_or set (field_bit (field_number fields name))) f h)

complete : (fields : List FieldText) (names : List (List ℕ)) (set f : ℕ) → HasField set f ⊎ ((f < 64) × SomeNames fields f names)
    → HasField (fold (λ s name. bit_or s (field_bit (field_number fields name))) set names) f
unfolding field_number
complete fields [] set f (inl h) = h
complete fields [] set f (inr h) = absurd h.1
complete fields (name ∷ names) set f (inl h) = complete fields names (bit_or set (field_bit (field_number fields name))) f
    (inl (or-left set (field_bit (field_number fields name)) f h))
complete fields (name ∷ names) set f (inr h) =
    ⊎_elim
    (λ here. complete fields names (bit_or set (field_bit (field_number fields name))) f
    (inl (or-right set (field_bit (field_number fields name)) f
    (bit-complete (position (λ x. bytes_eq x.name name) fields) f h.0 here))))
    (λ later. complete fields names (bit_or set (field_bit (field_number fields name))) f (inr (h.0, later)))
    h.1

none_at_0 : (f : ℕ) → HasField 0 f → ⊥
none_at_0 f h =
    let z : bit_at 0 f ≡ 0 = bit_at-zero f in
    let q : bit_at 0 f ≡ 1 = h in
    omega arith

-- the set of the fields that names name has just these
pub field_set-fields : (fields : List FieldText) (names : List (List ℕ)) → IsFieldSet fields names (field_set fields names)
unfolding field_set
field_set-fields fields names f = (
  λ h. ⊎_elim (λ none. absurd (none_at_0 f none)) (λ named. named) (sound fields names 0 f h),
  λ h. complete fields names 0 f (inr h),
)
