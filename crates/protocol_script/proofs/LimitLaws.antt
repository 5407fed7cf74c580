-- Sums over the items of a list, one item more at a time, and what keeps the limits.
use Rattle.protocol_script.proofs.Common.{◌≡◌, ℕ, ◌+◌, ◌≤◌, ◌<◌, ◌^◌, zero, suc, Result, Ok, Err, List, [], ◌∷◌, ◌++◌, length, take, drop}
use Rattle.protocol_script.proofs.Common.{get_or, true, false, ◌&&◌, refl, sym, ap, subst, ◌∙◌, arith, inl, inr, cases_Bool, and_parts}
use Rattle.protocol_script.proofs.Common.{nat_tests, sum_by, nat_le, Fails, NotesEnd, TomlFault, all_pass, Notes, Script, ScriptCall}
use Rattle.protocol_script.proofs.Common.{ScriptObject, placed_objects, IsLoad, have_room, room_of}
use Rattle.std.proofs.{Common.◌⊎◌, lemmas.List.Sums.sum_by-append, lemmas.List.Sums.sum_by-take-drop}
use Rattle.protocol_script.specs.declared.limits.Load.{Load}
use Rattle.protocol_script.proofs.ObjectLaws.{length-both, placed-more, take_one}
use Rattle.note_types.specs.declared.fault.NotesEnd.TheVariants as ends

pub sum-one : {A : Type 0} (f : A → ℕ) (xs : List A) (i : ℕ) (x : A) → i < length xs → x ≡ get_or xs i x
    → sum_by f (take (i + 1) xs) ≡ sum_by f (take i xs) + f x
sum-one f xs i x within is = ap (sum_by f) (take_one xs i x within is) ∙ (sum_by-append f (take i xs) (x ∷ []) ∙ omega arith)

pub sum-within : {A : Type 0} (f : A → ℕ) (xs : List A) (i : ℕ) → sum_by f (take i xs) ≤ sum_by f xs
sum-within f xs i = let e = sum_by-take-drop f xs i in omega (arith, e)

-- a load is kept, or passes a limit
pub kept : (room objects : ℕ) → (nat_le room (2 ^ 23) && nat_le objects 4096) ≡ true → (room ≤ 2 ^ 23) × (objects ≤ 4096)
kept room objects h = let p = and_parts (nat_le room (2 ^ 23)) (nat_le objects 4096) h in
    (grind (arith, nat_tests, p.0), grind (arith, nat_tests, p.1))

pub past : (room objects : ℕ) → (nat_le room (2 ^ 23) && nat_le objects 4096) ≡ false → (2 ^ 23 < room) ⊎ (4096 < objects)
past room objects h = elim (cases_Bool (nat_le room (2 ^ 23))) [
  | inl few ↦ let e : nat_le objects 4096 ≡ false = rw few at h in inr (grind (arith, nat_tests, e))
  | inr many ↦ inl (grind (arith, nat_tests, many))
]

pub keeps : (room objects : ℕ) → room ≤ 2 ^ 23 → objects ≤ 4096 → (nat_le room (2 ^ 23) && nat_le objects 4096) ≡ true
keeps room objects a b =
    let d : nat_le room (2 ^ 23) ≡ true = grind (arith, nat_tests, a) in
    let e : nat_le objects 4096 ≡ true = grind (arith, nat_tests, b) in
    rw (d, e) refl

pub loses : (room objects : ℕ) → (2 ^ 23 < room) ⊎ (4096 < objects) → (nat_le room (2 ^ 23) && nat_le objects 4096) ≡ false
loses room objects (inl h) = let e : nat_le room (2 ^ 23) ≡ false = grind (arith, nat_tests, h) in rw e refl
loses room objects (inr h) =
    let e : nat_le objects 4096 ≡ false = grind (arith, nat_tests, h) in
    elim (cases_Bool (nat_le room (2 ^ 23))) [
      | inl few ↦ rw (few, e) refl
      | inr many ↦ rw many refl
    ]

-- ---- checks of numbers of items

split-at : {A : Type 0} (xs : List A) (i : ℕ) → i < length xs → (x : A) × (drop i xs ≡ x ∷ drop (i + 1) xs)
split-at [] i within = absurd (omega (arith, within))
split-at (x ∷ xs) zero within = (x, refl)
split-at (x ∷ xs) (suc i) within =
    let r = split-at xs i (omega (arith, within)) in
    let e : suc i + 1 ≡ suc (i + 1) = omega arith in
    (r.0, rw e r.1)

module _ {A : Type 0} (check : ℕ → Result (Unit {0}) TomlFault) (i : ℕ) (xs : List A) (total : Result (Unit {0}) TomlFault)
    (so_far : all_pass (λ k (x : A). check k) i (drop i xs) ≡ total) where
  pub number-on : i < length xs → check i ≡ Ok tt → all_pass (λ k (x : A). check k) (i + 1) (drop (i + 1) xs) ≡ total
  unfolding all_pass
  number-on within h =
      let one : all_pass (λ k (x : A). check k) i (drop i xs) ≡ all_pass (λ k (x : A). check k) (i + 1) (drop (i + 1) xs) =
      rw ((split-at xs i within).1, h) refl in
      sym one ∙ so_far

  pub number-stop : (e : NotesEnd) → i < length xs → Fails e (check i) → Fails e total
  unfolding all_pass
  number-stop ends.NoMemory within h = tt
  number-stop (ends.Fault f) within h =
      let one : all_pass (λ k (x : A). check k) i (drop i xs) ≡ Err f = rw ((split-at xs i within).1, h) refl in
      sym so_far ∙ one

-- ---- what a call makes

module _ (notes : Notes) (script : Script) (calls : List ScriptCall) (same : calls ≡ script.call) (i : ℕ) (c : ScriptCall)
    (within : i < length calls) (is : c ≡ get_or calls i c) (make : List ScriptObject) (makes : make ≡ c.make) (load : Load)
    (before : IsLoad notes (placed_objects script i) load) where
  grown : placed_objects script (i + 1) ≡ placed_objects script i ++ make
  grown = let below : i < length script.call = subst (λ (z : List ScriptCall). i < length z) same within in
      let here : c ≡ get_or script.call i c = is ∙ ap (λ (z : List ScriptCall). get_or z i c) same in
      placed-more script i c below here ∙ ap (λ (z : List ScriptObject). placed_objects script i ++ z) (sym makes)

  room-grown : sum_by (room_of notes) (placed_objects script (i + 1)) ≡ load.room + sum_by (room_of notes) make
  room-grown = ap (sum_by (room_of notes)) grown ∙ (sum_by-append (room_of notes) (placed_objects script i) make
      ∙ ap (λ z. z + sum_by (room_of notes) make) (sym before.room))

  count-grown : length (placed_objects script (i + 1)) ≡ load.objects + length make
  count-grown = ap length grown ∙ (length-both (placed_objects script i) make ∙ ap (λ z. z + length make) (sym before.objects))

  pub made-lost : (2 ^ 23 < load.room + sum_by (room_of notes) make) ⊎ (4096 < load.objects + length make)
      → have_room notes (placed_objects script (i + 1)) ≡ false
  made-lost h = rw (room-grown, count-grown) (loses (load.room + sum_by (room_of notes) make) (load.objects + length make) h)

  module _ (after : Load) (room : after.room ≡ load.room + sum_by (room_of notes) make)
      (objects : after.objects ≡ load.objects + length make) (few : (after.room ≤ 2 ^ 23) × (after.objects ≤ 4096)) where
    pub made-load : IsLoad notes (placed_objects script (i + 1)) after
    made-load = record { room = room ∙ sym room-grown; objects = objects ∙ sym count-grown; within = few }

    pub made-kept : have_room notes (placed_objects script (i + 1)) ≡ true
    made-kept = rw (room-grown, count-grown, ← room, ← objects) (keeps after.room after.objects few.0 few.1)
