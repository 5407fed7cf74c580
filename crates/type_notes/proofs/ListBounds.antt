-- What holds of each item of a list: of a list that was read item by item, of a list in which a search finds none, and of
-- the images of a list's items.
use Rattle.std.proofs.Common.{◌≡◌, ℕ, zero, suc, ◌+◌, ◌≤◌, ◌<◌, Bool, true, false, List, [], ◌∷◌, length, map, None, Some, Result, cond}
use Rattle.std.proofs.Common.{refl, ap, sym, subst, ◌∙◌, arith}
use Rattle.std.specs.Prelude.{IfOk, not, nat_lt, slice_get, ◌||◌}
use Rattle.std.specs.List.{list_all, list_any, position, position_or_len}
use Rattle.std.proofs.lemmas.Bool.{and_parts, lt-ltb, ltb-false, not-false}
use Rattle.std.proofs.lemmas.List.Sums.{fails_before_first}
use Rattle.std.proofs.lemmas.Option.{get_or_from_slice_get, none-some, same_Some, slice_get_within}
use Rattle.toml.specs.Data.{Data, Items, no_items, item}
use Rattle.note_types.specs.declared.fault.TomlFault.{TomlFault}
use Rattle.note_types.specs.Records.{Each}
use Rattle.note_texts.specs.Lists.{count, each}
use Rattle.note_types.proofs.RecordLaws.{each_none, each_more}
use Rattle.ebc_base.proofs.Lists.{found_within}
use Rattle.ebc_base.proofs.Given.{ok_then}

-- ---- each item

pub each_first : {A : Type 0} (P : A → Type 0) (x : A) (xs : List A) → Each P (x ∷ xs) → P x
each_first P x xs h = h 0 x refl

pub each_rest : {A : Type 0} (P : A → Type 0) (x : A) (xs : List A) → Each P (x ∷ xs) → Each P xs
each_rest P x xs h k y e = h (suc k) y e

-- what holds of the images of the items
pub each_map : {A B : Type 0} (Q : B → Type 0) (v : A → B) (xs : List A) → ((k : ℕ) (x : A) → slice_get xs k ≡ Some x → Q (v x))
    → Each Q (map v xs)
each_map Q v [] h k y e = absurd (none-some y e)
each_map Q v (x ∷ xs) h zero y e = subst Q (same_Some (v x) y e) (h zero x refl)
each_map Q v (x ∷ xs) h (suc k) y e = each_map Q v xs (λ j z i. h (suc j) z i) k y e

-- ---- tests

pub all_pass : {A : Type 0} (p : A → Bool) (xs : List A) → list_all p xs ≡ true → Each (λ x. p x ≡ true) xs
all_pass p [] e = each_none (λ x. p x ≡ true)
all_pass p (x ∷ xs) e = let h = and_parts (p x) (list_all p xs) e in each_more (λ z. p z ≡ true) x xs h.0 (all_pass p xs h.1)

-- ---- searches

none_given : {A : Type 0} (b : Bool) (x : A) → cond b (Some x) None ≡ None → b ≡ false
none_given true x e = absurd (none-some x (sym e))
none_given false x e = refl

-- where a search finds none, each item fails
pub each_fails : {A : Type 0} (p : A → Bool) (xs : List A) → position p xs ≡ None → Each (λ x. p x ≡ false) xs
each_fails p xs e k x i =
    let past : length xs ≤ position_or_len p xs = ltb-false (position_or_len p xs) (length xs)
    (none_given (nat_lt (position_or_len p xs) (length xs)) (position_or_len p xs) e) in
    let within : k < length xs = slice_get_within xs k x i in
    ap p (sym (get_or_from_slice_get xs k x x i)) ∙ fails_before_first p xs k x (omega arith)

-- the same of a search for an item that fails
pub each_passes : {A : Type 0} (p : A → Bool) (xs : List A) → position (λ x. not (p x)) xs ≡ None → Each (λ x. p x ≡ true) xs
each_passes p xs e k x i = not-false (p x) (each_fails (λ z. not (p z)) xs e k x i)

-- and it finds that number
pub found_at : {A : Type 0} (p : A → Bool) (xs : List A) → list_any p xs ≡ true → position p xs ≡ Some (position_or_len p xs)
found_at p xs e = rw (lt-ltb (position_or_len p xs) (length xs) (found_within p xs e)) refl

-- ---- readings

-- what holds of what each item reads as, and as many are read as there are
pub each_read : {A : Type 0} (P : A → Type 0) (read : ℕ → Data → Result A TomlFault) (ds : Items) (i : ℕ)
    → ((j : ℕ) (d : Data) → IfOk (read j d) P) → IfOk (each read i ds) (λ xs. (length xs ≡ count ds) × Each P xs)
unfolding each
each_read P read no_items i h = (refl, each_none P)
each_read {A} P read (item d ds) i h =
    let Q : List A → Type 0 = λ xs. (length xs ≡ count (item d ds)) × Each P xs in
    ok_then P Q (read i d) _ (h i d)
    (λ x g. ok_then (λ xs. (length xs ≡ count ds) × Each P xs) Q (each read (i + 1) ds) _ (each_read P read ds (i + 1) h)
    (λ xs r. let same : length xs ≡ count ds = r.0 in (omega arith, each_more P x xs g r.1)))
