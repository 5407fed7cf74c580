-- Distinct names, and the item that a name's number is of.
use Rattle.std.proofs.Common.{◌≡◌, ℕ, ◌<◌, Bool, true, false, List, [], ◌∷◌, length, map, filter, get_or, cond, Some, refl, ap, sym, ◌∙◌}
use Rattle.std.proofs.Common.{arith}
use Rattle.std.specs.Prelude.{bytes_eq, not, slice_get, ◌&&◌, ◌||◌}
use Rattle.std.specs.List.{list_any}
use Rattle.std.proofs.lemmas.List.{get_or-map, length-map}
use Rattle.std.proofs.lemmas.List.Sums.{passes_at_first}
use Rattle.std.proofs.lemmas.Map.Views.{any-filter_same}
use Rattle.std.proofs.lemmas.Option.{get_or_from_slice_get}
use Rattle.std.proofs.lemmas.Slice.Eq.{bytes_eq-Decides}
use Rattle.note_types.specs.Records.{Each}
use Rattle.ebc_base.specs.Tables.{is_named, name_number}
use Rattle.note_draft.specs.Names.{distinct}
use Rattle.type_notes.proofs.ListBounds.{each_first, each_rest}
use Rattle.ebc_base.proofs.Lists.{within_some, found_within}
use Rattle.note_types.proofs.RecordLaws.{each_none, each_more}

-- ---- distinct names

kept_if : {A : Type 0} (P : A → Type 0) (b : Bool) (x : A) (xs : List A) → P x → Each P xs → Each P (cond b (x ∷ xs) xs)
kept_if P true x xs h g = each_more P x xs h g
kept_if P false x xs h g = g

each_filter : {A : Type 0} (P : A → Type 0) (p : A → Bool) (xs : List A) → Each P xs → Each P (filter p xs)
each_filter P p [] h = each_none P
each_filter P p (x ∷ xs) h = kept_if P (p x) x (filter p xs) (each_first P x xs h) (each_filter P p xs (each_rest P x xs h))

-- what holds of each name holds of each distinct one
pub each_distinct : (P : List ℕ → Type 0) (names : List (List ℕ)) → Each P names → Each P (distinct names)
unfolding distinct
each_distinct P [] h = each_none P
each_distinct P (name ∷ names) h =
    each_more P name (filter (λ other. not (bytes_eq other name)) (distinct names)) (each_first P name names h)
    (each_filter P (λ other. not (bytes_eq other name)) (distinct names) (each_distinct P names (each_rest P name names h)))

one_or : (b r : Bool) → r ≡ true → (b || (not b && r)) ≡ true
one_or true r e = refl
one_or false r e = e

-- each name is among the distinct ones
pub distinct_has : (names : List (List ℕ)) → Each (λ m. is_named m (distinct names) ≡ true) names
unfolding distinct
distinct_has [] = each_none (λ m. is_named m (distinct []) ≡ true)
distinct_has (name ∷ names) = each_more Has name names first (λ k m e. among m (distinct_has names k m e))
  where
    Has : List ℕ → Type 0
    Has m = is_named m (distinct (name ∷ names)) ≡ true

    first : Has name
    first = ap (λ b. b || list_any (bytes_eq name) (filter (λ other. not (bytes_eq other name)) (distinct names)))
        ((bytes_eq-Decides name name).1 refl)

    among : (m : List ℕ) → is_named m (distinct names) ≡ true → Has m
    among m e =
        ap (λ b. bytes_eq m name || b) (any-filter_same (bytes_eq m) (λ other. not (bytes_eq other name)) (not (bytes_eq m name))
        (λ k same. ap (λ x. not (bytes_eq x name)) (sym ((bytes_eq-Decides m k).0 same))) (distinct names))
        ∙ one_or (bytes_eq m name) (is_named m (distinct names)) e

-- ---- the item of a name

-- the item whose name it is
pub named_item : {A : Type 0} (v : A → List ℕ) (xs : List A) (names : List (List ℕ)) (name : List ℕ) → names ≡ map v xs
    → is_named name names ≡ true → (x : A) × (slice_get xs (name_number name names) ≡ Some x) × (bytes_eq (v x) name ≡ true)
named_item v xs names name same e =
    let within : name_number name names < length names = found_within (bytes_eq name) names e in
    let long : length names ≡ length xs = ap length same ∙ length-map xs v in
    let found = within_some xs (name_number name names) (omega arith) in
    let x = found.0 in
    let here : get_or names (name_number name names) (v x) ≡ v x =
    ap (λ ns. get_or ns (name_number name names) (v x)) same
    ∙ (get_or-map v xs (name_number name names) x (v x) (omega arith)
    ∙ ap v (get_or_from_slice_get xs (name_number name names) x x found.1)) in
    let passes : bytes_eq name (get_or names (name_number name names) (v x)) ≡ true = passes_at_first (bytes_eq name) names (v x) within in
    let equal : name ≡ v x = (bytes_eq-Decides name (v x)).0 (sym (ap (bytes_eq name) here) ∙ passes) in
    (x, found.1, (bytes_eq-Decides (v x) name).1 (sym equal))
