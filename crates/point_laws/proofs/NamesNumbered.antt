-- Names that stand once: each is the name of the thing with its number, and fields are their sets again.
use Rattle.point_laws.proofs.Common.{AllByRecursion, field_set-below, position_or_len, range_with_len, slice_get-get_or, slice_get_within}
use Rattle.point_laws.proofs.Common.{ap, inr, map, suc, sym, [], ◌%◌, ◌+◌, ◌/◌, ◌<◌, ◌^◌, ◌∙◌, ◌∷◌, ◌≡◌, ◌≤◌}
use Rattle.point_laws.proofs.Common.{arith, Bool, false, filter, get_or, inl, length, List, lt-ltb, refl, Some, subst, true, zero, ⊎_elim}
use Rattle.point_laws.proofs.Common.{bit_at, bytes_eq, cases_lt, eq-eqb, Field, has_field, HasField, Option, position, same_Some, slice_get}
use Rattle.point_laws.proofs.Common.{bit_at-lt, cond_both, field_name, field_set, FieldText, NameTables, option_map, SomeNames, within_some}
use Rattle.point_laws.proofs.Common.{bytes_eq-Decides, field_set-fields, get_or_from_slice_get, position_or_len_is, same_from_bits_below, ℕ}
use Rattle.point_laws.proofs.Common.{field_names, field_number, has, name_number, names_below, option_map_or, resolved_field, slice_get-map}
use Rattle.point_laws.proofs.NoneAgain.{all_kept, all_of}

-- things of one name are one
abbrev pub Once : {A : Type 0} → (A → List ℕ) → List A → Type 0
Once {A} name xs = (j k : ℕ) (x y : A) → slice_get xs j ≡ Some x → slice_get xs k ≡ Some y → name x ≡ name y → j ≡ k

-- the first thing of a name is the one that has it
module _ {A : Type 0} (name : A → List ℕ) (xs : List A) (once : Once name xs) (p : A → Bool) (k : ℕ) (x : A)
    (there : slice_get xs k ≡ Some x) (only : (y : A) → p y ≡ true → name y ≡ name x) (passes : p x ≡ true) where
  not_before : (j : ℕ) → j < k → p (get_or xs j x) ≡ false
  not_before j below =
      let within = slice_get_within xs k x there in
      let y = get_or xs j x in
      grind (arith, once j k y x (slice_get-get_or xs j x (omega arith)) there, only y)

  pub first_of_name : position_or_len p xs ≡ k
  first_of_name =
      let within = slice_get_within xs k x there in
      position_or_len_is p xs k x (omega arith) not_before (λ _. ap p (get_or_from_slice_get xs k x x there) ∙ passes)

  pub found_of_name : position p xs ≡ Some k
  found_of_name = rw (first_of_name, lt-ltb k (length xs) (slice_get_within xs k x there)) refl

-- two bits are one where they are set together
same_bit : (a b : ℕ) → a < 2 → b < 2 → (a ≡ 1 → b ≡ 1) → (b ≡ 1 → a ≡ 1) → a ≡ b
same_bit a b small low there back = grind arith

pub same : (a : List ℕ) → bytes_eq a a ≡ true
same a = (bytes_eq-Decides a a).1 refl

-- the number of a name in a table of names
pub number_of_name : (names : List (List ℕ)) → Once (λ name. name) names → (k : ℕ) (name : List ℕ) → slice_get names k ≡ Some name
    → name_number name names ≡ k
number_of_name names once k name there = first_of_name (λ name. name) names once (bytes_eq name) k name there
    (λ y e. sym ((bytes_eq-Decides name y).0 e)) (same name)

-- ---- fields

module _ (t : NameTables) (fs : List FieldText) (once : Once (λ (g : FieldText). g.name) fs) (few : length fs ≤ 64) where
  -- the fields that these texts stand for
  abbrev fields : List Field
  fields = map (resolved_field t) fs

  pub name_kept : (x : ℕ) (g : FieldText) → slice_get fs x ≡ Some g → field_name fields x ≡ g.name
  unfolding resolved_field
  name_kept x g there = ap (λ (o : Option Field). option_map_or (λ (y : Field). y.name) o [])
      (slice_get-map (resolved_field t) fs x ∙ ap (option_map (resolved_field t)) there)

  -- a field's number is found by its name
  field_found : (x : ℕ) → x < length fs → position (λ (g : FieldText). bytes_eq g.name (field_name fields x)) fs ≡ Some x
  field_found x within =
      let g = within_some fs x within in
      ap (λ n. position (λ (y : FieldText). bytes_eq y.name n) fs) (name_kept x g.0 g.1)
      ∙ found_of_name (λ (y : FieldText). y.name) fs once (λ y. bytes_eq y.name g.0.name) x g.0 g.1
      (λ y e. (bytes_eq-Decides y.name g.0.name).0 e) (same g.0.name)

  pub field_again : (x : ℕ) → x < length fs → field_number fs (field_name fields x) ≡ x
  unfolding field_number
  field_again x within = rw (field_found x within, lt-ltb x 64 (omega arith)) refl

  -- a field of the set has its name among those of the set
  module _ (set : ℕ) (known : (x : ℕ) → HasField set x → x < length fs) where
    named_has : (i : ℕ) (ns : List ℕ) → AllByRecursion (λ n. has_field set n ≡ true) ns → SomeNames fs i (map (field_name fields) ns)
        → HasField set i
    named_has i [] all h = absurd h
    named_has i (n ∷ ns) all h = ⊎_elim
        (λ here.
        subst (HasField set) (same_Some n i (sym (field_found n (known n (has set n all.0))) ∙ here)) (has set n all.0))
        (λ later. named_has i ns all.1 later) h

    has_named : (i : ℕ) → has_field set i ≡ true → i < length fs → (a n : ℕ) → a ≤ i → i < a + n
        → SomeNames fs i (map (field_name fields) (filter (has_field set) (range_with_len a n)))
    has_named i e within a zero low high = absurd (omega arith)
    has_named i e within a (suc n) low high = ⊎_elim
        (λ below. cond_both (has_field set a) (a ∷ filter (has_field set) (range_with_len (a + 1) n))
        (filter (has_field set) (range_with_len (a + 1) n)) (λ ns. SomeNames fs i (map (field_name fields) ns))
        (λ has. inr (has_named i e within (a + 1) n (omega arith) (omega arith)))
        (λ none. has_named i e within (a + 1) n (omega arith) (omega arith)))
        (λ above.
        let it : i ≡ a = omega arith in
        let here : has_field set a ≡ true = ap (has_field set) (sym it) ∙ e in
        rw here (inl (ap (λ k. position (λ (g : FieldText). bytes_eq g.name (field_name fields k)) fs) (sym it) ∙ field_found i within)))
        (cases_lt a i)

    below_has : (i n : ℕ) → SomeNames fs i (names_below fields set n) → HasField set i
    unfolding names_below
    below_has i n h =
        named_has i (filter (has_field set) (range_with_len 0 n))
        (all_kept (λ x. has_field set x ≡ true) (has_field set) (range_with_len 0 n)
        (all_of (λ x. has_field set x ≡ true → has_field set x ≡ true) (range_with_len 0 n) (λ x e. e))) h

    has_below : (i n : ℕ) → has_field set i ≡ true → i < length fs → i < n → SomeNames fs i (names_below fields set n)
    unfolding names_below
    has_below i n e within low = has_named i e within 0 n (omega arith) (omega arith)

    has_by : (i : ℕ) → i < 64 → HasField set i → has_field set i ≡ true
    has_by i small h = rw (lt-ltb i 64 small, eq-eqb (set / 2 ^ i % 2) 1 h) refl

    bit_again : (i : ℕ) → i < 64 → bit_at (field_set fs (field_names fields set)) i ≡ bit_at set i
    bit_again i small =
        let exact = field_set-fields fs (field_names fields set) i in
        same_bit (bit_at (field_set fs (field_names fields set)) i) (bit_at set i) (bit_at-lt (field_set fs (field_names fields set)) i)
        (bit_at-lt set i) (λ e. below_has i 64 (exact.0 e).1) (λ e. exact.1 (small, has_below i 64 (has_by i small e) (known i e) small))

    pub set_again : set < 2 ^ 64 → field_set fs (field_names fields set) ≡ set
    set_again small =
        let names = field_names fields set in
        same_from_bits_below 64 (field_set fs names) set (field_set-below fs names) small bit_again
