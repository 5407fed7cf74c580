-- What is printed of registers, items and names is read as these, and is plain.
use Rattle.point_laws.proofs.Common.{AllByRecursion, map, name_of-complete, range_with_len, register_draft, register_texts, texts_beside_at}
use Rattle.point_laws.proofs.Common.{ap, Ok, [], ◌∙◌, ◌∷◌, ◌≡◌, ◌≤◌}
use Rattle.point_laws.proofs.Common.{AreNames, get_member, HaveNames, item_draft, item_texts, named_type, row_prefix, told_up_to, TomlFault}
use Rattle.point_laws.proofs.Common.{arith, array, codes, count, each, List, pos, refl, row_of, Slot, Some, State, subst, true, ◌++◌, ◌+◌}
use Rattle.point_laws.proofs.Common.{array_at, item_read, item_text, kind_text, Notes, number_at, SlotKind, tables_at, tables_of, type_text}
use Rattle.point_laws.proofs.Common.{count_beside, is_left_out, Item, local_fields}
use Rattle.point_laws.proofs.Common.{register_of, register_read, register_type_text, type_spelled}
use Rattle.point_laws.proofs.Common.{decimal, integer, IsKnown, IsState, item_of, list_at, Members, name_of, rows_of, texts_at, texts_of, ℕ}
use Rattle.point_laws.proofs.Common.{FnNote, IsName, le-leb, length, Locals, map-id, nat_le, not, Option, Result, strings, text_of, type_of}
use Rattle.point_laws.proofs.NoneAgain.{all_kept, all_map, all_range, each_of}
use Rattle.point_laws.proofs.TomlTexts.{AllPlain, are_plain, decimal_plain, name_plain, plain-append, type_plain}
use Rattle.note_types.specs.declared.cell.SlotKind.TheVariants as kinds
use Rattle.note_types.specs.declared.items.Item.TheVariants as item_of
use Rattle.note_texts.specs.SlotTexts as slots

-- each text is read as a value of its own
abbrev pub AllRead : {A B : Type 0} → (List ℕ → Option A) → (B → List ℕ) → (B → A) → List B → Type 0
AllRead reads text value xs = AllByRecursion (λ x. reads (text x) ≡ Some (value x)) xs

-- what a slot holds is known
abbrev pub KnownItem : Notes → FnNote → Item → Type 0
KnownItem notes f (item_of.Slot kind t) = IsKnown notes f t
KnownItem notes f item_of.Locals = Unit {0}

abbrev pub AllKnown : Notes → FnNote → List Item → Type 0
AllKnown notes f xs = AllByRecursion (KnownItem notes f) xs

module _ (notes : Notes) (f : FnNote) (h : HaveNames notes (local_fields notes f)) where
  -- ---- registers

  register_again : (s : State) → IsState notes f s → (r : ℕ) → 1 ≤ r → r ≤ 7
      → slots.register_of (register_type_text notes (local_fields notes f) s r) ≡ Some (register_draft notes (local_fields notes f) s r)
  register_again s k r low high =
      let text = register_type_text notes (local_fields notes f) s r in
      (register_read text (slots.register_of text) refl (register_draft notes (local_fields notes f) s r)).1
      (type_text notes (local_fields notes f) (type_of s r), refl, low, high, type_spelled notes f h (type_of s r) (k.registers r))

  register_plain : (s : State) → IsState notes f s → (r : ℕ) → r ≤ 7
      → are_plain (register_type_text notes (local_fields notes f) s r) ≡ true
  register_plain s k r high =
      let t = type_text notes (local_fields notes f) (type_of s r) in
      plain-append (codes "R" ++ decimal r) (codes " " ++ t) (decimal_plain r (omega arith))
      (type_plain t (named_type notes (local_fields notes f) (type_of s r)) (type_spelled notes f h (type_of s r) (k.registers r)))

  -- what holds of registers holds of those that are told
  told_all : (s : State) (P : ℕ → Type 0) → ((r : ℕ) → 1 ≤ r → r ≤ 7 → P r) → AllByRecursion P (told_up_to s 7)
  unfolding told_up_to
  told_all s P h = all_kept P (λ r. not (is_left_out r (type_of s r))) (range_with_len 1 7)
      (all_range (λ r. not (is_left_out r (type_of s r)) ≡ true → P r) 1 7 (λ r low high e. h r low (omega arith)))

  pub registers_read : (s : State) → IsState notes f s
      → AllRead slots.register_of (register_type_text notes (local_fields notes f) s) (register_draft notes (local_fields notes f) s)
      (told_up_to s 7)
  registers_read s k =
      told_all s (λ r. slots.register_of (register_type_text notes (local_fields notes f) s r) ≡ Some
      (register_draft notes (local_fields notes f) s r)) (register_again s k)

  pub registers_plain : (s : State) → IsState notes f s → AllPlain (register_texts notes (local_fields notes f) s)
  registers_plain s k =
      all_map (λ t. are_plain t ≡ true) (register_type_text notes (local_fields notes f) s) (told_up_to s 7)
      (told_all s (λ r. are_plain (register_type_text notes (local_fields notes f) s r) ≡ true) (λ r low high. register_plain s k r high))

  -- ---- items

  item_again : (x : Item) → KnownItem notes f x
      → slots.item_of (item_text notes (local_fields notes f) x) ≡ Some (item_draft notes (local_fields notes f) x)
  item_again (item_of.Slot kind t) k =
      let text = item_text notes (local_fields notes f) (item_of.Slot kind t) in
      (item_read text (slots.item_of text) refl (Slot kind (named_type notes (local_fields notes f) t))).1
      (type_text notes (local_fields notes f) t, refl, type_spelled notes f h t k)
  item_again item_of.Locals k = (item_read (codes "locals") (slots.item_of (codes "locals")) refl Locals).1 refl

  kind_plain : (kind : SlotKind) (rest : List ℕ) → are_plain rest ≡ true → are_plain (kind_text kind ++ rest) ≡ true
  kind_plain kinds.N rest e = e
  kind_plain kinds.Q rest e = e
  kind_plain kinds.D rest e = e

  item_plain : (x : Item) → KnownItem notes f x → are_plain (item_text notes (local_fields notes f) x) ≡ true
  item_plain (item_of.Slot kind t) k =
      let text = type_text notes (local_fields notes f) t in
      kind_plain kind (codes " " ++ text)
      (type_plain text (named_type notes (local_fields notes f) t) (type_spelled notes f h t k))
  item_plain item_of.Locals k = refl

  pub items_read : (xs : List Item) → AllKnown notes f xs
      → AllRead slots.item_of (item_text notes (local_fields notes f)) (item_draft notes (local_fields notes f)) xs
  items_read xs k =
      each_of (KnownItem notes f) (λ x. slots.item_of (item_text notes (local_fields notes f) x) ≡ Some
      (item_draft notes (local_fields notes f) x)) xs item_again k

  pub items_plain : (xs : List Item) → AllKnown notes f xs → AllPlain (item_texts notes (local_fields notes f) xs)
  items_plain xs k =
      all_map (λ t. are_plain t ≡ true) (item_text notes (local_fields notes f)) xs
      (each_of (KnownItem notes f) (λ x. are_plain (item_text notes (local_fields notes f) x) ≡ true) xs item_plain k)

-- ---- names

pub names_are_plain : (names : List (List ℕ)) → AreNames names → AllPlain names
names_are_plain names h = each_of IsName (λ name. are_plain name ≡ true) names name_plain h

-- ---- the tables of points are read as the drafts of the points

-- texts are read one after the other
each_text : {A B : Type 0} (reads : List ℕ → Option A) (text : B → List ℕ) (value : B → A) (path : List ℕ) (xs : List B) (i : ℕ)
    → AllRead reads text value xs → each (λ i d. text_of reads path d) i (strings (map text xs)) ≡ Ok (map value xs)
unfolding each
each_text reads text value path [] i h = refl
each_text reads text value path (x ∷ xs) i h = rw (h.0, each_text reads text value path xs (i + 1) h.1) refl

pub texts_again : {A B : Type 0} (reads : List ℕ → Option A) (text : B → List ℕ) (value : B → A) (path : List ℕ) (xs : List B)
    → AllRead reads text value xs → texts_of reads path (strings (map text xs)) ≡ Ok (map value xs)
unfolding texts_of
texts_again reads text value path xs h = each_text reads text value path xs 0 h

pub names_again : (path : List ℕ) (names : List (List ℕ)) → AreNames names → texts_of name_of path (strings names) ≡ Ok names
names_again path names h =
    subst (λ ns. texts_of name_of path (strings ns) ≡ Ok ns) (map-id names)
    (texts_again name_of (λ n. n) (λ n. n) path names (each_of IsName (λ n. name_of n ≡ Some n) names name_of-complete h))

pub count_strings : (ts : List (List ℕ)) → count (strings ts) ≡ length ts
count_strings [] = refl
count_strings (t ∷ ts) = let e : count (strings ts) ≡ length ts = count_strings ts in omega arith

-- ---- the keys of a point

pub number_found : (prefix key : List ℕ) (low high n : ℕ) (ms : Members) → get_member key ms ≡ Some (integer (pos n)) → low ≤ n → n ≤ high
    → number_at prefix key low high ms ≡ Ok n
unfolding number_at
number_found prefix key low high n ms here at_least at_most = rw (here, le-leb low n at_least, le-leb n high at_most) refl

pub texts_found : {A : Type 0} (reads : List ℕ → Option A) (prefix key : List ℕ) (limit : ℕ) (ms : Members) (ts : List (List ℕ))
    (xs : List A) → get_member key ms ≡ Some (array (strings ts)) → length ts ≤ limit → texts_of reads (prefix ++ key) (strings ts) ≡ Ok xs
    → texts_at reads prefix key limit ms ≡ Ok xs
unfolding texts_at list_at array_at
texts_found reads prefix key limit ms ts xs here few read =
    rw (here, ap (λ n. nat_le n limit) (count_strings ts) ∙ le-leb (length ts) limit few, read) refl

pub beside_found : {A : Type 0} (reads : List ℕ → Option A) (prefix key beside : List ℕ) (limit : ℕ) (ms : Members) (ts : List (List ℕ))
    (xs : List A) → get_member key ms ≡ Some (array (strings ts)) → nat_le (count_beside beside (strings ts)) limit ≡ true
    → texts_of reads (prefix ++ key) (strings ts) ≡ Ok xs → texts_beside_at reads prefix key limit beside ms ≡ Ok xs
unfolding texts_beside_at array_at
beside_found reads prefix key beside limit ms ts xs here few read = rw (here, few, read) refl

-- ---- lists of tables

-- each table is read as a draft, whatever stands before its keys
abbrev pub AllTables : {A B : Type 0} → (List ℕ → Members → Result A TomlFault) → (B → Members) → (B → A) → List B → Type 0
AllTables reads ms value xs = AllByRecursion (λ x. (prefix : List ℕ) → reads prefix (ms x) ≡ Ok (value x)) xs

each_table : {A B : Type 0} (reads : List ℕ → Members → Result A TomlFault) (ms : B → Members) (value : B → A) (path : List ℕ) (xs : List B)
    (i : ℕ) → AllTables reads ms value xs → each (row_of reads path) i (tables_of ms xs) ≡ Ok (map value xs)
unfolding each
each_table reads ms value path [] i h = refl
each_table reads ms value path (x ∷ xs) i h = rw (h.0 (row_prefix path i), each_table reads ms value path xs (i + 1) h.1) refl

count_tables : {B : Type 0} (ms : B → Members) (xs : List B) → count (tables_of ms xs) ≡ length xs
count_tables ms [] = refl
count_tables ms (x ∷ xs) = let e : count (tables_of ms xs) ≡ length xs = count_tables ms xs in omega arith

pub tables_read : {A B : Type 0} (reads : List ℕ → Members → Result A TomlFault) (ms : B → Members) (value : B → A) (key : List ℕ)
    (limit : ℕ) (whole : Members) (xs : List B) → get_member key whole ≡ Some (array (tables_of ms xs)) → length xs ≤ limit
    → AllTables reads ms value xs → tables_at reads [] key limit whole ≡ Ok (map value xs)
unfolding tables_at list_at array_at rows_of
tables_read reads ms value key limit whole xs here few h =
    let within : nat_le (count (tables_of ms xs)) limit ≡ true = ap (λ n. nat_le n limit) (count_tables ms xs)
    ∙ le-leb (length xs) limit few in
    rw (here, within, each_table reads ms value key xs 0 h) refl
