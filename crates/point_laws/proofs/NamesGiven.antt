-- The shapes of a draft of notes that was read, and their fields, have names that texts can have, each a name of its own.
use Rattle.point_laws.proofs.Common.{ap, Bool, Data, Each, each, IfOk, List, None, once, refl, Some, take, true, ◌++◌, ◌∙◌, ◌∷◌, ◌≡◌}
use Rattle.point_laws.proofs.Common.{arith, codes, count, false, get_or, IsName, Items, length, Option, Result, row_of, text_at, text_of, ℕ}
use Rattle.point_laws.proofs.Common.{bytes_eq, draft_of, field_of, is_name, list_any, position, shape_of, sym, table_of, texts_at, texts_of}
use Rattle.point_laws.proofs.Common.{bytes_eq-Decides, fails-from_none, get_or_from_slice_get, IfSome, repeated_in_shapes, slice_get_within}
use Rattle.point_laws.proofs.Common.{data_lists, DataLists, each_fails, field_read, has_repeat, Members, nothing-at, repeats-at, row_prefix}
use Rattle.point_laws.proofs.Common.{draft_lists, first_repeat, get_or-take, length-take-le, names_of_data, nothing_refused, repeats_field}
use Rattle.point_laws.proofs.Common.{DraftLists, greatest_32, list_any_at, NameTables, none_sooner, NotesDraft, shape_names, ShapeDraft, []}
use Rattle.point_laws.proofs.Common.{each_read, FieldText, map, number_at, ok_weaken, only_keys, same_name, slice_get, tables_at, TomlFault}
use Rattle.point_laws.proofs.Common.{is_some, list_at, name_of, ok_next, ok_some, ok_then, pair_at, refused, repeats, rows_of, some_if, ◌<◌}
use Rattle.point_laws.proofs.NamesNumbered.{Once}
use Rattle.note_draft.specs.declared.finding.Key.TheVariants as key
use Rattle.note_draft.specs.declared.finding.Refusal.TheVariants as refusals
use Rattle.note_draft.specs.declared.finding.TableList.TheVariants as list

-- ---- names that texts can have

abbrev IsNamedField : FieldText → Type 0
IsNamedField x = IsName x.name

pub record IsNamedShape (s : ShapeDraft) : Type 0 where
  pub name : IsName s.name
  pub fields : Each (λ (x : FieldText). IsName x.name) s.fields

some_reads : {A : Type 0} (P : A → Type 0) (o : Option A) → ((x : A) → o ≡ Some x → P x) → IfSome o P
some_reads P None h = tt
some_reads P (Some x) h = h x refl

name_is : (s : List ℕ) → IfSome (name_of s) IsName
name_is s = some_if IsName (is_name s) s (λ e. e)

name_read : (prefix key : List ℕ) (table : Members) → IfOk (text_at name_of prefix key table) IsName
unfolding text_at
name_read prefix key table = search (ok_next, ok_some, name_is)

field_is : (s : List ℕ) → IfSome (field_of s) IsNamedField
field_is s = some_reads IsNamedField (field_of s) (λ x e. ((field_read s (field_of s) refl x).0 e).2)

field_named : (path : List ℕ) (d : Data) → IfOk (text_of field_of path d) IsNamedField
field_named path d = search (ok_next, ok_some, field_is)

each_named : {A : Type 0} (P : A → Type 0) (reads : ℕ → Data → Result A TomlFault) (ds : Items) → ((j : ℕ) (d : Data) → IfOk (reads j d) P)
    → IfOk (each reads 0 ds) (Each P)
each_named P reads ds h =
    ok_weaken (λ xs. (length xs ≡ count ds) × Each P xs) (Each P) (each reads 0 ds) (each_read P reads ds 0 h) (λ xs g. g.1)

fields_named : (prefix key : List ℕ) (limit : ℕ) (table : Members) → IfOk (texts_at field_of prefix key limit table) (Each IsNamedField)
unfolding texts_at texts_of
fields_named prefix key limit table =
    ok_next (Each IsNamedField) (list_at prefix key limit table) (texts_of field_of (prefix ++ key))
    (λ ds. each_named IsNamedField (λ i d. text_of field_of (prefix ++ key) d) ds (λ j d. field_named (prefix ++ key) d))

shape_named : (prefix : List ℕ) (table : Members) → IfOk (shape_of prefix table) IsNamedShape
unfolding shape_of
shape_named prefix table =
    ok_then IsName IsNamedShape (text_at name_of prefix (codes "name") table) _ (name_read prefix (codes "name") table)
    (λ name is. ok_next IsNamedShape (pair_at prefix (codes "size") greatest_32 table) _
    (λ size. ok_then (Each IsNamedField) IsNamedShape (texts_at field_of prefix (codes "fields") 256 table) _
    (fields_named prefix (codes "fields") 256 table)
    (λ fields are. ok_next IsNamedShape (only_keys prefix (codes "name" ∷ codes "size" ∷ codes "fields" ∷ []) table) _
    (λ _. record { name = is; fields = are }))))

shapes_named : (table : Members) → IfOk (data_lists table) (λ (things : DataLists). Each IsNamedShape things.shape)
unfolding data_lists tables_at rows_of
shapes_named table =
    let path = [] ++ codes "shape" in
    let P : DataLists → Type 0 = λ things. Each IsNamedShape things.shape in
    ok_then (Each IsNamedShape) P (tables_at shape_of [] (codes "shape") 1024 table) _
    (ok_next (Each IsNamedShape) (list_at [] (codes "shape") 1024 table) (rows_of shape_of path)
    (λ ds. each_named IsNamedShape (row_of shape_of path) ds (λ j d. ok_next IsNamedShape (table_of path j d)
    (shape_of (row_prefix path j)) (shape_named (row_prefix path j)))))
    (λ shapes are. search ok_next)

lists_named : (version : ℕ) (table : Members)
    → IfOk (draft_lists version table) (λ (lists : DraftLists). Each IsNamedShape lists.things.shape)
unfolding draft_lists
lists_named version table =
    let P : DraftLists → Type 0 = λ lists. Each IsNamedShape lists.things.shape in
    ok_then (λ (things : DataLists). Each IsNamedShape things.shape) P (data_lists table) _ (shapes_named table)
    (λ things are. search ok_next)

-- the shapes of a draft that was read, and their fields, have names
pub draft_named : (table : Members) → IfOk (draft_of table) (λ (d : NotesDraft). Each IsNamedShape d.shape)
unfolding draft_of
draft_named table =
    let P : NotesDraft → Type 0 = λ d. Each IsNamedShape d.shape in
    ok_next P (number_at [] (codes "version") 1 2 table) _
    (λ version. ok_next P (text_at name_of [] (codes "entry") table) _
    (λ entry. ok_then (λ (lists : DraftLists). Each IsNamedShape lists.things.shape) P (draft_lists version table) _
    (lists_named version table) (λ lists are. are)))

-- ---- names that stand once

-- where a search finds no repeat, no item is the same as an earlier one
not_again : {A : Type 0} (same : A → A → Bool) (xs : List A) → first_repeat same xs ≡ None → (j k : ℕ) (x y : A) → slice_get xs j ≡ Some x
    → slice_get xs k ≡ Some y → j < k → same y x ≡ true → ⊥
unfolding first_repeat
not_again same xs none j k x y first second below e =
    let within = slice_get_within xs k y second in
    let here : y ≡ get_or xs k y = sym (get_or_from_slice_get xs k y y second) in
    let new : repeats same xs k ≡ false = fails-from_none (repeats same xs) (length xs) 0 none k (omega arith) (omega arith) in
    let long : length (take k xs) ≡ k = length-take-le k xs (omega arith) in
    let there : get_or (take k xs) j y ≡ x = get_or-take k xs j y below ∙ get_or_from_slice_get xs j x y first in
    let seen : list_any (same y) (take k xs) ≡ true = list_any_at (same y) (take k xs) j y (omega arith) (ap (same y) there ∙ e) in
    let both : false ≡ true = sym new ∙ (repeats-at same xs k y within here ∙ seen) in
    absurd cc

-- so things that are the same where their names are have names of their own
pub once_by : {A : Type 0} (name : A → List ℕ) (same : A → A → Bool) (xs : List A) → ((x y : A) → name x ≡ name y → same x y ≡ true)
    → first_repeat same xs ≡ None → Once name xs
once_by name same xs alike none j k x y first second e = grind (
  arith,
  not_again same xs none j k x y first second,
  not_again same xs none k j y x second first,
  alike y x (sym e),
  alike x y e,
)

none_in_data : (d : NotesDraft) → IfOk (names_of_data d) (λ names. repeated_in_shapes d.shape ≡ None)
unfolding names_of_data
none_in_data d =
    let F : List (List ℕ) → Type 0 = λ names. repeated_in_shapes d.shape ≡ None in
    ok_then F F (shape_names d.shape) _
    (ok_then (λ _. repeated_in_shapes d.shape ≡ None) F (refused refusals.Twice (repeated_in_shapes d.shape)) _
    (nothing_refused refusals.Twice (repeated_in_shapes d.shape)) (λ _ none. none))
    (λ names none. search ok_next)

none_once : (d : NotesDraft) → IfOk (once d) (λ t. repeated_in_shapes d.shape ≡ None)
unfolding once
none_once d =
    let P : NameTables → Type 0 = λ t. repeated_in_shapes d.shape ≡ None in
    ok_then (λ _. repeated_in_shapes d.shape ≡ None) P (names_of_data d) _ (none_in_data d)
    (λ shapes none. search ok_next)

-- shapes have names of their own, and so have the fields of each
pub record HasNamesOnce (d : NotesDraft) : Type 0 where
  pub shapes : Once (λ name. name) (map (λ (s : ShapeDraft). s.name) d.shape)
  pub fields : Each (λ (s : ShapeDraft). Once (λ (x : FieldText). x.name) s.fields) d.shape

none_of : {A : Type 0} (o : Option A) → is_some o ≡ false → o ≡ None
none_of o e = grind arith

fields_once : (s : ShapeDraft) → repeats_field s ≡ false → Once (λ (x : FieldText). x.name) s.fields
unfolding has_repeat
fields_once s e = once_by (λ (x : FieldText). x.name) same_name s.fields (λ x y same. (bytes_eq-Decides x.name y.name).1 same)
    (none_of (first_repeat same_name s.fields) e)

once_of : (d : NotesDraft) → repeated_in_shapes d.shape ≡ None → HasNamesOnce d
unfolding repeated_in_shapes
once_of d none =
    let names = map (λ (s : ShapeDraft). s.name) d.shape in
    let both = none_sooner _ _ none in
    record {
      shapes = once_by (λ name. name) bytes_eq names (λ x y same. (bytes_eq-Decides x y).1 same)
          (nothing-at list.Shape key.Name (first_repeat bytes_eq names) both.0);
      fields = λ k s at. fields_once s (each_fails repeats_field d.shape
          (nothing-at list.Shape key.Fields (position repeats_field d.shape) both.1) k s at);
    }

pub names_once : (d : NotesDraft) → IfOk (once d) (λ t. HasNamesOnce d)
names_once d = ok_weaken (λ t. repeated_in_shapes d.shape ≡ None) (λ t. HasNamesOnce d) (once d) (none_once d) (λ t none. once_of d none)
