-- The cells and types of a record that notes stand for are within their bounds and name only what is there, and the notes
-- allow them where they stand.
use Rattle.std.proofs.Common.{◌≡◌, ℕ, ◌^◌, ◌<◌, ◌≤◌, ℤ, Bool, true, false, List, [], ◌∷◌, length, Option, None, Some, if◌then◌else◌, refl}
use Rattle.std.proofs.Common.{ap, sym, subst, ◌∙◌, ⊎_elim, arith}
use Rattle.std.specs.Prelude.{bit_or, bytes_eq, nat_lt, option_map, option_and_then, pos, negsuc, slice_get}
use Rattle.std.specs.List.{fold, list_all, position, position_or_len}
use Rattle.std.specs.Ordering.{int_eq}
use Rattle.std.proofs.Math.Pow.{pow-lt}
use Rattle.std.proofs.lemmas.Bool.{and_parts, eqb-true, lt-ltb, ltb-true}
use Rattle.std.proofs.lemmas.Bool.Decides.{Decides-int_eq}
use Rattle.std.proofs.lemmas.List.{length-map}
use Rattle.std.proofs.lemmas.Nat.{or_lt}
use Rattle.std.proofs.lemmas.Option.{cond_some, slice_get-map}
use Rattle.note_types.specs.FieldSets.{HasField}
use Rattle.note_types.specs.Known.{IsKnown, IsKnownCell, fields_of, local_fields}
use Rattle.note_types.specs.Passing.{IsGiven, IsHandedBack, IsHandedIn, IsKept, IsKeptWant, IsNotNegative, IsPassed, IsReturned, IsStart}
use Rattle.note_types.specs.Records.{IsKnownWant}
use Rattle.note_types.specs.declared.notes.FnNote.{FnNote}
use Rattle.note_texts.specs.declared.cell.CellText.{CellText}
use Rattle.note_texts.specs.declared.cell.CellText.TheVariants as cells
use Rattle.note_texts.specs.declared.cell.FieldText.{FieldText}
use Rattle.note_texts.specs.declared.ty.TypeText.{TypeText}
use Rattle.note_texts.specs.declared.ty.TypeText.TheVariants as types
use Rattle.note_texts.specs.declared.want.WantText.{WantText}
use Rattle.note_texts.specs.declared.want.WantText.TheVariants as wants
use Rattle.note_texts.specs.WantTexts.{is_result, is_zero}
use Rattle.note_draft.specs.declared.draft.FunctionDraft.{FunctionDraft}
use Rattle.note_draft.specs.declared.draft.NotesDraft.{NotesDraft}
use Rattle.note_draft.specs.declared.draft.ShapeDraft.{ShapeDraft}
use Rattle.note_draft.specs.declared.tables.NameTables.{NameTables}
use Rattle.note_draft.specs.Known.{knows_cell, knows_type, knows_want}
use Rattle.ebc_base.specs.Tables.{is_named, name_number}
use Rattle.type_notes.specs.Locals.{SomeNames, below_64, field_bit, field_number, field_set, is_field}
use Rattle.type_notes.specs.PointLocals.{locals_fields, shape_fields}
use Rattle.type_notes.specs.Resolved.{resolved, resolved_cell, resolved_field, resolved_function, resolved_locals, resolved_shape}
use Rattle.type_notes.specs.Resolved.{resolved_thunk, resolved_type, resolved_want}
use Rattle.type_notes.specs.TypeKinds.{has_fields, has_thunk, is_bare, is_handed_back, is_handed_in, is_kept, is_kept_want, is_not_negative}
use Rattle.type_notes.specs.TypeKinds.{is_passed, is_returned}
use Rattle.type_notes.proofs.DraftBounds.{IsDraft}
use Rattle.type_notes.proofs.FieldSetLaws.{field_set-fields}
use Rattle.type_notes.proofs.ListBounds.{found_at}
use Rattle.type_notes.proofs.NamesFound.{HasNames}
use Rattle.type_notes.proofs.TextBounds.{IsCellBounded, IsTypeBounded, IsWantBounded}
use Rattle.ebc_base.proofs.Lists.{found_within}
use Rattle.note_types.specs.Types.{is_start}

-- ---- the fields that names name

small_bit : (b : Bool) (n : ℕ) → (b ≡ true → n < 64) → (if b then 2 ^ n else 0) < 2 ^ 64
small_bit true n h = pow-lt (h refl)
small_bit false n h = omega arith

field_bit-below : (n : ℕ) → field_bit n < 2 ^ 64
field_bit-below n = small_bit (nat_lt n 64) n (λ e. ltb-true n 64 e)

set_below : (fields : List FieldText) (names : List (List ℕ)) (set : ℕ) → set < 2 ^ 64
    → fold (λ s name. bit_or s (field_bit (field_number fields name))) set names < 2 ^ 64
set_below fields [] set h = h
set_below fields (name ∷ names) set h = set_below fields names (bit_or set (field_bit (field_number fields name)))
    (or_lt 64 set (field_bit (field_number fields name)) h (field_bit-below (field_number fields name)))

-- a set of fields has 64 bits
pub field_set-below : (fields : List FieldText) (names : List (List ℕ)) → field_set fields names < 2 ^ 64
unfolding field_set
field_set-below fields names = set_below fields names 0 (omega arith)

named_within : (fields : List FieldText) (f : ℕ) (names : List (List ℕ)) → SomeNames fields f names → f < length fields
named_within fields f [] h = absurd h
named_within fields f (name ∷ names) h =
    ⊎_elim
    (λ here. let p = cond_some (nat_lt (position_or_len (λ x. bytes_eq x.name name) fields) (length fields))
    (position_or_len (λ x. bytes_eq x.name name) fields) f here in
    let within : position_or_len (λ x. bytes_eq x.name name) fields < length fields = ltb-true _ _ p.0 in
    subst (λ k. k < length fields) p.1 within)
    (λ later. named_within fields f names later)
    h

-- each field of a set is one of the fields
pub field_set-within : (fields : List FieldText) (names : List (List ℕ)) (x : ℕ) → HasField (field_set fields names) x → x < length fields
field_set-within fields names x h = named_within fields x names ((field_set-fields fields names x).0 h).1

number_within : (o : Option ℕ) (m n : ℕ) → o ≡ Some m → m < n → n ≤ 64 → (below_64 o < n) × (below_64 o < 64)
number_within o m n e h few = rw (e, lt-ltb m 64 (omega arith)) (h, omega arith)

-- the number of a field that is there
pub field_number-within : (fields : List FieldText) (name : List ℕ) → is_field fields name ≡ true → length fields ≤ 64
    → (field_number fields name < length fields) × (field_number fields name < 64)
unfolding field_number
field_number-within fields name e few =
    number_within (position (λ f. bytes_eq f.name name) fields) (position_or_len (λ f. bytes_eq f.name name) fields) (length fields)
    (found_at (λ f. bytes_eq f.name name) fields e) (found_within (λ f. bytes_eq f.name name) fields e) few

-- ---- the things that names name

module _ (t : NameTables) (d : NotesDraft) (b : IsDraft d) (n : HasNames d t) where
  pub shapes_long : length (resolved t d).shape ≡ length t.shape
  unfolding resolved
  shapes_long = length-map d.shape (resolved_shape t) ∙ (sym (length-map d.shape (λ s. s.name)) ∙ ap length (sym n.shape))

  pub shapes_few : length t.shape ≤ 1024
  shapes_few = let few : length d.shape ≤ 1024 = b.shape.0 in
      let same : length t.shape ≡ length d.shape = ap length n.shape ∙ length-map d.shape (λ s. s.name) in
      omega arith

  pub methods_few : length t.method ≤ 1024
  methods_few = subst (λ names. length names ≤ 1024) (sym n.method) b.signature.methods

  -- a shape that is named is there
  pub shape_there : (s : List ℕ) → is_named s t.shape ≡ true → (name_number s t.shape < length (resolved t d).shape)
      × (name_number s t.shape < 2 ^ 32)
  shape_there s e =
      let within : name_number s t.shape < length t.shape = found_within (bytes_eq s) t.shape e in
      let long : length (resolved t d).shape ≡ length t.shape = shapes_long in
      let few : length t.shape ≤ 1024 = shapes_few in
      (omega arith, omega arith)

  -- and a method
  pub method_there : (m : List ℕ) → is_named m t.method ≡ true → (name_number m t.method < length (resolved t d).methods)
      × (name_number m t.method < 2 ^ 32)
  unfolding resolved
  method_there m e =
      let within : name_number m t.method < length t.method = found_within (bytes_eq m) t.method e in
      let few : length t.method ≤ 1024 = methods_few in
      (within, omega arith)

  -- ---- cells

  pub cell_known : (cell : CellText) → IsCellBounded cell → knows_cell t cell ≡ true → IsKnownCell (resolved t d) (resolved_cell t cell)
  unfolding resolved_cell
  cell_known (cells.Ptr s k null) h e = let p = shape_there s e in record { bounded = (p.1, h.0, h.1); names = p.0 }
  cell_known (cells.P64 s k null) h e = let p = shape_there s e in record { bounded = (p.1, h.0, h.1); names = p.0 }
  cell_known (cells.Method m) h e = let p = method_there m e in record { bounded = p.1; names = p.0 }
  cell_known cells.I8 h e = record { bounded = tt; names = tt }
  cell_known cells.I16 h e = record { bounded = tt; names = tt }
  cell_known cells.I32 h e = record { bounded = tt; names = tt }
  cell_known cells.I64 h e = record { bounded = tt; names = tt }
  cell_known cells.N h e = record { bounded = tt; names = tt }
  cell_known cells.Stat h e = record { bounded = tt; names = tt }
  cell_known cells.Handle h e = record { bounded = tt; names = tt }
  cell_known cells.Entry h e = record { bounded = tt; names = tt }

  -- ---- the locals of functions

  fields_long : (o : Option ShapeDraft) → length (fields_of (option_map (resolved_shape t) o)) ≡ length (shape_fields o)
  unfolding resolved_shape
  fields_long None = refl
  fields_long (Some s) = length-map s.fields (resolved_field t)

  locals_by : (o : Option (List ℕ)) → length (fields_of (option_and_then (slice_get (resolved t d).shape) (resolved_locals t o))) ≡ length
      (locals_fields t d o)
  unfolding resolved resolved_locals locals_fields
  locals_by None = refl
  locals_by (Some name) = ap (λ x. length (fields_of x)) (slice_get-map (resolved_shape t) d.shape (name_number name t.shape))
      ∙ fields_long (slice_get d.shape (name_number name t.shape))

  -- a function has as many local fields as its draft
  pub locals_long : (f : FunctionDraft) → length (local_fields (resolved t d) (resolved_function t f)) ≡ length (locals_fields t d f.locals)
  unfolding local_fields resolved_function
  locals_long f = locals_by f.locals

  -- ---- types

  thunk_there : (i : ℕ) → nat_lt i (length d.thunk) ≡ true → i < length (resolved t d).thunk
  unfolding resolved
  thunk_there i e = subst (λ k. i < k) (sym (length-map d.thunk (resolved_thunk t))) (ltb-true i (length d.thunk) e)

  -- a type of a function that names local fields among these
  pub type_known : (f : FnNote) (fields : List FieldText) (ty : TypeText) → length fields ≤ 64
      → length fields ≤ length (local_fields (resolved t d) f) → IsTypeBounded ty → knows_type t ty ≡ true → has_fields fields ty ≡ true
      → has_thunk (length d.thunk) ty ≡ true → IsKnown (resolved t d) f (resolved_type t fields ty)
  unfolding resolved_type
  type_known f fields types.Any few long h k l i = record { bounded = tt; names = tt }
  type_known f fields (types.Int lo hi div) few long h k l i = record { bounded = h; names = tt }
  type_known f fields (types.Lin m c) few long h k l i = record { bounded = h; names = tt }
  type_known f fields (types.Scaled m c hi) few long h k l i = record { bounded = h; names = tt }
  type_known f fields (types.Ptr s c m o null) few long h k l i = let p = shape_there s k in
      record { bounded = (h.0, h.1, h.2, h.3, p.1); names = p.0 }
  type_known f fields (types.Local x) few long h k l i =
      let p = field_number-within fields x l few in
      let a : field_number fields x < length fields = p.0 in
      record { bounded = p.1; names = omega arith }
  type_known f fields (types.Lent cell) few long h k l i = let p = cell_known cell h k in record { bounded = p.bounded; names = p.names }
  type_known f fields (types.Status gs) few long h k l i = record {
    bounded = field_set-below fields gs;
    names = λ x e. let a : x < length fields = field_set-within fields gs x e in omega arith;
  }
  type_known f fields (types.SignedStatus gs) few long h k l i =
      record {
        bounded = field_set-below fields gs;
        names = λ x e. let a : x < length fields = field_set-within fields gs x e in
            omega arith;
      }
  type_known f fields types.Mask few long h k l i = record { bounded = tt; names = tt }
  type_known f fields types.Handle few long h k l i = record { bounded = tt; names = tt }
  type_known f fields types.Entry few long h k l i = record { bounded = tt; names = tt }
  type_known f fields (types.Method m) few long h k l i = let p = method_there m k in record { bounded = p.1; names = p.0 }
  type_known f fields (types.ThunkAt x) few long h k l i = record { bounded = h; names = thunk_there x i }
  type_known f fields (types.Saved x) few long h k l i = record { bounded = h; names = tt }

  -- what a native method takes
  pub want_known : (want : WantText) → IsWantBounded want → knows_want t want ≡ true → IsKnownWant (resolved t d) (resolved_want t want)
  unfolding resolved_want
  want_known wants.Any h k = tt
  want_known (wants.Int lo hi) h k = h
  want_known (wants.Size m c) h k = h
  want_known wants.Ptr h k = tt
  want_known wants.Handle h k = tt
  want_known wants.Status h k = tt
  want_known wants.Entry h k = tt
  want_known (wants.Out cell) h k = cell_known cell h k
  want_known (wants.Inout cell) h k = cell_known cell h k

-- ---- which types notes allow where

start : (m c : ℤ) → is_start m c ≡ true → IsStart m c
start m c e = let p = and_parts (int_eq m (pos 0)) (int_eq c (pos 0)) e in
    ((Decides-int_eq m (pos 0)).0 p.0, (Decides-int_eq c (pos 0)).0 p.1)

not_negative : (c : ℤ) → is_not_negative c ≡ true → IsNotNegative c
not_negative (pos m) e = tt
not_negative (negsuc m) e = absurd cc

pub kept : (t : NameTables) (fields : List FieldText) (ty : TypeText) → is_kept ty ≡ true → IsKept (resolved_type t fields ty)
unfolding resolved_type
kept t fields types.Any e = tt
kept t fields (types.Int lo hi div) e = ltb-true hi (2 ^ 32) e
kept t fields (types.Lin m c) e = not_negative c e
kept t fields (types.Scaled m c hi) e = tt
kept t fields (types.Ptr s k m c null) e = start m c e
kept t fields (types.Local x) e = tt
kept t fields (types.Lent cell) e = tt
kept t fields (types.Status gs) e = tt
kept t fields (types.SignedStatus gs) e = absurd cc
kept t fields types.Mask e = tt
kept t fields types.Handle e = tt
kept t fields types.Entry e = tt
kept t fields (types.Method m) e = tt
kept t fields (types.ThunkAt x) e = tt
kept t fields (types.Saved x) e = absurd cc

pub kept_want : (t : NameTables) (want : WantText) → is_kept_want want ≡ true → IsKeptWant (resolved_want t want)
unfolding resolved_want
kept_want t wants.Any e = tt
kept_want t (wants.Int lo hi) e = ltb-true hi (2 ^ 32) e
kept_want t (wants.Size m c) e = tt
kept_want t wants.Ptr e = tt
kept_want t wants.Handle e = tt
kept_want t wants.Status e = tt
kept_want t wants.Entry e = tt
kept_want t (wants.Out cell) e = tt
kept_want t (wants.Inout cell) e = tt

pub handed_in : (t : NameTables) (fields : List FieldText) (ty : TypeText) → is_handed_in ty ≡ true → IsHandedIn (resolved_type t fields ty)
unfolding resolved_type
handed_in t fields types.Any e = tt
handed_in t fields (types.Int lo hi div) e = ltb-true hi (2 ^ 32) e
handed_in t fields (types.Ptr s k m c null) e = start m c e
handed_in t fields types.Handle e = tt
handed_in t fields (types.Status gs) e = tt
handed_in t fields _ e = absurd cc

pub handed_back : (t : NameTables) (fields : List FieldText) (ty : TypeText) → is_handed_back ty ≡ true
    → IsHandedBack (resolved_type t fields ty)
unfolding resolved_type
handed_back t fields types.Any e = tt
handed_back t fields (types.Int lo hi div) e = ltb-true hi (2 ^ 32) e
handed_back t fields (types.Status gs) e = tt
handed_back t fields _ e = absurd cc

-- where no field is named, a set is empty
bare : (fields : List FieldText) (gs : List (List ℕ)) → is_bare gs ≡ true → field_set fields gs ≡ 0
unfolding field_set
bare fields [] e = refl
bare fields (g ∷ gs) e = absurd cc

bare_names : (fields : List FieldText) (gs : List (List ℕ)) → is_bare gs ≡ true → list_all (is_field fields) gs ≡ true
bare_names fields [] e = refl
bare_names fields (g ∷ gs) e = absurd cc

pub passed : (t : NameTables) (fields : List FieldText) (ty : TypeText) → is_passed ty ≡ true → IsPassed (resolved_type t fields ty)
unfolding resolved_type
passed t fields types.Any e = tt
passed t fields (types.Int lo hi div) e = tt
passed t fields (types.Lin m c) e = tt
passed t fields (types.Scaled m c hi) e = tt
passed t fields (types.Ptr s k m c null) e = tt
passed t fields (types.Local x) e = absurd cc
passed t fields (types.Lent cell) e = tt
passed t fields (types.Status gs) e = bare fields gs e
passed t fields (types.SignedStatus gs) e = bare fields gs e
passed t fields types.Mask e = tt
passed t fields types.Handle e = tt
passed t fields types.Entry e = tt
passed t fields (types.Method m) e = tt
passed t fields (types.ThunkAt x) e = tt
passed t fields (types.Saved x) e = absurd cc

-- what passes names no field
pub passed_fields : (fields : List FieldText) (ty : TypeText) → is_passed ty ≡ true → has_fields fields ty ≡ true
passed_fields fields (types.Local x) e = absurd cc
passed_fields fields (types.Status gs) e = bare_names fields gs e
passed_fields fields (types.SignedStatus gs) e = bare_names fields gs e
passed_fields fields _ e = refl

-- a result passes, and is neither lent nor a thunk cell
pub returned_passes : (ty : TypeText) → is_returned ty ≡ true → is_passed ty ≡ true
returned_passes (types.Lent cell) e = absurd cc
returned_passes (types.ThunkAt x) e = absurd cc
returned_passes types.Any e = e
returned_passes (types.Int lo hi div) e = e
returned_passes (types.Lin m c) e = e
returned_passes (types.Scaled m c hi) e = e
returned_passes (types.Ptr s k m c null) e = e
returned_passes (types.Local x) e = e
returned_passes (types.Status gs) e = e
returned_passes (types.SignedStatus gs) e = e
returned_passes types.Mask e = e
returned_passes types.Handle e = e
returned_passes types.Entry e = e
returned_passes (types.Method m) e = e
returned_passes (types.Saved x) e = e

pub returned : (t : NameTables) (fields : List FieldText) (ty : TypeText) → is_returned ty ≡ true → IsReturned (resolved_type t fields ty)
unfolding resolved_type
returned t fields (types.Lent cell) e = absurd cc
returned t fields (types.ThunkAt x) e = absurd cc
returned t fields types.Any e = tt
returned t fields (types.Int lo hi div) e = tt
returned t fields (types.Lin m c) e = tt
returned t fields (types.Scaled m c hi) e = tt
returned t fields (types.Ptr s k m c null) e = tt
returned t fields (types.Local x) e = absurd cc
returned t fields (types.Status gs) e = bare fields gs e
returned t fields (types.SignedStatus gs) e = bare fields gs e
returned t fields types.Mask e = tt
returned t fields types.Handle e = tt
returned t fields types.Entry e = tt
returned t fields (types.Method m) e = tt
returned t fields (types.Saved x) e = absurd cc

pub returned_thunk : (thunks : ℕ) (ty : TypeText) → is_returned ty ≡ true → has_thunk thunks ty ≡ true
returned_thunk thunks (types.ThunkAt x) e = absurd cc
returned_thunk thunks _ e = refl

-- the number 0
zero_is : (c : ℤ) → is_zero c ≡ true → c ≡ pos 0
zero_is (pos m) e = ap pos (eqb-true m 0 e)
zero_is (negsuc m) e = absurd cc

-- what a native method gives
pub given : (t : NameTables) (fields : List FieldText) (ty : TypeText) → is_result ty ≡ true → IsGiven (resolved_type t fields ty)
unfolding resolved_type
given t fields (types.Status []) e = bare fields [] refl
given t fields (types.Status (g ∷ gs)) e = absurd cc
given t fields types.Handle e = tt
given t fields (types.Int lo hi div) e = ltb-true hi (2 ^ 32) e
given t fields (types.Ptr s k m c null) e = let p = and_parts (is_zero m) (is_zero c) e in (zero_is m p.0, zero_is c p.1)
given t fields _ e = absurd cc

pub given_fields : (fields : List FieldText) (ty : TypeText) → is_result ty ≡ true → has_fields fields ty ≡ true
given_fields fields (types.Status []) e = refl
given_fields fields (types.Status (g ∷ gs)) e = absurd cc
given_fields fields (types.SignedStatus gs) e = absurd cc
given_fields fields (types.Local x) e = absurd cc
given_fields fields _ e = refl

pub given_thunk : (thunks : ℕ) (ty : TypeText) → is_result ty ≡ true → has_thunk thunks ty ≡ true
given_thunk thunks (types.ThunkAt x) e = absurd cc
given_thunk thunks _ e = refl
