-- The numbers, names and lists of a draft are within the bounds of docs/NOTES.md's tables.
use Rattle.std.proofs.Common.{◌≡◌, ℕ, ◌+◌, ◌-◌, ◌^◌, ◌<◌, ◌≤◌, ℤ, Bool, true, false, List, [], ◌∷◌, ◌++◌, length, map, Option, None, Some}
use Rattle.std.proofs.Common.{Result, cond, if◌then◌else◌, refl, sym, subst, append_assoc, arith}
use Rattle.std.specs.Prelude.{IfSome, IfOk, pos, negsuc, nat_le, nat_lt, ◌&&◌, ◌||◌, not, bytes_eq, codes, count_by}
use Rattle.std.proofs.lemmas.Bool.{and_parts, leb-true, ltb-true}
use Rattle.std.proofs.lemmas.List.{append-nil, length_push}
use Rattle.std.proofs.lemmas.List.Sums.{sum_by-cons}
use Rattle.toml.specs.Data.{Data, Items, no_items, item, Members, as_array, as_integer, as_str}
use Rattle.ebc_base.specs.Steps.{◌>>=◌, or_else, passes}
use Rattle.note_types.specs.declared.fault.TomlFault.{TomlFault}
use Rattle.note_types.specs.declared.fault.TomlFault.TheVariants.{Kind, Range}
use Rattle.note_types.specs.declared.notes.Pair.{Pair}
use Rattle.note_types.specs.Limits.{IsVersion, point_limit}
use Rattle.note_types.specs.Records.{Each, HasNameLength, IsPlace}
use Rattle.note_texts.specs.declared.slot.ItemText.{ItemText}
use Rattle.note_texts.specs.declared.slot.ItemText.TheVariants as items
use Rattle.note_texts.specs.declared.want.ResultText.{ResultText}
use Rattle.note_texts.specs.CellTexts.{field_of}
use Rattle.note_texts.specs.Keys.{field, natural_in, number_at, only_keys, optional_text_at, pair_at, row_prefix, text_at, text_of}
use Rattle.note_texts.specs.Keys.{two_items, whole_number}
use Rattle.note_texts.specs.Lists.{array_at, count, count_beside, each, has_text, is_text, list_at, row_of, rows_of, same_text, table_of}
use Rattle.note_texts.specs.Lists.{tables_at, texts_at, texts_beside_at, texts_of}
use Rattle.note_texts.specs.SlotTexts.{item_of, param_of, register_of, slot_of}
use Rattle.note_texts.specs.TypeTexts.{type_of}
use Rattle.note_texts.specs.WantTexts.{result_of, want_param_of}
use Rattle.note_draft.specs.declared.draft.FunctionDraft.{FunctionDraft}
use Rattle.note_draft.specs.declared.draft.NotesDraft.{NotesDraft}
use Rattle.note_draft.specs.declared.draft.PointDraft.{PointDraft}
use Rattle.note_draft.specs.declared.draft.ShapeDraft.{ShapeDraft}
use Rattle.note_draft.specs.declared.draft.SignatureDraft.{SignatureDraft}
use Rattle.note_draft.specs.declared.draft.SiteDraft.{SiteDraft}
use Rattle.note_draft.specs.declared.draft.StaticDraft.{StaticDraft}
use Rattle.note_draft.specs.declared.draft.ThunkDraft.{ThunkDraft}
use Rattle.note_draft.specs.declared.reading.CallLists.{CallLists}
use Rattle.note_draft.specs.declared.reading.CodeLists.{CodeLists}
use Rattle.note_draft.specs.declared.reading.DataLists.{DataLists}
use Rattle.note_draft.specs.declared.reading.DraftLists.{DraftLists}
use Rattle.note_draft.specs.declared.reading.Extent.{Extent}
use Rattle.note_draft.specs.declared.reading.Interface.{Interface}
use Rattle.note_draft.specs.Drafts.{call_lists, code_lists, data_lists, draft_lists, draft_of, extent_of, function_enter, function_of}
use Rattle.note_draft.specs.Drafts.{greatest_32, greatest_64, has_room, interface_of, last_place, method_of, point_keys}
use Rattle.note_draft.specs.Drafts.{point_made, point_of, shape_of, signature_in, signature_of, signature_result, signatures_at}
use Rattle.note_draft.specs.Drafts.{signatures_from, site_of, static_of, thunk_of}
use Rattle.ebc_base.specs.Tables.{is_named, with_name}
use Rattle.note_draft.specs.Names.{distinct}
use Rattle.note_draft.specs.Once.{method_names}
use Rattle.note_draft.proofs.DistinctLaws.{distinct-push}
use Rattle.note_draft.proofs.VersionLaws.{is_version}
use Rattle.type_notes.specs.Conditions.{is_locals}
use Rattle.type_notes.proofs.ListBounds.{each_read}
use Rattle.type_notes.proofs.Outcomes.{ok_if, ok_passes}
use Rattle.type_notes.proofs.TextBounds.{IsFieldBounded, IsGivenBounded, IsItemBounded, IsParamBounded, IsTypeBounded, IsWantParamBounded}
use Rattle.type_notes.proofs.TextBounds.{IsWithin, field_of-bounds, name_of-bounds, param_of-bounds, register_of-bounds, result_of-bounds}
use Rattle.type_notes.proofs.TextBounds.{slot_of-bounds, type_of-bounds, want_param_of-bounds}
use Rattle.note_types.proofs.RecordLaws.{each_none, each_more}
use Rattle.ebc_base.proofs.Given.{ok_then, ok_next, ok_some, ok_weaken}
use Rattle.ebc_base.specs.Names.{name_of}

-- ---- keys

natural_in-bounds : (path : List ℕ) (low high : ℕ) (n : ℤ) → IfOk (natural_in path low high n) (IsWithin low high)
natural_in-bounds path low high (pos n) =
    ok_if (IsWithin low high) (nat_le low n && nat_le n high) n (Range path)
    (λ e. let p = and_parts (nat_le low n) (nat_le n high) e in (leb-true low n p.0, leb-true n high p.1))
natural_in-bounds path low high (negsuc n) = tt

whole_number-bounds : (path : List ℕ) (low high : ℕ) (d : Data) → IfOk (whole_number path low high d) (IsWithin low high)
whole_number-bounds path low high d = ok_next (IsWithin low high) (or_else (Kind path) (as_integer d)) (natural_in path low high)
    (natural_in-bounds path low high)

number_at-bounds : (prefix key : List ℕ) (low high : ℕ) (table : Members) → IfOk (number_at prefix key low high table) (IsWithin low high)
unfolding number_at
number_at-bounds prefix key low high table = ok_next (IsWithin low high) (field prefix key table) (whole_number (prefix ++ key) low high)
    (whole_number-bounds (prefix ++ key) low high)

abbrev pub IsPairWithin : ℕ → Pair → Type 0
IsPairWithin high pair = (pair.n ≤ high) × (pair.c ≤ high)

pair_at-bounds : (prefix key : List ℕ) (high : ℕ) (table : Members) → IfOk (pair_at prefix key high table) (IsPairWithin high)
unfolding pair_at
pair_at-bounds prefix key high table =
    let P : Pair → Type 0 = IsPairWithin high in
    ok_next P (field prefix key table) _
    (λ d. ok_next P (or_else (Kind (prefix ++ key)) (as_array d)) _
    (λ ds. ok_next P (or_else (Range (prefix ++ key)) (two_items ds)) _
    (λ two. ok_then (IsWithin 0 high) P (whole_number (prefix ++ key) 0 high two.0) _ (whole_number-bounds (prefix ++ key) 0 high two.0)
    (λ n g. ok_then (IsWithin 0 high) P (whole_number (prefix ++ key) 0 high two.1) _ (whole_number-bounds (prefix ++ key) 0 high two.1)
    (λ c h. (g.1, h.1))))))

text_of-bounds : {A : Type 0} (P : A → Type 0) (reads : List ℕ → Option A) (path : List ℕ) (d : Data) → ((s : List ℕ) → IfSome (reads s) P)
    → IfOk (text_of reads path d) P
text_of-bounds P reads path d h = ok_next P (or_else (Kind path) (as_str d)) (λ s. or_else (Range path) (reads s))
    (λ s. ok_some P (Range path) (reads s) (h s))

text_at-bounds : {A : Type 0} (P : A → Type 0) (reads : List ℕ → Option A) (prefix key : List ℕ) (table : Members)
    → ((s : List ℕ) → IfSome (reads s) P) → IfOk (text_at reads prefix key table) P
unfolding text_at
text_at-bounds P reads prefix key table h = ok_next P (field prefix key table) (text_of reads (prefix ++ key))
    (λ d. text_of-bounds P reads (prefix ++ key) d h)

-- ---- lists

list_at-bounds : (prefix key : List ℕ) (limit : ℕ) (table : Members) → IfOk (list_at prefix key limit table) (λ ds. count ds ≤ limit)
unfolding list_at
list_at-bounds prefix key limit table =
    ok_next (λ ds. count ds ≤ limit) (array_at prefix key table) _
    (λ ds. ok_then (λ _. nat_le (count ds) limit ≡ true) (λ xs. count xs ≤ limit)
    (passes (nat_le (count ds) limit) (Range (prefix ++ key))) _ (ok_passes (nat_le (count ds) limit) (Range (prefix ++ key)))
    (λ _ e. leb-true (count ds) limit e))

-- a list of at most so many, of each of which P holds
abbrev pub IsList : {A : Type 0} → ℕ → (A → Type 0) → List A → Type 0
IsList limit P xs = (length xs ≤ limit) × Each P xs

few_read : {A : Type 0} (P : A → Type 0) (read : ℕ → Data → Result A TomlFault) (limit : ℕ) (ds : Items) → count ds ≤ limit
    → ((j : ℕ) (d : Data) → IfOk (read j d) P) → IfOk (each read 0 ds) (IsList limit P)
few_read P read limit ds few h =
    ok_weaken (λ xs. (length xs ≡ count ds) × Each P xs) (IsList limit P) (each read 0 ds) (each_read P read ds 0 h)
    (λ xs g. let same : length xs ≡ count ds = g.0 in (omega arith, g.1))

texts_at-bounds : {A : Type 0} (P : A → Type 0) (reads : List ℕ → Option A) (prefix key : List ℕ) (limit : ℕ) (table : Members)
    → ((s : List ℕ) → IfSome (reads s) P) → IfOk (texts_at reads prefix key limit table) (IsList limit P)
unfolding texts_at texts_of
texts_at-bounds P reads prefix key limit table h =
    ok_then (λ ds. count ds ≤ limit) (IsList limit P) (list_at prefix key limit table) (texts_of reads (prefix ++ key))
    (list_at-bounds prefix key limit table)
    (λ ds few. few_read P (λ i d. text_of reads (prefix ++ key) d) limit ds few (λ j d. text_of-bounds P reads (prefix ++ key) d h))

tables_at-bounds : {A : Type 0} (P : A → Type 0) (reads : List ℕ → Members → Result A TomlFault) (key : List ℕ) (limit : ℕ)
    (table : Members) → ((prefix : List ℕ) (ms : Members) → IfOk (reads prefix ms) P)
    → IfOk (tables_at reads [] key limit table) (IsList limit P)
unfolding tables_at rows_of
tables_at-bounds P reads key limit table h =
    ok_then (λ ds. count ds ≤ limit) (IsList limit P) (list_at [] key limit table) (rows_of reads ([] ++ key))
    (list_at-bounds [] key limit table)
    (λ ds few. few_read P (row_of reads ([] ++ key)) limit ds few
    (λ j d. ok_next P (table_of ([] ++ key) j d) (reads (row_prefix ([] ++ key) j)) (h (row_prefix ([] ++ key) j))))

-- ---- the stack of a point

-- whether an item is a slot
abbrev pub is_slot_text : ItemText → Bool
is_slot_text x = not (is_locals x)

one_item : (b : Bool) (o : Option ItemText) → IfSome o IsItemBounded
    → IfSome (if b then Some items.Locals else o) (λ x. IsItemBounded x × (b ≡ true → is_slot_text x ≡ false))
one_item true o h = (tt, λ e. refl)
one_item false None h = tt
one_item false (Some x) h = (h, λ e. absurd cc)

-- an item is within its bounds, and no slot where its text is `locals`
abbrev pub IsReadAs : Bool → ItemText → Type 0
IsReadAs b x = IsItemBounded x × (b ≡ true → is_slot_text x ≡ false)

item_of-is : (s : List ℕ) → IfSome (item_of s) (IsReadAs (bytes_eq s (codes "locals")))
unfolding item_of
item_of-is s = one_item (bytes_eq s (codes "locals")) (slot_of s) (slot_of-bounds s)

item_text : (path : List ℕ) (o : Option (List ℕ)) → IfOk (or_else (Kind path) o >>= (λ s. or_else (Range path) (item_of s)))
    (IsReadAs (same_text (codes "locals") o))
item_text path None = tt
item_text path (Some s) = ok_some (IsReadAs (bytes_eq s (codes "locals"))) (Range path) (item_of s) (item_of-is s)

-- a stack that was read: each item is within its bounds, and there is one slot less where some text is `locals`
abbrev pub IsStackOf : Items → List ItemText → Type 0
IsStackOf ds xs = Each IsItemBounded xs × (count_by is_slot_text xs + cond (has_text (codes "locals") ds) 1 0 ≤ count ds)

one_more : (slot locals some : Bool) (c n : ℕ) → (locals ≡ true → slot ≡ false) → c + cond some 1 0 ≤ n
    → (cond slot 1 0 + c) + cond (locals || some) 1 0 ≤ n + 1
one_more true true some c n h le = absurd (let e = h refl in cc)
one_more true false true c n h le = omega arith
one_more true false false c n h le = omega arith
one_more false true true c n h le = omega arith
one_more false true false c n h le = omega arith
one_more false false true c n h le = omega arith
one_more false false false c n h le = omega arith

stack_read : (path : List ℕ) (ds : Items) (i : ℕ) → IfOk (each (λ j d. text_of item_of path d) i ds) (IsStackOf ds)
unfolding each
stack_read path no_items i = (each_none IsItemBounded, omega arith)
stack_read path (item d ds) i =
    ok_then (IsReadAs (is_text (codes "locals") d)) (IsStackOf (item d ds)) (text_of item_of path d) _ (item_text path (as_str d))
    (λ x h. ok_then (IsStackOf ds) (IsStackOf (item d ds)) (each (λ j e. text_of item_of path e) (i + 1) ds) _ (stack_read path ds (i + 1))
    (λ xs g.
    let c : count_by is_slot_text (x ∷ xs) ≡ cond (is_slot_text x) 1 0 + count_by is_slot_text xs =
    sum_by-cons (λ y. cond (is_slot_text y) 1 0) x xs in
    let le = one_more (is_slot_text x) (is_text (codes "locals") d) (has_text (codes "locals") ds) (count_by is_slot_text xs)
    (count ds) h.1 g.1 in (
      each_more IsItemBounded x xs h.0 g.0,
      subst (λ n. n + cond (has_text (codes "locals") (item d ds)) 1 0 ≤ count (item d ds))
          (sym c) le,
    )))

-- a stack of which each item is within its bounds, with at most 64 slots
pub record IsStack (xs : List ItemText) : Type 0 where
  pub slots : Each IsItemBounded xs
  pub few : count_by is_slot_text xs ≤ 64

few_slots : (b : Bool) (c n : ℕ) → nat_le (if b then n - 1 else n) 64 ≡ true → c + cond b 1 0 ≤ n → c ≤ 64
few_slots true c n e le = let l = leb-true (n - 1) 64 e in omega arith
few_slots false c n e le = let l = leb-true n 64 e in omega arith

stack_at-bounds : (prefix : List ℕ) (table : Members) → IfOk (texts_beside_at item_of prefix (codes "stack") 64
    (codes "locals") table) IsStack
unfolding texts_beside_at texts_of
stack_at-bounds prefix table =
    ok_next IsStack (array_at prefix (codes "stack") table) _
    (λ ds. ok_then (λ _. nat_le (count_beside (codes "locals") ds) 64 ≡ true) IsStack
    (passes (nat_le (count_beside (codes "locals") ds) 64) (Range (prefix ++ codes "stack"))) _
    (ok_passes (nat_le (count_beside (codes "locals") ds) 64) (Range (prefix ++ codes "stack")))
    (λ _ e. ok_weaken (IsStackOf ds) IsStack (each (λ j d. text_of item_of (prefix ++ codes "stack") d) 0 ds)
    (stack_read (prefix ++ codes "stack") ds 0)
    (λ xs h. record { slots = h.0; few = few_slots (has_text (codes "locals") ds) (count_by is_slot_text xs) (count ds) e h.1 })))

-- ---- tables of data

pub record IsShapeDraft (s : ShapeDraft) : Type 0 where
  pub name : HasNameLength s.name
  pub units : s.n < 2 ^ 32
  pub bytes : s.c < 2 ^ 32
  pub fields : IsList 256 IsFieldBounded s.fields

shape_of-bounds : (prefix : List ℕ) (table : Members) → IfOk (shape_of prefix table) IsShapeDraft
unfolding shape_of
shape_of-bounds prefix table =
    ok_then HasNameLength IsShapeDraft (text_at name_of prefix (codes "name") table) _
    (text_at-bounds HasNameLength name_of prefix (codes "name") table name_of-bounds)
    (λ name long. ok_then (IsPairWithin greatest_32) IsShapeDraft (pair_at prefix (codes "size") greatest_32 table) _
    (pair_at-bounds prefix (codes "size") greatest_32 table)
    (λ size small. ok_then (IsList 256 IsFieldBounded) IsShapeDraft (texts_at field_of prefix (codes "fields") 256 table) _
    (texts_at-bounds IsFieldBounded field_of prefix (codes "fields") 256 table field_of-bounds)
    (λ fields few. ok_next IsShapeDraft (only_keys prefix (codes "name" ∷ codes "size" ∷ codes "fields" ∷ []) table) _
    (λ _. let a : size.n ≤ 2 ^ 32 - 1 = small.0 in let b : size.c ≤ 2 ^ 32 - 1 = small.1 in
    record { name = long; units = omega arith; bytes = omega arith; fields = few }))))

pub record IsStaticDraft (o : StaticDraft) : Type 0 where
  pub place : IsPlace o.place
  pub count : (1 ≤ o.count) × (o.count < 2 ^ 64)

place_below : (n : ℕ) → IsWithin 0 last_place n → IsPlace n
place_below n h = let a : n ≤ 2 ^ 22 - 1 = h.1 in omega arith

static_of-bounds : (prefix : List ℕ) (table : Members) → IfOk (static_of prefix table) IsStaticDraft
unfolding static_of
static_of-bounds prefix table =
    ok_then (IsWithin 0 last_place) IsStaticDraft (number_at prefix (codes "place") 0 last_place table) _
    (number_at-bounds prefix (codes "place") 0 last_place table)
    (λ place low. ok_next IsStaticDraft (text_at name_of prefix (codes "shape") table) _
    (λ shape. ok_then (IsWithin 1 greatest_64) IsStaticDraft (number_at prefix (codes "count") 1 greatest_64 table) _
    (number_at-bounds prefix (codes "count") 1 greatest_64 table)
    (λ count some. ok_next IsStaticDraft (only_keys prefix (codes "place" ∷ codes "shape" ∷ codes "count" ∷ []) table) _
    (λ _. let a : 1 ≤ count = some.0 in let b : count ≤ 2 ^ 64 - 1 = some.1 in
    record { place = place_below place low; count = (omega arith, omega arith) }))))

thunk_of-bounds : (prefix : List ℕ) (table : Members) → IfOk (thunk_of prefix table) (λ o. IsPlace o.place)
unfolding thunk_of
thunk_of-bounds prefix table =
    let P : ThunkDraft → Type 0 = λ o. IsPlace o.place in
    ok_then (IsWithin 0 last_place) P (number_at prefix (codes "place") 0 last_place table) _
    (number_at-bounds prefix (codes "place") 0 last_place table)
    (λ place low. ok_next P (text_at name_of prefix (codes "function") table) _
    (λ function. ok_next P (only_keys prefix (codes "place" ∷ codes "function" ∷ []) table) _ (λ _. place_below place low)))

-- ---- functions

record IsExtent (x : Extent) : Type 0 where
  pub place : IsPlace x.place
  pub end : x.end ≤ 2 ^ 22
  pub level : x.level < 2 ^ 64
  pub need : (x.need.n < 2 ^ 64) × (x.need.c < 2 ^ 64)

extent_of-bounds : (prefix : List ℕ) (table : Members) → IfOk (extent_of prefix table) IsExtent
unfolding extent_of
extent_of-bounds prefix table =
    ok_then (IsWithin 0 last_place) IsExtent (number_at prefix (codes "place") 0 last_place table) _
    (number_at-bounds prefix (codes "place") 0 last_place table)
    (λ place low. ok_then (IsWithin 0 (last_place + 1)) IsExtent (number_at prefix (codes "end") 0 (last_place + 1) table) _
    (number_at-bounds prefix (codes "end") 0 (last_place + 1) table)
    (λ end below. ok_then (IsWithin 0 greatest_64) IsExtent (number_at prefix (codes "level") 0 greatest_64 table) _
    (number_at-bounds prefix (codes "level") 0 greatest_64 table)
    (λ level small. ok_then (IsPairWithin greatest_64) IsExtent (pair_at prefix (codes "need") greatest_64 table) _
    (pair_at-bounds prefix (codes "need") greatest_64 table)
    (λ need few.
    let a : end ≤ 2 ^ 22 = below.1 in
    let b : level ≤ 2 ^ 64 - 1 = small.1 in
    let m : need.n ≤ 2 ^ 64 - 1 = few.0 in
    let k : need.c ≤ 2 ^ 64 - 1 = few.1 in
    record { place = place_below place low; end = a; level = omega arith; need = (omega arith, omega arith) }))))

record IsInterface (x : Interface) : Type 0 where
  pub params : IsList 16 IsParamBounded x.params
  pub result : IsTypeBounded x.result

interface_of-bounds : (prefix : List ℕ) (table : Members) → IfOk (interface_of prefix table) IsInterface
unfolding interface_of
interface_of-bounds prefix table =
    ok_next IsInterface (optional_text_at name_of prefix (codes "locals") table) _
    (λ locals. ok_then (IsList 16 IsParamBounded) IsInterface (texts_at param_of prefix (codes "params") 16 table) _
    (texts_at-bounds IsParamBounded param_of prefix (codes "params") 16 table param_of-bounds)
    (λ params few. ok_then IsTypeBounded IsInterface (text_at type_of prefix (codes "result") table) _
    (text_at-bounds IsTypeBounded type_of prefix (codes "result") table type_of-bounds)
    (λ result small. record { params = few; result = small })))

pub record IsFunctionDraft (f : FunctionDraft) : Type 0 where
  pub name : HasNameLength f.name
  pub place : IsPlace f.place
  pub end : f.end ≤ 2 ^ 22
  pub level : f.level < 2 ^ 64
  pub need : (f.need.n < 2 ^ 64) × (f.need.c < 2 ^ 64)
  pub params : IsList 16 IsParamBounded f.params
  pub result : IsTypeBounded f.result

function_of-bounds : (prefix : List ℕ) (table : Members) → IfOk (function_of prefix table) IsFunctionDraft
unfolding function_of
function_of-bounds prefix table =
    ok_then HasNameLength IsFunctionDraft (text_at name_of prefix (codes "name") table) _
    (text_at-bounds HasNameLength name_of prefix (codes "name") table name_of-bounds)
    (λ name long. ok_then IsExtent IsFunctionDraft (extent_of prefix table) _ (extent_of-bounds prefix table)
    (λ extent x. ok_then IsInterface IsFunctionDraft (interface_of prefix table) _ (interface_of-bounds prefix table)
    (λ interface y. ok_next IsFunctionDraft (function_enter prefix table) _
    (λ enter. record { name = long; place = x.place; end = x.end; level = x.level; need = x.need; params = y.params; result = y.result }))))

-- ---- points

pub record IsPointDraft (p : PointDraft) : Type 0 where
  pub place : IsPlace p.place
  pub regs : Each (λ r. IsTypeBounded r.ty) p.regs
  pub stack : IsStack p.stack
  pub made : p.made < 2 ^ 32

point_made-bounds : (prefix : List ℕ) (table : Members) → IfOk (point_made prefix table) (λ made. made < 2 ^ 32)
unfolding point_made
point_made-bounds prefix table =
    let P : ℕ → Type 0 = λ made. made < 2 ^ 32 in
    ok_then (IsWithin 0 greatest_32) P (number_at prefix (codes "made") 0 greatest_32 table) _
    (number_at-bounds prefix (codes "made") 0 greatest_32 table)
    (λ made small. ok_next P (only_keys prefix point_keys table) _
    (λ _. let a : made ≤ 2 ^ 32 - 1 = small.1 in let b : made < 2 ^ 32 = omega arith in b))

point_of-bounds : (prefix : List ℕ) (table : Members) → IfOk (point_of prefix table) IsPointDraft
unfolding point_of
point_of-bounds prefix table =
    ok_then (IsWithin 0 last_place) IsPointDraft (number_at prefix (codes "place") 0 last_place table) _
    (number_at-bounds prefix (codes "place") 0 last_place table)
    (λ place low. ok_then (IsList greatest_64 (λ r. IsTypeBounded r.ty)) IsPointDraft
    (texts_at register_of prefix (codes "regs") greatest_64 table) _
    (texts_at-bounds (λ r. IsTypeBounded r.ty) register_of prefix (codes "regs") greatest_64 table register_of-bounds)
    (λ regs known. ok_then IsStack IsPointDraft (texts_beside_at item_of prefix (codes "stack") 64 (codes "locals") table) _
    (stack_at-bounds prefix table)
    (λ stack few. ok_next IsPointDraft (texts_at name_of prefix (codes "written") greatest_64 table) _
    (λ written. ok_then (λ made. made < 2 ^ 32) IsPointDraft (point_made prefix table) _ (point_made-bounds prefix table)
    (λ made small. record { place = place_below place low; regs = known.1; stack = few; made = small })))))

-- ---- signatures and sites

pub record IsSignatureDraft (s : SignatureDraft) : Type 0 where
  pub name : HasNameLength s.name
  pub method : HasNameLength s.method
  pub params : IsList 16 IsWantParamBounded s.params
  pub result : IfSome s.result.ty IsGivenBounded

-- the names stay few where one more has room
room_left : (there : Bool) (names : List (List ℕ)) (m : List ℕ) → (there || nat_lt (length names) 1024) ≡ true → length names ≤ 1024
    → length (if there then names else names ++ m ∷ []) ≤ 1024
room_left true names m e h = h
room_left false names m e h =
    let less : length names < 1024 = ltb-true (length names) 1024 e in
    let n : length (names ++ m ∷ []) ≡ length names + 1 = length_push names m in
    omega arith

-- a signature is within its bounds, and its method has room beside others
abbrev pub IsSignatureAfter : List (List ℕ) → SignatureDraft → Type 0
IsSignatureAfter methods s = IsSignatureDraft s × (length methods ≤ 1024 → length (with_name s.method methods) ≤ 1024)

-- a name that has room beside others
record IsMethodAfter (methods : List (List ℕ)) (method : List ℕ) : Type 0 where
  pub long : HasNameLength method
  pub room : has_room methods method ≡ true

method_of-bounds : (methods : List (List ℕ)) (prefix : List ℕ) (table : Members)
    → IfOk (method_of methods prefix table) (IsMethodAfter methods)
unfolding method_of
method_of-bounds methods prefix table =
    let P : List ℕ → Type 0 = IsMethodAfter methods in
    ok_then HasNameLength P (text_at name_of prefix (codes "method") table) _
    (text_at-bounds HasNameLength name_of prefix (codes "method") table name_of-bounds)
    (λ method there. ok_then (λ _. has_room methods method ≡ true) P (passes (has_room methods method) (Range (prefix ++ codes "method"))) _
    (ok_passes (has_room methods method) (Range (prefix ++ codes "method")))
    (λ _ room. record { long = there; room = room }))

signature_result-bounds : (prefix : List ℕ) (table : Members)
    → IfOk (signature_result prefix table) (λ (r : ResultText). IfSome r.ty IsGivenBounded)
unfolding signature_result
signature_result-bounds prefix table =
    let P : ResultText → Type 0 = λ r. IfSome r.ty IsGivenBounded in
    ok_then P P (text_at result_of prefix (codes "result") table) _
    (text_at-bounds P result_of prefix (codes "result") table result_of-bounds)
    (λ result given. ok_next P (only_keys prefix (codes "name" ∷ codes "method" ∷ codes "params" ∷ codes "result" ∷ []) table) _
    (λ _. given))

signature_of-bounds : (methods : List (List ℕ)) (prefix : List ℕ) (table : Members)
    → IfOk (signature_of methods prefix table) (IsSignatureAfter methods)
unfolding signature_of
signature_of-bounds methods prefix table =
    let P : SignatureDraft → Type 0 = IsSignatureAfter methods in
    ok_then HasNameLength P (text_at name_of prefix (codes "name") table) _
    (text_at-bounds HasNameLength name_of prefix (codes "name") table name_of-bounds)
    (λ name long. ok_then (IsMethodAfter methods) P (method_of methods prefix table) _ (method_of-bounds methods prefix table)
    (λ method there. ok_then (IsList 16 IsWantParamBounded) P (texts_at want_param_of prefix (codes "params") 16 table) _
    (texts_at-bounds IsWantParamBounded want_param_of prefix (codes "params") 16 table want_param_of-bounds)
    (λ params few. ok_then (λ r. IfSome r.ty IsGivenBounded) P (signature_result prefix table) _ (signature_result-bounds prefix table)
    (λ result given. (
      record { name = long; method = there.long; params = few; result = given },
      λ h. room_left (is_named method methods) methods method there.room h,
    )))))

-- the methods of signatures
abbrev pub methods_of : List SignatureDraft → List (List ℕ)
methods_of signatures = map (λ s. s.method) signatures

-- signatures that were read after others: as many as there are, each within its bounds, and their methods have room
pub record AreSignatures (before : List (List ℕ)) (ds : Items) (xs : List SignatureDraft) : Type 0 where
  pub same : length xs ≡ count ds
  pub bounds : Each IsSignatureDraft xs
  pub methods : length (distinct before) ≤ 1024 → length (distinct (before ++ methods_of xs)) ≤ 1024

signatures_from-bounds : (ds : Items) (before : List (List ℕ)) (path : List ℕ) (i : ℕ)
    → IfOk (signatures_from before path i ds) (AreSignatures before ds)
unfolding signatures_from
signatures_from-bounds no_items before path i = record {
  same = refl;
  bounds = each_none IsSignatureDraft;
  methods = λ h. subst (λ names. length (distinct names) ≤ 1024) (sym (append-nil before)) h;
}
signatures_from-bounds (item d ds) before path i =
    let Q : List SignatureDraft → Type 0 = AreSignatures before (item d ds) in
    ok_then (IsSignatureAfter (distinct before)) Q (signature_in (distinct before) path i d) _
    (ok_next (IsSignatureAfter (distinct before)) (table_of path i d) (signature_of (distinct before) (row_prefix path i))
    (signature_of-bounds (distinct before) (row_prefix path i)))
    (λ first h. ok_then (AreSignatures (before ++ first.method ∷ []) ds) Q (signatures_from (before ++ first.method ∷ []) path (i + 1) ds) _
    (signatures_from-bounds ds (before ++ first.method ∷ []) path (i + 1))
    (λ rest g.
    let n : length rest ≡ count ds = g.same in
    let grown : distinct (before ++ first.method ∷ []) ≡ with_name first.method (distinct before) = distinct-push before first.method in
    let regrouped : (before ++ first.method ∷ []) ++ methods_of rest ≡ before
    ++ methods_of (first ∷ rest) = append_assoc before (first.method ∷ []) (methods_of rest) in
    record {
      same = omega arith;
      bounds = each_more IsSignatureDraft first rest h.0 g.bounds;
      methods = λ few. subst (λ names. length (distinct names) ≤ 1024) regrouped
          (g.methods (subst (λ names. length names ≤ 1024) (sym grown) (h.1 few)));
    }))

-- the list of signatures, with their methods
pub record IsSignatureList (xs : List SignatureDraft) : Type 0 where
  pub list : IsList greatest_32 IsSignatureDraft xs
  pub methods : length (method_names xs) ≤ 1024

no_names : length (distinct []) ≤ 1024
unfolding distinct
no_names = omega arith

signatures_at-bounds : (table : Members) → IfOk (signatures_at [] table) IsSignatureList
unfolding signatures_at
signatures_at-bounds table =
    ok_then (λ ds. count ds ≤ greatest_32) IsSignatureList (list_at [] (codes "signature") greatest_32 table) _
    (list_at-bounds [] (codes "signature") greatest_32 table)
    (λ ds few. ok_weaken (AreSignatures [] ds) IsSignatureList (signatures_from [] ([] ++ codes "signature") 0 ds)
    (signatures_from-bounds ds [] ([] ++ codes "signature") 0)
    (λ xs h. let n : length xs ≡ count ds = h.same in record { list = (omega arith, h.bounds); methods = h.methods no_names }))

site_of-bounds : (prefix : List ℕ) (table : Members) → IfOk (site_of prefix table) (λ o. IsPlace o.place)
unfolding site_of
site_of-bounds prefix table =
    let P : SiteDraft → Type 0 = λ o. IsPlace o.place in
    ok_then (IsWithin 0 last_place) P (number_at prefix (codes "place") 0 last_place table) _
    (number_at-bounds prefix (codes "place") 0 last_place table)
    (λ place low. ok_next P (text_at name_of prefix (codes "signature") table) _
    (λ signature. ok_next P (only_keys prefix (codes "place" ∷ codes "signature" ∷ []) table) _ (λ _. place_below place low)))

-- ---- the whole

record AreData (x : DataLists) : Type 0 where
  pub shape : IsList 1024 IsShapeDraft x.shape
  pub statics : IsList greatest_32 IsStaticDraft x.statics
  pub thunk : IsList greatest_32 (λ o. IsPlace o.place) x.thunk

data_lists-bounds : (table : Members) → IfOk (data_lists table) AreData
unfolding data_lists
data_lists-bounds table =
    ok_then (IsList 1024 IsShapeDraft) AreData (tables_at shape_of [] (codes "shape") 1024 table) _
    (tables_at-bounds IsShapeDraft shape_of (codes "shape") 1024 table shape_of-bounds)
    (λ shape a. ok_then (IsList greatest_32 IsStaticDraft) AreData (tables_at static_of [] (codes "static") greatest_32 table) _
    (tables_at-bounds IsStaticDraft static_of (codes "static") greatest_32 table static_of-bounds)
    (λ statics b. ok_then (IsList greatest_32 (λ o. IsPlace o.place)) AreData (tables_at thunk_of [] (codes "thunk") greatest_32 table) _
    (tables_at-bounds (λ o. IsPlace o.place) thunk_of (codes "thunk") greatest_32 table thunk_of-bounds)
    (λ thunk c. record { shape = a; statics = b; thunk = c })))

record AreCode (version : ℕ) (x : CodeLists) : Type 0 where
  pub function : IsList 4096 IsFunctionDraft x.function
  pub point : IsList (point_limit version) IsPointDraft x.point

code_lists-bounds : (version : ℕ) (table : Members) → IfOk (code_lists version table) (AreCode version)
unfolding code_lists
code_lists-bounds version table =
    ok_then (IsList 4096 IsFunctionDraft) (AreCode version) (tables_at function_of [] (codes "function") 4096 table) _
    (tables_at-bounds IsFunctionDraft function_of (codes "function") 4096 table function_of-bounds)
    (λ function a. ok_then (IsList (point_limit version) IsPointDraft) (AreCode version)
    (tables_at point_of [] (codes "point") (point_limit version) table) _
    (tables_at-bounds IsPointDraft point_of (codes "point") (point_limit version) table point_of-bounds)
    (λ point b. record { function = a; point = b }))

record AreCalls (x : CallLists) : Type 0 where
  pub signature : IsSignatureList x.signature
  pub site : IsList greatest_32 (λ o. IsPlace o.place) x.site

call_lists-bounds : (table : Members) → IfOk (call_lists table) AreCalls
unfolding call_lists
call_lists-bounds table =
    ok_then IsSignatureList AreCalls (signatures_at [] table) _ (signatures_at-bounds table)
    (λ signature a. ok_then (IsList greatest_32 (λ o. IsPlace o.place)) AreCalls (tables_at site_of [] (codes "site") greatest_32 table) _
    (tables_at-bounds (λ o. IsPlace o.place) site_of (codes "site") greatest_32 table site_of-bounds)
    (λ site b. ok_next AreCalls (only_keys [] _ table) _ (λ _. record { signature = a; site = b })))

record AreLists (version : ℕ) (x : DraftLists) : Type 0 where
  pub things : AreData x.things
  pub code : AreCode version x.code
  pub calls : AreCalls x.calls

draft_lists-bounds : (version : ℕ) (table : Members) → IfOk (draft_lists version table) (AreLists version)
unfolding draft_lists
draft_lists-bounds version table =
    ok_then AreData (AreLists version) (data_lists table) _ (data_lists-bounds table)
    (λ things a. ok_then (AreCode version) (AreLists version) (code_lists version table) _ (code_lists-bounds version table)
    (λ code b. ok_then AreCalls (AreLists version) (call_lists table) _ (call_lists-bounds table)
    (λ calls c. record { things = a; code = b; calls = c })))

-- what the first pass tells of a draft
pub record IsDraft (d : NotesDraft) : Type 0 where
  pub version : IsVersion d.version
  pub shape : IsList 1024 IsShapeDraft d.shape
  pub statics : IsList greatest_32 IsStaticDraft d.statics
  pub thunk : IsList greatest_32 (λ o. IsPlace o.place) d.thunk
  pub function : IsList 4096 IsFunctionDraft d.function
  pub point : IsList (point_limit d.version) IsPointDraft d.point
  pub signature : IsSignatureList d.signature
  pub site : IsList greatest_32 (λ o. IsPlace o.place) d.site

pub draft_of-bounds : (table : Members) → IfOk (draft_of table) IsDraft
unfolding draft_of
draft_of-bounds table =
    ok_then (IsWithin 1 2) IsDraft (number_at [] (codes "version") 1 2 table) _ (number_at-bounds [] (codes "version") 1 2 table)
    (λ version one. ok_next IsDraft (text_at name_of [] (codes "entry") table) _
    (λ entry. ok_then (AreLists version) IsDraft (draft_lists version table) _ (draft_lists-bounds version table)
    (λ lists are.
    record {
      version = is_version version one.0 one.1;
      shape = are.things.shape;
      statics = are.things.statics;
      thunk = are.things.thunk;
      function = are.code.function;
      point = are.code.point;
      signature = are.calls.signature;
      site = are.calls.site;
    })))
