-- The numbers in small texts are within the bounds of what the texts stand for.
use Rattle.std.proofs.Common.{◌≡◌, ℕ, zero, suc, ◌+◌, ◌-◌, ◌*◌, ◌^◌, ◌<◌, ◌≤◌, ℤ, Bool, true, false, List, [], ◌∷◌, length, Option, None}
use Rattle.std.proofs.Common.{Some, arith}
use Rattle.std.specs.Prelude.{IfSome, ⊤, pos, neg_ℤ, nat_le, nat_lt, ◌&&◌, ◌==◌, bytes_eq, codes, option_map}
use Rattle.std.specs.List.{list_all}
use Rattle.std.proofs.lemmas.Bool.{and_parts, leb-true, ltb-true}
use Rattle.note_types.specs.Passing.{IsParameterKind}
use Rattle.note_types.specs.Records.{HasNameLength}
use Rattle.note_types.specs.Types.{IsNear, IsUnits}
use Rattle.note_texts.specs.declared.cell.CellText.{CellText}
use Rattle.note_texts.specs.declared.cell.CellText.TheVariants as cells
use Rattle.note_texts.specs.declared.cell.FieldText.{FieldText}
use Rattle.note_texts.specs.declared.slot.ItemText.{ItemText}
use Rattle.note_texts.specs.declared.slot.ItemText.TheVariants as items
use Rattle.note_texts.specs.declared.slot.ParamText.{ParamText}
use Rattle.note_texts.specs.declared.ty.TypeText.{TypeText}
use Rattle.note_texts.specs.declared.ty.TypeText.TheVariants as types
use Rattle.note_texts.specs.declared.want.ResultText.{ResultText}
use Rattle.note_texts.specs.declared.want.WantParamText.{WantParamText}
use Rattle.note_texts.specs.declared.want.WantText.{WantText}
use Rattle.note_texts.specs.declared.want.WantText.TheVariants as wants
use Rattle.note_texts.specs.CellTexts.{cell_by, cell_of, counted_of, field_of, marked_cell, plain_cell}
use Rattle.ebc_base.specs.Names.{continues_name, begins_name, is_name, is_digit, name_of}
use Rattle.note_texts.specs.Names.{names_of}
use Rattle.note_texts.specs.Numbers.{near_of, number_from, number_in, number_of, units_of, with_digit, within}
use Rattle.note_texts.specs.Ranges.{after_dot, count_of, pair_of, range_of, size_of}
use Rattle.note_texts.specs.SlotTexts.{param_of, parameter_kind, register_number, register_of, slot_kind, slot_of}
use Rattle.note_texts.specs.Splits.{parts_at, split_at}
use Rattle.note_texts.specs.TypeTexts.{granting_type, int_of, marked_type, number_type, offset_of, plain_type, pointer_of, scaled_of}
use Rattle.note_texts.specs.TypeTexts.{type_by, type_of, word_by, word_type}
use Rattle.note_texts.specs.WantTexts.{given_type, is_result, marked_want, plain_want, result_of, want_by, want_of, want_param_of}
use Rattle.std.specs.List.{slice_split}
use Rattle.type_notes.proofs.Outcomes.{some_if, some_map, some_then}
use Rattle.ebc_base.proofs.Given.{some_choice, some_any}

-- ---- numbers and names

-- nothing is said
abbrev pub Anything : {A : Type 0} → A → Type 0
Anything x = Unit {0}

-- a number from low to high
abbrev pub IsWithin : ℕ → ℕ → ℕ → Type 0
IsWithin low high n = (low ≤ n) × (n ≤ high)

within_bounds : (low high n : ℕ) → IfSome (within low high n) (IsWithin low high)
within_bounds low high n =
    some_if (IsWithin low high) (nat_le low n && nat_le n high) n
    (λ e. let p = and_parts (nat_le low n) (nat_le n high) e in (leb-true low n p.0, leb-true n high p.1))

pub number_in-bounds : (low high : ℕ) (text : List ℕ) → IfSome (number_in low high text) (IsWithin low high)
number_in-bounds low high text = some_then Anything (IsWithin low high) (number_of text) (within low high) (some_any (number_of text))
    (λ n _. within_bounds low high n)

with_digit-below : (n b : ℕ) → IfSome (with_digit n b) (λ m. m < 2 ^ 64)
with_digit-below n b =
    some_if (λ m. m < 2 ^ 64) (is_digit b && nat_lt (10 * n + (b - 48)) (2 ^ 64)) (10 * n + (b - 48))
    (λ e. ltb-true (10 * n + (b - 48)) (2 ^ 64) (and_parts (is_digit b) (nat_lt (10 * n + (b - 48)) (2 ^ 64)) e).1)

number_from-below : (bs : List ℕ) (n : ℕ) → n < 2 ^ 64 → IfSome (number_from n bs) (λ m. m < 2 ^ 64)
unfolding number_from
number_from-below [] n h = h
number_from-below (b ∷ bs) n h = some_then (λ m. m < 2 ^ 64) (λ m. m < 2 ^ 64) (with_digit n b) (λ m. number_from m bs)
    (with_digit-below n b) (λ m g. number_from-below bs m g)

pub number_of-below : (text : List ℕ) → IfSome (number_of text) (λ m. m < 2 ^ 64)
unfolding number_of
number_of-below [] = tt
number_of-below (b ∷ []) = number_from-below (b ∷ []) 0 (omega arith)
number_of-below (b ∷ c ∷ bs) = some_choice (λ m. m < 2 ^ 64) (b == 48) None (number_from 0 (b ∷ c ∷ bs)) tt
    (number_from-below (b ∷ c ∷ bs) 0 (omega arith))

units_of-bounds : (low : ℕ) (text : List ℕ) → IfSome (units_of low text) (IsUnits low)
units_of-bounds low text = some_map (IsWithin low (2 ^ 20)) (IsUnits low) (number_in low (2 ^ 20) text) (λ n. pos n)
    (number_in-bounds low (2 ^ 20) text) (λ n h. h)

negative_near : (n : ℕ) → IsWithin 1 (2 ^ 20) n → IsNear (neg_ℤ (pos n))
negative_near zero h = absurd (omega arith)
negative_near (suc n) h = let e : suc n ≤ 2 ^ 20 = h.1 in omega arith

near_of-bounds : (text : List ℕ) → IfSome (near_of text) IsNear
unfolding near_of
near_of-bounds [] = tt
near_of-bounds (b ∷ bs) =
    some_choice IsNear (b == 45) (option_map (λ n. neg_ℤ (pos n)) (number_in 1 (2 ^ 20) bs))
    (option_map (λ n. pos n) (number_in 0 (2 ^ 20) (b ∷ bs)))
    (some_map (IsWithin 1 (2 ^ 20)) IsNear (number_in 1 (2 ^ 20) bs) (λ n. neg_ℤ (pos n)) (number_in-bounds 1 (2 ^ 20) bs) negative_near)
    (some_map (IsWithin 0 (2 ^ 20)) IsNear (number_in 0 (2 ^ 20) (b ∷ bs)) (λ n. pos n) (number_in-bounds 0 (2 ^ 20) (b ∷ bs)) (λ n h. h.1))

name_long : (text : List ℕ) → is_name text ≡ true → HasNameLength text
unfolding is_name
name_long [] e = absurd cc
name_long (b ∷ bs) e =
    let p = and_parts (begins_name b) _ e in
    let q = and_parts (nat_le (length bs) 62) (list_all continues_name bs) p.1 in
    let l : length bs ≤ 62 = leb-true (length bs) 62 q.0 in
    (omega arith, omega arith)

pub name_of-bounds : (text : List ℕ) → IfSome (name_of text) HasNameLength
name_of-bounds text = some_if HasNameLength (is_name text) text (name_long text)

-- ---- parts of texts

-- a count of at least 1, below 2^64
abbrev pub IsCount : ℕ → Type 0
IsCount k = (1 ≤ k) × (k < 2 ^ 64)

some_count : (o : Option ℕ) → IfSome o (IsWithin 1 (2 ^ 64 - 1)) → IfSome o IsCount
some_count None g = tt
some_count (Some n) g = let a : 1 ≤ n = g.0 in let b : n ≤ 2 ^ 64 - 1 = g.1 in (omega arith, omega arith)

pub count_of-bounds : (part : Option (List ℕ)) → IfSome (count_of part) IsCount
count_of-bounds None = (omega arith, omega arith)
count_of-bounds (Some text) = some_count (number_in 1 (2 ^ 64 - 1) text) (number_in-bounds 1 (2 ^ 64 - 1) text)

-- a range whose ends are in order, below 2^64
abbrev pub IsRange : ℕ × ℕ → Type 0
IsRange range = (range.0 ≤ range.1) × (range.1 < 2 ^ 64)

pub range_of-bounds : (text : List ℕ) → IfSome (range_of text) IsRange
unfolding range_of
range_of-bounds text =
    some_then Anything IsRange (split_at 46 text) _ (some_any (split_at 46 text))
    (λ parts _. some_then Anything IsRange (after_dot parts.1) _ (some_any (after_dot parts.1))
    (λ top _. some_then Anything IsRange (number_of parts.0) _ (some_any (number_of parts.0))
    (λ lo _. some_then (λ m. m < 2 ^ 64) IsRange (number_of top) _ (number_of-below top)
    (λ hi h. some_if IsRange (nat_le lo hi) (lo, hi) (λ e. (leb-true lo hi e, h))))))

-- units from low on, and bytes
abbrev pub IsPairFrom : ℕ → ℤ × ℤ → Type 0
IsPairFrom low pair = IsUnits low pair.0 × IsNear pair.1

pub pair_of-bounds : (low : ℕ) (text : List ℕ) → IfSome (pair_of low text) (IsPairFrom low)
unfolding pair_of
pair_of-bounds low text =
    some_then Anything (IsPairFrom low) (split_at 44 text) _ (some_any (split_at 44 text))
    (λ parts _. some_then (IsUnits low) (IsPairFrom low) (units_of low parts.0) _ (units_of-bounds low parts.0)
    (λ n g. some_then IsNear (IsPairFrom low) (near_of parts.1) _ (near_of-bounds parts.1) (λ c h. (g, h))))

abbrev pub IsSize : ℕ × ℕ → Type 0
IsSize size = (size.0 ≤ 2 ^ 20) × (size.1 ≤ 2 ^ 20)

size_of-bounds : (text : List ℕ) → IfSome (size_of text) IsSize
unfolding size_of
size_of-bounds text =
    some_then Anything IsSize (split_at 44 text) _ (some_any (split_at 44 text))
    (λ parts _. some_then (IsWithin 0 (2 ^ 20)) IsSize (number_in 0 (2 ^ 20) parts.0) _ (number_in-bounds 0 (2 ^ 20) parts.0)
    (λ n g. some_then (IsWithin 0 (2 ^ 20)) IsSize (number_in 0 (2 ^ 20) parts.1) _ (number_in-bounds 0 (2 ^ 20) parts.1)
    (λ c h. (g.1, h.1))))

counted_of-bounds : (text : List ℕ) → IfSome (counted_of text) (λ target. IsCount target.1)
unfolding counted_of
counted_of-bounds text =
    some_then Anything (λ target. IsCount target.1) (name_of (parts_at 42 text).0) _ (some_any (name_of (parts_at 42 text).0))
    (λ shape _. some_then IsCount (λ target. IsCount target.1) (count_of (parts_at 42 text).1) _ (count_of-bounds (parts_at 42 text).1)
    (λ count h. h))

-- ---- cells

-- a pointer's cell promises at least one instance
abbrev pub IsCellBounded : CellText → Type 0
IsCellBounded (cells.Ptr s k null) = IsCount k
IsCellBounded (cells.P64 s k null) = IsCount k
IsCellBounded _ = ⊤

plain_cell-bounds : (word : List ℕ) → IfSome (plain_cell word) IsCellBounded
unfolding plain_cell
plain_cell-bounds word =
    some_choice IsCellBounded (bytes_eq word (codes "i8")) _ _ tt
    (some_choice IsCellBounded (bytes_eq word (codes "i16")) _ _ tt
    (some_choice IsCellBounded (bytes_eq word (codes "i32")) _ _ tt
    (some_choice IsCellBounded (bytes_eq word (codes "i64")) _ _ tt
    (some_choice IsCellBounded (bytes_eq word (codes "n")) _ _ tt
    (some_choice IsCellBounded (bytes_eq word (codes "stat")) _ _ tt
    (some_choice IsCellBounded (bytes_eq word (codes "handle")) _ _ tt
    (some_choice IsCellBounded (bytes_eq word (codes "entry")) _ _ tt tt)))))))

marked_cell-bounds : (word rest : List ℕ) → IfSome (marked_cell word rest) IsCellBounded
unfolding marked_cell
marked_cell-bounds word rest =
    some_choice IsCellBounded (bytes_eq word (codes "ptr")) _ _
    (some_map (λ target. IsCount target.1) IsCellBounded (counted_of rest) (λ target. cells.Ptr target.0 target.1 false)
    (counted_of-bounds rest) (λ target h. h))
    (some_choice IsCellBounded (bytes_eq word (codes "ptr?")) _ _
    (some_map (λ target. IsCount target.1) IsCellBounded (counted_of rest) (λ target. cells.Ptr target.0 target.1 true)
    (counted_of-bounds rest) (λ target h. h))
    (some_choice IsCellBounded (bytes_eq word (codes "p64")) _ _
    (some_map (λ target. IsCount target.1) IsCellBounded (counted_of rest) (λ target. cells.P64 target.0 target.1 false)
    (counted_of-bounds rest) (λ target h. h))
    (some_choice IsCellBounded (bytes_eq word (codes "p64?")) _ _
    (some_map (λ target. IsCount target.1) IsCellBounded (counted_of rest) (λ target. cells.P64 target.0 target.1 true)
    (counted_of-bounds rest) (λ target h. h))
    (some_choice IsCellBounded (bytes_eq word (codes "method")) _ _
    (some_map Anything IsCellBounded (name_of rest) (λ name. cells.Method name) (some_any (name_of rest)) (λ name h. tt)) tt))))

cell_by-bounds : (parts : List ℕ × Option (List ℕ)) → IfSome (cell_by parts) IsCellBounded
cell_by-bounds (word, None) = plain_cell-bounds word
cell_by-bounds (word, Some rest) = marked_cell-bounds word rest

pub cell_of-bounds : (text : List ℕ) → IfSome (cell_of text) IsCellBounded
unfolding cell_of
cell_of-bounds text = cell_by-bounds (parts_at 58 text)

pub record IsFieldBounded (f : FieldText) : Type 0 where
  pub name : HasNameLength f.name
  pub units : f.n < 2 ^ 32
  pub bytes : f.c < 2 ^ 32
  pub cell : IsCellBounded f.cell

pub field_of-bounds : (text : List ℕ) → IfSome (field_of text) IsFieldBounded
unfolding field_of
field_of-bounds text =
    some_then Anything IsFieldBounded (split_at 32 text) _ (some_any (split_at 32 text))
    (λ first _. some_then Anything IsFieldBounded (split_at 32 first.1) _ (some_any (split_at 32 first.1))
    (λ second _. some_then Anything IsFieldBounded (split_at 32 second.1) _ (some_any (split_at 32 second.1))
    (λ third _. some_then HasNameLength IsFieldBounded (name_of first.0) _ (name_of-bounds first.0)
    (λ name long. some_then (IsWithin 0 (2 ^ 32 - 1)) IsFieldBounded (number_in 0 (2 ^ 32 - 1) second.0) _
    (number_in-bounds 0 (2 ^ 32 - 1) second.0)
    (λ n g. some_then (IsWithin 0 (2 ^ 32 - 1)) IsFieldBounded (number_in 0 (2 ^ 32 - 1) third.0) _
    (number_in-bounds 0 (2 ^ 32 - 1) third.0)
    (λ c h. some_then IsCellBounded IsFieldBounded (cell_of third.1) _ (cell_of-bounds third.1)
    (λ cell i. let a : n ≤ 2 ^ 32 - 1 = g.1 in let b : c ≤ 2 ^ 32 - 1 = h.1 in
    record { name = long; units = omega arith; bytes = omega arith; cell = i })))))))

-- ---- types

-- the type's numbers are within its bounds
abbrev pub IsTypeBounded : TypeText → Type 0
IsTypeBounded (types.Int lo hi div) = (lo ≤ hi) × (hi < 2 ^ 64) × (1 ≤ div) × (div < 2 ^ 64)
IsTypeBounded (types.Lin n c) = IsUnits 1 n × IsNear c
IsTypeBounded (types.Scaled n c hi) = (1 ≤ n) × (hi * (8 * n + c) < 2 ^ 32) × (n < 2 ^ 64) × (c < 2 ^ 64) × (hi < 2 ^ 64)
IsTypeBounded (types.Ptr s k n c null) = (1 ≤ k) × IsUnits 0 n × IsNear c × (k < 2 ^ 64)
IsTypeBounded (types.Lent cell) = IsCellBounded cell
IsTypeBounded (types.ThunkAt i) = i < 2 ^ 32
IsTypeBounded (types.Saved i) = (1 ≤ i) × (i ≤ 3)
IsTypeBounded _ = ⊤

int_of-bounds : (text : List ℕ) → IfSome (int_of text) IsTypeBounded
unfolding int_of
int_of-bounds text =
    some_then IsRange IsTypeBounded (range_of (parts_at 47 text).0) _ (range_of-bounds (parts_at 47 text).0)
    (λ range h. some_then IsCount IsTypeBounded (count_of (parts_at 47 text).1) _ (count_of-bounds (parts_at 47 text).1)
    (λ div g. (h.0, h.1, g.0, g.1)))

scaled_of-bounds : (text : List ℕ) → IfSome (scaled_of text) IsTypeBounded
unfolding scaled_of
scaled_of-bounds text =
    some_then Anything IsTypeBounded (split_at 44 text) _ (some_any (split_at 44 text))
    (λ first _. some_then Anything IsTypeBounded (split_at 44 first.1) _ (some_any (split_at 44 first.1))
    (λ second _. some_then (IsWithin 1 (2 ^ 64 - 1)) IsTypeBounded (number_in 1 (2 ^ 64 - 1) first.0) _
    (number_in-bounds 1 (2 ^ 64 - 1) first.0)
    (λ n f. some_then (λ m. m < 2 ^ 64) IsTypeBounded (number_of second.0) _ (number_of-below second.0)
    (λ c g. some_then (λ m. m < 2 ^ 64) IsTypeBounded (number_of second.1) _ (number_of-below second.1)
    (λ hi h. some_if IsTypeBounded (nat_lt (hi * (8 * n + c)) (2 ^ 32)) (types.Scaled n c hi)
    (λ e. let a : n ≤ 2 ^ 64 - 1 = f.1 in let b : n < 2 ^ 64 = omega arith in (f.0, ltb-true (hi * (8 * n + c)) (2 ^ 32) e, b, g, h)))))))

offset_of-bounds : (part : Option (List ℕ)) → IfSome (offset_of part) (IsPairFrom 0)
offset_of-bounds None = ((omega arith, omega arith), omega arith)
offset_of-bounds (Some text) = pair_of-bounds 0 text

pointer_of-bounds : (null : Bool) (text : List ℕ) → IfSome (pointer_of null text) IsTypeBounded
unfolding pointer_of
pointer_of-bounds null text =
    some_then (λ target. IsCount target.1) IsTypeBounded (counted_of (parts_at 43 text).0) _ (counted_of-bounds (parts_at 43 text).0)
    (λ target h. some_then (IsPairFrom 0) IsTypeBounded (offset_of (parts_at 43 text).1) _ (offset_of-bounds (parts_at 43 text).1)
    (λ offset g. (h.0, g.0, g.1, h.1)))

plain_type-bounds : (word : List ℕ) → IfSome (plain_type word) IsTypeBounded
unfolding plain_type
plain_type-bounds word =
    some_choice IsTypeBounded (bytes_eq word (codes "any")) _ _ tt
    (some_choice IsTypeBounded (bytes_eq word (codes "int")) _ _ (omega arith, omega arith, omega arith, omega arith)
    (some_choice IsTypeBounded (bytes_eq word (codes "status")) _ _ tt
    (some_choice IsTypeBounded (bytes_eq word (codes "sstatus")) _ _ tt
    (some_choice IsTypeBounded (bytes_eq word (codes "mask")) _ _ tt
    (some_choice IsTypeBounded (bytes_eq word (codes "handle")) _ _ tt
    (some_choice IsTypeBounded (bytes_eq word (codes "entry")) _ _ tt tt))))))

granting_type-bounds : (word fields : List ℕ) → IfSome (granting_type word fields) IsTypeBounded
unfolding granting_type
granting_type-bounds word fields =
    let names = names_of (slice_split (λ b. b == 33) fields) in
    some_choice IsTypeBounded (bytes_eq word (codes "status")) _ _
    (some_map Anything IsTypeBounded names (λ gs. types.Status gs) (some_any names) (λ gs h. tt))
    (some_choice IsTypeBounded (bytes_eq word (codes "sstatus")) _ _
    (some_map Anything IsTypeBounded names (λ gs. types.SignedStatus gs) (some_any names) (λ gs h. tt)) tt)

word_by-bounds : (parts : List ℕ × Option (List ℕ)) → IfSome (word_by parts) IsTypeBounded
word_by-bounds (word, None) = plain_type-bounds word
word_by-bounds (word, Some fields) = granting_type-bounds word fields

word_type-bounds : (text : List ℕ) → IfSome (word_type text) IsTypeBounded
unfolding word_type
word_type-bounds text = word_by-bounds (parts_at 33 text)

number_type-bounds : (word rest : List ℕ) → IfSome (number_type word rest) IsTypeBounded
unfolding number_type
number_type-bounds word rest =
    some_choice IsTypeBounded (bytes_eq word (codes "int")) _ _ (int_of-bounds rest)
    (some_choice IsTypeBounded (bytes_eq word (codes "lin")) _ _
    (some_map (IsPairFrom 1) IsTypeBounded (pair_of 1 rest) (λ pair. types.Lin pair.0 pair.1) (pair_of-bounds 1 rest) (λ pair h. h))
    (some_choice IsTypeBounded (bytes_eq word (codes "scaled")) _ _ (scaled_of-bounds rest)
    (some_choice IsTypeBounded (bytes_eq word (codes "thunk")) _ _
    (some_map (IsWithin 0 (2 ^ 32 - 1)) IsTypeBounded (number_in 0 (2 ^ 32 - 1) rest) (λ index. types.ThunkAt index)
    (number_in-bounds 0 (2 ^ 32 - 1) rest) (λ index h. let a : index ≤ 2 ^ 32 - 1 = h.1 in omega arith))
    (some_choice IsTypeBounded (bytes_eq word (codes "saved")) _ _
    (some_map (IsWithin 1 3) IsTypeBounded (number_in 1 3 rest) (λ register. types.Saved register) (number_in-bounds 1 3 rest)
    (λ register h. h)) tt))))

marked_type-bounds : (word rest : List ℕ) → IfSome (marked_type word rest) IsTypeBounded
unfolding marked_type
marked_type-bounds word rest =
    some_choice IsTypeBounded (bytes_eq word (codes "ptr")) _ _ (pointer_of-bounds false rest)
    (some_choice IsTypeBounded (bytes_eq word (codes "ptr?")) _ _ (pointer_of-bounds true rest)
    (some_choice IsTypeBounded (bytes_eq word (codes "local")) _ _
    (some_map Anything IsTypeBounded (name_of rest) (λ name. types.Local name) (some_any (name_of rest)) (λ name h. tt))
    (some_choice IsTypeBounded (bytes_eq word (codes "lent")) _ _
    (some_map IsCellBounded IsTypeBounded (cell_of rest) (λ cell. types.Lent cell) (cell_of-bounds rest) (λ cell h. h))
    (some_choice IsTypeBounded (bytes_eq word (codes "method")) _ _
    (some_map Anything IsTypeBounded (name_of rest) (λ name. types.Method name) (some_any (name_of rest)) (λ name h. tt))
    (number_type-bounds word rest)))))

type_by-bounds : (parts : List ℕ × Option (List ℕ)) → IfSome (type_by parts) IsTypeBounded
type_by-bounds (word, None) = word_type-bounds word
type_by-bounds (word, Some rest) = marked_type-bounds word rest

pub type_of-bounds : (text : List ℕ) → IfSome (type_of text) IsTypeBounded
unfolding type_of
type_of-bounds text = type_by-bounds (parts_at 58 text)

-- ---- parameters, registers and items of the stack

parameter_kind-is : (word : List ℕ) → IfSome (parameter_kind word) IsParameterKind
unfolding parameter_kind
parameter_kind-is word =
    some_choice IsParameterKind (bytes_eq word (codes "n")) _ _ tt
    (some_choice IsParameterKind (bytes_eq word (codes "q")) _ _ tt tt)

pub record IsParamBounded (p : ParamText) : Type 0 where
  pub kind : IsParameterKind p.kind
  pub ty : IsTypeBounded p.ty

pub param_of-bounds : (text : List ℕ) → IfSome (param_of text) IsParamBounded
unfolding param_of
param_of-bounds text =
    some_then Anything IsParamBounded (split_at 32 text) _ (some_any (split_at 32 text))
    (λ parts _. some_then IsParameterKind IsParamBounded (parameter_kind parts.0) _ (parameter_kind-is parts.0)
    (λ kind g. some_then IsTypeBounded IsParamBounded (type_of parts.1) _ (type_of-bounds parts.1) (λ ty h. record { kind = g; ty = h })))

pub register_of-bounds : (text : List ℕ) → IfSome (register_of text) (λ r. IsTypeBounded r.ty)
unfolding register_of
register_of-bounds text =
    some_then Anything (λ r. IsTypeBounded r.ty) (split_at 32 text) _ (some_any (split_at 32 text))
    (λ parts _. some_then Anything (λ r. IsTypeBounded r.ty) (register_number parts.0) _ (some_any (register_number parts.0))
    (λ register _. some_then IsTypeBounded (λ r. IsTypeBounded r.ty) (type_of parts.1) _ (type_of-bounds parts.1) (λ ty h. h)))

abbrev pub IsItemBounded : ItemText → Type 0
IsItemBounded (items.Slot kind ty) = IsTypeBounded ty
IsItemBounded items.Locals = ⊤

pub slot_of-bounds : (text : List ℕ) → IfSome (slot_of text) IsItemBounded
unfolding slot_of
slot_of-bounds text =
    some_then Anything IsItemBounded (split_at 32 text) _ (some_any (split_at 32 text))
    (λ parts _. some_then Anything IsItemBounded (slot_kind parts.0) _ (some_any (slot_kind parts.0))
    (λ kind _. some_then IsTypeBounded IsItemBounded (type_of parts.1) _ (type_of-bounds parts.1) (λ ty h. h)))

-- ---- what a native method takes and gives

abbrev pub IsWantBounded : WantText → Type 0
IsWantBounded (wants.Int lo hi) = (lo ≤ hi) × (hi < 2 ^ 64)
IsWantBounded (wants.Size n c) = (n ≤ 2 ^ 20) × (c ≤ 2 ^ 20)
IsWantBounded (wants.Out cell) = IsCellBounded cell
IsWantBounded (wants.Inout cell) = IsCellBounded cell
IsWantBounded _ = ⊤

plain_want-bounds : (word : List ℕ) → IfSome (plain_want word) IsWantBounded
unfolding plain_want
plain_want-bounds word =
    some_choice IsWantBounded (bytes_eq word (codes "any")) _ _ tt
    (some_choice IsWantBounded (bytes_eq word (codes "ptr")) _ _ tt
    (some_choice IsWantBounded (bytes_eq word (codes "handle")) _ _ tt
    (some_choice IsWantBounded (bytes_eq word (codes "status")) _ _ tt
    (some_choice IsWantBounded (bytes_eq word (codes "entry")) _ _ tt tt))))

marked_want-bounds : (word rest : List ℕ) → IfSome (marked_want word rest) IsWantBounded
unfolding marked_want
marked_want-bounds word rest =
    some_choice IsWantBounded (bytes_eq word (codes "int")) _ _
    (some_map IsRange IsWantBounded (range_of rest) (λ range. wants.Int range.0 range.1) (range_of-bounds rest) (λ range h. h))
    (some_choice IsWantBounded (bytes_eq word (codes "size")) _ _
    (some_map IsSize IsWantBounded (size_of rest) (λ size. wants.Size size.0 size.1) (size_of-bounds rest) (λ size h. h))
    (some_choice IsWantBounded (bytes_eq word (codes "out")) _ _
    (some_map IsCellBounded IsWantBounded (cell_of rest) (λ cell. wants.Out cell) (cell_of-bounds rest) (λ cell h. h))
    (some_choice IsWantBounded (bytes_eq word (codes "inout")) _ _
    (some_map IsCellBounded IsWantBounded (cell_of rest) (λ cell. wants.Inout cell) (cell_of-bounds rest) (λ cell h. h)) tt)))

want_by-bounds : (parts : List ℕ × Option (List ℕ)) → IfSome (want_by parts) IsWantBounded
want_by-bounds (word, None) = plain_want-bounds word
want_by-bounds (word, Some rest) = marked_want-bounds word rest

want_of-bounds : (text : List ℕ) → IfSome (want_of text) IsWantBounded
unfolding want_of
want_of-bounds text = want_by-bounds (parts_at 58 text)

pub record IsWantParamBounded (p : WantParamText) : Type 0 where
  pub kind : IsParameterKind p.kind
  pub want : IsWantBounded p.want

pub want_param_of-bounds : (text : List ℕ) → IfSome (want_param_of text) IsWantParamBounded
unfolding want_param_of
want_param_of-bounds text =
    some_then Anything IsWantParamBounded (split_at 32 text) _ (some_any (split_at 32 text))
    (λ parts _. some_then IsParameterKind IsWantParamBounded (parameter_kind parts.0) _ (parameter_kind-is parts.0)
    (λ kind g. some_then IsWantBounded IsWantParamBounded (want_of parts.1) _ (want_of-bounds parts.1)
    (λ want h. record { kind = g; want = h })))

-- a type within its bounds that a native method may give
abbrev pub IsGivenBounded : TypeText → Type 0
IsGivenBounded ty = IsTypeBounded ty × (is_result ty ≡ true)

pub result_of-bounds : (text : List ℕ) → IfSome (result_of text) (λ r. IfSome r.ty IsGivenBounded)
unfolding result_of
result_of-bounds text =
    let P : ResultText → Type 0 = λ r. IfSome r.ty IsGivenBounded in
    some_choice P (bytes_eq text (codes "none")) _ _ tt
    (some_then IsTypeBounded P (type_of text) given_type (type_of-bounds text)
    (λ ty h. some_if P (is_result ty) (record { ty = Some ty }) (λ e. (h, e))))
