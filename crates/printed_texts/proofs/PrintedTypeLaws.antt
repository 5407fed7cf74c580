-- What is printed of a type is read as that type.
use Rattle.std.proofs.Common.{◌≡◌, ℕ, ◌-◌, ◌^◌, ◌<◌, ◌≤◌, ℤ, pos, Bool, true, false, List, [], ◌∷◌, ◌++◌, length, filter, map, cond}
use Rattle.std.proofs.Common.{refl, sym, subst, inl, inr}
use Rattle.std.proofs.lemmas.Bool.{and_parts, eqb-true}
use Rattle.std.proofs.lemmas.List.{append-nil}
use Rattle.std.proofs.lemmas.Bool.Decides.{Decides-int_eq}
use Rattle.std.specs.Fmt.{decimal}
use Rattle.std.specs.List.{range_with_len}
use Rattle.std.specs.Option.{option_map_or}
use Rattle.std.specs.Ordering.{int_eq}
use Rattle.std.specs.Prelude.{codes, nat_lt, slice_get, ◌==◌, ◌&&◌}
use Rattle.ebc_base.proofs.Lists.{within_some}
use Rattle.note_types.specs.Cells.{IsBoundedCell}
use Rattle.note_types.specs.FieldSets.{HasField}
use Rattle.note_types.specs.Known.{AreFields, CellNames, IsKnown, local_fields}
use Rattle.note_types.specs.Records.{Each}
use Rattle.note_types.specs.Types.{IsNear, IsUnits, is_start}
use Rattle.note_types.specs.declared.cell.Cell.{Cell}
use Rattle.note_types.specs.declared.cell.Cell.TheVariants as cell
use Rattle.note_types.specs.declared.notes.FnNote.{FnNote}
use Rattle.note_types.specs.declared.notes.Notes.{Notes}
use Rattle.note_types.specs.declared.shape.Field.{Field}
use Rattle.note_types.specs.declared.shape.Shape.{Shape}
use Rattle.note_types.specs.declared.types.Ty.{Ty}
use Rattle.note_types.specs.declared.types.Ty.TheVariants as ty
use Rattle.note_texts.specs.Grammar.{IsCellText, IsCounted, IsName}
use Rattle.note_texts.specs.TypeGrammar.{AreNames, IsOffsetText, IsTypeText, pair_text, range_text}
use Rattle.note_texts.specs.declared.ty.TypeText.TheVariants as types
use Rattle.note_texts.proofs.TypeLaws.{type_of-complete}
use Rattle.rules_base.specs.Places.{has_field}
use Rattle.printed_texts.specs.NamedTypes.{HaveNames, PrintedTypesAreRead, named_cell, named_type}
use Rattle.printed_texts.specs.PrintedTypes.{cell_text, counted_text, divisor_text, field_name, int_text, is_every_number, names_below}
use Rattle.printed_texts.specs.PrintedTypes.{offset_text, shape_name, type_text}

-- ---- names

-- a thing that is there has a name
its_name : {A : Type 0} (name : A → List ℕ) (xs : List A) (k : ℕ) → Each (λ x. IsName (name x)) xs → k < length xs
    → IsName (option_map_or name (slice_get xs k) [])
its_name name xs k all within =
    let there = within_some xs k within in
    subst (λ o. IsName (option_map_or name o [])) (sym there.1) (all k there.0 there.1)

-- a set has the field
pub has : (set x : ℕ) → has_field set x ≡ true → HasField set x
has set x e = eqb-true _ _ (and_parts (nat_lt x 64) _ e).1

kept_names : (notes : Notes) (f : FnNote) (set n : ℕ) (b : Bool) (ns : List ℕ) → HaveNames notes (local_fields notes f)
    → (b ≡ true → n < length (local_fields notes f)) → AreNames (map (field_name (local_fields notes f)) ns)
    → AreNames (map (field_name (local_fields notes f)) (cond b (n ∷ ns) ns))
kept_names notes f set n true ns h there are = (its_name (λ (x : Field). x.name) (local_fields notes f) n h.fields (there refl), are)
kept_names notes f set n false ns h there are = are

names_are : (notes : Notes) (f : FnNote) (set : ℕ) (ns : List ℕ) → HaveNames notes (local_fields notes f) → AreFields notes f set
    → AreNames (map (field_name (local_fields notes f)) (filter (has_field set) ns))
names_are notes f set [] h known = tt
names_are notes f set (n ∷ ns) h known =
    kept_names notes f set n (has_field set n) (filter (has_field set) ns) h (λ e. known n (has set n e)) (names_are notes f set ns h known)

pub below_are : (notes : Notes) (f : FnNote) (set n : ℕ) → HaveNames notes (local_fields notes f) → AreFields notes f set
    → AreNames (names_below (local_fields notes f) set n)
unfolding names_below
below_are notes f set n h known = names_are notes f set (range_with_len 0 n) h known

-- ---- `S*K`

counted_by : (shape : List ℕ) (k : ℕ) (b : Bool) → IsName shape → 1 ≤ k → k < 2 ^ 64 → (b ≡ true → k ≡ 1)
    → IsCounted (cond b shape (shape ++ (codes "*" ++ decimal k))) shape k
counted_by shape k true is low high one = (is, low, high, inl (refl, one refl))
counted_by shape k false is low high one = (is, low, high, inr refl)

counted : (shape : List ℕ) (k : ℕ) → IsName shape → 1 ≤ k → k < 2 ^ 64 → IsCounted (counted_text shape k) shape k
counted shape k is low high = counted_by shape k (k == 1) is low high (λ e. eqb-true k 1 e)

-- ---- cells

cell_spelled : (notes : Notes) (fields : List Field) (c : Cell) → HaveNames notes fields → IsBoundedCell c → CellNames notes c
    → IsCellText (cell_text notes c) (named_cell notes c)
unfolding cell_text named_cell
cell_spelled notes fields cell.I8 h b n = refl
cell_spelled notes fields cell.I16 h b n = refl
cell_spelled notes fields cell.I32 h b n = refl
cell_spelled notes fields cell.I64 h b n = refl
cell_spelled notes fields cell.N h b n = refl
cell_spelled notes fields cell.Stat h b n = refl
cell_spelled notes fields cell.Handle h b n = refl
cell_spelled notes fields cell.Entry h b n = refl
cell_spelled notes fields (cell.Ptr s k null) h b n =
    let is = its_name (λ (x : Shape). x.name) notes.shape s h.shapes n in
    (counted_text (shape_name notes s) k, refl, counted (shape_name notes s) k is b.1 b.2)
cell_spelled notes fields (cell.P64 s k null) h b n =
    let is = its_name (λ (x : Shape). x.name) notes.shape s h.shapes n in
    (counted_text (shape_name notes s) k, refl, counted (shape_name notes s) k is b.1 b.2)
cell_spelled notes fields (cell.Method m) h b n = (refl, its_name (λ name. name) notes.methods m h.methods n)

-- ---- numbers

divided_by : (lo hi div : ℕ) (b : Bool) → lo ≤ hi → hi < 2 ^ 64 → 1 ≤ div → div < 2 ^ 64 → (b ≡ true → div ≡ 1)
    → IsTypeText (codes "int:" ++ (range_text lo hi ++ cond b [] (codes "/" ++ decimal div))) (types.Int lo hi div)
divided_by lo hi div true order high some few one =
    inr (range_text lo hi ++ [], refl, (order, high, some, few, inl (append-nil (range_text lo hi), one refl)))
divided_by lo hi div false order high some few one =
    inr (range_text lo hi ++ (codes "/" ++ decimal div), refl, (order, high, some, few, inr refl))

whole_by : (lo hi div : ℕ) (b : Bool) → lo ≤ hi → hi < 2 ^ 64 → 1 ≤ div → div < 2 ^ 64 → (b ≡ true → is_every_number lo hi div ≡ true)
    → IsTypeText (cond b (codes "int") (codes "int:" ++ (range_text lo hi ++ cond (div == 1) [] (codes "/" ++ decimal div))))
    (types.Int lo hi div)
unfolding is_every_number
whole_by lo hi div true order high some few all =
    let first = and_parts (lo == 0) (hi == 2 ^ 64 - 1 && div == 1) (all refl) in
    let second = and_parts (hi == 2 ^ 64 - 1) (div == 1) first.1 in
    inl (refl, eqb-true lo 0 first.0, eqb-true hi (2 ^ 64 - 1) second.0, eqb-true div 1 second.1)
whole_by lo hi div false order high some few all = divided_by lo hi div (div == 1) order high some few (λ e. eqb-true div 1 e)

int_spelled : (lo hi div : ℕ) → lo ≤ hi → hi < 2 ^ 64 → 1 ≤ div → div < 2 ^ 64 → IsTypeText (int_text lo hi div) (types.Int lo hi div)
unfolding int_text divisor_text
int_spelled lo hi div order high some few = whole_by lo hi div (is_every_number lo hi div) order high some few (λ e. e)

-- ---- offsets

offset_by : (n c : ℤ) (b : Bool) → IsUnits 0 n → IsNear c → (b ≡ true → is_start n c ≡ true)
    → IsOffsetText (cond b [] (codes "+" ++ pair_text n c)) n c
offset_by n c true units near start =
    let both = and_parts (int_eq n (pos 0)) (int_eq c (pos 0)) (start refl) in
    inl (refl, (Decides-int_eq n (pos 0)).0 both.0, (Decides-int_eq c (pos 0)).0 both.1)
offset_by n c false units near start = inr (pair_text n c, refl, (refl, units, near))

offset_spelled : (n c : ℤ) → IsUnits 0 n → IsNear c → IsOffsetText (offset_text n c) n c
unfolding offset_text
offset_spelled n c units near = offset_by n c (is_start n c) units near (λ e. e)

-- ---- types

pub type_spelled : (notes : Notes) (f : FnNote) → HaveNames notes (local_fields notes f) → (t : Ty) → IsKnown notes f t
    → IsTypeText (type_text notes (local_fields notes f) t) (named_type notes (local_fields notes f) t)
unfolding type_text named_type
type_spelled notes f h ty.Any k = refl
type_spelled notes f h (ty.Int lo hi div) k = let b = k.bounded in int_spelled lo hi div b.0 b.1 b.2 b.3
type_spelled notes f h (ty.Lin n c) k = let b = k.bounded in (pair_text n c, refl, (refl, b.0, b.1))
type_spelled notes f h (ty.Scaled n c hi) k = let b = k.bounded in
    (decimal n ++ (codes "," ++ (decimal c ++ (codes "," ++ decimal hi))), refl, (refl, b.0, b.2, b.3, b.4, b.1))
type_spelled notes f h (ty.Ptr s count n c null) k =
    let b = k.bounded in
    let is = its_name (λ (x : Shape). x.name) notes.shape s h.shapes k.names in (
      counted_text (shape_name notes s) count,
      offset_text n c,
      refl,
      counted (shape_name notes s) count is b.0 b.3,
      offset_spelled n c b.1 b.2,
    )
type_spelled notes f h (ty.Local x) k = (refl, its_name (λ (x : Field). x.name) (local_fields notes f) x h.fields k.names)
type_spelled notes f h (ty.Lent c) k = (cell_text notes c, refl, cell_spelled notes (local_fields notes f) c h k.bounded k.names)
type_spelled notes f h (ty.Status set) k = (refl, below_are notes f set 64 h k.names)
type_spelled notes f h (ty.SignedStatus set) k = (refl, below_are notes f set 64 h k.names)
type_spelled notes f h ty.Mask k = refl
type_spelled notes f h ty.Handle k = refl
type_spelled notes f h ty.Entry k = refl
type_spelled notes f h (ty.Method m) k = (refl, its_name (λ name. name) notes.methods m h.methods k.names)
type_spelled notes f h (ty.ThunkAt i) k = (refl, k.bounded)
type_spelled notes f h (ty.Saved r) k = let b = k.bounded in (refl, b.0, b.1)

pub printed_types : PrintedTypesAreRead
printed_types notes f h t k = type_of-complete (type_text notes (local_fields notes f) t) (named_type notes (local_fields notes f) t)
    (type_spelled notes f h t k)
