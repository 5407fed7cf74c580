-- What lies at the places that operands name is known.
use Rattle.rules_laws.proofs.Common.{◌≡◌, ℕ, suc, ◌-◌, ◌<◌, Bool, false, ◌&&◌, nat_lt, nat_le, nat_eq, List, [], ◌∷◌, length, Option, None}
use Rattle.rules_laws.proofs.Common.{Some, slice_get, refl, pos, IfSome, int_le, unsigned_abs, ltb-true, type_of, Item, Slot, Locals}
use Rattle.rules_laws.proofs.Common.{FnNote, Notes, Pair, Param, Field, Shape, State, Ty, Ptr, Distance, Place, and_then, locals_size}
use Rattle.rules_laws.proofs.Common.{place_at, IsNotes, IsKnown, IsKnownCell, local_fields, some_choice, some_any}
use Rattle.std.proofs.lemmas.Option.{slice_get_within}
use Rattle.note_types.specs.declared.types.Ty.TheVariants.{Local, Lent, ThunkAt}
use Rattle.rules_base.specs.declared.place.Reach.{Reach}
use Rattle.rules_base.specs.Places.{cell_of, field_place, from_stack, instance_field, is_nowhere, local_at, local_field, field_number_at}
use Rattle.rules_base.specs.Places.{object_cell, parameter_at, past, pointed, slot_size, stack_at}
use Rattle.rules_laws.proofs.Options.{some_then, some_else, some_if, some_is}
use Rattle.note_types.specs.Known.{fields_of, locals_of}
use Rattle.note_types.proofs.RecordLaws.{cells_known}
use Rattle.rules_base.specs.declared.place.Place.TheVariants as place

-- what is known of a place
abbrev pub PlaceKnown : Notes → FnNote → Place → Type 0
PlaceKnown notes f (place.Object cell null) = IsKnownCell notes cell
PlaceKnown notes f (place.Local x cell) = (x < 64) × (x < length (local_fields notes f)) × IsKnownCell notes cell
PlaceKnown notes f (place.Parameter kind t) = IsKnown notes f t
PlaceKnown notes f (place.ThunkCell i) = Unit {0}

-- the cells of fields are known
abbrev pub FieldsKnown : Notes → List Field → Type 0
FieldsKnown notes fields = (x : ℕ) (y : Field) → slice_get fields x ≡ Some y → IsKnownCell notes y.cell

-- the types of parameters are known
abbrev pub ParamsKnown : Notes → FnNote → List Param → Type 0
ParamsKnown notes f params = (j : ℕ) (p : Param) → slice_get params j ≡ Some p → IsKnown notes f p.ty

-- ---- fields

option_get : (o : Option ℕ) (shapes : List Shape) (s : Shape) → and_then o (slice_get shapes) ≡ Some s → (k : ℕ)
    × (slice_get shapes k ≡ Some s)
option_get None shapes s e = absurd cc
option_get (Some k) shapes s e = (k, e)

fields_by : (notes : Notes) (o : Option Shape) → ((s : Shape) → o ≡ Some s → FieldsKnown notes s.fields) → FieldsKnown notes (fields_of o)
fields_by notes None h = λ x y e. absurd cc
fields_by notes (Some s) h = h s refl

pub local_fields-known : (notes : Notes) (f : FnNote) → IsNotes notes → FieldsKnown notes (local_fields notes f)
unfolding local_fields
local_fields-known notes f k =
    fields_by notes (locals_of notes f) (λ s e. let g = option_get f.locals notes.shape s e in λ x y i. cells_known notes g.0 x s y k g.1 i)

cell_of-known : (notes : Notes) (fields : List Field) (x : ℕ) → FieldsKnown notes fields
    → IfSome (cell_of fields x) (λ cell. (x < length fields) × IsKnownCell notes cell)
unfolding cell_of
cell_of-known notes fields x h =
    some_then (λ y. slice_get fields x ≡ Some y) (λ cell. (x < length fields) × IsKnownCell notes cell) (slice_get fields x) _
    (some_is (slice_get fields x)) (λ y e. (slice_get_within fields x y e, h x y e))

local_field-known : (notes : Notes) (f : FnNote) (x : ℕ) → IsNotes notes
    → IfSome (local_field (local_fields notes f) x) (PlaceKnown notes f)
local_field-known notes f x k =
    some_then (λ cell. (x < length (local_fields notes f)) × IsKnownCell notes cell) (PlaceKnown notes f)
    (cell_of (local_fields notes f) x) _
    (cell_of-known notes (local_fields notes f) x (local_fields-known notes f k))
    (λ cell h. some_if (PlaceKnown notes f) (nat_lt x 64) (place.Local x cell) (λ e. (ltb-true x 64 e, h.0, h.1)))

local_at-known : (notes : Notes) (f : FnNote) (n c : ℕ) → IsNotes notes → IfSome (local_at (local_fields notes f) n c) (PlaceKnown notes f)
local_at-known notes f n c k =
    some_then (λ _. Unit {0}) (PlaceKnown notes f) (field_number_at (local_fields notes f) (record { n = pos n; c = pos c })) _
    (some_any (field_number_at (local_fields notes f) (record { n = pos n; c = pos c }))) (λ x h. local_field-known notes f x k)

-- ---- the stack

past_known : (notes : Notes) (f : FnNote) (size : Pair) (n c : ℕ) (rest : ℕ → ℕ → Option Place)
    → ((m d : ℕ) → IfSome (rest m d) (PlaceKnown notes f)) → IfSome (past size n c rest) (PlaceKnown notes f)
past_known notes f size n c rest h =
    some_choice (PlaceKnown notes f) (nat_le size.n n && nat_le size.c c) _ None (h (n - size.n) (c - size.c)) tt

tail_known : (notes : Notes) (f : FnNote) (p : Param) (ps : List Param) → ParamsKnown notes f (p ∷ ps) → ParamsKnown notes f ps
tail_known notes f p ps h = λ j q e. h (suc j) q e

parameter_at-known : (notes : Notes) (f : FnNote) (params : List Param) (n c : ℕ) → ParamsKnown notes f params
    → IfSome (parameter_at params n c) (PlaceKnown notes f)
unfolding parameter_at
parameter_at-known notes f [] n c h = tt
parameter_at-known notes f (p ∷ ps) n c h =
    some_choice (PlaceKnown notes f) (nat_eq n 0 && nat_eq c 0) (Some (place.Parameter p.kind p.ty)) _ (h 0 p refl)
    (past_known notes f (slot_size p.kind) n c (parameter_at ps) (λ m d. parameter_at-known notes f ps m d (tail_known notes f p ps h)))

stack_at-known : (notes : Notes) (f : FnNote) (size : Pair) (params : List Param) (items : List Item) (n c : ℕ) → IsNotes notes
    → ParamsKnown notes f params → IfSome (stack_at (local_fields notes f) size params items n c) (PlaceKnown notes f)
unfolding stack_at
stack_at-known notes f size params [] n c k h =
    some_choice (PlaceKnown notes f) (nat_le 16 c) _ None (parameter_at-known notes f params n (c - 16) h) tt
stack_at-known notes f size params (Slot kind t ∷ items) n c k h =
    past_known notes f (slot_size kind) n c (stack_at (local_fields notes f) size params items)
    (λ m d. stack_at-known notes f size params items m d k h)
stack_at-known notes f size params (Locals ∷ items) n c k h =
    some_else (PlaceKnown notes f) (local_at (local_fields notes f) n c) _ (local_at-known notes f n c k)
    (past_known notes f size n c (stack_at (local_fields notes f) size params items)
    (λ m d. stack_at-known notes f size params items m d k h))

-- ---- pointers

field_place-known : (notes : Notes) (f : FnNote) (s : Shape) (at : Reach) (null : Bool) → FieldsKnown notes s.fields
    → IfSome (field_place s at null) (PlaceKnown notes f)
unfolding field_place
field_place-known notes f s at null h =
    some_then (λ _. Unit {0}) (PlaceKnown notes f) (field_number_at s.fields at) _ (some_any (field_number_at s.fields at))
    (λ x g. some_then (λ cell. (x < length s.fields) × IsKnownCell notes cell) (PlaceKnown notes f) (cell_of s.fields x) (object_cell null)
    (cell_of-known notes s.fields x h) (λ cell i. i.1))

instance_field-known : (notes : Notes) (f : FnNote) (shape : ℕ) (at : Reach) (null : Bool) → IsNotes notes
    → IfSome (instance_field notes.shape shape at null) (PlaceKnown notes f)
instance_field-known notes f shape at null k =
    some_then (λ s. slice_get notes.shape shape ≡ Some s) (PlaceKnown notes f) (slice_get notes.shape shape) _
    (some_is (slice_get notes.shape shape))
    (λ s e. field_place-known notes f s at null (λ x y i. cells_known notes shape x s y k e i))

pointed_known : (notes : Notes) (f : FnNote) (t : Ty) (d : Distance) → IsNotes notes → IsKnown notes f t
    → IfSome (pointed notes f t d) (PlaceKnown notes f)
pointed_known notes f (Ptr s count n c null) d k h = instance_field-known notes f s _ null k
pointed_known notes f (Local x) d k h = some_choice (PlaceKnown notes f) (is_nowhere d) (local_field (local_fields notes f) x) None
    (local_field-known notes f x k) tt
pointed_known notes f (Lent cell) d k h =
    some_choice (PlaceKnown notes f) (is_nowhere d) (Some (place.Object cell false)) None
    (record { bounded = h.bounded; names = h.names }) tt
pointed_known notes f (ThunkAt i) d k h = some_choice (PlaceKnown notes f) (is_nowhere d) (Some (place.ThunkCell i)) None tt tt
pointed_known notes f _ d k h = tt

-- what lies at the place that a register and a distance name is known
pub place_at-known : (notes : Notes) (f : FnNote) (s : State) (r : ℕ) (d : Distance) → IsNotes notes → ParamsKnown notes f f.params
    → IsKnown notes f (type_of s r) → IfSome (place_at notes f s r d) (PlaceKnown notes f)
unfolding place_at
place_at-known notes f s r d k p h =
    some_choice (PlaceKnown notes f) (nat_eq r 0) (from_stack (local_fields notes f) (locals_size notes f) f.params s.items d)
    (pointed notes f (type_of s r) d)
    (some_choice (PlaceKnown notes f) (int_le (pos 0) d.n && int_le (pos 0) d.c) _ None
    (stack_at-known notes f (locals_size notes f) f.params s.items (unsigned_abs d.n) (unsigned_abs d.c) k p) tt)
    (pointed_known notes f (type_of s r) d k h)
