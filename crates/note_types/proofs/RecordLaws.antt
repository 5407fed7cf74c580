-- What follows from the conditions on notes, in the form in which it is used.
use Rattle.std.proofs.Common.{◌≡◌, ℕ, ◌+◌, ◌^◌, ◌<◌, List, [], ◌∷◌, length, Option, None, Some, slice_get, count_by, if◌then◌else◌}
use Rattle.std.proofs.Common.{subst, sym, refl, arith, zero, suc}
use Rattle.std.specs.Prelude.{IfSome}
use Rattle.std.proofs.lemmas.List.Sums.{sum_by-cons}
use Rattle.std.proofs.lemmas.Option.{same_Some, none-some}
use Rattle.note_types.specs.Known.{IsKnown, IsKnownCell, Names, is_locals, is_slot}
use Rattle.note_types.specs.Passing.{IsPassed, IsReturned}
use Rattle.note_types.specs.Records.{IsNotes, IsResultNote, Each}
use Rattle.note_types.specs.declared.items.Item.{Item}
use Rattle.note_types.specs.declared.items.Item.TheVariants.{Slot, Locals}
use Rattle.note_types.specs.declared.notes.FnNote.{FnNote}
use Rattle.note_types.specs.declared.notes.Notes.{Notes}
use Rattle.note_types.specs.declared.notes.Param.{Param}
use Rattle.note_types.specs.declared.notes.Signature.{Signature}
use Rattle.note_types.specs.declared.shape.Field.{Field}
use Rattle.note_types.specs.declared.shape.Shape.{Shape}
use Rattle.note_types.specs.declared.types.Ty.{Ty}
use Rattle.note_types.specs.declared.types.Ty.TheVariants.{Any, Int, Lin, Scaled, Ptr, Local, Lent, Status, SignedStatus, Mask, Handle}
use Rattle.note_types.specs.declared.types.Ty.TheVariants.{Entry, Method, ThunkAt, Saved}
use Rattle.note_types.proofs.TypeLaws.{no_fields}

-- ---- what the calls of this crate need

-- a shape has fewer than 2^32 fields
pub fields_few : (notes : Notes) (k : ℕ) (s : Shape) → IsNotes notes → slice_get notes.shape k ≡ Some s → length s.fields < 2 ^ 32
fields_few notes k s h e = let l = (h.shapes k s e).few in omega arith

-- ---- cells

-- the cells of the shapes are known
pub cells_known : (notes : Notes) (k x : ℕ) (s : Shape) (y : Field) → IsNotes notes → slice_get notes.shape k ≡ Some s
    → slice_get s.fields x ≡ Some y → IsKnownCell notes y.cell
cells_known notes k x s y h e i = ((h.shapes k s e).fields x y i).cell

-- ---- types that pass from one function to another

-- a set that is empty names no field, in whatever function
no_fields_of : (notes : Notes) (f : FnNote) (g : ℕ) → g ≡ 0 → Names notes f (Status g)
no_fields_of notes f g e = let P : ℕ → Type 0 = λ n. Names notes f (Status n) in subst P (sym e) (no_fields notes f)

-- what a parameter's type names is there in every function
passed_names : (notes : Notes) (f g : FnNote) (t : Ty) → IsPassed t → Names notes f t → Names notes g t
passed_names notes f g Any p h = tt
passed_names notes f g (Int lo hi div) p h = tt
passed_names notes f g (Lin n c) p h = tt
passed_names notes f g (Scaled n c hi) p h = tt
passed_names notes f g (Ptr s k n c null) p h = h
passed_names notes f g (Local x) p h = absurd p
passed_names notes f g (Lent cell) p h = h
passed_names notes f g (Status set) p h = no_fields_of notes g set p
passed_names notes f g (SignedStatus set) p h = no_fields_of notes g set p
passed_names notes f g Mask p h = tt
passed_names notes f g Handle p h = tt
passed_names notes f g Entry p h = tt
passed_names notes f g (Method m) p h = h
passed_names notes f g (ThunkAt i) p h = h
passed_names notes f g (Saved r) p h = absurd p

-- a parameter's type is known in every function, if it is in its own
pub passed_known : (notes : Notes) (f g : FnNote) (t : Ty) → IsPassed t → IsKnown notes f t → IsKnown notes g t
passed_known notes f g t p h = record { bounded = h.bounded; names = passed_names notes f g t p h.names }

-- a result's type may be a parameter's
pub returned_passed : (t : Ty) → IsReturned t → IsPassed t
returned_passed (Lent cell) h = absurd h
returned_passed (ThunkAt i) h = absurd h
returned_passed Any h = h
returned_passed (Int lo hi div) h = h
returned_passed (Lin n c) h = h
returned_passed (Scaled n c hi) h = h
returned_passed (Ptr s k n c null) h = h
returned_passed (Local x) h = h
returned_passed (Status g) h = h
returned_passed (SignedStatus g) h = h
returned_passed Mask h = h
returned_passed Handle h = h
returned_passed Entry h = h
returned_passed (Method m) h = h
returned_passed (Saved r) h = h

-- the types of a function's parameters are known in every function
pub params_known : (notes : Notes) (k j : ℕ) (f g : FnNote) (p : Param) → IsNotes notes → slice_get notes.function k ≡ Some f
    → slice_get f.params j ≡ Some p → IsKnown notes g p.ty
params_known notes k j f g p h e i = let q = (h.functions k f e).params j p i in passed_known notes f g p.ty q.passed q.known

-- a function's result is known in every function
pub results_known : (notes : Notes) (k : ℕ) (f g : FnNote) → IsNotes notes → slice_get notes.function k ≡ Some f → IsKnown notes g f.result
results_known notes k f g h e =
    let q = h.functions k f e in passed_known notes f g f.result (returned_passed f.result q.returned) q.result

-- a native method's result is known in every function
pub replies_known : (notes : Notes) (k : ℕ) (f : FnNote) (g : Signature) (t : Ty) → IsNotes notes → slice_get notes.signature k ≡ Some g
    → g.result ≡ Some t → IsKnown notes f t
replies_known notes k f g t h e r =
    reply g.result t r (h.signatures k g e).result
  where
    reply : (o : Option Ty) (u : Ty) → o ≡ Some u → IfSome o (IsResultNote notes) → IsKnown notes f u
    reply None u n i = absurd cc
    reply (Some v) u n i = let W : Ty → Type 0 = λ z. IsKnown notes f z in subst W (same_Some v u n) (i.known f)

-- ---- states

-- each item is a slot or the locals
pub slots_and_locals : (items : List Item) → length items ≡ count_by is_slot items + count_by is_locals items
slots_and_locals [] = refl
slots_and_locals (Slot kind t ∷ items) =
    let e = slots_and_locals items in
    let a = sum_by-cons (λ x. if is_slot x then 1 else 0) (Slot kind t) items in
    let b = sum_by-cons (λ x. if is_locals x then 1 else 0) (Slot kind t) items in
    omega arith
slots_and_locals (Locals ∷ items) =
    let e = slots_and_locals items in
    let a = sum_by-cons (λ x. if is_slot x then 1 else 0) Locals items in
    let b = sum_by-cons (λ x. if is_locals x then 1 else 0) Locals items in
    omega arith

pub each_none : {A : Type 0} (P : A → Type 0) → Each P []
each_none P k x e = absurd (none-some x e)

pub each_more : {A : Type 0} (P : A → Type 0) (x : A) (xs : List A) → P x → Each P xs → Each P (x ∷ xs)
each_more P x xs h g zero y e = subst P (same_Some x y e) h
each_more P x xs h g (suc k) y e = g k y e
