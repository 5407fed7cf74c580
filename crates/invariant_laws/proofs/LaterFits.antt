-- What fits goes on to fit in a later memory: where objects stay, the locals up to a depth keep their shapes, and what was
-- written stays written.
use Rattle.invariant_laws.proofs.Common.{◌≡◌, ℕ, ◌≤◌, Bool, true, false, List, [], ◌∷◌, Some, slice_get, ap, ◌∙◌, arith, inl, inr, ⊎_elim}
use Rattle.invariant_laws.proofs.Common.{option_and_then, AllZip, Item, Notes, Param, Field, Shape, Ty, Neutral, FieldOfLocals, TypedObject}
use Rattle.invariant_laws.proofs.Common.{Registers, StackItem, Pushed, LocalsOf, FunctionFrame, Memory, cell_field, IsFieldWritten}
use Rattle.invariant_laws.proofs.Common.{IsPointer, OrNull, FitsPlain, Fits, ItemFits, ParamFits, Later}
use Rattle.std.proofs.Common.{le_refl, ℤ}
use Rattle.note_types.specs.declared.types.Ty.TheVariants.{Any, Ptr, Local, Lent, Status, SignedStatus, Saved}
use Rattle.neutral_machine.specs.Memory.{AreWritten}
use Rattle.note_types.specs.declared.items.Item.TheVariants as item

pub later_trans : (d : ℕ) (U V W : Memory) → Later d U V → Later d V W → Later d U W
later_trans d U V W p q = record {
  objects = λ k o h. q.objects k o (p.objects k o h);
  locals = λ e l. q.locals e l
      ∙ p.locals e l;
  written = λ e f l h. q.written e f l (p.written e f l h);
}

-- what fits a type in every frame fits it where objects stay
pub pointer_later : (notes : Notes) (os ps : List TypedObject) → ((k : ℕ) (o : TypedObject) → slice_get os k ≡ Some o
    → slice_get ps k ≡ Some o) → (s k : ℕ) (n c : ℤ) (v : Neutral) → IsPointer notes os s k n c v → IsPointer notes ps s k n c v
pointer_later notes os ps stay s k n c v h = record {
  k = h.k;
  j = h.j;
  object = h.object;
  is = h.is;
  there = stay h.k h.object h.there;
  shape = h.shape;
  room = h.room;
}

pub or_null_later : (b : Bool) (v : Neutral) (P Q : Type 0) → (P → Q) → OrNull b v P → OrNull b v Q
or_null_later true v P Q f h = ⊎_elim (λ p. inl (f p)) (λ q. inr q) h
or_null_later false v P Q f h = f h

pub plain_later : (notes : Notes) (os ps : List TypedObject) → ((k : ℕ) (o : TypedObject) → slice_get os k ≡ Some o
    → slice_get ps k ≡ Some o) → (t : Ty) (v : Neutral) → FitsPlain notes os t v → FitsPlain notes ps t v
plain_later notes os ps stay Any v h = tt
plain_later notes os ps stay (Ptr s k n c may) v h = or_null_later may v _ _ (λ p. pointer_later notes os ps stay s k n c v p) h
plain_later notes os ps stay (Local x) v h = absurd h
plain_later notes os ps stay (Lent cell) v h = absurd h
plain_later notes os ps stay (Saved i) v h = absurd h
plain_later notes os ps stay t v h = h

-- V comes later than U, as far as objects and those fields of locals up to depth d go that are there.
pub record FieldsLater (notes : Notes) (d : ℕ) (U V : Memory) : Type 0 where
  pub objects : (k : ℕ) (o : TypedObject) → slice_get U.objects k ≡ Some o → slice_get V.objects k ≡ Some o
  pub fields : (e f : ℕ) (z : Field) → e ≤ d → cell_field notes U (FieldOfLocals e f) ≡ Some z
      → cell_field notes V (FieldOfLocals e f) ≡ Some z
  pub written : (e f : ℕ) → e ≤ d → IsFieldWritten U e f → IsFieldWritten V e f

pub local_later : (notes : Notes) (d : ℕ) (U V : Memory) → Later d U V → (e f : ℕ) (z : Field) → e ≤ d
    → cell_field notes U (FieldOfLocals e f) ≡ Some z → cell_field notes V (FieldOfLocals e f) ≡ Some z
local_later notes d U V l e f z h q = ap (option_and_then (λ (s : Shape). slice_get s.fields f)) (l.locals e h) ∙ q

pub fields_later : (notes : Notes) (d : ℕ) (U V : Memory) → Later d U V → FieldsLater notes d U V
fields_later notes d U V l = record { objects = l.objects; fields = local_later notes d U V l; written = l.written }

module _ (notes : Notes) (d : ℕ) (U V : Memory) (l : FieldsLater notes d U V) where
  pub written_later : (g : ℕ) → AreWritten U d g → AreWritten V d g
  written_later g h x q = l.written d x (le_refl d) (h x q)

  -- What fits a type goes on to fit it.
  pub fits_later : (saved : Registers) (t : Ty) (v : Neutral) → Fits notes U d saved t v → Fits notes V d saved t v
  fits_later saved Any v h = tt
  fits_later saved (Ptr s k n c may) v h = or_null_later may v _ _ (λ p. pointer_later notes U.objects V.objects l.objects s k n c v p) h
  fits_later saved (Local x) v h = record { is = h.is; field = h.field; there = l.fields d x h.field (le_refl d) h.there }
  fits_later saved (Lent cell) v h =
      let b = h.cell_below in
      record {
        cell_below = record {
          e = b.e;
          f = b.f;
          is = b.is;
          lower = b.lower;
          field = b.field;
          there = l.fields b.e b.f b.field (omega (arith, b.lower)) b.there;
          cell_is = b.cell_is;
        };
        written = l.written b.e b.f (omega (arith, b.lower)) h.written;
      }
  fits_later saved (Status g) v h = ⊎_elim (λ e. inl e) (λ s. inr (s.0, written_later g s.1)) h
  fits_later saved (SignedStatus g) v h = ⊎_elim (λ e. inl e) (λ s. inr (s.0, written_later g s.1)) h
  fits_later saved t v h = h

  item_later : (f : FunctionFrame) (i : StackItem) (x : Item) → ItemFits notes U d f i x → ItemFits notes V d f i x
  item_later f (Pushed kind v) (item.Slot k t) h = (h.0, fits_later f.saved t v h.1)
  item_later f (LocalsOf s) item.Locals h = h
  item_later f (Pushed kind v) item.Locals h = absurd h
  item_later f (LocalsOf s) (item.Slot k t) h = absurd h

  pub items_later : (f : FunctionFrame) (is : List StackItem) (xs : List Item) → AllZip (ItemFits notes U d f) is xs
      → AllZip (ItemFits notes V d f) is xs
  items_later f [] [] h = tt
  items_later f [] (x ∷ xs) h = absurd h
  items_later f (i ∷ is) [] h = absurd h
  items_later f (i ∷ is) (x ∷ xs) h = (item_later f i x h.0, items_later f is xs h.1)

  param_later : (f : FunctionFrame) (i : StackItem) (p : Param) → ParamFits notes U d f i p → ParamFits notes V d f i p
  param_later f (Pushed kind v) p h = (h.0, fits_later f.saved p.ty v h.1)
  param_later f (LocalsOf s) p h = absurd h

  pub params_later : (f : FunctionFrame) (is : List StackItem) (ps : List Param) → AllZip (ParamFits notes U d f) is ps
      → AllZip (ParamFits notes V d f) is ps
  params_later f [] [] h = tt
  params_later f [] (p ∷ ps) h = absurd h
  params_later f (i ∷ is) [] h = absurd h
  params_later f (i ∷ is) (p ∷ ps) h = (param_later f i p h.0, params_later f is ps h.1)
