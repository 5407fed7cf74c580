-- The arguments of a call of a native method: what the rules let be handed over is what its signature wants, and the local fields
-- that are lent to be written are written once the cells that were lent are.
use Rattle.typing_laws.proofs.Common.{◌≡◌, ℕ, suc, ◌%◌, ◌^◌, ◌≤◌, ◌⊎◌, Bool, true, false, ◌&&◌, if◌then◌else◌, nat_eq, nat_lt, List, []}
use Rattle.typing_laws.proofs.Common.{◌∷◌, Some, None, slice_get, refl, sym, ap, ap₂, ◌∙◌, subst, arith, inl, inr, ⊎_elim, ℤ, pos, AllZip}
use Rattle.typing_laws.proofs.Common.{int_eq, and_parts, eqb-true, false≢true, Decides-int_eq, bit_at-zero, bit_at, is_below, same_kind}
use Rattle.typing_laws.proofs.Common.{HasField, IsKnown, local_fields, IsBounded, SlotKind, Item, FnNote, Notes, WantParam, Shape, Ty}
use Rattle.typing_laws.proofs.Common.{is_below_exact, same_kind-equal, same_kind-refl, needs, all_lent_out, native_arguments, Registers}
use Rattle.typing_laws.proofs.Common.{StackItem, Pushed, LocalsOf, FunctionFrame, IsPointer, Fits, ItemFits, Memory, AreWritten}
use Rattle.typing_laws.proofs.Common.{IsFieldWritten, Neutral, Num, null, number, pair, TypedObject, OutsWritten, SlotsKept, RuleName}
use Rattle.note_types.specs.{Passing.IsParameterKind, Records.IsWantNote}
use Rattle.note_types.specs.declared.notes.Want.{Want}
use Rattle.rules_base.specs.Places.{only_field}
use Rattle.rules_flow.specs.Arguments.{is_any_start, is_exactly, lent_out, native_argument, wanted}
use Rattle.neutral_machine.specs.NeutralReadings.{neutral_slots, slot_given}
use Rattle.host_model.specs.Readings.{before_all}
use Rattle.invariant_laws.specs.Asked.{ArgumentFits, ArgumentsFit, IsAnyPointer, OutWritten}
use Rattle.typing_laws.proofs.{ArgumentsPass.both_none, ArgumentsPass.lent_below, ArgumentsPass.some_never, Rows.needs_true}
use Rattle.typing_laws.proofs.{FitsBelow.fits_below, CompareRow.either_field, LiveCells.LaterBelow, StoredSound.power_bit, Views.view_at}
use Rattle.note_types.specs.declared.notes.Want.TheVariants as want

-- a set of one field has that field alone
pub only_one : (x f : ℕ) → HasField (only_field x) f → f ≡ x
only_one x f h = go (nat_lt x 64) h
  where
    go : (b : Bool) → bit_at (if b then 2 ^ x else 0) f ≡ 1 → f ≡ x
    go true h = power_bit x f h
    go false h = let z = bit_at-zero f in absurd (omega (arith, z, h))

module _ (notes : Notes) (note : FnNote) (d : ℕ) (U : Memory) (written : ℕ) (are : AreWritten U d written)
    (same_locals : (x : Shape) → U.locals d ≡ Some x → local_fields notes note ≡ x.fields) where
  same_memory : LaterBelow (suc d) U U
  same_memory = record { objects = λ k o h. h; locals = λ e l. refl; written = λ e f l h. h }

  below_wanted : (saved : Registers) (p t : Ty) (v : Neutral) → needs RuleName.Arguments (is_below t p) ≡ None → Fits notes U d saved t v
      → Fits notes U d saved p v
  below_wanted saved p t v e h = fits_below (view_at notes U d saved) t p v ((is_below_exact t p).0 (needs_true RuleName.Arguments _ e)) h

  exactly_fits : (saved : Registers) (n c : ℕ) (t : Ty) (v : Neutral) → IsBounded t → is_exactly n c t ≡ true → Fits notes U d saved t v
      → v ≡ pair (pos n) (pos c)
  exactly_fits saved n c (Ty.Lin m i) v b e h =
      let q = and_parts (int_eq m (pos n)) (int_eq i (pos c)) e in
      h ∙ ap₂ pair ((Decides-int_eq m (pos n)).0 q.0) ((Decides-int_eq i (pos c)).0 q.1)
  exactly_fits saved n c (Ty.Int lo hi div) v b e h =
      let q = and_parts (nat_eq n 0) (nat_eq lo c && nat_eq hi c) e in
      let r = and_parts (nat_eq lo c) (nat_eq hi c) q.1 in
      let en = eqb-true n 0 q.0 in
      let el = eqb-true lo c r.0 in
      let eh = eqb-true hi c r.1 in
      let w = b.1 in
      h.is ∙ ap₂ Num (let z : 0 ≡ n % 2 ^ 64 = omega (arith, en) in z)
      (let z : h.x ≡ c % 2 ^ 64 = omega (arith, h.from, h.to, el, eh, w) in z)
  exactly_fits saved n c t v b e h = absurd (false≢true e)

  start_pointer : (s k : ℕ) (n c : ℤ) (v : Neutral) → 1 ≤ k → n ≡ pos 0 → c ≡ pos 0 → IsPointer notes U.objects s k n c v
      → IsAnyPointer notes U.objects v
  start_pointer s k n c v l en ec h =
      let g : IsPointer notes U.objects s k (pos 0) (pos 0) v =
      subst (λ z. IsPointer notes U.objects s k (pos 0) z v) ec (subst (λ z. IsPointer notes U.objects s k z c v) en h) in
      record {
        shape = s;
        is = record {
          k = g.k;
          j = g.j;
          object = g.object;
          is = g.is;
          there = g.there;
          shape = g.shape;
          room = omega (arith, g.room, l);
        };
      }

  any_start : (saved : Registers) (t : Ty) (v : Neutral) → IsBounded t → is_any_start t ≡ true → Fits notes U d saved t v
      → IsAnyPointer notes U.objects v ⊎ (v ≡ null)
  any_start saved (Ty.Ptr s k n c false) v b e h =
      let q = and_parts (int_eq n (pos 0)) (int_eq c (pos 0)) e in
      inl (start_pointer s k n c v b.0 ((Decides-int_eq n (pos 0)).0 q.0) ((Decides-int_eq c (pos 0)).0 q.1) h)
  any_start saved (Ty.Ptr s k n c true) v b e h =
      let q = and_parts (int_eq n (pos 0)) (int_eq c (pos 0)) e in
      ⊎_elim (λ p. inl (start_pointer s k n c v b.0 ((Decides-int_eq n (pos 0)).0 q.0) ((Decides-int_eq c (pos 0)).0 q.1) p)) (λ p. inr p) h
  any_start saved (Ty.Int lo hi div) v b e h =
      let q = and_parts (nat_eq lo 0) (nat_eq hi 0) e in
      let eh = eqb-true hi 0 q.1 in
      inr (h.is ∙ ap number (let z : h.x ≡ 0 = omega (arith, h.to, eh) in z))
  any_start saved t v b e h = absurd (false≢true e)

  -- a value that the rules let be handed over is what is wanted
  wanted_fits : (saved : Registers) (p : Want) (t : Ty) (v : Neutral) → IsBounded t → wanted (local_fields notes note) written p t ≡ None
      → Fits notes U d saved t v → ArgumentFits notes U d p v
  wanted_fits saved want.Any t v b e h = tt
  wanted_fits saved (want.Int lo hi) t v b e h = below_wanted saved (Ty.Int lo hi 1) t v e h
  wanted_fits saved (want.Size n c) t v b e h = exactly_fits saved n c t v b (needs_true RuleName.Arguments _ e) h
  wanted_fits saved want.Ptr t v b e h = any_start saved t v b (needs_true RuleName.Arguments _ e) h
  wanted_fits saved want.Handle t v b e h = below_wanted saved Ty.Handle t v e h
  wanted_fits saved want.Status t v b e h = ⊎_elim (λ q. inl q) (λ q. inr q.0) (below_wanted saved (Ty.Status 0) t v e h)
  wanted_fits saved want.Entry t v b e h = below_wanted saved Ty.Entry t v e h
  wanted_fits saved (want.Out cell) t v b e h = (lent_below notes note d U U written are same_locals same_memory saved cell false t v e h).0
  wanted_fits saved (want.Inout cell) t v b e h =
      (lent_below notes note d U U written are same_locals same_memory saved cell true t v e h).1 refl

  -- the field that a slot lends to be written is written, once its cell is
  slot_written : (saved : Registers) (p : WantParam) (kind : SlotKind) (t : Ty) (v : Neutral) (V : Memory) → Fits notes U d saved t v
      → OutWritten V p v → AreWritten V d (lent_out p.want (Item.Slot kind t))
  slot_written saved p kind t v V z h = go p.want refl t z
    where
      none : AreWritten V d 0
      none x q = absurd (let b = bit_at-zero x in omega (arith, b, q))

      go : (w : Want) → p.want ≡ w → (t : Ty) → Fits notes U d saved t v → AreWritten V d (lent_out w (Item.Slot kind t))
      go (want.Out cell) e (Ty.Local x) z = λ y q. subst (IsFieldWritten V d) (sym (only_one x y q)) (h cell e d x z.is)
      go w e t z = none

  -- the value that a slot gives back is the one in it
  given_is : (os : List TypedObject) (kind : SlotKind) (v : Neutral) (is : List StackItem) → IsParameterKind kind
      → SlotsKept notes os (Pushed kind v ∷ is) → (slot_given notes os kind v ≡ v) × SlotsKept notes os is
  given_is os SlotKind.N v is k h = (h.0, h.1)
  given_is os SlotKind.Q v is k h = (refl, h)
  given_is os SlotKind.D v is k h = absurd k

  -- The slots that are handed over.
  pub record Handed (f : FunctionFrame) (ps : List WantParam) (is : List StackItem) (xs : List Item) : Type 0 where
    pub args : List Neutral
    pub args_are : neutral_slots notes U.objects ps is ≡ Some args
    pub fit : ArgumentsFit notes U d ps args
    pub lent : (V : Memory) → OutsWritten V ps args → AreWritten V d (all_lent_out ps xs)

  pub arguments_handed : (f : FunctionFrame) (ps : List WantParam) (is : List StackItem) (xs : List Item)
      → ((k : ℕ) (p : WantParam) → slice_get ps k ≡ Some p → IsWantNote notes p)
      → ((k : ℕ) (kind : SlotKind) (t : Ty) → slice_get xs k ≡ Some (Item.Slot kind t) → IsKnown notes note t)
      → SlotsKept notes U.objects is → native_arguments (local_fields notes note) written ps xs ≡ None → AllZip (ItemFits notes U d f) is xs
      → Handed f ps is xs
  unfolding native_arguments neutral_slots all_lent_out
  arguments_handed f [] is xs good known kept e z = record {
    args = [];
    args_are = refl;
    fit = tt;
    lent = λ V h x q. absurd (let b = bit_at-zero x in omega (arith, b, q));
  }
  arguments_handed f (p ∷ ps) [] [] good known kept e z = absurd (some_never RuleName.Arguments e)
  arguments_handed f (p ∷ ps) (i ∷ is) [] good known kept e z = absurd z
  arguments_handed f (p ∷ ps) [] (x ∷ xs) good known kept e z = absurd z
  arguments_handed f (p ∷ ps) (Pushed kind v ∷ is) (Item.Slot k t ∷ xs) good known kept e z =
      let q = both_none (native_argument (local_fields notes note) written p (Item.Slot k t))
      (native_arguments (local_fields notes note) written ps xs) e in
      let c = both_none (needs RuleName.Arguments (same_kind p.kind k)) (wanted (local_fields notes note) written p.want t) q.0 in
      let same : kind ≡ p.kind = z.0.0 ∙ sym (same_kind-equal p.kind k (needs_true RuleName.Arguments _ c.0)) in
      let g = given_is U.objects kind v is (subst IsParameterKind (sym same) (good 0 p refl).kind) kept in
      let r = arguments_handed f ps is xs (λ j y h. good (suc j) y h) (λ j y u h. known (suc j) y u h) g.1 q.1 z.1 in
      record {
        args = v ∷ r.args;
        args_are = ap (λ b. if b then before_all (Some (slot_given notes U.objects kind v)) (neutral_slots notes U.objects ps is) else None)
            (ap (λ y. same_kind y p.kind) same ∙ same_kind-refl p.kind)
            ∙ ap₂ (λ y ys. before_all (Some y) ys) g.0 r.args_are;
        fit = (wanted_fits f.saved p.want t v (known 0 k t refl).bounded c.1 z.0.1, r.fit);
        lent = λ V h x o. ⊎_elim (λ y. slot_written f.saved p k t v V z.0.1 h.0 x y) (λ y. r.lent V h.1 x y)
            (either_field (lent_out p.want (Item.Slot k t)) (all_lent_out ps xs) x o);
      }
  arguments_handed f (p ∷ ps) (LocalsOf s ∷ is) (Item.Locals ∷ xs) good known kept e z =
      absurd (some_never RuleName.Arguments
      (both_none (Some RuleName.Arguments) (native_arguments (local_fields notes note) written ps xs) e).0)
  arguments_handed f (p ∷ ps) (Pushed kind v ∷ is) (Item.Locals ∷ xs) good known kept e z = absurd z.0
  arguments_handed f (p ∷ ps) (LocalsOf s ∷ is) (Item.Slot k t ∷ xs) good known kept e z = absurd z.0
