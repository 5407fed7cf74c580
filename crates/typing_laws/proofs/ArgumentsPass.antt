-- The arguments of a call: the slots that the rules let be passed fit the parameters of the called function, and those handed to
-- a native method are what its signature wants.
use Rattle.typing_laws.proofs.Common.{◌≡◌, ℕ, suc, Bool, true, false, if◌then◌else◌, List, [], ◌∷◌, length, take, Option, Some, None}
use Rattle.typing_laws.proofs.Common.{slice_get, refl, sym, ap, ◌∙◌, subst, arith, option_and_then, AllZip, and_from, false≢true, none-some}
use Rattle.typing_laws.proofs.Common.{is_below, same_kind, local_fields, IsPassed, Cell, Item, FnNote, Notes, Param, RuleName, Field, Shape}
use Rattle.typing_laws.proofs.Common.{Ty, is_below_exact, same_kind-equal, same_kind-refl, both, needs, cell_of, has_field, arguments}
use Rattle.typing_laws.proofs.Common.{Registers, StackItem, Pushed, LocalsOf, FunctionFrame, Fits, ItemFits, Memory, cell_field, AreWritten}
use Rattle.typing_laws.proofs.Common.{Neutral, FieldOfLocals, ParamFits}
use Rattle.note_types.proofs.SameLaws.{same_cell-equal}
use Rattle.rules_flow.specs.Arguments.{argument, is_cell, lends, passed}
use Rattle.neutral_machine.specs.{Rows.have_kinds, Fits.IsCellBelow, Fits.IsLent}
use Rattle.typing_laws.proofs.{FitsBelow.fits_below, LiveCells.LaterBelow, LiveCells.below_down, LiveCells.passed_up, Loads.has_field_is}
use Rattle.typing_laws.proofs.{Rows.needs_true, Rows.bound_some, Views.view_at}

-- ---- conditions

pub both_none : (a b : Option RuleName) → both a b ≡ None → (a ≡ None) × (b ≡ None)
both_none None None e = (refl, refl)
both_none None (Some r) e = absurd (none-some r (sym e))
both_none (Some r) None e = absurd (none-some r (sym e))
both_none (Some r) (Some q) e = absurd (none-some _ (sym e))

pub some_never : (r : RuleName) → Some r ≡ None → ⊥
some_never r e = none-some r (sym e)

-- ---- the address of a local field that is lent

module _ (notes : Notes) (note : FnNote) (d : ℕ) (U V : Memory) (written : ℕ) (are : AreWritten U d written)
    (same_locals : (x : Shape) → U.locals d ≡ Some x → local_fields notes note ≡ x.fields) (l : LaterBelow (suc d) U V) where
  -- the field that is lent has the cell
  lent_field : (cell : Cell) (x : ℕ) (z : Field) → cell_field notes U (FieldOfLocals d x) ≡ Some z
      → is_cell cell (cell_of (local_fields notes note) x) ≡ true → z.cell ≡ cell
  unfolding cell_of
  lent_field cell x z e h = bound_some (λ (s : Shape). slice_get s.fields x) (U.locals d) z e (λ s q g.
      let found : slice_get (local_fields notes note) x ≡ Some z = ap (λ fields. slice_get fields x) (same_locals s q) ∙ g in
      sym (same_cell-equal cell z.cell (sym (ap (λ o. is_cell cell (option_and_then (λ (y : Field). Some y.cell) o)) found) ∙ h)))

  -- what a Lent or a local field of the cell gives
  pub lent_below : (saved : Registers) (cell : Cell) (read : Bool) (t : Ty) (v : Neutral)
      → lends (local_fields notes note) written cell read t ≡ None → Fits notes U d saved t v → IsCellBelow notes V (suc d) cell v
      × (read ≡ true → IsLent notes V (suc d) cell v)
  lent_below saved cell read (Ty.Lent other) v e h =
      let same : cell ≡ other = same_cell-equal cell other (needs_true RuleName.Arguments _ e) in
      let k : IsLent notes V (suc d) cell v = passed_up notes d U V (below_down (suc d) d U V (omega arith) l) (suc d) saved saved
      (Ty.Lent cell) v (omega arith) tt (subst (λ c. Fits notes U d saved (Ty.Lent c) v) (sym same) h) in
      (k.cell_below, λ r. k)
  lent_below saved cell read (Ty.Local x) v e h = go (is_cell cell (cell_of (local_fields notes note) x)) refl e
    where
      there : cell_field notes V (FieldOfLocals d x) ≡ Some h.field
      there = ap (option_and_then (λ (s : Shape). slice_get s.fields x)) (l.locals d (omega arith)) ∙ h.there

      below : is_cell cell (cell_of (local_fields notes note) x) ≡ true → IsCellBelow notes V (suc d) cell v
      below q = record {
        e = d;
        f = x;
        is = h.is;
        lower = omega arith;
        field = h.field;
        there = there;
        cell_is = lent_field cell x h.field h.there q;
      }

      full : (q : is_cell cell (cell_of (local_fields notes note) x) ≡ true) → (r : Bool)
          → (if r then needs RuleName.Unwritten (has_field written x) else None) ≡ None → (r ≡ true → IsLent notes V (suc d) cell v)
      full q true e r = record {
        cell_below = below q;
        written = l.written d x (omega arith) (are x (has_field_is written x (needs_true RuleName.Unwritten _ e)));
      }
      full q false e r = absurd (false≢true r)

      go : (b : Bool) → is_cell cell (cell_of (local_fields notes note) x) ≡ b
          → (if b then (if read then needs RuleName.Unwritten (has_field written x) else None) else Some RuleName.Arguments) ≡ None
          → IsCellBelow notes V (suc d) cell v × (read ≡ true → IsLent notes V (suc d) cell v)
      go true q e = (below q, full q read e)
      go false q e = absurd (some_never RuleName.Arguments e)
  lent_below saved cell read t v e h = absurd (some_never RuleName.Arguments e)

  -- ---- arguments of a function

  -- what is below a parameter's type
  below_passed : (saved other : Registers) (p t : Ty) (v : Neutral) → IsPassed p → needs RuleName.Arguments (is_below t p) ≡ None
      → Fits notes U d saved t v → Fits notes V (suc d) other p v
  below_passed saved other p t v k e h =
      passed_up notes d U V (below_down (suc d) d U V (omega arith) l) (suc d) saved other p v (omega arith) k
      (fits_below (view_at notes U d saved) t p v ((is_below_exact t p).0 (needs_true RuleName.Arguments _ e)) h)

  passed_fits : (saved other : Registers) (p t : Ty) (v : Neutral) → IsPassed p → passed (local_fields notes note) written p t ≡ None
      → Fits notes U d saved t v → Fits notes V (suc d) other p v
  passed_fits saved other (Ty.Lent cell) t v k e h = (lent_below saved cell true t v e h).1 refl
  passed_fits saved other Ty.Any t v k e h = tt
  passed_fits saved other (Ty.Local x) t v k e h = absurd k
  passed_fits saved other (Ty.Saved q) t v k e h = absurd k
  passed_fits saved other u t v k e h = below_passed saved other u t v k e h

  -- The items passed for parameters fit them, said of a frame above, and have their kinds.
  pub arguments_fit : (f g : FunctionFrame) (ps : List Param) (is : List StackItem) (xs : List Item)
      → ((k : ℕ) (q : Param) → slice_get ps k ≡ Some q → IsPassed q.ty) → arguments (local_fields notes note) written ps xs ≡ None
      → AllZip (ItemFits notes U d f) is xs → AllZip (ParamFits notes V (suc d) g) (take (length ps) is) ps × (have_kinds ps is ≡ true)
  unfolding arguments
  arguments_fit f g [] is xs good e z = (tt, refl)
  arguments_fit f g (p ∷ ps) [] [] good e z = absurd (some_never RuleName.Arguments e)
  arguments_fit f g (p ∷ ps) (i ∷ is) [] good e z = absurd z
  arguments_fit f g (p ∷ ps) [] (x ∷ xs) good e z = absurd z
  arguments_fit f g (p ∷ ps) (Pushed kind v ∷ is) (Item.Slot k t ∷ xs) good e z =
      let q = both_none (argument (local_fields notes note) written p (Item.Slot k t))
      (arguments (local_fields notes note) written ps xs) e in
      let c = both_none (needs RuleName.Arguments (same_kind p.kind k)) (passed (local_fields notes note) written p.ty t) q.0 in
      let r = arguments_fit f g ps is xs (λ j y h. good (suc j) y h) q.1 z.1 in
      let kinds : kind ≡ p.kind = z.0.0 ∙ sym (same_kind-equal p.kind k (needs_true RuleName.Arguments _ c.0)) in (
        ((kinds, passed_fits f.saved g.saved p.ty t v (good 0 p refl) c.1 z.0.1), r.0),
        and_from (same_kind kind p.kind) (have_kinds ps is) (ap (λ y. same_kind y p.kind) kinds ∙ same_kind-refl p.kind) r.1,
      )
  arguments_fit f g (p ∷ ps) (LocalsOf s ∷ is) (Item.Locals ∷ xs) good e z =
      absurd (some_never RuleName.Arguments (both_none (Some RuleName.Arguments) (arguments (local_fields notes note) written ps xs) e).0)
  arguments_fit f g (p ∷ ps) (Pushed kind v ∷ is) (Item.Locals ∷ xs) good e z = absurd z.0
  arguments_fit f g (p ∷ ps) (LocalsOf s ∷ is) (Item.Slot k t ∷ xs) good e z = absurd z.0
