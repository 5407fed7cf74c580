-- What fits a type fits each type above it.
use Rattle.typing_laws.proofs.Common.{◌≡◌, ℕ, ◌≤◌, true, false, sym, ap, ◌∙◌, subst, arith, inl, inr, ⊎_elim, ℤ, dvd_trans, false≢true}
use Rattle.typing_laws.proofs.Common.{true≢false, ◌∣◌, Ty, Int, Ptr, Status, SignedStatus, Handle, Entry, Neutral, null, number, AreWritten}
use Rattle.typing_laws.proofs.Common.{IsPointer}
use Rattle.note_types.specs.Below.{RangeBelow, PointerBelow, TakesNull, NullBelow, StatusBelow, GrantsBelow, Below, below_any, below_equal}
use Rattle.note_types.specs.Below.{below_range, below_pointer, below_null, below_status, below_grants}
use Rattle.typing_laws.proofs.Views.{View, FitsIn}

module _ (view : View) where
  open view use {notes, m, d}

  range_fits : (a b : Ty) (v : Neutral) → RangeBelow a b → FitsIn view a v → FitsIn view b v
  range_fits (Int lo hi div) (Int from to by) v h f =
      let l = h.0 in
      let r = h.1 in
      record {
        x = f.x;
        is = f.is;
        from = omega (arith, f.from, l);
        to = omega (arith, f.to, r);
        divided = ⊎_elim (λ z. dvd_trans _ z f.divided) (λ z. let e1 = z.0 in let e : lo ≡ f.x = omega (arith, f.from, f.to, e1) in
            subst (λ y. by ∣ y) e z.1) h.2;
      }
  range_fits _ _ v h f = absurd h

  same_pointer : (s t k l : ℕ) (n p c e : ℤ) (v : Neutral) → s ≡ t → n ≡ p → c ≡ e → l ≤ k → IsPointer notes m.objects s k n c v
      → IsPointer notes m.objects t l p e v
  same_pointer s t k l n p c e v es en ec le f =
      let g : IsPointer notes m.objects t k p e v = subst (λ z. IsPointer notes m.objects t k p z v) ec
      (subst (λ z. IsPointer notes m.objects t k z c v) en (subst (λ z. IsPointer notes m.objects z k n c v) es f)) in
      record { k = g.k; j = g.j; object = g.object; is = g.is; there = g.there; shape = g.shape; room = omega (arith, g.room, le) }

  pointer_fits : (a b : Ty) (v : Neutral) → PointerBelow a b → FitsIn view a v → FitsIn view b v
  pointer_fits (Ptr s k n c false) (Ptr t l p e false) v h f = same_pointer s t k l n p c e v h.0 h.1 h.2 h.3 f
  pointer_fits (Ptr s k n c false) (Ptr t l p e true) v h f = inl (same_pointer s t k l n p c e v h.0 h.1 h.2 h.3 f)
  pointer_fits (Ptr s k n c true) (Ptr t l p e true) v h f = ⊎_elim (λ g. inl (same_pointer s t k l n p c e v h.0 h.1 h.2 h.3 g))
      (λ g. inr g) f
  pointer_fits (Ptr s k n c true) (Ptr t l p e false) v h f = ⊎_elim (λ z. absurd (true≢false z)) (λ z. absurd (false≢true z)) h.4
  pointer_fits _ _ v h f = absurd h

  takes_null_fits : (b : Ty) (v : Neutral) → TakesNull b → v ≡ null → FitsIn view b v
  takes_null_fits (Ptr s k n c true) v h e = inr e
  takes_null_fits (Ptr s k n c false) v h e = absurd (false≢true h.2)
  takes_null_fits Handle v h e = inr e
  takes_null_fits Entry v h e = inr e
  takes_null_fits _ v h e = absurd h

  null_fits : (a b : Ty) (v : Neutral) → NullBelow a b → FitsIn view a v → FitsIn view b v
  null_fits (Int lo hi div) b v h f =
      let e = h.1 in
      let z : f.x ≡ 0 = omega (arith, f.to, e) in
      takes_null_fits b v h.2 (f.is ∙ ap number z)
  null_fits _ b v h f = absurd h

  status_fits : (a b : Ty) (v : Neutral) → StatusBelow a b → FitsIn view a v → FitsIn view b v
  status_fits (Int lo hi div) (Status g) v h f =
      let l = h.0 in
      inr (record { code = f.x; is = f.is; small = omega (arith, f.to, l) }, none g h.1)
    where
      none : (g : ℕ) → g ≡ 0 → AreWritten m d g
      none g e x q = absurd (omega (arith, e, q))
  status_fits _ _ v h f = absurd h

  grants_fit : (a b : Ty) (v : Neutral) → GrantsBelow a b → FitsIn view a v → FitsIn view b v
  grants_fit (Status g) (Status h) v l f = ⊎_elim (λ e. inl e) (λ s. inr (s.0, λ x q. s.1 x (l x q))) f
  grants_fit (SignedStatus g) (SignedStatus h) v l f = ⊎_elim (λ e. inl e) (λ s. inr (s.0, λ x q. s.1 x (l x q))) f
  grants_fit _ _ v l f = absurd l

  -- What fits a type fits each type above it.
  pub fits_below : (a b : Ty) (v : Neutral) → Below a b → FitsIn view a v → FitsIn view b v
  fits_below a b v (below_any e) f = subst (λ t. FitsIn view t v) (sym e) tt
  fits_below a b v (below_equal e) f = subst (λ t. FitsIn view t v) e f
  fits_below a b v (below_range h) f = range_fits a b v h f
  fits_below a b v (below_pointer h) f = pointer_fits a b v h f
  fits_below a b v (below_null h) f = null_fits a b v h f
  fits_below a b v (below_status h) f = status_fits a b v h f
  fits_below a b v (below_grants h) f = grants_fit a b v h f
