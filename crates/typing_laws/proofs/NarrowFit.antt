-- What a comparison says narrows the types soundly, on the successor where it holds and on the other one.
use Rattle.typing_laws.proofs.Common.{◌≡◌, ℕ, zero, suc, ◌+◌, ◌-◌, ◌^◌, ◌<◌, ◌≤◌, Bool, true, false, not, ◌&&◌, if◌then◌else◌, nat_lt}
use Rattle.typing_laws.proofs.Common.{nat_le, nat_eq, min, Some, None, refl, sym, ap, ap₂, ◌∙◌, subst, arith, ⊎_elim, mod-eq_of_lt, ℤ, pos}
use Rattle.typing_laws.proofs.Common.{negsuc, int_le, ◌∣◌, ltb-true, leb-true, and_parts, eqb-true, eqb-false, false≢true, true≢false}
use Rattle.typing_laws.proofs.Common.{lt-ltb, same_Some, dvd_of_mod-eq-zero, CmpOp, low, compared, divides, IsBounded, Ty, Int, Ptr, Status}
use Rattle.typing_laws.proofs.Common.{SignedStatus, Span, granted, Neutral, Error, SignedError, number, null, plain, word, AreWritten}
use Rattle.typing_laws.proofs.Common.{IsNumber, IsPointer, OrNull, option_or, compared_by, compared_as}
use Rattle.std.proofs.{Common.max, lemmas.Bool.leb-false}
use Rattle.machine_alu.specs.Alu.{signed}
use Rattle.rules_flow.specs.Narrowing.{int_of, cut_to, at_most, past, at_least, short_of, exactly, other_than, is_plain, up_to, from}
use Rattle.rules_flow.specs.Narrowing.{narrowed_span, is_not_null, narrowed, is_success, is_signed_success}
use Rattle.typing_laws.proofs.{Rows.number_fits, Rows.choice_fits, Views.View, Views.FitsIn}

-- ---- comparisons of numbers

small_signed : (x : ℕ) → x < 2 ^ 63 → signed 64 x ≡ pos x
small_signed x l = ap (λ b. if b then pos (low 64 x) else negsuc (2 ^ 64 - 1 - low 64 x)) (lt-ltb (low 64 x) (2 ^ 63) (omega (arith, l)))
    ∙ ap pos (omega (arith, l))

-- the order of small numbers is that of signed ones
pub lte_is : (x k : ℕ) → x < 2 ^ 63 → k < 2 ^ 63 → compared CmpOp.Lte true x k ≡ nat_le x k
unfolding compared
lte_is x k l r = ap₂ int_le (small_signed x l) (small_signed k r)

pub gte_is : (x k : ℕ) → x < 2 ^ 63 → k < 2 ^ 63 → compared CmpOp.Gte true x k ≡ nat_le k x
unfolding compared
gte_is x k l r = ap₂ int_le (small_signed k r) (small_signed x l)

pub eq_is : (x k : ℕ) → x < 2 ^ 64 → k < 2 ^ 64 → compared CmpOp.Eq true x k ≡ nat_eq x k
unfolding compared
eq_is x k l r = ap₂ nat_eq (mod-eq_of_lt l) (mod-eq_of_lt r)

pub ulte_is : (x k : ℕ) → x < 2 ^ 64 → k < 2 ^ 64 → compared CmpOp.Ulte true x k ≡ nat_le x k
unfolding compared
ulte_is x k l r = ap₂ nat_le (mod-eq_of_lt l) (mod-eq_of_lt r)

pub ugte_is : (x k : ℕ) → x < 2 ^ 64 → k < 2 ^ 64 → compared CmpOp.Ugte true x k ≡ nat_le k x
unfolding compared
ugte_is x k l r = ap₂ nat_le (mod-eq_of_lt r) (mod-eq_of_lt l)

pub divides_is : (e y : ℕ) → 0 < e → divides e y ≡ true → e ∣ y
divides_is zero y p h = absurd (omega arith)
divides_is (suc e) y p h = dvd_of_mod-eq-zero (suc e) (eqb-true _ _ h)

module _ (view : View) where
  open view use {notes, m, d}

  module _ (x : Span) (v : Neutral) (f : IsNumber x.lo x.hi x.div v) (w : x.hi < 2 ^ 64) (positive : 0 < x.div) where
    cut_fits : (lo hi : ℕ) → lo ≤ f.x → f.x ≤ hi → FitsIn view (cut_to x lo hi) v
    cut_fits lo hi l h = choice_fits view (nat_le lo hi) (Int lo hi x.div) (int_of x) v
        (λ _. number_fits view f.x lo hi x.div v f.is l h f.divided) (λ _. f)

    at_most_fits : (k : ℕ) → f.x ≤ k → FitsIn view (at_most x k) v
    at_most_fits k l = cut_fits x.lo (min x.hi k) f.from (omega (arith, f.to, l))

    past_fits : (k : ℕ) → k < f.x → FitsIn view (past x k) v
    past_fits k l = choice_fits view (nat_lt (k + 1) (2 ^ 64)) (cut_to x (max x.lo (k + 1)) x.hi) (int_of x) v
        (λ _. cut_fits (max x.lo (k + 1)) x.hi (omega (arith, f.from, l)) f.to) (λ _. f)

    at_least_fits : (k : ℕ) → k ≤ f.x → FitsIn view (at_least x k) v
    at_least_fits k l = cut_fits (max x.lo k) x.hi (omega (arith, f.from, l)) f.to

    short_fits : (k : ℕ) → f.x < k → FitsIn view (short_of x k) v
    short_fits k l = choice_fits view (nat_eq k 0) (int_of x) (cut_to x x.lo (min x.hi (k - 1))) v
        (λ _. f) (λ _. cut_fits x.lo (min x.hi (k - 1)) f.from (omega (arith, f.to, l)))

    exactly_fits : (k : ℕ) → f.x ≡ k → FitsIn view (exactly x k) v
    exactly_fits k e = choice_fits view (nat_le x.lo k && (nat_le k x.hi && divides x.div k)) (Int k k x.div) (int_of x) v
        (λ h.
        let a = and_parts (nat_le x.lo k) (nat_le k x.hi && divides x.div k) h in
        let b = and_parts (nat_le k x.hi) (divides x.div k) a.1 in
        number_fits view k k k x.div v (f.is ∙ ap number e) (omega arith) (omega arith) (divides_is x.div k positive b.1)) (λ _. f)

    other_fits : (k : ℕ) → (f.x ≡ k → ⊥) → FitsIn view (other_than x k) v
    other_fits k n = choice_fits view (nat_eq x.lo k) (past x k) (if nat_eq x.hi k then cut_to x x.lo (k - 1) else int_of x) v
        (λ h. let e = eqb-true x.lo k h in let l : k < f.x = omega (arith, f.from, e, n) in past_fits k l)
        (λ _. choice_fits view (nat_eq x.hi k) (cut_to x x.lo (k - 1)) (int_of x) v
        (λ h. let e = eqb-true x.hi k h in let l : f.x < k = omega (arith, f.to, e, n) in cut_fits x.lo (k - 1) f.from (omega (arith, l)))
        (λ _. f))

    up_to_fits : (k : ℕ) (c : Bool) → nat_le f.x k ≡ c → FitsIn view (up_to c x k) v
    up_to_fits k true e = at_most_fits k (leb-true f.x k e)
    up_to_fits k false e = past_fits k (let l = leb-false f.x k e in omega (arith, l))

    from_fits : (k : ℕ) (c : Bool) → nat_le k f.x ≡ c → FitsIn view (from c x k) v
    from_fits k true e = at_least_fits k (leb-true k f.x e)
    from_fits k false e = short_fits k (let l = leb-false k f.x e in omega (arith, l))

    if_plain : (k : ℕ) (t : Ty) → (x.hi < 2 ^ 63 → k < 2 ^ 63 → FitsIn view t v) → FitsIn view (if is_plain x k then t else int_of x) v
    if_plain k t h = choice_fits view (is_plain x k) t (int_of x) v
        (λ e. let p = and_parts (nat_lt x.hi (2 ^ 63)) (nat_lt k (2 ^ 63)) e in h (ltb-true _ _ p.0) (ltb-true _ _ p.1)) (λ _. f)

    span_narrows : (op : CmpOp) (c : Bool) (k : ℕ) → k < 2 ^ 64 → compared op true f.x k ≡ c → FitsIn view (narrowed_span op c x k) v
    span_narrows CmpOp.Eq true k r e = exactly_fits k (eqb-true f.x k (sym (eq_is f.x k (omega (arith, f.to, w)) r) ∙ e))
    span_narrows CmpOp.Eq false k r e = other_fits k (λ g. eqb-false f.x k (sym (eq_is f.x k (omega (arith, f.to, w)) r) ∙ e) g)
    span_narrows CmpOp.Ulte c k r e = up_to_fits k c (sym (ulte_is f.x k (omega (arith, f.to, w)) r) ∙ e)
    span_narrows CmpOp.Ugte c k r e = from_fits k c (sym (ugte_is f.x k (omega (arith, f.to, w)) r) ∙ e)
    span_narrows CmpOp.Lte c k r e = if_plain k (up_to c x k) (λ l s. up_to_fits k c (sym (lte_is f.x k (omega (arith, f.to, l)) s) ∙ e))
    span_narrows CmpOp.Gte c k r e = if_plain k (from c x k) (λ l s. from_fits k c (sym (gte_is f.x k (omega (arith, f.to, l)) s) ∙ e))

  -- ---- types

  -- what is known where a comparison with a number gave C
  abbrev pub Gave : CmpOp → Neutral → ℕ → Bool → Type 0
  Gave op v k c = compared_as notes m.objects op true v (number k) ≡ Some c

  number_gave : (op : CmpOp) (v : Neutral) (x k : ℕ) (c : Bool) → v ≡ number x → x < 2 ^ 64 → k < 2 ^ 64 → Gave op v k c
      → compared op true x k ≡ c
  unfolding compared_as
  number_gave op v x k c e l r h =
      ap₂ (compared op true) (sym (mod-eq_of_lt l)) (sym (mod-eq_of_lt r)) ∙ same_Some (compared op true (word x) (word k)) c (sym
      (ap (λ z. compared_by notes m.objects op true z (number k) (plain z) (Some (word k))) e) ∙ h)

  -- a comparison with null that fails is of no null
  null_equal : (v : Neutral) → v ≡ null → Gave CmpOp.Eq v 0 false → ⊥
  unfolding compared_as compared
  null_equal v e h = absurd (true≢false (same_Some true false (sym (ap (λ z. compared_as notes m.objects CmpOp.Eq true z (number 0)) e)
      ∙ h)))

  not_null_fits : (s n : ℕ) (i j : ℤ) (may : Bool) (op : CmpOp) (c : Bool) (k : ℕ) (v : Neutral) → Gave op v k c
      → OrNull may v (IsPointer notes m.objects s n i j v) → (t : Bool) → is_not_null op c k ≡ t
      → FitsIn view (Ptr s n i j (may && not t)) v
  not_null_fits s n i j true op c k v h f false e = f
  not_null_fits s n i j false op c k v h f false e = f
  not_null_fits s n i j false op c k v h f true e = f
  not_null_fits s n i j true CmpOp.Eq false k v h f true e = ⊎_elim (λ p. p)
      (λ q. absurd (null_equal v q (subst (λ z. Gave CmpOp.Eq v z false) (eqb-true k 0 e) h))) f
  not_null_fits s n i j b op c k v h f t e = absurd (false≢true e)

  -- A value of which a comparison gave C fits the narrowed type.
  pub narrowed_fits : (op : CmpOp) (c : Bool) (t : Ty) (k : ℕ) (v : Neutral) → IsBounded t → k < 2 ^ 64 → Gave op v k c
      → FitsIn view t v → FitsIn view (narrowed op c t k) v
  narrowed_fits op c (Int lo hi div) k v b r h f =
      let w = b.1 in
      span_narrows (record { lo = lo; hi = hi; div = div }) v f w b.2 op c k r (number_gave op v f.x k c f.is (omega (arith, f.to, w)) r h)
  narrowed_fits op c (Ptr s n i j may) k v b r h f = not_null_fits s n i j may op c k v h f (is_not_null op c k) refl
  narrowed_fits op c t k v b r h f = f

  -- ---- grants

  none_written : AreWritten m d 0
  none_written x q = absurd (omega (arith, q))

  error_unequal : (v : Neutral) (i k : ℕ) → v ≡ Error i → k < 2 ^ 31 → Gave CmpOp.Eq v k true → ⊥
  unfolding compared_as
  error_unequal v i k e l h =
      absurd (true≢false (same_Some true false (sym h ∙ ap (λ z. compared_as notes m.objects CmpOp.Eq true z (number k)) e
      ∙ ap (λ b. option_or (if b then Some false else None) None) (lt-ltb (word k) (2 ^ 31) (omega (arith, l))))))

  signed_not_above : (v : Neutral) (i k : ℕ) → v ≡ SignedError i → k < 2 ^ 31 → Gave CmpOp.Gte v k true → ⊥
  unfolding compared_as
  signed_not_above v i k e l h =
      absurd (true≢false (same_Some true false (sym h ∙ ap (λ z. compared_as notes m.objects CmpOp.Gte true z (number k)) e
      ∙ ap (λ b. if b then Some false else None) (lt-ltb (word k) (2 ^ 31) (omega (arith, l))))))

  signed_at_most : (v : Neutral) (i : ℕ) → v ≡ SignedError i → Gave CmpOp.Lte v (2 ^ 64 - 1) false → ⊥
  unfolding compared_as
  signed_at_most v i e h = absurd (true≢false (same_Some true false
      (sym (ap (λ z. compared_as notes m.objects CmpOp.Lte true z (number (2 ^ 64 - 1))) e) ∙ h)))

  success_grants : (op : CmpOp) (c : Bool) (k g : ℕ) (v : Neutral) → Gave op v k c → FitsIn view (Status g) v → (t : Bool)
      → is_success op c k ≡ t → AreWritten m d (if t then g else 0)
  success_grants op c k g v h f false e = none_written
  success_grants CmpOp.Eq true k g v h f true e = ⊎_elim (λ i. absurd (error_unequal v i.code k i.is (ltb-true k (2 ^ 31) e) h))
      (λ s. s.1) f
  success_grants CmpOp.Eq false k g v h f true e = absurd (false≢true e)
  success_grants op c k g v h f b e = absurd (false≢true e)

  signed_grants : (op : CmpOp) (c : Bool) (k g : ℕ) (v : Neutral) → Gave op v k c → FitsIn view (SignedStatus g) v → (t : Bool)
      → is_signed_success op c k ≡ t → AreWritten m d (if t then g else 0)
  signed_grants op c k g v h f false e = none_written
  signed_grants CmpOp.Gte true k g v h f true e = ⊎_elim (λ i. absurd (signed_not_above v i.code k i.is (ltb-true k (2 ^ 31) e) h))
      (λ s. s.1) f
  signed_grants CmpOp.Gte false k g v h f true e = absurd (false≢true e)
  signed_grants CmpOp.Lte false k g v h f true e = ⊎_elim (λ i. absurd
      (signed_at_most v i.code i.is (subst (λ z. Gave CmpOp.Lte v z false) (eqb-true k (2 ^ 64 - 1) e) h))) (λ s. s.1) f
  signed_grants CmpOp.Lte true k g v h f true e = absurd (false≢true e)
  signed_grants op c k g v h f b e = absurd (false≢true e)

  -- What a comparison says is written is written.
  pub granted_written : (op : CmpOp) (c : Bool) (t : Ty) (k : ℕ) (v : Neutral) → Gave op v k c → FitsIn view t v
      → AreWritten m d (granted op c t k)
  granted_written op c (Status g) k v h f = success_grants op c k g v h f (is_success op c k) refl
  granted_written op c (SignedStatus g) k v h f = signed_grants op c k g v h f (is_signed_success op c k) refl
  granted_written op c t k v h f = none_written
