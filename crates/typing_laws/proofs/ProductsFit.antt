-- The rows of differences and products are sound.
use Rattle.typing_laws.proofs.Common.{◌≡◌, ℕ, zero, suc, ◌+◌, ◌-◌, ◌*◌, ◌%◌, ◌^◌, ◌<◌, ◌≤◌, false, ◌&&◌, nat_lt, nat_le, Some, refl, sym}
use Rattle.typing_laws.proofs.Common.{ap, ap₂, ◌∙◌, subst, arith, mod-eq_of_lt, le_refl, ℤ, pos, negsuc, int_le, unsigned_abs, dvd-sub}
use Rattle.typing_laws.proofs.Common.{dvd_trans, mul-le-mul_right, ltb-true, leb-true, and_parts, false≢true, same_Some, none-some, ◌∣◌}
use Rattle.typing_laws.proofs.Common.{IsBounded, Ty, Int, Lin, Scaled, Span, option_or, and_then, constant, constant_of, divisor_of, full}
use Rattle.typing_laws.proofs.Common.{lin_of, near_offset, span_of, shared, sum, product, Neutral, Num, At, number, pair, word, IsNumber}
use Rattle.typing_laws.proofs.Common.{sum_of, product_of, only_if, cond_both}
use Rattle.std.proofs.{Common.mul_comm, Math.Nat.mul-dvd-mul_right}
use Rattle.rules_base.specs.declared.parts.Offset.{Offset}
use Rattle.rules_base.specs.Sums.{constant_difference, taken, int_difference, is_moved, small_negative, offset_difference, difference}
use Rattle.rules_base.specs.Sums.{constant_product, divisor_within, times, multiple, scaled, lin_product, int_product}
use Rattle.neutral_machine.specs.Operations.{difference_of}
use Rattle.typing_laws.proofs.Rows.{then_some, if_some, one_divides, shared_divides, divisor_divides, span_word, constant_word, span_fits}
use Rattle.typing_laws.proofs.Rows.{constant_fits, lin_fits, number_fits, word_fits, RowFits, or_fits, any_fits, two_spans, two_constants}
use Rattle.typing_laws.proofs.Rows.{choice_fits, when_some}
use Rattle.typing_laws.proofs.{SumsFit.sum_fits, Views.View, Views.FitsIn}
use Rattle.ebc_width.specs.Width.{distance_of}

-- ---- values

-- less a number is plus its negative
less_is : (v : Neutral) (k : ℕ) → k < 2 ^ 64 → sum_of v (number (distance_of 0 k)) ≡ difference_of v (number k)
less_is (Num n c) k l = ap₂ Num (omega arith) (omega (arith, l))
less_is (At a n c) k l = ap₂ (At a) (omega arith) (omega (arith, l))
less_is v k l = refl

-- the product of plain numbers
pub numbers_times : (x y : ℕ) → x < 2 ^ 64 → y < 2 ^ 64 → product_of (number x) (number y) ≡ number (word (x * y))
numbers_times x y l r = ap₂ Num (let e : word (0 * word x) ≡ 0 = omega arith in e)
    (ap (λ z. word (y * z)) (mod-eq_of_lt l) ∙ ap word (mul_comm y x))

-- the product of a plain number and a pair, in either order
number_pair : (x n c : ℕ) → x < 2 ^ 64 → product_of (number x) (Num n c) ≡ Num (word (n * x)) (word (c * x))
number_pair x n c l = ap (λ z. Num (word (n * z)) (word (c * z))) (mod-eq_of_lt l)

pair_number : (n c x : ℕ) → x < 2 ^ 64 → 0 < n → product_of (Num n c) (number x) ≡ Num (word (n * x)) (word (c * x))
pair_number zero c x l p = absurd (omega arith)
pair_number (suc n) c x l p = ap (λ z. Num (word (suc n * z)) (word (c * z))) (mod-eq_of_lt l)

-- a multiple that stays small
small_multiple : (n c x hi : ℕ) → x ≤ hi → hi * (8 * n + c) < 2 ^ 32 → n < 2 ^ 64 → c < 2 ^ 64
    → Num (word (n % 2 ^ 64 * x)) (word (c % 2 ^ 64 * x)) ≡ Num (x * n) (x * c)
small_multiple n c x hi l r a b =
    let e : x * (8 * n + c) ≤ hi * (8 * n + c) = mul-le-mul_right (8 * n + c) l in
    let f : x * (8 * n + c) ≡ 8 * (x * n) + x * c = omega arith in
    ap₂ Num (ap (λ z. word (z * x)) (mod-eq_of_lt a) ∙ ap word (mul_comm n x) ∙ mod-eq_of_lt (omega (arith, e, f, r)))
    (ap (λ z. word (z * x)) (mod-eq_of_lt b) ∙ ap word (mul_comm c x) ∙ mod-eq_of_lt (omega (arith, e, f, r)))

module _ (view : View) where
  open view use {notes}

  -- ---- differences

  constants_less : RowFits view difference_of constant_difference
  constants_less = two_constants view difference_of (λ x y. constant (distance_of x y))
      (λ x y l r. number_fits view (distance_of x y) _ _ 1 _ (ap (λ z. Num 0 (word (x + (2 ^ 64 - z)))) (mod-eq_of_lt r))
      (le_refl _) (le_refl _) (one_divides _))

  taken_fits : (x y : Span) (v u : Neutral) → x.hi < 2 ^ 64 → y.hi < 2 ^ 64 → IsNumber x.lo x.hi x.div v → IsNumber y.lo y.hi y.div u
      → FitsIn view (taken x y) (difference_of v u)
  taken_fits x y v u l r p q = choice_fits view (nat_le y.hi x.lo)
      (Int (x.lo - y.hi) (x.hi - y.lo) (shared (divisor_of x) (divisor_of y))) (full 64) (difference_of v u)
      (λ h.
      let below = leb-true y.hi x.lo h in
      let e : word (p.x + (2 ^ 64 - word q.x)) ≡ p.x - q.x = omega (arith, p.from, p.to, q.from, q.to, l, r, below) in
      let g = shared_divides (divisor_of x) (divisor_of y) in
      number_fits view (p.x - q.x) _ _ _ _ (is ∙ ap number e) (omega (arith, p.from, q.to)) (omega (arith, p.to, q.from))
      (dvd-sub _ (dvd_trans _ g.first (divisor_divides x v p)) (dvd_trans _ g.second (divisor_divides y u q))))
      (λ _. word_fits view (word (p.x + (2 ^ 64 - word q.x))) _ is (omega arith))
    where
      is : difference_of v u ≡ number (word (p.x + (2 ^ 64 - word q.x)))
      is = ap₂ difference_of p.is q.is

  ints_less : RowFits view difference_of int_difference
  ints_less = two_spans view difference_of taken taken_fits

  offsets_less : RowFits view difference_of (offset_difference notes.shape)
  offsets_less a b t v u l r h f g = when_some (is_moved a) _ t h (λ _ h0.
      then_some (and_then (constant_of b) small_negative) _ t h0 (λ z e1 h1. then_some (constant_of b) small_negative z e1 (λ k e2 h2.
      then_some (near_offset k) (λ o. Some (constant (distance_of 0 k))) z h2 (λ o e3 h3.
      let w = constant_word b k e2 r in
      let q = constant_fits view b k u e2 g in
      let bounded : IsBounded (constant (distance_of 0 k)) = (le_refl _, omega arith, omega arith, omega arith) in
      let fits : FitsIn view (constant (distance_of 0 k)) (number (distance_of 0 k)) =
      number_fits view (distance_of 0 k) _ _ 1 _ refl (le_refl _) (le_refl _) (one_divides _) in
      let s = sum_fits view a (constant (distance_of 0 k)) v (number (distance_of 0 k)) l bounded f fits in
      subst (λ i. FitsIn view i (difference_of v u)) (ap (sum notes.shape a) (same_Some _ z h3) ∙ same_Some _ t h1)
      (subst (λ i. FitsIn view (sum notes.shape a (constant (distance_of 0 k))) i) (less_is v k w ∙ ap (difference_of v) (sym q)) s)))))

  -- The difference of values fits the difference of types.
  pub difference_fits : (a b : Ty) (v u : Neutral) → IsBounded a → IsBounded b → FitsIn view a v → FitsIn view b u
      → FitsIn view (difference notes.shape a b) (difference_of v u)
  unfolding difference
  difference_fits a b v u l r f g =
      any_fits view difference_of (λ a b. option_or (constant_difference a b)
      (option_or (int_difference a b) (offset_difference notes.shape a b))) a b v u
      (or_fits view difference_of constant_difference _ constants_less
      (or_fits view difference_of int_difference _ ints_less offsets_less)) l r f g

  -- ---- products

  -- the product of two Ints is a number
  product_number : (x y : Span) (v u : Neutral) → x.hi < 2 ^ 64 → y.hi < 2 ^ 64 → (p : IsNumber x.lo x.hi x.div v)
      → (q : IsNumber y.lo y.hi y.div u) → product_of v u ≡ number (word (p.x * q.x))
  product_number x y v u l r p q = ap₂ product_of p.is q.is ∙ numbers_times p.x q.x (omega (arith, p.to)) (omega (arith, q.to))

  constants_times : RowFits view product_of constant_product
  constants_times = two_constants view product_of (λ x y. constant (x * y % 2 ^ 64))
      (λ x y l r. number_fits view (x * y % 2 ^ 64) _ _ 1 _ (numbers_times x y l r) (le_refl _) (le_refl _) (one_divides _))

  within_divides : (e x : ℕ) → e ∣ x → divisor_within e ∣ x
  within_divides e x h = cond_both (nat_lt e (2 ^ 64)) e 1 (λ z. z ∣ x) (λ _. h) (λ _. one_divides x)

  times_fits : (x : Span) (k : ℕ) (t : Ty) (v z : Neutral) → times x k ≡ Some t → (p : IsNumber x.lo x.hi x.div v)
      → z ≡ number (word (p.x * k)) → FitsIn view t z
  times_fits x k t v z h p e =
      if_some (nat_lt 0 k && (nat_lt (x.lo * k) (2 ^ 64) && nat_lt (x.hi * k) (2 ^ 64)))
      (Int (x.lo * k) (x.hi * k) (divisor_within (x.div * k))) t h (λ e1 e2.
      let a = and_parts (nat_lt 0 k) (nat_lt (x.lo * k) (2 ^ 64) && nat_lt (x.hi * k) (2 ^ 64)) e1 in
      let b = and_parts (nat_lt (x.lo * k) (2 ^ 64)) (nat_lt (x.hi * k) (2 ^ 64)) a.1 in
      let w = ltb-true _ _ b.1 in
      let lo : x.lo * k ≤ p.x * k = mul-le-mul_right k p.from in
      let hi : p.x * k ≤ x.hi * k = mul-le-mul_right k p.to in
      let small : word (p.x * k) ≡ p.x * k = mod-eq_of_lt (omega (arith, hi, w)) in
      subst (λ i. FitsIn view i z) e2 (number_fits view (p.x * k) _ _ _ _ (e ∙ ap number small) lo hi
      (within_divides (x.div * k) (p.x * k) (mul-dvd-mul_right x.div p.divided k))))

  multiples_fit : RowFits view product_of multiple
  multiples_fit a b t v u l r h f g =
      then_some (span_of a) _ t h (λ x e1 h1. then_some (constant_of b) (times x) t h1 (λ k e2 h2.
      let p = span_fits view a x v e1 f in
      let w = span_word a x e1 l in
      times_fits x k t v (product_of v u) h2 p (ap₂ product_of p.is (constant_fits view b k u e2 g)
      ∙ numbers_times p.x k (omega (arith, p.to, w)) (constant_word b k e2 r))))

  multiples_turned : RowFits view product_of (λ a b. multiple b a)
  multiples_turned a b t v u l r h f g =
      then_some (span_of b) _ t h (λ x e1 h1. then_some (constant_of a) (times x) t h1 (λ k e2 h2.
      let p = span_fits view b x u e1 g in
      let w = span_word b x e1 r in
      times_fits x k t u (product_of v u) h2 p (ap₂ product_of (constant_fits view a k v e2 f) p.is
      ∙ numbers_times k p.x (constant_word a k e2 l) (omega (arith, p.to, w)) ∙ ap (λ z. number (word z)) (mul_comm k p.x))))

  -- a Lin with no negative part
  lin_bounds : (a : Ty) (o : Offset) → lin_of a ≡ Some o → IsBounded a → (n c : ℕ) → o.n ≡ pos n → o.c ≡ pos c → (0 < n) × (n < 2 ^ 64)
      × (c < 2 ^ 64)
  lin_bounds (Lin (pos i) (pos j)) o h b n c en ec =
      let e1 : pos i ≡ pos n = ap (λ (z : Offset). z.n) (same_Some _ o h) ∙ en in
      let e2 : pos j ≡ pos c = ap (λ (z : Offset). z.c) (same_Some _ o h) ∙ ec in
      let f1 : i ≡ n = cc in
      let f2 : j ≡ c = cc in
      let l = b.0.0 in let k = b.0.1 in let q = b.1 in
      (omega (arith, f1, l), omega (arith, f1, k), omega (arith, f2, q))
  lin_bounds (Lin (pos i) (negsuc j)) o h b n c en ec =
      let e2 : negsuc j ≡ pos c = ap (λ (z : Offset). z.c) (same_Some _ o h) ∙ ec in absurd cc
  lin_bounds (Lin (negsuc i) j) o h b n c en ec = absurd b.0
  lin_bounds _ o h b n c en ec = absurd (none-some o h)

  scaled_fits : (x : Span) (b : Ty) (o : Offset) (t : Ty) (v z : Neutral) → lin_of b ≡ Some o → IsBounded b → scaled x o ≡ Some t
      → (p : IsNumber x.lo x.hi x.div v) → ((n c : ℕ) → 0 < n → n < 2 ^ 64 → o.n ≡ pos n → o.c ≡ pos c
      → z ≡ Num (word (n % 2 ^ 64 * p.x)) (word (c % 2 ^ 64 * p.x))) → FitsIn view t z
  scaled_fits x b o t v z e r h p k = go o.n refl o.c refl h
    where
      go : (n : ℤ) → o.n ≡ n → (c : ℤ) → o.c ≡ c → only_if (int_le (pos 0) n
          && (int_le (pos 0) c && nat_lt (x.hi * (8 * unsigned_abs n + unsigned_abs c)) (2 ^ 32)))
          (Scaled (unsigned_abs n) (unsigned_abs c) x.hi) ≡ Some t → FitsIn view t z
      go (pos n) en (pos c) ec h =
          if_some (int_le (pos 0) (pos n) && (int_le (pos 0) (pos c) && nat_lt (x.hi * (8 * n + c)) (2 ^ 32))) (Scaled n c x.hi) t h
          (λ e1 e2.
          let a = and_parts (int_le (pos 0) (pos n)) (int_le (pos 0) (pos c) && nat_lt (x.hi * (8 * n + c)) (2 ^ 32)) e1 in
          let q = and_parts (int_le (pos 0) (pos c)) (nat_lt (x.hi * (8 * n + c)) (2 ^ 32)) a.1 in
          let w = ltb-true (x.hi * (8 * n + c)) (2 ^ 32) q.1 in
          let bs = lin_bounds b o e r n c en ec in
          subst (λ i. FitsIn view i z) e2 (record {
            i = p.x;
            is = k n c bs.0 bs.1 en ec
                ∙ small_multiple n c p.x x.hi p.to w bs.1 bs.2;
            to = p.to;
          }))
      go (pos n) en (negsuc c) ec h =
          if_some (int_le (pos 0) (pos n) && (int_le (pos 0) (negsuc c) && nat_lt (x.hi * (8 * n + suc c)) (2 ^ 32)))
          (Scaled n (suc c) x.hi) t h (λ e1 e2.
          let a = and_parts (int_le (pos 0) (pos n)) (int_le (pos 0) (negsuc c) && nat_lt (x.hi * (8 * n + suc c)) (2 ^ 32)) e1 in
          absurd (false≢true (and_parts false (nat_lt (x.hi * (8 * n + suc c)) (2 ^ 32)) a.1).0))
      go (negsuc n) en c ec h = absurd (none-some t h)

  lins_times : RowFits view product_of lin_product
  lins_times a b t v u l r h f g =
      then_some (span_of a) _ t h (λ x e1 h1. then_some (lin_of b) (scaled x) t h1 (λ o e2 h2.
      let p = span_fits view a x v e1 f in
      let w = span_word a x e1 l in
      let q = lin_fits view b o u e2 g in
      scaled_fits x b o t v (product_of v u) e2 r h2 p
      (λ n c p0 n64 en ec. ap₂ product_of p.is (q ∙ ap₂ pair en ec) ∙ number_pair p.x (n % 2 ^ 64) (c % 2 ^ 64) (omega (arith, p.to, w)))))

  lins_turned : RowFits view product_of (λ a b. lin_product b a)
  lins_turned a b t v u l r h f g =
      then_some (span_of b) _ t h (λ x e1 h1. then_some (lin_of a) (scaled x) t h1 (λ o e2 h2.
      let p = span_fits view b x u e1 g in
      let w = span_word b x e1 r in
      let q = lin_fits view a o v e2 f in
      scaled_fits x a o t u (product_of v u) e2 l h2 p
      (λ n c p0 n64 en ec. ap₂ product_of (q ∙ ap₂ pair en ec) p.is
      ∙ pair_number (n % 2 ^ 64) (c % 2 ^ 64) p.x (omega (arith, p.to, w)) (omega (arith, p0, n64)))))

  others_times : RowFits view product_of int_product
  others_times = two_spans view product_of (λ x y. full 64)
      (λ x y v u l r p q. word_fits view (word (p.x * q.x)) _ (product_number x y v u l r p q) (omega arith))

  -- The product of values fits the product of types.
  pub product_fits : (a b : Ty) (v u : Neutral) → IsBounded a → IsBounded b → FitsIn view a v → FitsIn view b u
      → FitsIn view (product a b) (product_of v u)
  unfolding product
  product_fits a b v u l r f g =
      any_fits view product_of (λ a b. option_or (constant_product a b)
      (option_or (multiple a b) (option_or (multiple b a) (option_or (lin_product a b)
      (option_or (lin_product b a) (int_product a b)))))) a b v u (or_fits view product_of constant_product _ constants_times
      (or_fits view product_of multiple _ multiples_fit (or_fits view product_of (λ a b. multiple b a) _ multiples_turned
      (or_fits view product_of lin_product _ lins_times
      (or_fits view product_of (λ a b. lin_product b a) int_product lins_turned others_times))))) l r f g
