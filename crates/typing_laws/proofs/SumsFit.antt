-- The rows of sums, differences and products are sound.
use Rattle.typing_laws.proofs.Common.{◌≡◌, ℕ, zero, suc, ◌+◌, ◌-◌, ◌*◌, ◌/◌, ◌%◌, ◌^◌, ◌<◌, ◌≤◌, true, false, ◌&&◌, ◌||◌, nat_lt, nat_le}
use Rattle.typing_laws.proofs.Common.{nat_eq, Option, Some, slice_get, refl, sym, ap, ap₂, ◌∙◌, subst, arith, ⊎_elim, add_comm, le_refl, ℤ}
use Rattle.typing_laws.proofs.Common.{◌+ℤ◌, add-mod-mod, dvd-sub, dvd_trans, ltb-true, leb-true, and_parts, eqb-true, or_cases, le-div}
use Rattle.typing_laws.proofs.Common.{div-add-mod', same_Some, none-some, get_or_from_slice_get, ◌∣◌, wrap64, divides, IsBounded, Shape, Ty}
use Rattle.typing_laws.proofs.Common.{Any, Int, Scaled, Ptr, Handle, Entry, Span, Pointer, option_or, and_then, constant, constant_of}
use Rattle.typing_laws.proofs.Common.{divisor_of, full, is_near, lin_of, pointer_of, span_of, shared, sum, ObjectOf, Neutral, Num, At}
use Rattle.typing_laws.proofs.Common.{Method, Error, SignedError, Junk, number, pair, word, shape_of, no_shape, IsNumber, IsPointer, sum_of}
use Rattle.std.proofs.Math.Nat.{mod-add-mod, dvd-add, mod-eq-zero_of_dvd}
use Rattle.note_types.specs.declared.types.Ty.TheVariants.{Method}
use Rattle.rules_base.specs.declared.parts.Offset.{Offset}
use Rattle.rules_base.specs.Sums.{pointer_at, onward, constant_sum, fall_sum, added, int_sum, lin_sum, by_scaled, scaled_sum, strides}
use Rattle.rules_base.specs.Sums.{by_bytes, bytes_sum, offset_sum, pointer_sum, sum_row}
use Rattle.rules_base.specs.Parts.{fall_of, offset_of}
use Rattle.host_model.specs.Values.{Handle, Entry}
use Rattle.typing_laws.proofs.Rows.{then_some, if_some, one_divides, shared_divides, divisor_divides, wrap_add, span_word, constant_word}
use Rattle.typing_laws.proofs.Rows.{span_fits, constant_fits, lin_fits, pointer_fits, offset_fits, number_fits, word_fits, lin_is, RowFits}
use Rattle.typing_laws.proofs.Rows.{or_fits, any_fits, two_spans, two_constants, choice_fits}
use Rattle.typing_laws.proofs.{NarrowFit.divides_is, Views.View, Views.FitsIn}

-- ---- sums of values

pub sum_commutes : (v u : Neutral) → sum_of v u ≡ sum_of u v
sum_commutes (Num n c) (Num m d) = ap₂ (λ x y. Num (word x) (word y)) (add_comm n m) (add_comm c d)
sum_commutes (Num n c) (At a m d) = ap₂ (λ x y. At a (word x) (word y)) (add_comm n m) (add_comm c d)
sum_commutes (At a n c) (Num m d) = ap₂ (λ x y. At a (word x) (word y)) (add_comm n m) (add_comm c d)
sum_commutes (Handle k) (Num m d) = refl
sum_commutes (Method k) (Num m d) = refl
sum_commutes (Entry k) (Num m d) = refl
sum_commutes (Error k) (Num m d) = refl
sum_commutes (SignedError k) (Num m d) = refl
sum_commutes Junk (Num m d) = refl
sum_commutes v u = refl

-- an instance's part moved by instances, and by a pair
moved : (j i s n d : ℕ) → d ≡ i * s → word (word (j * s + n) + d) ≡ word ((j + i) * s + n)
moved j i s n d h = mod-add-mod (j * s + n) (2 ^ 64) d ∙ ap word (let e : j * s + n + d ≡ (j + i) * s + n = omega arith in e)

pub moved_pair : (m : ℕ) (y z : ℤ) → word (word (m + wrap64 y) + wrap64 z) ≡ word (m + wrap64 (y +ℤ z))
moved_pair m y z =
    mod-add-mod (m + wrap64 y) (2 ^ 64) (wrap64 z) ∙ ap word (let e : m + wrap64 y + wrap64 z ≡ m + (wrap64 y + wrap64 z) = omega arith in
    e) ∙ sym (add-mod-mod m (wrap64 y + wrap64 z) (2 ^ 64)) ∙ ap (λ x. word (m + x)) (sym (wrap_add y z))

-- a multiple of a divisor
record Times (d x hi : ℕ) : Type 0 where
  q : ℕ
  is : x ≡ q * d
  to : q ≤ hi / d

times_of : (d x hi : ℕ) → 0 < d → d ∣ x → x ≤ hi → Times d x hi
times_of zero x hi p k l = absurd (omega arith)
times_of (suc d) x hi p k l =
    let m = mod-eq-zero_of_dvd (suc d) k in
    let e : x ≡ x / suc d * suc d = omega (arith, div-add-mod' x (suc d), m) in
    let r : x / suc d * suc d ≤ hi = omega (arith, e) in
    record { q = x / suc d; is = e; to = le-div (x / suc d) hi (suc d) p r }

zero_times : (q s : ℕ) → s ≡ 0 → 0 ≡ q * s
zero_times q s h = rw h (omega arith)

module _ (view : View) where
  open view use {notes, m}

  sum_flips : (r : Ty → Ty → Option Ty) → RowFits view sum_of r → RowFits view sum_of (λ a b. r b a)
  sum_flips r p a b t v u x y h f g = subst (λ z. FitsIn view t z) (sum_commutes u v) (p b a t u v y x h g f)

  -- ---- rows of sums

  constants_fit : RowFits view sum_of constant_sum
  constants_fit = two_constants view sum_of (λ x y. constant ((x + y) % 2 ^ 64))
      (λ x y l r. number_fits view ((x + y) % 2 ^ 64) _ _ 1 _ refl (le_refl _) (le_refl _) (one_divides _))

  added_fits : (x y : Span) (v u : Neutral) → x.hi < 2 ^ 64 → y.hi < 2 ^ 64 → IsNumber x.lo x.hi x.div v → IsNumber y.lo y.hi y.div u
      → FitsIn view (added x y) (sum_of v u)
  added_fits x y v u l r p q = choice_fits view (nat_lt (x.lo + y.lo) (2 ^ 64) && nat_lt (x.hi + y.hi) (2 ^ 64))
      (Int (x.lo + y.lo) (x.hi + y.hi) (shared (divisor_of x) (divisor_of y))) (full 64) (sum_of v u)
      (λ h.
      let h1 = (and_parts (nat_lt (x.lo + y.lo) (2 ^ 64)) (nat_lt (x.hi + y.hi) (2 ^ 64)) h).1 in
      let less = ltb-true (x.hi + y.hi) (2 ^ 64) h1 in
      let small : word (p.x + q.x) ≡ p.x + q.x = omega (arith, p.to, q.to, less) in
      let g = shared_divides (divisor_of x) (divisor_of y) in
      number_fits view (p.x + q.x) _ _ _ _ (is ∙ ap number small) (omega (arith, p.from, q.from)) (omega (arith, p.to, q.to))
      (dvd-add _ (dvd_trans _ g.first (divisor_divides x v p)) (dvd_trans _ g.second (divisor_divides y u q))))
      (λ _. word_fits view (word (p.x + q.x)) _ is (omega arith))
    where
      is : sum_of v u ≡ number (word (p.x + q.x))
      is = ap₂ sum_of p.is q.is

  ints_fit : RowFits view sum_of int_sum
  ints_fit = two_spans view sum_of added added_fits

  fall_fits : RowFits view sum_of fall_sum
  fall_fits a b t v u l r h f g =
      then_some (span_of a) _ t h (λ x e1 h1. then_some (and_then (constant_of b) fall_of) _ t h1
      (λ n e2 h2. then_some (constant_of b) fall_of n e2 (λ k e3 h3.
      if_some (nat_le 18446744073708503040 k) (2 ^ 64 - 1 - k + 1) n h3
      (λ t1 e4. if_some (nat_le n x.lo) (Int (x.lo - n) (x.hi - n) (shared x.div n)) t h2 (λ t2 e5.
      let p = span_fits view a x v e1 f in
      let q = constant_fits view b k u e3 g in
      let k1 = constant_word b k e3 r in
      let w = span_word a x e1 l in
      let l1 = leb-true n x.lo t2 in
      let c = shared_divides x.div n in
      let e : word (p.x + k) ≡ p.x - n = omega (arith, p.from, p.to, w, k1, l1, e4) in
      subst (λ z. FitsIn view z (sum_of v u)) e5 (number_fits view (p.x - n) _ _ _ _ (ap₂ sum_of p.is q ∙ ap number e)
      (omega (arith, p.from)) (omega (arith, p.to)) (dvd-sub _ (dvd_trans _ c.first p.divided) c.second)))))))

  lins_fit : RowFits view sum_of lin_sum
  lins_fit a b t v u l r h f g =
      then_some (lin_of a) _ t h (λ x e1 h1. then_some (offset_of b) _ t h1 (λ y e2 h2.
      let p = lin_fits view a x v e1 f in
      let q = offset_fits view b y u r e2 g in
      subst (λ z. FitsIn view z (sum_of v u)) (same_Some _ t h2) (lin_is view (x.n +ℤ y.n) (x.c +ℤ y.c) (sum_of v u)
      (ap₂ sum_of p q ∙ ap₂ Num (sym (wrap_add x.n y.n)) (sym (wrap_add x.c y.c))))))

  by_scaled_fits : (p : Pointer) (s : Shape) (b t : Ty) (v u : Neutral) → shape_of notes p.shape ≡ s → by_scaled p s b ≡ Some t
      → IsPointer notes m.objects p.shape p.count p.n p.c v → FitsIn view b u → FitsIn view t (sum_of v u)
  by_scaled_fits p s (Scaled n c hi) t v u es h f g =
      if_some (nat_eq s.n n && (nat_eq s.c c && nat_lt hi p.count)) (onward p hi) t h (λ e1 e2.
      let a = and_parts (nat_eq s.n n) (nat_eq s.c c && nat_lt hi p.count) e1 in
      let b = and_parts (nat_eq s.c c) (nat_lt hi p.count) a.1 in
      let en : n ≡ (shape_of notes p.shape).n = sym (eqb-true s.n n a.0) ∙ sym (ap (λ (z : Shape). z.n) es) in
      let ec : c ≡ (shape_of notes p.shape).c = sym (eqb-true s.c c b.0) ∙ sym (ap (λ (z : Shape). z.c) es) in
      let less = ltb-true hi p.count b.1 in
      subst (λ z. FitsIn view z (sum_of v u)) e2 (record {
        k = f.k;
        j = f.j + g.i;
        object = f.object;
        is = ap₂ sum_of f.is g.is ∙ ap₂ (At (ObjectOf f.k)) (moved f.j g.i (shape_of notes p.shape).n (wrap64 p.n) (g.i * n)
            (ap (λ z. g.i * z) en)) (moved f.j g.i (shape_of notes p.shape).c (wrap64 p.c) (g.i * c) (ap (λ z. g.i * z) ec));
        there = f.there;
        shape = f.shape;
        room = omega (arith, f.room, g.to, less);
      }))
  by_scaled_fits p s _ t v u es h f g = absurd (none-some t h)

  scaled_fits : RowFits view sum_of (scaled_sum notes.shape)
  scaled_fits a b t v u l r h f g =
      then_some (pointer_of a) _ t h (λ p e1 h1. then_some (slice_get notes.shape p.shape) _ t h1 (λ s e2 h2.
      by_scaled_fits p s b t v u (get_or_from_slice_get notes.shape p.shape s no_shape e2) h2 (pointer_fits view a p v e1 f) g))

  by_bytes_fits : (p : Pointer) (s : Shape) (x : Span) (t : Ty) (v u : Neutral) → shape_of notes p.shape ≡ s → by_bytes p s x ≡ Some t
      → IsPointer notes m.objects p.shape p.count p.n p.c v → IsNumber x.lo x.hi x.div u → FitsIn view t (sum_of v u)
  by_bytes_fits p s x t v u es h f g =
      if_some (nat_eq s.n 0 && (strides s.c x && nat_lt (x.hi / s.c) p.count)) (onward p (x.hi / s.c)) t h (λ e1 e2.
      let a = and_parts (nat_eq s.n 0) (strides s.c x && nat_lt (x.hi / s.c) p.count) e1 in
      let b = and_parts (strides s.c x) (nat_lt (x.hi / s.c) p.count) a.1 in
      let c = and_parts (nat_lt 0 s.c) (divides s.c x.div || (nat_eq x.lo x.hi && divides s.c x.lo)) b.0 in
      let positive = ltb-true 0 s.c c.0 in
      let n0 : (shape_of notes p.shape).n ≡ 0 = ap (λ (z : Shape). z.n) es ∙ eqb-true s.n 0 a.0 in
      let ec : s.c ≡ (shape_of notes p.shape).c = sym (ap (λ (z : Shape). z.c) es) in
      let q = times_of s.c g.x x.hi positive (strided x s.c g positive c.1) g.to in
      let less = ltb-true (x.hi / s.c) p.count b.1 in
      subst (λ z. FitsIn view z (sum_of v u)) e2 (record {
        k = f.k;
        j = f.j + q.q;
        object = f.object;
        is = ap₂ sum_of f.is g.is ∙ ap₂ (At (ObjectOf f.k)) (moved f.j q.q (shape_of notes p.shape).n (wrap64 p.n) 0 (zero_times q.q _ n0))
            (moved f.j q.q (shape_of notes p.shape).c (wrap64 p.c) g.x (q.is ∙ ap (λ z. q.q * z) ec));
        there = f.there;
        shape = f.shape;
        room = omega (arith, f.room, q.to, less);
      }))
    where
      strided : (x : Span) (s : ℕ) (g : IsNumber x.lo x.hi x.div u) → 0 < s
          → (divides s x.div || (nat_eq x.lo x.hi && divides s x.lo)) ≡ true → s ∣ g.x
      strided x s g p h = ⊎_elim
          (λ e. dvd_trans _ (divides_is s x.div p e) g.divided)
          (λ e. let z = and_parts (nat_eq x.lo x.hi) (divides s x.lo) e in let y = eqb-true x.lo x.hi z.0 in
          let k : x.lo ≡ g.x = omega (arith, g.from, g.to, y) in subst (λ i. s ∣ i) k (divides_is s x.lo p z.1))
          (or_cases (divides s x.div) (nat_eq x.lo x.hi && divides s x.lo) h)

  bytes_fit : RowFits view sum_of (bytes_sum notes.shape)
  bytes_fit a b t v u l r h f g =
      then_some (pointer_of a) _ t h (λ p e1 h1. then_some (slice_get notes.shape p.shape) _ t h1
      (λ s e2 h2. then_some (span_of b) _ t h2 (λ x e3 h3.
      by_bytes_fits p s x t v u (get_or_from_slice_get notes.shape p.shape s no_shape e2) h3 (pointer_fits view a p v e1 f)
      (span_fits view b x u e3 g))))

  pointer_at_fits : (p : Pointer) (o : Offset) (v u : Neutral) → IsPointer notes m.objects p.shape p.count p.n p.c v → u ≡ pair o.n o.c
      → FitsIn view (pointer_at p (p.n +ℤ o.n) (p.c +ℤ o.c)) (sum_of v u)
  pointer_at_fits p o v u f g = choice_fits view (is_near (p.n +ℤ o.n) && is_near (p.c +ℤ o.c))
      (Ptr p.shape p.count (p.n +ℤ o.n) (p.c +ℤ o.c) false) Any (sum_of v u) (λ _. record {
        k = f.k;
        j = f.j;
        object = f.object;
        is = ap₂ sum_of f.is g ∙ ap₂ (At (ObjectOf f.k)) (moved_pair (f.j * (shape_of notes p.shape).n) p.n o.n)
            (moved_pair (f.j * (shape_of notes p.shape).c) p.c o.c);
        there = f.there;
        shape = f.shape;
        room = f.room;
      }) (λ _. tt)

  offsets_fit : RowFits view sum_of offset_sum
  offsets_fit a b t v u l r h f g =
      then_some (pointer_of a) _ t h (λ p e1 h1. then_some (offset_of b) _ t h1 (λ o e2 h2.
      subst (λ z. FitsIn view z (sum_of v u)) (same_Some _ t h2)
      (pointer_at_fits p o v u (pointer_fits view a p v e1 f) (offset_fits view b o u r e2 g))))

  pointers_fit : RowFits view sum_of (pointer_sum notes.shape)
  pointers_fit = or_fits view sum_of (scaled_sum notes.shape)
      (λ a b. option_or (bytes_sum notes.shape a b) (offset_sum a b)) scaled_fits
      (or_fits view sum_of (bytes_sum notes.shape) offset_sum bytes_fit offsets_fit)

  -- the rows of a sum, in their order
  abbrev rows : Ty → Ty → Option Ty
  rows a b =
      option_or (constant_sum a b) (option_or (fall_sum a b) (option_or (fall_sum b a) (option_or (int_sum a b)
      (option_or (lin_sum a b) (option_or (lin_sum b a) (option_or (pointer_sum notes.shape a b) (pointer_sum notes.shape b a)))))))

  rows_fit : RowFits view sum_of rows
  rows_fit = or_fits view sum_of constant_sum _ constants_fit (or_fits view sum_of fall_sum _ fall_fits
      (or_fits view sum_of (λ a b. fall_sum b a) _ (sum_flips fall_sum fall_fits) (or_fits view sum_of int_sum _ ints_fit
      (or_fits view sum_of lin_sum _ lins_fit (or_fits view sum_of (λ a b. lin_sum b a) _ (sum_flips lin_sum lins_fit)
      (or_fits view sum_of (pointer_sum notes.shape) _ pointers_fit (sum_flips (pointer_sum notes.shape) pointers_fit)))))))

  -- The sum of values fits the sum of types.
  pub sum_fits : (a b : Ty) (v u : Neutral) → IsBounded a → IsBounded b → FitsIn view a v → FitsIn view b u
      → FitsIn view (sum notes.shape a b) (sum_of v u)
  unfolding sum sum_row
  sum_fits a b v u l r f g = any_fits view sum_of rows a b v u rows_fit l r f g
