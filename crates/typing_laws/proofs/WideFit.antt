-- The operations on 64 bits that have rows of their own, and all operations together.
use Rattle.typing_laws.proofs.Common.{◌≡◌, ℕ, zero, suc, ◌-◌, ◌*◌, ◌/◌, ◌%◌, ◌^◌, ◌<◌, ◌≤◌, Bool, true, false, ◌&&◌, if◌then◌else◌, nat_lt}
use Rattle.typing_laws.proofs.Common.{nat_eq, min, Option, Some, None, refl, sym, ap, ap₂, ◌∙◌, subst, subst₂, arith, inl, mod-eq_of_lt}
use Rattle.typing_laws.proofs.Common.{le_refl, pos, negsuc, int_eq, ltb-true, and_parts, eqb-true, false≢true, lt-ltb, Decides-int_eq}
use Rattle.typing_laws.proofs.Common.{mod_below, pow_pos, le-div, div-add-mod', same_Some, none-some, ArithOp, low, outcome, IsBounded, Ty}
use Rattle.typing_laws.proofs.Common.{Any, Int, Lin, Status, Mask, Span, option_or, constant, constant_of, full, is_int, is_int_below}
use Rattle.typing_laws.proofs.Common.{span_of, product, is_unary, fold_row, or_ints, other_row, computed_type, divisor_known, Neutral, Num}
use Rattle.typing_laws.proofs.Common.{Error, number, pair, plain, word, Outcome, Gives, by_table, product_of, combined, Accepts, cond_both}
use Rattle.std.proofs.lemmas.Nat.{and_le_l, and_comm}
use Rattle.rules_data.specs.Arithmetic.{is_last_bit, error_bit, power_product, shifted_left, error_status, common_bits, divided, remainder}
use Rattle.rules_data.specs.Arithmetic.{shifted_right, by_constant, shl_row, or_row, wide_row, or_other}
use Rattle.neutral_machine.specs.Operations.{shifts_to_mask, coded, or_of}
use Rattle.typing_laws.proofs.{Rows.then_some, Rows.if_some, Rows.one_divides, Rows.span_word, Rows.constant_word, Rows.span_fits}
use Rattle.typing_laws.proofs.{Rows.constant_fits, Rows.number_fits, Rows.choice_fits, ComputedFit.table_accepts, ComputedFit.computed_is}
use Rattle.typing_laws.proofs.{ComputedFit.other_fits, ComputedFit.int_plain, ComputedFit.constant_plain, ProductsFit.difference_fits}
use Rattle.typing_laws.proofs.{ProductsFit.product_fits, ProductsFit.numbers_times, SumsFit.sum_fits, Views.View, Views.FitsIn}

-- ---- numbers

div_between : (lo x hi k : ℕ) → 0 < k → lo ≤ x → x ≤ hi → (lo / k ≤ x / k) × (x / k ≤ hi / k)
div_between lo x hi zero p l h = absurd (omega arith)
div_between lo x hi (suc k) p l h =
    let a : lo / suc k * suc k ≤ x = omega (arith, div-add-mod' lo (suc k), l) in
    let b : x / suc k * suc k ≤ hi = omega (arith, div-add-mod' x (suc k), h) in
    (le-div (lo / suc k) x (suc k) p a, le-div (x / suc k) hi (suc k) p b)

to_min : (r x y : ℕ) → r ≤ x → r ≤ y → r ≤ min x y
to_min r x y a b = omega (arith, a, b)

-- 1 and a number don't give the error bit
no_mask : (v : Neutral) (k : ℕ) → shifts_to_mask v (number k) ≡ false
no_mask (Num n c) k = go (nat_eq n 0) (nat_eq c 1)
  where
    go : (p q : Bool) → (p && (q && false)) ≡ false
    go true true = refl
    go true false = refl
    go false q = refl
no_mask v k = refl

coded_plain : (v z : Neutral) (o : Option ℕ) → coded v o ≡ Some z → plain v ≡ None
coded_plain (Error k) z o e = refl
coded_plain v z o e = absurd (none-some z e)

pow64 : (k : ℕ) → k < 64 → 2 ^ k < 2 ^ 64
pow64 k l = pow-lt k 64 l
  where
    pow-lt : (k n : ℕ) → k < n → 2 ^ k < 2 ^ n
    pow-lt zero zero l = absurd (omega arith)
    pow-lt zero (suc n) l = let p = pow_pos n in let e : 2 ^ suc n ≡ 2 ^ n * 2 = twice n in omega (arith, p, e)
      where
        twice : (n : ℕ) → 2 ^ suc n ≡ 2 ^ n * 2
        twice n = omega arith
    pow-lt (suc k) zero l = absurd (omega arith)
    pow-lt (suc k) (suc n) l = let r = pow-lt k n (omega arith) in let e : 2 ^ suc n ≡ 2 ^ n * 2 = omega arith in
        let f : 2 ^ suc k ≡ 2 ^ k * 2 = omega arith in omega (arith, r, e, f)

module _ (view : View) where
  open view use {notes}

  -- what is known of an Int's plain value
  pub record IsIn (x : Span) (i : ℕ) : Type 0 where
    pub from : x.lo ≤ i
    pub to : i ≤ x.hi
    pub word : i < 2 ^ 64

  span_plain : (a : Ty) (x : Span) (i : ℕ) (v : Neutral) → span_of a ≡ Some x → IsBounded a → FitsIn view a v → plain v ≡ Some i → IsIn x i
  span_plain a x i v h b f e =
      let g = span_fits view a x v h f in
      let l = span_word a x h b in
      let q : word g.x ≡ i = same_Some (word g.x) i (sym (ap plain g.is) ∙ e) in
      record { from = omega (arith, g.from, g.to, l, q); to = omega (arith, g.to, l, q); word = omega (arith, q) }

  span_int : (a : Ty) (x : Span) → span_of a ≡ Some x → is_int a ≡ true
  span_int (Int lo hi div) x e = refl
  span_int _ x e = absurd (none-some x e)

  constant_int : (a : Ty) (x : ℕ) → constant_of a ≡ Some x → is_int a ≡ true
  constant_int (Int lo hi div) x e = refl
  constant_int _ x e = absurd (none-some x e)

  -- rows of an Int and a constant, or of two Ints, by the table
  by_numbers : (op : ArithOp) (a b t : Ty) (v u : Neutral) → is_int a ≡ true → is_int b ≡ true → is_unary op ≡ false
      → FitsIn view a v → FitsIn view b u → ((i j r : ℕ) → plain v ≡ Some i → plain u ≡ Some j
      → r ≡ outcome 64 op (low 64 i) (low 64 j) → FitsIn view t (number r)) → Accepts (FitsIn view t) (by_table op true v u)
  by_numbers op a b t v u x y n f g k =
      table_accepts (FitsIn view t) op true v u (λ _ e. int_plain view b u y g e) (record {
        numbers = λ i j r p q c. k i j r p q (computed_is op true i j r c);
        one = λ j r q w c. absurd (false≢true (sym n ∙ w));
        not_first = λ _ e. absurd (int_plain view a v x f e);
        not_second = λ e. absurd (int_plain view b u y g e);
      })

  -- other arithmetic on what isn't two Ints: any value
  other_any : (op : ArithOp) (a b : Ty) (z : Neutral) → (is_int a ≡ true → is_int b ≡ true → ⊥) → FitsIn view (other_row op true a b) z
  other_any op a b z k = go (fold_row op true a b) refl
    where
      go : (o : Option Ty) → fold_row op true a b ≡ o → FitsIn view (or_ints true a b o) z
      go None e = choice_fits view (is_int a && is_int b) (full 64) Any z
          (λ e. let p = and_parts (is_int a) (is_int b) e in absurd (k p.0 p.1)) (λ _. tt)
      go (Some t) e = then_some (constant_of a) _ t e (λ x e1 h1. then_some (constant_of b) _ t h1
          (λ y e2 h2. absurd (k (constant_int a x e1) (constant_int b y e2))))

  -- a row, or else other arithmetic
  row_or_other : (op : ArithOp) (a b : Ty) (o : Option Ty) (q : Outcome Neutral) → ((t : Ty) → o ≡ Some t → Accepts (FitsIn view t) q)
      → (o ≡ None → Accepts (FitsIn view (other_row op true (if is_unary op then b else a) b)) q)
      → Accepts (FitsIn view (or_other op true a b o)) q
  row_or_other op a b None q f g = g refl
  row_or_other op a b (Some t) q f g = f t refl

  accepts_same : (P : Neutral → Type 0) (v u x y : Neutral) (f : Neutral → Neutral → Outcome Neutral) → v ≡ x → u ≡ y → Accepts P (f x y)
      → Accepts P (f v u)
  accepts_same P v u x y f p q h = subst₂ (λ i j. Accepts P (f i j)) (sym p) (sym q) h

  -- ---- SHL64

  last_bit : (b : Ty) (u : Neutral) → is_last_bit b ≡ true → FitsIn view b u → u ≡ Num 8 (2 ^ 64 - 1)
  last_bit (Lin n c) u h f =
      let p = and_parts (int_eq n (pos 8)) (int_eq c (negsuc 0)) h in
      f ∙ ap₂ pair ((Decides-int_eq n (pos 8)).0 p.0) ((Decides-int_eq c (negsuc 0)).0 p.1)
  last_bit _ u h f = absurd (false≢true h)

  abbrev shl_value : Neutral → Neutral → Outcome Neutral
  shl_value v u = if shifts_to_mask v u then Gives (Error 0) else by_table ArithOp.Shl true v u

  error_bit_fits : (a b t : Ty) (v u : Neutral) → error_bit a b ≡ Some t → FitsIn view a v → FitsIn view b u
      → Accepts (FitsIn view t) (shl_value v u)
  error_bit_fits a b t v u h f g =
      then_some (constant_of a) _ t h (λ x e1 h1. if_some (nat_eq x 1 && is_last_bit b) Mask t h1 (λ e2 e3.
      let p = and_parts (nat_eq x 1) (is_last_bit b) e2 in
      subst (λ z. Accepts (FitsIn view z) (shl_value v u)) e3 (accepts_same (FitsIn view Mask) v u (number 1) (Num 8 (2 ^ 64 - 1)) shl_value
      (constant_fits view a x v e1 f ∙ ap number (eqb-true x 1 p.0)) (last_bit b u p.1 g) refl)))

  -- what isn't the error bit
  shl_table : (P : Neutral → Type 0) (v u : Neutral) → (shifts_to_mask v u ≡ true → P (Error 0)) → Accepts P (by_table ArithOp.Shl true v u)
      → Accepts P (shl_value v u)
  shl_table P v u k h = cond_both (shifts_to_mask v u) (Gives (Error 0)) (by_table ArithOp.Shl true v u) (λ z. Accepts P z) k (λ _. h)

  not_number : (b : Ty) (v u : Neutral) → is_int b ≡ true → FitsIn view b u → shifts_to_mask v u ≡ true → ⊥
  not_number (Int lo hi div) v u h g e = false≢true (sym (no_mask v g.x) ∙ sym (ap (shifts_to_mask v) g.is) ∙ e)
  not_number _ v u h g e = false≢true h

  shifted_left_fits : (a b t : Ty) (v u : Neutral) → IsBounded a → IsBounded b → shifted_left a b ≡ Some t → FitsIn view a v
      → FitsIn view b u → Accepts (FitsIn view t) (shl_value v u)
  shifted_left_fits a b t v u l r h f g =
      then_some (span_of a) _ t h (λ x e1 h1. then_some (constant_of b) (power_product a) t h1
      (λ k e2 h2. if_some (nat_lt k 64) (product a (constant (2 ^ k))) t h2 (λ e3 e4.
      let small = ltb-true k 64 e3 in
      let p64 = pow64 k small in
      let p = span_fits view a x v e1 f in
      let w = span_word a x e1 l in
      let bounded : IsBounded (constant (2 ^ k)) = (le_refl _, p64, omega arith, omega arith) in
      let times = product_fits view a (constant (2 ^ k)) v (number (2 ^ k)) l bounded f
      (number_fits view (2 ^ k) _ _ 1 _ refl (le_refl _) (le_refl _) (one_divides _)) in
      let e : product_of v (number (2 ^ k)) ≡ number (word (p.x * 2 ^ k)) = ap (λ z. product_of z (number (2 ^ k))) p.is
      ∙ numbers_times p.x (2 ^ k) (omega (arith, p.to, w)) p64 in
      shl_table (FitsIn view t) v u (λ i. absurd (not_number b v u (constant_int b k e2) g i))
      (by_numbers ArithOp.Shl a b t v u (span_int a x e1) (constant_int b k e2) refl f g (λ i j q ei ej eq.
      let fi : i ≡ p.x = (let z : word p.x ≡ i = same_Some (word p.x) i (sym (ap plain p.is) ∙ ei) in omega (arith, z, w, p.to)) in
      let fj : j ≡ k = constant_plain view b k j u e2 r g ej in
      let li : low 64 i ≡ p.x = omega (arith, fi, w, p.to) in
      let lj : low 64 j ≡ k = omega (arith, fj, small) in
      subst₂ (λ y z. FitsIn view y z) e4 (e ∙ sym (ap number (eq ∙ ap₂ (λ y z. (y * 2 ^ z) % 2 ^ 64) li lj))) times)))))

  shl_fits : (a b : Ty) (v u : Neutral) → IsBounded a → IsBounded b → FitsIn view a v → FitsIn view b u
      → Accepts (FitsIn view (or_other ArithOp.Shl true a b (shl_row a b))) (shl_value v u)
  shl_fits a b v u l r f g = row_or_other ArithOp.Shl a b (shl_row a b) (shl_value v u) (λ t e. some (error_bit a b) refl t e)
      (λ e. shl_table _ v u (λ i. other_any ArithOp.Shl a b (Error 0) (λ x y. not_number b v u y g i))
      (other_fits view ArithOp.Shl true a b v u l r refl f g))
    where
      some : (o : Option Ty) → error_bit a b ≡ o → (t : Ty) → option_or o (shifted_left a b) ≡ Some t
          → Accepts (FitsIn view t) (shl_value v u)
      some (Some z) p t e = error_bit_fits a b t v u (p ∙ e) f g
      some None p t e = shifted_left_fits a b t v u l r e f g

  -- ---- OR64

  abbrev or_value : Neutral → Neutral → Outcome Neutral
  or_value v u = or_of (coded v (plain u)) (coded u (plain v)) (by_table ArithOp.Or true v u)

  pub record IsBelow (limit : ℕ) (u : Neutral) : Type 0 where
    pub y : ℕ
    pub is : u ≡ number y
    pub small : y < limit

  pub below_number : (limit : ℕ) (b : Ty) (u : Neutral) → is_int_below limit b ≡ true → FitsIn view b u → IsBelow limit u
  below_number limit (Int lo hi div) u h g = let l = ltb-true hi limit h in record { y = g.x; is = g.is; small = omega (arith, g.to, l) }
  below_number limit _ u h g = absurd (false≢true h)

  code_first : (y : ℕ) (r : Outcome Neutral) (o : Option Neutral) → y < 2 ^ 31
      → Accepts (FitsIn view (Status 0)) (or_of (coded (Error 0) (plain (number y))) o r)
  code_first y r o l = subst (λ t. Accepts (FitsIn view (Status 0)) (or_of (if t then Some (Error (word y)) else None) o r))
      (sym (lt-ltb (word y) (2 ^ 31) (omega (arith, l)))) (inl (record { code = word y; is = refl; small = omega (arith, l) }))

  error_status_first : (a b t : Ty) (v u : Neutral) → error_status a b ≡ Some t → FitsIn view a v → FitsIn view b u
      → Accepts (FitsIn view t) (or_value v u)
  error_status_first Mask b t v u h f g = if_some (is_int_below (2 ^ 31) b) (Status 0) t h (λ e1 e2.
      let q = below_number (2 ^ 31) b u e1 g in
      subst (λ z. Accepts (FitsIn view z) (or_value v u)) e2
      (accepts_same (FitsIn view (Status 0)) v u (Error 0) (number q.y) or_value f q.is (code_first q.y _ _ q.small)))
  error_status_first _ b t v u h f g = absurd (none-some t h)

  error_status_second : (a b t : Ty) (v u : Neutral) → error_status b a ≡ Some t → FitsIn view a v → FitsIn view b u
      → Accepts (FitsIn view t) (or_value v u)
  error_status_second a Mask t v u h f g = if_some (is_int_below (2 ^ 31) a) (Status 0) t h (λ e1 e2.
      let q = below_number (2 ^ 31) a v e1 f in
      subst (λ z. Accepts (FitsIn view z) (or_value v u)) e2
      (accepts_same (FitsIn view (Status 0)) v u (number q.y) (Error 0) or_value q.is g (turned q.y q.small)))
    where
      turned : (y : ℕ) → y < 2 ^ 31 → Accepts (FitsIn view (Status 0))
          (or_of None (if nat_lt (word y) (2 ^ 31) then Some (Error (word y)) else None) (by_table ArithOp.Or true (number y) (Error 0)))
      turned y l = subst (λ t. Accepts (FitsIn view (Status 0))
          (or_of None (if t then Some (Error (word y)) else None) (by_table ArithOp.Or true (number y) (Error 0))))
          (sym (lt-ltb (word y) (2 ^ 31) (omega (arith, l)))) (inl (record { code = word y; is = refl; small = omega (arith, l) }))
  error_status_second a _ t v u h f g = absurd (none-some t h)

  or_fits64 : (a b : Ty) (v u : Neutral) → IsBounded a → IsBounded b → FitsIn view a v → FitsIn view b u
      → Accepts (FitsIn view (or_other ArithOp.Or true a b (or_row a b))) (or_value v u)
  or_fits64 a b v u l r f g = row_or_other ArithOp.Or a b (or_row a b) (or_value v u) (λ t e. some (error_status a b) refl t e)
      (λ e. none (coded v (plain u)) refl (coded u (plain v)) refl)
    where
      some : (o : Option Ty) → error_status a b ≡ o → (t : Ty) → option_or o (error_status b a) ≡ Some t
          → Accepts (FitsIn view t) (or_value v u)
      some (Some z) p t e = error_status_first a b t v u (p ∙ e) f g
      some None p t e = error_status_second a b t v u e f g

      none : (x : Option Neutral) → coded v (plain u) ≡ x → (y : Option Neutral) → coded u (plain v) ≡ y
          → Accepts (FitsIn view (other_row ArithOp.Or true a b)) (or_of x y (by_table ArithOp.Or true v u))
      none (Some z) p y q = other_any ArithOp.Or a b z (λ i j. int_plain view a v i f (coded_plain v z (plain u) p))
      none None p (Some z) q = other_any ArithOp.Or a b z (λ i j. int_plain view b u j g (coded_plain u z (plain v) q))
      none None p None q = other_fits view ArithOp.Or true a b v u l r refl f g

  -- ---- AND64, DIVU64, MODU64, SHR64

  and_fits : (a b t : Ty) (v u : Neutral) → IsBounded a → IsBounded b → common_bits a b ≡ Some t → FitsIn view a v
      → FitsIn view b u → Accepts (FitsIn view t) (by_table ArithOp.And true v u)
  and_fits a b t v u l r h f g =
      then_some (span_of a) _ t h (λ x e1 h1. then_some (span_of b) _ t h1 (λ y e2 h2.
      by_numbers ArithOp.And a b t v u (span_int a x e1) (span_int b y e2) refl f g (λ i j q ei ej eq.
      let p = span_plain a x i v e1 l f ei in
      let s = span_plain b y j u e2 r g ej in
      let c = and_le_l (low 64 i) (low 64 j) in
      let k = and_le_l (low 64 j) (low 64 i) in
      let e = and_comm (low 64 i) (low 64 j) in
      subst (λ z. FitsIn view z (number q)) (same_Some _ t h2) (number_fits view q 0 (min x.hi y.hi) 1 _ refl (omega arith)
      (to_min q x.hi y.hi (omega (arith, eq, c, p.to)) (omega (arith, eq, e, k, s.to))) (one_divides q)))))

  -- an Int and a constant, by the table
  with_constant : (op : ArithOp) (row : Span → ℕ → Option Ty) (a b t : Ty) (v u : Neutral) → IsBounded a → IsBounded b → is_unary op ≡ false
      → by_constant row a b ≡ Some t → FitsIn view a v → FitsIn view b u
      → ((x : Span) (k i r : ℕ) → row x k ≡ Some t → IsIn x i → k < 2 ^ 64 → r ≡ outcome 64 op i k → FitsIn view t (number r))
      → Accepts (FitsIn view t) (by_table op true v u)
  with_constant op row a b t v u l r n h f g c =
      then_some (span_of a) _ t h (λ x e1 h1. then_some (constant_of b) (row x) t h1 (λ k e2 h2.
      by_numbers op a b t v u (span_int a x e1) (constant_int b k e2) n f g (λ i j q ei ej eq.
      let p = span_plain a x i v e1 l f ei in
      let w = constant_word b k e2 r in
      let fj = constant_plain view b k j u e2 r g ej in
      c x k i q h2 p w (eq ∙ ap₂ (outcome 64 op) (mod-eq_of_lt p.word) (ap (low 64) fj ∙ mod-eq_of_lt w)))))

  divided_fits : (a b t : Ty) (v u : Neutral) → IsBounded a → IsBounded b → by_constant divided a b ≡ Some t → FitsIn view a v
      → FitsIn view b u → Accepts (FitsIn view t) (by_table ArithOp.Divu true v u)
  divided_fits a b t v u l r h f g = with_constant ArithOp.Divu divided a b t v u l r refl h f g (λ x k i q e p w eq.
      if_some (nat_lt 0 k) (Int (x.lo / k) (x.hi / k) 1) t e (λ e1 e2.
      let c = div_between x.lo i x.hi k (ltb-true 0 k e1) p.from p.to in
      subst (λ z. FitsIn view z (number q)) e2 (number_fits view q _ _ 1 _ refl (let y = c.0 in omega (arith, y, eq))
      (let y = c.1 in omega (arith, y, eq)) (one_divides q))))

  remainder_fits : (a b t : Ty) (v u : Neutral) → IsBounded a → IsBounded b → by_constant remainder a b ≡ Some t → FitsIn view a v
      → FitsIn view b u → Accepts (FitsIn view t) (by_table ArithOp.Modu true v u)
  remainder_fits a b t v u l r h f g = with_constant ArithOp.Modu remainder a b t v u l r refl h f g (λ x k i q e p w eq.
      if_some (nat_lt 0 k) (Int 0 (k - 1) 1) t e (λ e1 e2.
      let c = mod_below i k (ltb-true 0 k e1) in
      subst (λ z. FitsIn view z (number q)) e2 (number_fits view q _ _ 1 _ refl (omega arith) (omega (arith, c, eq)) (one_divides q))))

  shifted_fits : (a b t : Ty) (v u : Neutral) → IsBounded a → IsBounded b → by_constant shifted_right a b ≡ Some t
      → FitsIn view a v → FitsIn view b u → Accepts (FitsIn view t) (by_table ArithOp.Shr true v u)
  shifted_fits a b t v u l r h f g = with_constant ArithOp.Shr shifted_right a b t v u l r refl h f g (λ x k i q e p w eq.
      if_some (nat_lt k 64) (Int (x.lo / 2 ^ k) (x.hi / 2 ^ k) 1) t e (λ e1 e2.
      let c = div_between x.lo i x.hi (2 ^ k) (pow_pos k) p.from p.to in
      subst (λ z. FitsIn view z (number q)) e2 (number_fits view q _ _ 1 _ refl (let y = c.0 in omega (arith, y, eq))
      (let y = c.1 in omega (arith, y, eq)) (one_divides q))))

  -- ---- all operations

  -- Each operation, at each size: values that fit the types give one that fits the row's, or both machines divide by 0.
  pub computed_fits : (op : ArithOp) (wide : Bool) (a b : Ty) (v u : Neutral) → IsBounded a → IsBounded b → divisor_known op b ≡ true
      → FitsIn view a v → FitsIn view b u → Accepts (FitsIn view (computed_type notes.shape op wide a b)) (combined op wide v u)
  unfolding computed_type wide_row combined
  computed_fits op false a b v u l r k f g = other_fits view op false a b v u l r k f g
  computed_fits ArithOp.Add true a b v u l r k f g = sum_fits view a b v u l r f g
  computed_fits ArithOp.Sub true a b v u l r k f g = difference_fits view a b v u l r f g
  computed_fits ArithOp.Mul true a b v u l r k f g = product_fits view a b v u l r f g
  computed_fits ArithOp.Mulu true a b v u l r k f g = product_fits view a b v u l r f g
  computed_fits ArithOp.Shl true a b v u l r k f g = shl_fits a b v u l r f g
  computed_fits ArithOp.Or true a b v u l r k f g = or_fits64 a b v u l r f g
  computed_fits ArithOp.And true a b v u l r k f g = row_or_other ArithOp.And a b (common_bits a b) _ (λ t e. and_fits a b t v u l r e f g)
      (λ e. other_fits view ArithOp.And true a b v u l r k f g)
  computed_fits ArithOp.Divu true a b v u l r k f g = row_or_other ArithOp.Divu a b (by_constant divided a b) _
      (λ t e. divided_fits a b t v u l r e f g) (λ e. other_fits view ArithOp.Divu true a b v u l r k f g)
  computed_fits ArithOp.Modu true a b v u l r k f g = row_or_other ArithOp.Modu a b (by_constant remainder a b) _
      (λ t e. remainder_fits a b t v u l r e f g) (λ e. other_fits view ArithOp.Modu true a b v u l r k f g)
  computed_fits ArithOp.Shr true a b v u l r k f g = row_or_other ArithOp.Shr a b (by_constant shifted_right a b) _
      (λ t e. shifted_fits a b t v u l r e f g) (λ e. other_fits view ArithOp.Shr true a b v u l r k f g)
  computed_fits op c a b v u l r k f g = other_fits view op c a b v u l r k f g
