-- All operations of arithmetic on values show as the machine's: one law.
use Rattle.neutral_machine.proofs.Common.{◌≡◌, ℕ, zero, ◌+◌, ◌-◌, ◌*◌, ◌%◌, ◌^◌, ◌<◌, Bool, true, false, ◌&&◌, if◌then◌else◌, nat_eq}
use Rattle.neutral_machine.proofs.Common.{nat_lt, Option, Some, None, Ok, refl, sym, ap, ap₂, ◌∙◌, subst, arith, mod-eq_of_lt, mul_comm}
use Rattle.neutral_machine.proofs.Common.{ltb-true, and_parts, eqb-true, false≢true, mul-mod_first, same_Some, none-some, IsWidth, by_width}
use Rattle.neutral_machine.proofs.Common.{ArithOp, or_divide_error, bits_of, low, outcome, divides, computed, Neutral, Num, At, Error}
use Rattle.neutral_machine.proofs.Common.{Addresses, Shows, plain, word, minus, Gives, Does, sum_of, by_table, combined}
use Rattle.std.proofs.Common.{bit_or}
use Rattle.std.proofs.lemmas.Nat.{or_shifted, or_comm}
use Rattle.neutral_machine.specs.Operations.{difference_of, multiple_of, product_of, shifts_to_mask, coded, or_of, combined_wide}
use Rattle.neutral_machine.proofs.{Numbers.lin_mod, Numbers.sum_num, Numbers.sum_at, Values.plain_shows, Values.sum_shows, Alu.Word}
use Rattle.neutral_machine.proofs.{Alu.gives, Alu.table_does, Alu.signed_product}
use Rattle.ebc_insn.specs.declared.ArithOp.TheVariants as ops

-- ---- differences

less_from : (x y z : ℕ) → z < 2 ^ 64 → y < 2 ^ 64 → word (z + y) ≡ x → z ≡ word (x + (2 ^ 64 - y))
less_from x y z l m e = omega (arith, l, m, e)

back : (n m : ℕ) → word (minus n m + m) ≡ word n
back n m = omega arith

num_less : (w n c m d : ℕ) → word (minus n m * w + minus c d) ≡ word (word (n * w + c) + (2 ^ 64 - word (m * w + d)))
num_less w n c m d =
    less_from (word (n * w + c)) (word (m * w + d)) (word (minus n m * w + minus c d)) (omega arith) (omega arith)
    (sym (sum_num w (minus n m) (minus c d) m d (2 ^ 64)) ∙ ap₂ (λ a b. word (a * w + b)) (back n m) (back c d) ∙ lin_mod n c w (2 ^ 64))

at_less : (w b n c m d : ℕ) → word (b + (minus n m * w + minus c d)) ≡ word (word (b + (n * w + c)) + (2 ^ 64 - word (m * w + d)))
at_less w b n c m d =
    less_from (word (b + (n * w + c))) (word (m * w + d)) (word (b + (minus n m * w + minus c d))) (omega arith) (omega arith)
    (sym (sum_at w b (minus n m) (minus c d) m d (2 ^ 64)) ∙ ap₂ (λ i j. word (b + (i * w + j))) (back n m) (back c d) ∙ base_mod b n c)
  where
    base_mod : (b n c : ℕ) → word (b + (word n * w + word c)) ≡ word (b + (n * w + c))
    base_mod b n c = split b (word n * w + word c) ∙ ap (λ z. word (b + z)) (lin_mod n c w (2 ^ 64)) ∙ sym (split b (n * w + c))
      where
        split : (x y : ℕ) → word (x + y) ≡ word (x + word y)
        split x y = omega arith

pub difference_shows : (w : ℕ) (A : Addresses) (v u : Neutral) (x y : ℕ) → Shows w A v x → Shows w A u y
    → Shows w A (difference_of v u) (word (x + (2 ^ 64 - y)))
difference_shows w A (Num n c) (Num m d) x y p q = ap₂ (λ a b. word (a + (2 ^ 64 - b))) p q ∙ sym (num_less w n c m d)
difference_shows w A (At a n c) (Num m d) x y p q = record {
  from = p.from;
  there = p.there;
  is = ap₂ (λ a b. word (a + (2 ^ 64 - b))) p.is q ∙ sym (at_less w p.from n c m d);
}
difference_shows w A _ _ x y p q = tt

-- ---- products

times : (w n c k : ℕ) → word (word (n * w + c) * k) ≡ word (word (n * k) * w + word (c * k))
times w n c k =
    mul-mod_first (n * w + c) k (2 ^ 64) ∙ ap word (let e : (n * w + c) * k ≡ n * k * w + c * k = omega arith in e)
    ∙ sym (lin_mod (n * k) (c * k) w (2 ^ 64))

multiple_shows : (w : ℕ) (A : Addresses) (v : Neutral) (x k : ℕ) (o : Option ℕ) → ((c : ℕ) → o ≡ Some c → k ≡ c) → Shows w A v x
    → Shows w A (multiple_of o v) (word (x * k))
multiple_shows w A (Num n c) x k (Some d) f s = ap₂ (λ a b. word (a * b)) s (f d refl) ∙ times w n c d
multiple_shows w A v x k None f s = tt
multiple_shows w A _ x k (Some d) f s = tt

pub product_shows : (w : ℕ) (A : Addresses) (v u : Neutral) (x y : ℕ) → Shows w A v x → Shows w A u y
    → Shows w A (product_of v u) (word (x * y))
product_shows w A (Num zero c) u x y p q = subst (λ z. Shows w A (multiple_of (plain (Num zero c)) u) (word z)) (mul_comm y x)
    (multiple_shows w A u y x (Some (word c)) (λ d e. plain_shows w A (Num zero c) x d p e) q)
product_shows w A v u x y p q = multiple_shows w A v x y (plain u) (λ d e. plain_shows w A u y d q e) p

-- ---- statuses

mask_is : (w : ℕ) → IsWidth w → outcome 64 ops.Shl 1 ((8 * w + (2 ^ 64 - 1)) % 2 ^ 64) ≡ 2 ^ (8 * w - 1) + 0
mask_is w h = by_width (λ v. outcome 64 ops.Shl 1 ((8 * v + (2 ^ 64 - 1)) % 2 ^ 64) ≡ 2 ^ (8 * v - 1) + 0) w h refl refl

error_is : (w k : ℕ) → IsWidth w → k < 2 ^ 31 → bit_or (2 ^ (8 * w - 1) + 0) k ≡ 2 ^ (8 * w - 1) + k
error_is w k h l = by_width (λ v. bit_or (2 ^ (8 * v - 1) + 0) k ≡ 2 ^ (8 * v - 1) + k) w h (or_shifted 1 31 k l)
    (or_shifted 1 63 k (omega arith))

error_word : (w k : ℕ) → IsWidth w → k < 2 ^ 31 → 2 ^ (8 * w - 1) + k < 2 ^ 64
error_word w k h l = by_width (λ v. 2 ^ (8 * v - 1) + k < 2 ^ 64) w h (omega arith) (omega arith)

-- the error bit and a code that are joined
pub record Joined (w : ℕ) (A : Addresses) (v : Neutral) (o : Option ℕ) (z : Neutral) (x : ℕ) : Type 0 where
  pub k : ℕ
  pub code : o ≡ Some k
  pub small : k < 2 ^ 31
  pub is : z ≡ Error k
  pub mask : x ≡ 2 ^ (8 * w - 1) + 0

joined : (w : ℕ) (A : Addresses) (v : Neutral) (o : Option ℕ) (z : Neutral) (x : ℕ) → Shows w A v x → coded v o ≡ Some z
    → Joined w A v o z x
joined w A (Error zero) (Some k) z x s e = go (nat_lt k (2 ^ 31)) refl e
  where
    go : (t : Bool) → nat_lt k (2 ^ 31) ≡ t → (if t then Some (Error k) else None) ≡ Some z → Joined w A (Error zero) (Some k) z x
    go true t e = record { k = k; code = refl; small = ltb-true _ _ t; is = sym (same_Some _ _ e); mask = s.1 }
    go false t e = absurd (none-some z e)
joined w A _ _ z x s e = absurd (none-some z e)

module _ (w : ℕ) (h : IsWidth w) (A : Addresses) where
  wide_gives : (op : ArithOp) (x y z : ℕ) → x < 2 ^ 64 → y < 2 ^ 64 → divides op ≡ false → outcome 64 op x y ≡ z
      → computed op true x y ≡ Ok z
  wide_gives op x y z l m n e =
      gives w A op true x y (ap (λ b. b && nat_eq (low (bits_of true) y) 0) n)
      ∙ ap₂ (λ i j. Ok (outcome 64 op i j)) (mod-eq_of_lt l) (mod-eq_of_lt m) ∙ ap Ok e

  given : (op : ArithOp) (v u z : Neutral) (x y r : ℕ) → Word w A v x → Word w A u y → divides op ≡ false → outcome 64 op x y ≡ r
      → r < 2 ^ 64 → Shows w A z r → Does (Word w A) (Gives z) (or_divide_error (computed op true x y))
  given op v u z x y r p q n e l s = subst (λ i. Does (Word w A) (Gives z) (or_divide_error i)) (sym (wide_gives op x y r p.0 q.0 n e))
      (l, s)

  mask_does : (v u : Neutral) (x y : ℕ) → Word w A v x → Word w A u y → shifts_to_mask v u ≡ true
      → Does (Word w A) (Gives (Error 0)) (or_divide_error (computed ops.Shl true x y))
  mask_does (Num n c) (Num m d) x y p q e =
      let a = and_parts (nat_eq n 0) _ e in
      let b = and_parts (nat_eq c 1) _ a.1 in
      let g = and_parts (nat_eq m 8) (nat_eq d (2 ^ 64 - 1)) b.1 in
      let ex : x ≡ 1 = p.1 ∙ ap₂ (λ i j. word (i * w + j)) (eqb-true n 0 a.0) (eqb-true c 1 b.0)
      ∙ (let z : word (0 * w + 1) ≡ 1 = omega arith in z) in
      let ey : y ≡ word (8 * w + (2 ^ 64 - 1)) = q.1 ∙ ap₂ (λ i j. word (i * w + j)) (eqb-true m 8 g.0) (eqb-true d (2 ^ 64 - 1) g.1) in
      given ops.Shl (Num n c) (Num m d) (Error 0) x y (2 ^ (8 * w - 1) + 0) p q refl (ap₂ (outcome 64 ops.Shl) ex ey ∙ mask_is w h)
      (error_word w 0 h (omega arith)) (omega arith, refl)
  mask_does _ _ x y p q e = absurd (false≢true e)

  or_does : (v u : Neutral) (x y : ℕ) → Word w A v x → Word w A u y
      → Does (Word w A) (or_of (coded v (plain u)) (coded u (plain v)) (by_table ops.Or true v u))
      (or_divide_error (computed ops.Or true x y))
  or_does v u x y p q = go (coded v (plain u)) refl (coded u (plain v)) refl
    where
      go : (a : Option Neutral) → coded v (plain u) ≡ a → (b : Option Neutral) → coded u (plain v) ≡ b
          → Does (Word w A) (or_of a b (by_table ops.Or true v u)) (or_divide_error (computed ops.Or true x y))
      go (Some z) e b f =
          let j = joined w A v (plain u) z x p.1 e in
          let ey : y ≡ j.k = plain_shows w A u y j.k q.1 j.code in
          subst (λ t. Does (Word w A) (Gives t) (or_divide_error (computed ops.Or true x y))) (sym j.is)
          (given ops.Or v u (Error j.k) x y (2 ^ (8 * w - 1) + j.k) p q refl (ap₂ bit_or j.mask ey ∙ error_is w j.k h j.small)
          (error_word w j.k h j.small) (j.small, refl))
      go None e (Some z) f =
          let j = joined w A u (plain v) z y q.1 f in
          let ex : x ≡ j.k = plain_shows w A v x j.k p.1 j.code in
          subst (λ t. Does (Word w A) (Gives t) (or_divide_error (computed ops.Or true x y))) (sym j.is)
          (given ops.Or v u (Error j.k) x y (2 ^ (8 * w - 1) + j.k) p q refl (or_comm x y ∙ ap₂ bit_or j.mask ex ∙ error_is w j.k h j.small)
          (error_word w j.k h j.small) (j.small, refl))
      go None e None f = table_does w A ops.Or true v u x y p q

  shl_does : (v u : Neutral) (x y : ℕ) → Word w A v x → Word w A u y
      → Does (Word w A) (if shifts_to_mask v u then Gives (Error 0) else by_table ops.Shl true v u)
      (or_divide_error (computed ops.Shl true x y))
  shl_does v u x y p q = go (shifts_to_mask v u) refl
    where
      go : (t : Bool) → shifts_to_mask v u ≡ t → Does (Word w A) (if t then Gives (Error 0) else by_table ops.Shl true v u)
          (or_divide_error (computed ops.Shl true x y))
      go true e = mask_does v u x y p q e
      go false e = table_does w A ops.Shl true v u x y p q

  wide_does : (op : ArithOp) (v u : Neutral) (x y : ℕ) → Word w A v x → Word w A u y
      → Does (Word w A) (combined_wide op v u) (or_divide_error (computed op true x y))
  wide_does ops.Add v u x y p q = given ops.Add v u (sum_of v u) x y (word (x + y)) p q refl refl (omega arith)
      (sum_shows w A v u x y p.1 q.1)
  wide_does ops.Sub v u x y p q = given ops.Sub v u (difference_of v u) x y (word (x + (2 ^ 64 - y))) p q refl refl (omega arith)
      (difference_shows w A v u x y p.1 q.1)
  wide_does ops.Mul v u x y p q = given ops.Mul v u (product_of v u) x y (word (x * y)) p q refl (signed_product x y p.0 q.0) (omega arith)
      (product_shows w A v u x y p.1 q.1)
  wide_does ops.Mulu v u x y p q = given ops.Mulu v u (product_of v u) x y (word (x * y)) p q refl refl (omega arith)
      (product_shows w A v u x y p.1 q.1)
  wide_does ops.Shl v u x y p q = shl_does v u x y p q
  wide_does ops.Or v u x y p q = or_does v u x y p q
  wide_does op v u x y p q = table_does w A op true v u x y p q

  -- Each operation at each size: the machine's number is that of the neutral machine's value, or both divide by 0.
  pub combined_does : (op : ArithOp) (wide : Bool) (v u : Neutral) (x y : ℕ) → Word w A v x → Word w A u y
      → Does (Word w A) (combined op wide v u) (or_divide_error (computed op wide x y))
  unfolding combined
  combined_does op true v u x y p q = wide_does op v u x y p q
  combined_does op false v u x y p q = table_does w A op false v u x y p q
