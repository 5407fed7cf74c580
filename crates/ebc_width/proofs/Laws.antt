-- Laws of numbers at a width, for the crates above.
use Rattle.std.proofs.Common.{◌≡◌, ℕ, ◌+◌, ◌-◌, ◌*◌, ◌%◌, ◌^◌, ◌<◌, ◌≤◌, ℤ, pos, negsuc, Bool, true, false, cond, ltb, zero, suc, neg_ℤ}
use Rattle.std.proofs.Common.{◌+ℤ◌, ◌*ℤ◌, refl, sym, ap, subst, ◌∙◌, arith, ⊎_elim}
use Rattle.std.proofs.Math.Nat.{add-mod, add-mod-mod, mod-add-mod, mod-eq_of_lt}
use Rattle.std.proofs.Math.IntN.{negsuc-*ℤ-pos}
use Rattle.std.proofs.lemmas.Bool.{lt-ltb, ltb-true, ltb-false}
use Rattle.std.proofs.lemmas.Nat.{mod_below, pow_pos, mul-mod_first}
use Rattle.ebc_width.specs.Width.{IsWidth, cut_at, wrap64, extended_at, linear_at}

-- what holds at both widths holds at each
pub by_width : (P : ℕ → Type 0) (w : ℕ) → IsWidth w → P 4 → P 8 → P w
by_width P w width at4 at8 = ⊎_elim (λ is. subst P (sym is) at4) (λ is. subst P (sym is) at8) width

-- ---- the low bytes

pub cut_at-below : (w x : ℕ) → cut_at w x < 2 ^ (8 * w)
cut_at-below w x = mod_below x (2 ^ (8 * w)) (pow_pos (8 * w))

pub cut_at-at_below : (w x : ℕ) → x < 2 ^ (8 * w) → cut_at w x ≡ x
cut_at-at_below w x below = mod-eq_of_lt below

pub cut_at-cut_at : (w x : ℕ) → cut_at w (cut_at w x) ≡ cut_at w x
cut_at-cut_at w x = cut_at-at_below w (cut_at w x) (cut_at-below w x)

pub cut_at-below_64 : (w x : ℕ) → IsWidth w → cut_at w x < 2 ^ 64
cut_at-below_64 w x width = by_width (λ v. cut_at v x < 2 ^ 64) w width (omega arith) (omega arith)

-- a register's 64 bits hold all that is cut from it
pub cut_at-mod_64 : (w x : ℕ) → IsWidth w → cut_at w (x % 2 ^ 64) ≡ cut_at w x
cut_at-mod_64 w x width = by_width (λ v. cut_at v (x % 2 ^ 64) ≡ cut_at v x) w width (omega arith) (omega arith)

-- ---- the sign

pub extended_at-below : (w x : ℕ) → IsWidth w → extended_at w x < 2 ^ 64
extended_at-below w x width = by_width (λ v. extended_at v x < 2 ^ 64) w width (grind arith) (grind arith)

pub extended_at-at_small : (w x : ℕ) → 2 * x < 2 ^ (8 * w) → extended_at w x ≡ x
extended_at-at_small w x small =
    let below : x < 2 ^ (8 * w) = omega arith in
    rw (cut_at-at_below w x below, lt-ltb _ _ small) refl

pub extended_at-cut_at : (w x : ℕ) → extended_at w (cut_at w x) ≡ extended_at w x
extended_at-cut_at w x = rw (cut_at-cut_at w x) refl

-- ---- natural units and bytes

pub wrap64-below : (z : ℤ) → wrap64 z < 2 ^ 64
wrap64-below (pos n) = omega arith
wrap64-below (negsuc n) = omega arith

wrap64-sub : (m n : ℕ) (less : Bool) → ltb m (suc n) ≡ less → wrap64 (cond less (negsuc (suc n - suc m)) (pos (m - suc n))) ≡
    (wrap64 (pos m) + wrap64 (negsuc n)) % 2 ^ 64
wrap64-sub m n true is = let below : m < suc n = ltb-true _ _ is in omega arith
wrap64-sub m n false is = let above : suc n ≤ m = ltb-false _ _ is in omega arith

pub wrap64-add : (y z : ℤ) → wrap64 (y +ℤ z) ≡ (wrap64 y + wrap64 z) % 2 ^ 64
wrap64-add (pos m) (pos n) = omega arith
wrap64-add (pos m) (negsuc n) = wrap64-sub m n (ltb m (suc n)) refl
wrap64-add (negsuc m) (pos n) = wrap64-sub n m (ltb n (suc m)) refl ∙ ap (λ z. z % 2 ^ 64) (omega arith)
wrap64-add (negsuc m) (negsuc n) = omega arith

pub linear_at-below : (w : ℕ) (n c : ℤ) → linear_at w n c < 2 ^ 64
linear_at-below w n c = wrap64-below ((n *ℤ pos w) +ℤ c)

-- a pair without signs
pub linear_at-pos : (w n c : ℕ) → linear_at w (pos n) (pos c) ≡ (n * w + c) % 2 ^ 64
linear_at-pos w n c = refl

pub wrap64-neg : (z : ℤ) → wrap64 (neg_ℤ z) ≡ (2 ^ 64 - wrap64 z) % 2 ^ 64
wrap64-neg (pos zero) = refl
wrap64-neg (pos (suc n)) = omega arith
wrap64-neg (negsuc n) = omega arith

wrap64-mul : (w : ℕ) (z : ℤ) → IsWidth w → wrap64 (z *ℤ pos w) ≡ wrap64 z * w % 2 ^ 64
wrap64-mul w (pos n) width = sym (mul-mod_first n w (2 ^ 64))
wrap64-mul w (negsuc n) width =
    rw (negsuc-*ℤ-pos n w, wrap64-neg (pos (suc n * w))) (by_width
    (λ v. (2 ^ 64 - suc n * v % 2 ^ 64) % 2 ^ 64 ≡ (2 ^ 64 - 1 - n % 2 ^ 64) * v % 2 ^ 64) w width (omega arith) (omega arith))

-- both parts may be taken modulo 2 ^ 64
pub linear-mod : (w n c : ℕ) → (n % 2 ^ 64 * w + c % 2 ^ 64) % 2 ^ 64 ≡ (n * w + c) % 2 ^ 64
linear-mod w n c =
    add-mod-mod (n % 2 ^ 64 * w) c (2 ^ 64) ∙ (add-mod (n % 2 ^ 64 * w) c (2 ^ 64)
    ∙ (ap (λ z. (z + c % 2 ^ 64) % 2 ^ 64) (mul-mod_first n w (2 ^ 64)) ∙ sym (add-mod (n * w) c (2 ^ 64))))

pub linear_at-wrap64 : (w : ℕ) (n c : ℤ) → IsWidth w → linear_at w n c ≡ (wrap64 n * w + wrap64 c) % 2 ^ 64
linear_at-wrap64 w n c width =
    wrap64-add (n *ℤ pos w) c ∙ (ap (λ z. (z + wrap64 c) % 2 ^ 64) (wrap64-mul w n width) ∙ mod-add-mod (wrap64 n * w) (2 ^ 64) (wrap64 c))

-- a pair with both signs
pub linear_at-neg : (w : ℕ) (n c : ℤ) → IsWidth w → linear_at w (neg_ℤ n) (neg_ℤ c) ≡ (2 ^ 64 - linear_at w n c) % 2 ^ 64
linear_at-neg w n c width =
    rw (linear_at-wrap64 w (neg_ℤ n) (neg_ℤ c) width, linear_at-wrap64 w n c width, wrap64-neg n, wrap64-neg c)
    (negated (wrap64 n) (wrap64 c) (wrap64-below n) (wrap64-below c))
  where
    negated : (a b : ℕ) → a < 2 ^ 64 → b < 2 ^ 64 → ((2 ^ 64 - a) % 2 ^ 64 * w + (2 ^ 64 - b) % 2 ^ 64) % 2 ^ 64 ≡
        (2 ^ 64 - (a * w + b) % 2 ^ 64) % 2 ^ 64
    negated a b p q = by_width (λ v. ((2 ^ 64 - a) % 2 ^ 64 * v + (2 ^ 64 - b) % 2 ^ 64) % 2 ^ 64 ≡
        (2 ^ 64 - (a * v + b) % 2 ^ 64) % 2 ^ 64) w width (omega arith) (omega arith)
