-- Sets of fields that are common to two.
use Rattle.note_infer.proofs.Joins.{◌≡◌, ◌⊎◌, ℕ, suc, ◌+◌, ◌^◌, ◌<◌, ◌≤◌, refl, ap, subst, ◌∙◌, inl, inr, ⊎_elim, arith, bit_and, min}
use Rattle.note_infer.proofs.Joins.{bit_at, count_ones, cases_lt, bit_at_and, same_from_bits}
use Rattle.std.proofs.lemmas.Nat.{and_block, and_le_l, and_le_r, ones_cat, ones_le_self, shr_split, zero_from_ones}
use Rattle.std.proofs.{Common.zero, Common.◌*◌, Common.◌/◌, Common.◌%◌, lemmas.Bool.cases_eq, lemmas.Nat.Bits.bit_at-lt}
use Rattle.note_types.specs.FieldSets.{IsAmong}

-- the fields of both are among those of each
pub both-first : (a b : ℕ) → IsAmong (bit_and a b) a
both-first a b f h =
    let e : bit_at (bit_and a b) f ≡ min (bit_at a f) (bit_at b f) = bit_at_and a b f in
    let l = bit_at-lt a f in omega (arith, e, h, l)

pub both-second : (a b : ℕ) → IsAmong (bit_and a b) b
both-second a b f h =
    let e : bit_at (bit_and a b) f ≡ min (bit_at a f) (bit_at b f) = bit_at_and a b f in
    let l = bit_at-lt b f in omega (arith, e, h, l)

ap2 : (f : ℕ → ℕ → ℕ) {x y u v : ℕ} → x ≡ u → y ≡ v → f x y ≡ f u v
ap2 f e g i = f (e i) (g i)

abbrev Fewer : ℕ → ℕ → Type 0
Fewer a b = (bit_and a b ≡ a) ⊎ (count_ones (bit_and a b) < count_ones a)

one_one : count_ones 1 ≡ 1
one_one =
    let h = ones_le_self 1 in
    ⊎_elim (λ (e : count_ones 1 ≡ 0). absurd (let q = zero_from_ones 1 e in omega (arith, q)))
    (λ n. ⊎_elim (λ l. absurd (n (omega (arith, l)))) (λ g. omega (arith, g, h)) (cases_lt (count_ones 1) 1)) (cases_eq (count_ones 1) 0)

bits-fewer : (r s : ℕ) → r < 2 → s < 2 → Fewer r s
bits-fewer zero s h g = inl (let l = and_le_l 0 s in omega (arith, l))
bits-fewer (suc zero) zero h g =
    inr (let l = and_le_r 1 0 in let m = ones_le_self (bit_and 1 0) in let e = one_one in omega (arith, l, m, e))
bits-fewer (suc zero) (suc zero) h g = inl refl
bits-fewer (suc (suc r)) s h g = absurd (omega arith)
bits-fewer (suc zero) (suc (suc s)) h g = absurd (omega arith)

module _ (p q r s : ℕ) (hr : r < 2 ^ 1) (hs : s < 2 ^ 1) where
  whole : bit_and (p * 2 ^ 1 + r) (q * 2 ^ 1 + s) ≡ bit_and p q * 2 ^ 1 + bit_and r s
  whole = and_block 1 p q r s hr hs

  ones_of : count_ones (p * 2 ^ 1 + r) ≡ count_ones p + count_ones r
  ones_of = ones_cat 1 p r hr

  ones_both : count_ones (bit_and (p * 2 ^ 1 + r) (q * 2 ^ 1 + s)) ≡ count_ones (bit_and p q) + count_ones (bit_and r s)
  ones_both = ap count_ones whole ∙ ones_cat 1 (bit_and p q) (bit_and r s) (let l = and_le_l r s in omega (arith, l, hr))

  halves : Fewer p q → Fewer r s → Fewer (p * 2 ^ 1 + r) (q * 2 ^ 1 + s)
  halves (inl e) (inl g) = inl (whole ∙ ap2 (λ x y. x * 2 ^ 1 + y) e g)
  halves (inl e) (inr l) = inr (let x : count_ones (bit_and p q) ≡ count_ones p = ap count_ones e in
      omega (arith, ones_of, ones_both, x, l))
  halves (inr l) (inl g) = inr (let x : count_ones (bit_and r s) ≡ count_ones r = ap count_ones g in
      omega (arith, ones_of, ones_both, x, l))
  halves (inr l) (inr k) = inr (omega (arith, ones_of, ones_both, l, k))

-- a set of the fields that are also in another one is the same set, or has fewer fields
pub both-fewer : (fuel a b : ℕ) → a ≤ fuel → Fewer a b
both-fewer zero a b h = inl (let l = and_le_l a b in omega (arith, l, h))
both-fewer (suc fuel) a b h =
    let ea : a / 2 ^ 1 * 2 ^ 1 + a % 2 ^ 1 ≡ a = shr_split a 1 in
    let eb : b / 2 ^ 1 * 2 ^ 1 + b % 2 ^ 1 ≡ b = shr_split b 1 in
    let ra : a % 2 ^ 1 < 2 ^ 1 = omega arith in
    let rb : b % 2 ^ 1 < 2 ^ 1 = omega arith in
    let P : ℕ → ℕ → Type 0 = λ x y. Fewer x y in
    let low : a / 2 ^ 1 ≤ fuel = omega (arith, ea, h) in
    subst (λ x. P x b) ea (subst (λ y. P (a / 2 ^ 1 * 2 ^ 1 + a % 2 ^ 1) y) eb
    (halves (a / 2 ^ 1) (b / 2 ^ 1) (a % 2 ^ 1) (b % 2 ^ 1) ra rb (both-fewer fuel (a / 2 ^ 1) (b / 2 ^ 1) low)
    (bits-fewer (a % 2 ^ 1) (b % 2 ^ 1) ra rb)))

-- a set and itself have the set in common
pub and_self : (a : ℕ) → bit_and a a ≡ a
and_self a = same_from_bits _ _ (λ f. bit_at_and a a f ∙ min_self (bit_at a f))
  where
    min_self : (x : ℕ) → min x x ≡ x
    min_self x = omega arith
