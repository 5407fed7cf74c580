-- Sums of numbers in a row.
use Rattle.std.proofs.Common.{◌≡◌, ℕ, ◌+◌, ◌-◌, ◌*◌, ◌/◌, ◌^◌, ◌<◌, ◌≤◌, zero, suc, sum, refl, ap, sym, ◌∙◌, arith, mul-le-mul}
use Rattle.std.proofs.Math.Nat.{mul-suc, suc-mul}
use Rattle.std.proofs.lemmas.List.Sums.{sum_by-cons}
use Rattle.std.specs.List.{range_with_len}
use Rattle.printed_texts.specs.Samples.{sample_result}

-- one number before n
step : (a n s p x : ℕ) → 2 * s + n ≡ p + n → x ≡ a + a + suc n → 2 * (a + s) + suc n ≡ p + x
step a n s p x before is = omega arith

-- twice the sum of n numbers from a on, and n
twice : (a n : ℕ) → 2 * sum (range_with_len a n) + n ≡ n * (a + a + n)
twice a zero = omega arith
twice a (suc n) =
    let x : ℕ = a + a + suc n in
    let s : ℕ = sum (range_with_len (a + 1) n) in
    let ends : a + 1 + (a + 1) + n ≡ suc x = omega arith in
    let before : 2 * s + n ≡ n * x + n = twice (a + 1) n ∙ (ap (λ y. n * y) ends ∙ mul-suc n x) in
    let more : sum (range_with_len a (suc n)) ≡ a + s = sum_by-cons (λ k. k) a (range_with_len (a + 1) n) in
    ap (λ y. 2 * y + suc n) more ∙ (step a n s (n * x) x before refl ∙ sym (suc-mul n x))

half_of : (s m p : ℕ) → 2 * s + m ≡ p + m → p / 2 ≡ s
half_of s m p whole = omega arith

-- the sum of the numbers from k to n - 1 is half their number times the sum of the first and the last
pub half : (n k : ℕ) → k < n → (n - k) * (k + (n - 1)) / 2 ≡ sample_result n k
half n k below =
    let ends : k + k + (n - k) ≡ suc (k + (n - 1)) = omega arith in
    half_of (sum (range_with_len k (n - k))) (n - k) ((n - k) * (k + (n - 1)))
    (twice k (n - k) ∙ (ap (λ x. (n - k) * x) ends ∙ mul-suc (n - k) (k + (n - 1))))

-- the product is small
pub twice_fits : (n k : ℕ) → k < n → n ≤ 4096 → (n - k) * (k + (n - 1)) < 2 ^ 32
twice_fits n k below most =
    let many : n - k ≤ 4096 = omega arith in
    let ends : k + (n - 1) ≤ 8192 = omega arith in
    let all : (n - k) * (k + (n - 1)) ≤ 4096 * 8192 = mul-le-mul many ends in
    omega (arith, all)
