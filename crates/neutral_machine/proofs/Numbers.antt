-- Sums of pairs and addresses modulo 2 ^ 64.
use Rattle.neutral_machine.proofs.Common.{◌≡◌, ℕ, ◌+◌, ◌-◌, ◌*◌, ◌%◌, ◌^◌, ◌<◌, ◌≤◌, sym, ap, ◌∙◌, arith, add-mod-mod, mul-mod_first}
use Rattle.neutral_machine.proofs.Common.{IsWidth, by_width, minus}
use Rattle.std.proofs.Math.Nat.{add-mod}

pub lin_mod : (x y w M : ℕ) → (x % M * w + y % M) % M ≡ (x * w + y) % M
lin_mod x y w M = add-mod-mod (x % M * w) y M ∙ add-mod (x % M * w) y M ∙ ap (λ z. (z + y % M) % M) (mul-mod_first x w M)
    ∙ sym (add-mod (x * w) y M)

pub sum_num : (w n c m d M : ℕ) → ((n + m) % M * w + (c + d) % M) % M ≡ ((n * w + c) % M + (m * w + d) % M) % M
sum_num w n c m d M = lin_mod (n + m) (c + d) w M ∙ ap (λ z. z % M) (omega arith) ∙ add-mod (n * w + c) (m * w + d) M

-- the same, from a base
pub sum_at : (w b n c m d M : ℕ) → (b + ((n + m) % M * w + (c + d) % M)) % M ≡ ((b + (n * w + c)) % M + (m * w + d) % M) % M
sum_at w b n c m d M =
    sym (add-mod-mod b ((n + m) % M * w + (c + d) % M) M) ∙ ap (λ z. (b + z) % M) (lin_mod (n + m) (c + d) w M)
    ∙ add-mod-mod b ((n + m) * w + (c + d)) M ∙ ap (λ z. z % M) (omega arith) ∙ add-mod (b + (n * w + c)) (m * w + d) M

-- an address below another one, where the stack has room for it
pub minus-is : (x n : ℕ) → 0 < n → n ≤ x → x ≤ 2 ^ 64 → minus x n ≡ x - n
minus-is x n p l m = omega arith

-- two numbers that are one modulo 2 ^ 64, cut to the width
pub cut_same : (w a z : ℕ) → IsWidth w → a % 2 ^ 64 ≡ z % 2 ^ 64 → z < 2 ^ (8 * w) → a % 2 ^ (8 * w) ≡ z
cut_same w a z h = by_width (λ v. a % 2 ^ 64 ≡ z % 2 ^ 64 → z < 2 ^ (8 * v) → a % 2 ^ (8 * v) ≡ z) w h (λ e l. omega arith)
    (λ e l. omega arith)
