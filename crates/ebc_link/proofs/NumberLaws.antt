-- Numbers in the bytes of fixups, and the numbers that these spell.
use Rattle.ebc_link.proofs.Common.{◌*◌, nat_tests, width, ◌≡◌, ℕ, ◌+◌, ◌-◌, ◌%◌, ◌^◌, ◌<◌, ◌≤◌, true, get_or, take, sym, ap, ◌∙◌, arith, ℤ}
use Rattle.ebc_link.proofs.Common.{pos, w64, to_le_bytes, get_or-take, little_endian, signed_at, wrap64, holds_signed}
use Rattle.std.specs.Prelude.{negsuc}
use Rattle.ebc_width.specs.Bytes.{put}
use Rattle.ebc_width.proofs.{ByteLaws.little_endian-agree, ByteLaws.little_endian-same, ByteLaws.put-within, Numbers.get_or-to_le_bytes}

-- what the low bytes of a number spell
pub number_there : (b : ℕ → ℕ) (place n v : ℕ) → n ≤ 8 → ((j : ℕ) → j < n → b (place + j) ≡ get_or (take n (to_le_bytes w64 v)) j 0)
    → little_endian b place n ≡ v % 256 ^ n
number_there b place n v few each =
    let zero_bytes : ℕ → ℕ = λ x. 0 in
    little_endian-agree b (put zero_bytes place n v) place n
    (λ x low high.
    let j : ℕ = x - place in
    let at : place + j ≡ x = omega (arith, low) in
    let within : j < n = omega (arith, low, high) in
    ap b (sym at)
    ∙ (each j within
    ∙ (get_or-take n (to_le_bytes w64 v) j 0 within
    ∙ (get_or-to_le_bytes v j (omega (arith, within, few)) ∙ sym (put-within zero_bytes place n v x low high)))))
    ∙ little_endian-same zero_bytes place n v

-- ---- signed numbers

-- a signed number is spelled by its low bytes, where they hold it
pub back : (kind : ℕ) (d : ℤ) → 1 ≤ kind → kind ≤ 4 → holds_signed (width kind) d ≡ true
    → signed_at (8 * width kind) (wrap64 d % 256 ^ width kind) ≡ d
back kind (pos k) low high e = grind (arith, nat_tests)
back kind (negsuc k) low high e = grind (arith, nat_tests)
