-- Digits that are written are read again.
use Rattle.std.proofs.Common.{◌≡◌, ℕ, ◌+◌, ◌-◌, ◌*◌, ◌/◌, ◌%◌, ◌^◌, ◌<◌, ◌≤◌, List, [], ◌∷◌, ◌++◌, zero, suc, length, get_or, Some, None}
use Rattle.std.proofs.Common.{Bool, true, false, cond, refl, sym, ◌∙◌, arith, pow-suc, ◌⊎◌, inl, inr}
use Rattle.std.proofs.lemmas.Bool.Decides.{nat_tests}
use Rattle.std.proofs.lemmas.Bool.{cases_lt}
use Rattle.std.proofs.lemmas.Fmt.{decimal_by_steps, decimal_digit, first_decimal}
use Rattle.std.specs.Prelude.{option_and_then, ℤ, pos, negsuc, Ok, nat_lt, nat_le, ◌==◌}
use Rattle.std.specs.Fmt.{decimal, signed_decimal}
use Rattle.ebc_insn.specs.Spelling.{FitsInt}
use Rattle.asm_text.specs.Numbers.{digit_of, with_digit, digits_from, decimal_value, plain_value, number_value, number, fit, hex_glyph}
use Rattle.asm_text.specs.Numbers.{hex_text}

pub digits_append : (r n : ℕ) (xs ys : List ℕ) → digits_from r n (xs ++ ys) ≡ option_and_then (λ m. digits_from r m ys) (digits_from r n xs)
unfolding digits_from
digits_append r n [] ys = refl
digits_append r n (x ∷ xs) ys = elim (with_digit r n x) as (λ o. option_and_then (λ m. digits_from r m (xs ++ ys)) o ≡ option_and_then
    (λ m. digits_from r m ys) (option_and_then (λ m. digits_from r m xs) o)) [
      | None ↦ refl
      | Some m ↦ digits_append r m xs ys
    ]

pub next_ten : (m d : ℕ) → d < 10 → 10 * m + d < 2 ^ 64 → with_digit 10 m (48 + d) ≡ Some (10 * m + d)
next_ten m d small fits =
    let low : nat_le 48 (48 + d) ≡ true = grind (arith, nat_tests) in
    let high : nat_le (48 + d) 57 ≡ true = grind (arith, nat_tests) in
    let back : 48 + d - 48 ≡ d = omega arith in
    let below : nat_lt (10 * m + d) (2 ^ 64) ≡ true = grind (arith, nat_tests) in
    rw (low, high, back, below) refl

abbrev pub Read : ℕ → List ℕ → Type 0
Read n ds = n < 2 ^ 64 → digits_from 10 0 ds ≡ Some n

read_one : (n : ℕ) → n < 10 → Read n ((48 + n) ∷ [])
unfolding digits_from
read_one n small fits = let z : 10 * 0 + n ≡ n = omega arith in rw (next_ten 0 n small (omega arith), z) refl

read_more : (n : ℕ) (ds : List ℕ) → 10 ≤ n → Read (n / 10) ds → Read n (ds ++ ((48 + n % 10) ∷ []))
unfolding digits_from
read_more n ds big front fits =
    let before = front (omega arith) in
    let whole : 10 * (n / 10) + n % 10 ≡ n = omega arith in
    digits_append 10 0 ds ((48 + n % 10) ∷ []) ∙ rw (before, next_ten (n / 10) (n % 10) (omega arith) (omega arith), whole) refl

pub decimal_read : (n : ℕ) → n < 2 ^ 64 → digits_from 10 0 (decimal n) ≡ Some n
decimal_read n fits = decimal_by_steps Read read_one read_more n fits fits

-- what begins with a digit above 0 is read by its digits
plain_digits : (ds : List ℕ) → 48 < get_or ds 0 0 → (decimal_value ds ≡ digits_from 10 0 ds) × (plain_value ds ≡ digits_from 10 0 ds)
unfolding decimal_value plain_value
plain_digits [] above = absurd (omega arith)
plain_digits (b ∷ []) above = (refl, refl)
plain_digits (b ∷ c ∷ bs) above =
    let other : (b == 48) ≡ false = grind (arith, nat_tests) in
    (rw other refl, rw other refl)

pub decimal_again : (n : ℕ) → n < 2 ^ 64 → (decimal_value (decimal n) ≡ Some n) × (plain_value (decimal n) ≡ Some n)
unfolding decimal_value plain_value digits_from
decimal_again zero fits = rw (decimal_digit 0 (omega arith)) (refl, refl)
decimal_again (suc n) fits =
    let p = plain_digits (decimal (suc n)) (first_decimal (suc n) (omega arith) fits) in
    (p.0 ∙ decimal_read (suc n) fits, p.1 ∙ decimal_read (suc n) fits)

-- the first byte
pub digit_first : (n : ℕ) → n < 2 ^ 64 → 48 ≤ get_or (decimal n) 0 0
digit_first zero fits = rw (decimal_digit 0 (omega arith)) (omega arith)
digit_first (suc n) fits = let f = first_decimal (suc n) (omega arith) fits in omega arith

abbrev UpToNine : ℕ → List ℕ → Type 0
UpToNine n ds = (get_or ds 0 0 ≤ 57) × (0 < length ds)

nine_more : (n : ℕ) (ds : List ℕ) → 10 ≤ n → UpToNine (n / 10) ds → UpToNine n (ds ++ ((48 + n % 10) ∷ []))
nine_more n [] big front = absurd (omega (arith, front.1))
nine_more n (d ∷ ds) big front = (front.0, omega arith)

pub digit_top : (n : ℕ) → n < 2 ^ 64 → get_or (decimal n) 0 0 ≤ 57
digit_top n fits = let p = decimal_by_steps UpToNine (λ n small. (omega arith, omega arith)) nine_more n fits in p.0

pub no_sign : (bits : ℕ) (ds : List ℕ) → 48 ≤ get_or ds 0 0 → number_value bits ds ≡ option_and_then (λ n. fit bits false n)
    (plain_value ds)
unfolding number_value
no_sign bits [] above = absurd (omega arith)
no_sign bits (b ∷ bs) above =
    let other : (b == 45) ≡ false = grind (arith, nat_tests) in
    rw other refl

pub number_again : (bits : ℕ) (v : ℤ) → 0 < bits → FitsInt bits v → 2 ^ (bits - 1) < 2 ^ 64 → number bits (signed_decimal v) ≡ Ok v
unfolding number_value
number_again bits (pos n) some fits wide =
    let small : n < 2 ^ 64 = omega (arith, fits, wide) in
    let below : nat_lt n (2 ^ (bits - 1)) ≡ true = grind (arith, nat_tests) in
    rw (no_sign bits (decimal n) (digit_first n small), (decimal_again n small).1, below) refl
number_again bits (negsuc n) some fits wide =
    let small : suc n < 2 ^ 64 = omega (arith, fits, wide) in
    let below : nat_le (suc n) (2 ^ (bits - 1)) ≡ true = grind (arith, nat_tests) in
    rw ((decimal_again (suc n) small).0, below) refl

-- ---- hexadecimal digits

next_hex : (m d : ℕ) → d < 16 → 16 * m + d < 2 ^ 64 → with_digit 16 m (hex_glyph d) ≡ Some (16 * m + d)
next_hex m d small fits = elim (cases_lt d 10) [
  | inl low ↦
      let which : nat_lt d 10 ≡ true = grind (arith, nat_tests) in
      let a : nat_le 48 (48 + d) ≡ true = grind (arith, nat_tests) in
      let b : nat_le (48 + d) 57 ≡ true = grind (arith, nat_tests) in
      let back : 48 + d - 48 ≡ d = omega arith in
      let below : nat_lt (16 * m + d) (2 ^ 64) ≡ true = grind (arith, nat_tests) in
      rw (which, a, b, back, below) refl
  | inr high ↦
      let which : nat_lt d 10 ≡ false = grind (arith, nat_tests) in
      let a : nat_le (87 + d) 57 ≡ false = grind (arith, nat_tests) in
      let a2 : nat_le 48 (87 + d) ≡ true = grind (arith, nat_tests) in
      let b : nat_le 97 (87 + d) ≡ true = grind (arith, nat_tests) in
      let c : nat_le (87 + d) 102 ≡ true = grind (arith, nat_tests) in
      let back : 87 + d - 87 ≡ d = omega arith in
      let below : nat_lt (16 * m + d) (2 ^ 64) ≡ true = grind (arith, nat_tests) in
      rw (which, a2, a, b, c, back, below) refl
]

pub hex_read : (k n : ℕ) → n < 16 ^ k → n < 2 ^ 64 → digits_from 16 0 (hex_text k n) ≡ Some n
unfolding digits_from hex_text
hex_read zero n small fits = let z : n ≡ 0 = omega arith in rw z refl
hex_read (suc k) n small fits =
    let grown : 16 ^ suc k ≡ 16 ^ k * 16 = pow-suc 16 k in
    let front = hex_read k (n / 16) (omega (arith, grown)) (omega arith) in
    let whole : 16 * (n / 16) + n % 16 ≡ n = omega arith in
    digits_append 16 0 (hex_text k (n / 16)) (hex_glyph (n % 16) ∷ [])
    ∙ rw (front, next_hex (n / 16) (n % 16) (omega arith) (omega arith), whole) refl

-- ---- k digits are below 16 ^ k

hex_digit_below : (b d : ℕ) → digit_of 16 b ≡ Some d → d < 16
hex_digit_below b d h = grind (arith, nat_tests)

sum_below : (t : Bool) (n d m : ℕ) → d < 16 → cond t (Some (16 * n + d)) None ≡ Some m → m + 1 ≤ 16 * (n + 1)
sum_below true n d m small h = let e : 16 * n + d ≡ m = cc h in omega arith
sum_below false n d m small h = cc h

scaled : (p a b : ℕ) → a ≤ b → a * p ≤ b * p
scaled zero a b h = omega arith
scaled (suc p) a b h = let before = scaled p a b h in omega (arith, before)

grown : (p n k m q : ℕ) → q ≡ p * 16 → k + 1 ≤ 16 * (n + 1) → m + 1 ≤ (k + 1) * p → m + 1 ≤ (n + 1) * q
grown p n k m q e first rest =
    let more = scaled p (k + 1) (16 * (n + 1)) first in
    rw e (omega (arith, more, rest))

next_below : (n b m : ℕ) → with_digit 16 n b ≡ Some m → m + 1 ≤ 16 * (n + 1)
next_below n b m h = elim (digit_of 16 b) as (λ o. (o ≡ digit_of 16 b)
    → option_and_then (λ d. cond (nat_lt (16 * n + d) (2 ^ 64)) (Some (16 * n + d)) None) o ≡ Some m → m + 1 ≤ 16 * (n + 1)) [
      | None ↦ λ e g. cc g
      | Some d ↦ λ e g.
          let small = hex_digit_below b d (sym e) in
          sum_below (nat_lt (16 * n + d) (2 ^ 64)) n d m small g
    ] refl h

pub digits_below : (n : ℕ) (bs : List ℕ) (m : ℕ) → digits_from 16 n bs ≡ Some m → m + 1 ≤ (n + 1) * 16 ^ length bs
unfolding digits_from
digits_below n [] m h = let e : n ≡ m = cc h in omega arith
digits_below n (b ∷ bs) m h = elim (with_digit 16 n b) as (λ o. (o ≡ with_digit 16 n b)
    → option_and_then (λ k. digits_from 16 k bs) o ≡ Some m → m + 1 ≤ (n + 1) * 16 ^ length (b ∷ bs)) [
      | None ↦ λ e g. cc g
      | Some k ↦ λ e g.
          let first = next_below n b k (sym e) in
          let rest = digits_below k bs m g in
          grown (16 ^ length bs) n k m (16 ^ length (b ∷ bs)) (pow-suc 16 (length bs)) first rest
    ] refl h

pub raw_fits : (bits : ℕ) (bs : List ℕ) (m : ℕ) → (bits ≡ 16) ⊎ (bits ≡ 32) ⊎ (bits ≡ 64) → length bs ≡ bits / 4
    → digits_from 16 0 bs ≡ Some m → m < 2 ^ bits
raw_fits bits bs m (inl size) len h = let b = digits_below 0 bs m h in let e : 16 ^ length bs ≡ 2 ^ 16 = rw (len, size) refl in
    rw size (omega (arith, b, e))
raw_fits bits bs m (inr (inl size)) len h = let b = digits_below 0 bs m h in let e : 16 ^ length bs ≡ 2 ^ 32 = rw (len, size) refl in
    rw size (omega (arith, b, e))
raw_fits bits bs m (inr (inr size)) len h = let b = digits_below 0 bs m h in let e : 16 ^ length bs ≡ 2 ^ 64 = rw (len, size) refl in
    rw size (omega (arith, b, e))
