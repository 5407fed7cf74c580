-- A text is read as a number just where it is what is written of that number.
use Rattle.std.proofs.Common.{◌≡◌, ◌↔◌, ℕ, ◌+◌, ◌-◌, ◌*◌, ◌/◌, ◌%◌, ◌^◌, ◌<◌, ◌≤◌, List, [], ◌∷◌, ◌++◌, zero, suc, length, get_or, Some}
use Rattle.std.proofs.Common.{None, true, false, refl, sym, ap, ◌∙◌, arith, rules, inl, inr}
use Rattle.std.proofs.lemmas.Bool.Decides.{nat_tests}
use Rattle.std.proofs.lemmas.Bool.{cases_Bool}
use Rattle.std.proofs.lemmas.Fmt.{decimal_by_steps, decimal_digit, first_decimal, decimal-digits_value}
use Rattle.std.proofs.lemmas.Str.Parse.{IsNumeralModel, numerals_by_fold}
use Rattle.std.specs.Prelude.{option_and_then, nat_lt, nat_le, ◌==◌}
use Rattle.std.specs.Str.{all_ascii_digits}
use Rattle.std.specs.Fmt.{decimal}
use Rattle.note_texts.specs.Numbers.{with_digit, number_from, number_of}

-- ---- what is written is read

number_append : (n : ℕ) (xs ys : List ℕ) → number_from n (xs ++ ys) ≡ option_and_then (λ m. number_from m ys) (number_from n xs)
unfolding number_from
number_append n [] ys = refl
number_append n (x ∷ xs) ys = elim (with_digit n x) as (λ o. option_and_then (λ m. number_from m (xs ++ ys)) o ≡ option_and_then
    (λ m. number_from m ys) (option_and_then (λ m. number_from m xs) o)) [
      | None ↦ refl
      | Some m ↦ number_append m xs ys
    ]

next_digit : (m d : ℕ) → d < 10 → 10 * m + d < 2 ^ 64 → with_digit m (48 + d) ≡ Some (10 * m + d)
next_digit m d small fits =
    let low : nat_le 48 (48 + d) ≡ true = grind (arith, nat_tests) in
    let high : nat_le (48 + d) 57 ≡ true = grind (arith, nat_tests) in
    let back : 48 + d - 48 ≡ d = omega arith in
    let below : nat_lt (10 * m + d) (2 ^ 64) ≡ true = grind (arith, nat_tests) in
    rw (low, high, back, below) refl

abbrev Read : ℕ → List ℕ → Type 0
Read n ds = n < 2 ^ 64 → number_from 0 ds ≡ Some n

read_one : (n : ℕ) → n < 10 → Read n ((48 + n) ∷ [])
unfolding number_from
read_one n small fits = let z : 10 * 0 + n ≡ n = omega arith in rw (next_digit 0 n small (omega arith), z) refl

read_more : (n : ℕ) (ds : List ℕ) → 10 ≤ n → Read (n / 10) ds → Read n (ds ++ ((48 + n % 10) ∷ []))
unfolding number_from
read_more n ds big front fits =
    let before = front (omega arith) in
    let whole : 10 * (n / 10) + n % 10 ≡ n = omega arith in
    number_append 0 ds ((48 + n % 10) ∷ []) ∙ rw (before, next_digit (n / 10) (n % 10) (omega arith) (omega arith), whole) refl

decimal_read : (n : ℕ) → n < 2 ^ 64 → number_from 0 (decimal n) ≡ Some n
decimal_read n fits = decimal_by_steps Read read_one read_more n fits fits

plain_digits : (ds : List ℕ) → 48 < get_or ds 0 0 → number_of ds ≡ number_from 0 ds
unfolding number_of
plain_digits [] above = absurd (omega arith)
plain_digits (b ∷ []) above = refl
plain_digits (b ∷ c ∷ bs) above =
    let other : (b == 48) ≡ false = grind (arith, nat_tests) in
    rw other refl

pub number_of-decimal : (n : ℕ) → n < 2 ^ 64 → number_of (decimal n) ≡ Some n
unfolding number_of number_from
number_of-decimal zero fits = rw (decimal_digit 0 (omega arith)) refl
number_of-decimal (suc n) fits = plain_digits (decimal (suc n)) (first_decimal (suc n) (omega arith) fits) ∙ decimal_read (suc n) fits

-- ---- what is read was written so

abbrev value_after : ℕ → List ℕ → ℕ
value_after n [] = n
value_after n (c ∷ cs) = value_after (10 * n + (c - 48)) cs

own : IsNumeralModel (λ ds. all_ascii_digits ds ≡ true) (value_after 0)
own = numerals_by_fold _ (search rules) value_after (search rules)

digit_is : (n b k : ℕ) → with_digit n b ≡ Some k → (48 ≤ b) × (b ≤ 57) × (10 * n + (b - 48) ≡ k) × (k < 2 ^ 64)
digit_is n b k h = grind (arith, nat_tests)

digits_are : (n : ℕ) (bs : List ℕ) (m : ℕ) → n < 2 ^ 64 → number_from n bs ≡ Some m → (all_ascii_digits bs ≡ true) × (value_after n bs ≡ m)
    × (m < 2 ^ 64)
unfolding number_from
digits_are n [] m fits h = let e : n ≡ m = cc h in (refl, e, omega arith)
digits_are n (b ∷ bs) m fits h = elim (with_digit n b) as (λ o. with_digit n b ≡ o → option_and_then (λ k. number_from k bs) o ≡ Some m
    → (all_ascii_digits (b ∷ bs) ≡ true) × (value_after n (b ∷ bs) ≡ m) × (m < 2 ^ 64)) [
      | None ↦ λ e g. cc g
      | Some k ↦ λ e g.
          let d = digit_is n b k e in
          let rest = digits_are k bs m d.3 g in
          let low : nat_le 48 b ≡ true = let l = d.0 in grind (arith, nat_tests) in
          let high : nat_le b 57 ≡ true = let l = d.1 in grind (arith, nat_tests) in
          (rw (low, high, rest.0) refl, rw d.2 rest.1, rest.2)
    ] refl h

pub decimal-number_of : (text : List ℕ) (n : ℕ) → number_of text ≡ Some n → (text ≡ decimal n) × (n < 2 ^ 64)
unfolding number_of
decimal-number_of [] n h = cc h
decimal-number_of (b ∷ []) n h =
    let d = digits_are 0 (b ∷ []) n (omega arith) h in
    let e = decimal-digits_value own (b ∷ []) d.0 (omega arith) (λ z. refl) (rw d.1 d.2) in
    (sym e ∙ ap decimal d.1, d.2)
decimal-number_of (b ∷ c ∷ bs) n h = elim (cases_Bool (b == 48)) [
  | inl zero_first ↦ let g : None ≡ Some n = (rw zero_first at h) in cc g
  | inr other ↦
      let g : number_from 0 (b ∷ c ∷ bs) ≡ Some n = (rw other at h) in
      let d = digits_are 0 (b ∷ c ∷ bs) n (omega arith) g in
      let first : b ≡ 48 → length (b ∷ c ∷ bs) ≡ 1 = λ z. absurd (grind (arith, nat_tests)) in
      let e = decimal-digits_value own (b ∷ c ∷ bs) d.0 (omega arith) first (rw d.1 d.2) in
      (sym e ∙ ap decimal d.1, d.2)
]

pub number_exact : (text : List ℕ) (n : ℕ) → (number_of text ≡ Some n) ↔ ((text ≡ decimal n) × (n < 2 ^ 64))
number_exact text n = (decimal-number_of text n, λ h. rw h.0 (number_of-decimal n h.1))
