-- A name is no number, and is one operand.
use Rattle.std.proofs.Common.{◌≡◌, ℕ, ◌<◌, ◌≤◌, List, [], ◌∷◌, length, get_or, true, false, ◌&&◌, ◌==◌, arith, refl, is_some, inl, inr}
use Rattle.std.proofs.lemmas.Bool.Decides.{nat_tests}
use Rattle.std.proofs.lemmas.Bool.{cases_lt, and_parts}
use Rattle.std.specs.Prelude.{nat_le}
use Rattle.std.specs.List.{list_all}
use Rattle.asm_text.specs.Numbers.{digit_of, is_numeral}
use Rattle.asm_text.specs.Splits.{is_empty}
use Rattle.ebc_base.specs.Names.{begins_name, continues_name, is_name}
use Rattle.asm_text.proofs.Pieces.{tidy}

pub name_some : (text : List ℕ) → is_name text ≡ true → is_empty text ≡ false
unfolding is_name
name_some [] h = cc h
name_some (b ∷ bs) h = refl

high_no_digit : (b : ℕ) → 58 ≤ b → is_some (digit_of 10 b) ≡ false
high_no_digit b h =
    let high : nat_le b 57 ≡ false = grind (arith, nat_tests) in
    let low : nat_le 48 b ≡ true = grind (arith, nat_tests) in
    rw (low, high) refl

low_no_digit : (b : ℕ) → b < 48 → is_some (digit_of 10 b) ≡ false
low_no_digit b h =
    let low : nat_le 48 b ≡ false = grind (arith, nat_tests) in
    rw low refl

letter_no_digit : (b : ℕ) → begins_name b ≡ true → is_some (digit_of 10 b) ≡ false
letter_no_digit b h = elim (cases_lt b 48) [
  | inl low ↦ low_no_digit b low
  | inr high ↦
      let more : 58 ≤ b = grind (arith, nat_tests) in
      high_no_digit b more
]

no_letter : (b : ℕ) → b ≤ 57 → (b ≡ 46 → ⊥) → begins_name b ≡ false
no_letter b low other = grind (arith, nat_tests)

letter_other : (b : ℕ) → begins_name b ≡ true → ((b == 45) ≡ false) × ((b == 48) ≡ false) × (is_some (digit_of 10 b) ≡ false)
letter_other b h =
    let minus : (b == 45) ≡ false = grind (arith, nat_tests) in
    let zero_ : (b == 48) ≡ false = grind (arith, nat_tests) in
    (minus, zero_, letter_no_digit b h)

-- A name hasn't the form of a number.
pub name_no_numeral : (text : List ℕ) → is_name text ≡ true → is_numeral text ≡ false
unfolding is_name is_numeral
name_no_numeral [] h = refl
name_no_numeral (b ∷ []) h =
    let p = and_parts (begins_name b) (nat_le (length {A = ℕ} []) 62 && list_all continues_name []) h in
    let o = letter_other b p.0 in
    rw (o.0, o.2) refl
name_no_numeral (b ∷ c ∷ bs) h =
    let p = and_parts (begins_name b) (nat_le (length (c ∷ bs)) 62 && list_all continues_name (c ∷ bs)) h in
    let o = letter_other b p.0 in
    rw (o.0, o.1, o.2) refl

tidy_letters : (bs : List ℕ) → list_all continues_name bs ≡ true → tidy bs ≡ true
unfolding tidy
tidy_letters [] h = refl
tidy_letters (b ∷ bs) h =
    let p = and_parts (continues_name b) (list_all continues_name bs) h in
    let p0 : continues_name b ≡ true = p.0 in
    let other : (b == 44) ≡ false = grind (arith, nat_tests) in
    rw (other, tidy_letters bs p.1) refl

letter_is : (b : ℕ) → begins_name b ≡ true → continues_name b ≡ true
letter_is b h = rw h refl

pub letters_of : (text : List ℕ) → is_name text ≡ true → list_all continues_name text ≡ true
unfolding is_name
letters_of [] h = cc h
letters_of (b ∷ bs) h =
    let p = and_parts (begins_name b) (nat_le (length bs) 62 && list_all continues_name bs) h in
    let q = and_parts (nat_le (length bs) 62) (list_all continues_name bs) p.1 in
    rw (letter_is b p.0, q.1) refl

pub name_tidy : (text : List ℕ) → is_name text ≡ true → tidy text ≡ true
name_tidy text h = tidy_letters text (letters_of text h)

-- A number is no name.
pub number_no_name : (text : List ℕ) → get_or text 0 0 ≤ 57 → (get_or text 0 0 ≡ 46 → ⊥) → is_name text ≡ false
unfolding is_name
number_no_name [] low other = refl
number_no_name (b ∷ bs) low other =
    let none : begins_name b ≡ false = no_letter b low other in
    rw none refl
