-- What is written of a number in hexadecimal digits.
use Rattle.std.proofs.Common.{◌≡◌, ℕ, ◌<◌, ◌≤◌, ◌^◌, ◌/◌, ◌%◌, ◌+◌, ◌-◌, ◌*◌, List, [], ◌∷◌, ◌++◌, zero, suc, length, length-append, cond}
use Rattle.std.proofs.Common.{true, false, refl, ap, sym, ◌∙◌, append_assoc, arith, replicate, nat_eq, pow-suc}
use Rattle.std.proofs.lemmas.Bool.Decides.{nat_tests}
use Rattle.std.proofs.lemmas.List.{append-nil, replicate_more}
use Rattle.std.specs.Fmt.{digits, digits_onto, digit_glyph, padded_integral, format_spec, char_count}
use Rattle.std.proofs.lemmas.Fmt.{decimal_digit}
use Rattle.std.specs.Fmt.{decimal}
use Rattle.ebc_insn.specs.declared.Operand.{Operand}
use Rattle.asm_text.specs.Numbers.{hex_text}
use Rattle.asm_text.specs.Operands.{operand_text}

-- either way the digits go before what stands there
either : (b : _) (x : ℕ) (acc more without : List ℕ) → more ≡ without ++ acc → cond b (x ∷ acc) more ≡ cond b (x ∷ []) without ++ acc
either true x acc more without same = refl
either false x acc more without same = same

onto : (k n : ℕ) (acc : List ℕ) → digits_onto k 16 false n acc ≡ digits_onto k 16 false n [] ++ acc
onto zero n acc = refl
onto (suc k) n acc =
    let d = digit_glyph false (n % 16) in
    let more = onto k (n / 16) (d ∷ acc) in
    let without = onto k (n / 16) (d ∷ []) in
    either (nat_eq (n / 16) 0) d acc _ _ (more ∙ sym (ap (λ t. t ++ acc) without
    ∙ append_assoc (digits_onto k 16 false (n / 16) []) (d ∷ []) acc))

zero_text : (j : ℕ) → hex_text j 0 ≡ replicate j 48
unfolding hex_text
zero_text zero = refl
zero_text (suc j) = rw (zero_text j) (replicate_more j 48 ∙ ap (λ k. replicate k 48) {x = j + 1} {y = suc j} (omega arith))

-- the last digit, and those before it, by whether there are any
step : (b : _) (j d : ℕ) (front before : List ℕ) → (b ≡ true → front ≡ replicate j 48)
    → (b ≡ false → replicate (j - length before) 48 ++ before ≡ front)
    → replicate (suc j - length (cond b (d ∷ []) (before ++ d ∷ []))) 48 ++ cond b (d ∷ []) (before ++ d ∷ []) ≡ front ++ d ∷ []
step true j d front before last more = rw (last refl) (ap (λ k. replicate k 48 ++ d ∷ []) {x = suc j - 1} {y = j} (omega arith) ∙ refl)
step false j d front before last more =
    let len : suc j - length (before ++ d ∷ []) ≡ j - length before = omega (arith, length-append before (d ∷ [])) in
    rw (len, ← append_assoc, more refl)

-- a number that is not 0 has a digit
some_left : (j m : ℕ) → 0 < m → m < 16 ^ j → 0 < j
some_left zero m some small = absurd (omega arith)
some_left (suc j) m some small = omega arith

-- zeros fill the digits up to j
filled : (j k n : ℕ) → j ≤ k → n < 16 ^ j → 0 < j → replicate (j - length (digits_onto k 16 false n [])) 48
    ++ digits_onto k 16 false n [] ≡ hex_text j n
unfolding hex_text
filled zero k n fits small some = absurd (omega arith)
filled (suc j) zero n fits small some = absurd (omega arith)
filled (suc j) (suc k) n fits small some =
    let d = digit_glyph false (n % 16) in
    let grown : 16 ^ suc j ≡ 16 ^ j * 16 = pow-suc 16 j in
    let below : n / 16 < 16 ^ j = omega (arith, grown) in
    rw (onto k (n / 16) (d ∷ [])) (step (nat_eq (n / 16) 0) j d (hex_text j (n / 16)) (digits_onto k 16 false (n / 16) [])
    (λ none. let z : n / 16 ≡ 0 = grind (arith, nat_tests) in rw z (zero_text j))
    (λ more. let z : 0 < n / 16 = grind (arith, nat_tests) in filled j k (n / 16) (omega arith) below (some_left j (n / 16) z below)))

padded_to : (w : ℕ) (ds : List ℕ) → padded_integral (format_spec 32 0 4 w (2 ^ 64 - 1)) false [] ds ≡ replicate (w - length ds) 48 ++ ds
unfolding padded_integral char_count
padded_to w ds = simp append-nil (ap (λ k. replicate k 48 ++ ds) {x = w - length ds - 0 - 0} {y = w - length ds} (omega arith))

as_digits : (w n : ℕ) → 0 < w → w ≤ 64 → n < 16 ^ w → replicate (w - length (digits 16 false n)) 48 ++ digits 16 false n ≡ hex_text w n
unfolding digits
as_digits w n some fits small = filled w 64 n fits small some

-- what `{:0w x}` writes of a number with at most w digits
pub hex_padded : (w n : ℕ) → 0 < w → w ≤ 64 → n < 16 ^ w → padded_integral (format_spec 32 0 4 w (2 ^ 64 - 1)) false []
    (digits 16 false n) ≡ hex_text w n
hex_padded w n some fits small = padded_to w (digits 16 false n) ∙ as_digits w n some fits small

pub raw8 : (n : ℕ) → n < 2 ^ 8 → padded_integral (format_spec 32 0 4 2 (2 ^ 64 - 1)) false [] (digits 16 false n) ≡ hex_text 2 n
raw8 n small = hex_padded 2 n (omega arith) (omega arith) (omega arith)

pub raw16 : (n : ℕ) → n < 2 ^ 16 → padded_integral (format_spec 32 0 4 4 (2 ^ 64 - 1)) false [] (digits 16 false n) ≡ hex_text 4 n
raw16 n small = hex_padded 4 n (omega arith) (omega arith) (omega arith)

pub raw32 : (n : ℕ) → n < 2 ^ 32 → padded_integral (format_spec 32 0 4 8 (2 ^ 64 - 1)) false [] (digits 16 false n) ≡ hex_text 8 n
raw32 n small = hex_padded 8 n (omega arith) (omega arith) (omega arith)

pub raw64 : (n : ℕ) → n < 2 ^ 64 → padded_integral (format_spec 32 0 4 16 (2 ^ 64 - 1)) false [] (digits 16 false n) ≡ hex_text 16 n
raw64 n small = hex_padded 16 n (omega arith) (omega arith) (omega arith)

pub operand_is : (o : Operand) (rest : List ℕ) → o.reg < 8 → cond o.indirect (64 ∷ 82 ∷ (decimal o.reg ++ rest))
    (82 ∷ (decimal o.reg ++ rest)) ≡ operand_text o rest
unfolding operand_text
operand_is o rest small = rw (decimal_digit o.reg (omega (arith, small))) refl
