-- What is written has no comment, no label and no blank at its ends.
use Rattle.std.proofs.Common.{◌≡◌, ℕ, ◌+◌, ◌-◌, ◌/◌, ◌%◌, ◌^◌, ◌<◌, ◌≤◌, List, [], ◌∷◌, ◌++◌, zero, suc, get_or, Option, Some, None, Bool}
use Rattle.std.proofs.Common.{true, false, not, ◌&&◌, ◌||◌, ◌==◌, cond, refl, subst, arith, nat_lt, nat_le, inl, inr, ℤ, pos, negsuc, ◌≢◌}
use Rattle.std.proofs.lemmas.Bool.Decides.{nat_tests}
use Rattle.std.proofs.lemmas.Bool.{cases_Bool, cases_lt, and_parts}
use Rattle.std.proofs.lemmas.Fmt.{decimal_by_steps}
use Rattle.std.specs.Fmt.{decimal, signed_decimal}
use Rattle.natural_index.specs.declared.Index.{Index}
use Rattle.natural_index.specs.Index.{IsIndexSize, IsIndex, raw_of}
use Rattle.ebc_insn.specs.declared.Operand.{Operand}
use Rattle.ebc_insn.specs.declared.Extra.{Extra}
use Rattle.ebc_insn.specs.declared.Extra.TheVariants.{Nothing, Imm, Idx}
use Rattle.ebc_insn.specs.Spelling.{IsOperand, ExtraFits, RightFits, FitsInt}
use Rattle.asm_text.specs.Numbers.{hex_glyph, hex_text}
use Rattle.asm_text.specs.Splits.{lacks, is_empty}
use Rattle.asm_text.specs.Indexes.{index_text, pair_text, raw_text, by_numbers}
use Rattle.asm_text.specs.Operands.{operand_text, extra_text, indexed_text}
use Rattle.asm_text.specs.Splits.{starts_blank}
use Rattle.asm_text.proofs.Digits.{digit_first}
use Rattle.asm_text.proofs.Again.{numbers_small}
use Rattle.asm_text.proofs.Slots.{half_small}
use Rattle.ebc_base.proofs.Truth.{three_true}

abbrev pub ok : ℕ → Bool
ok b = nat_le 32 b && nat_lt b 128 && not (b == 58) && not (b == 59)

abbrev pub ends : ℕ → List ℕ → Bool
ends b bs = b == 32 && (is_empty bs || starts_blank bs)

-- A blank stands alone, and before something.
unfoldable pub clean : List ℕ → Bool
clean [] = true
clean (b ∷ bs) = ok b && not (ends b bs) && clean bs

abbrev pub begins : List ℕ → Bool
begins t = not (is_empty t || starts_blank t)

without : (t e : Bool) → not (t && true) ≡ true → not (t && e) ≡ true
without true e h = cc h
without false e h = refl

ends_append : (b : ℕ) (bs ys : List ℕ) → not (ends b bs) ≡ true → not (ends b (bs ++ ys)) ≡ true
ends_append b [] ys h = without (b == 32) (is_empty ys || starts_blank ys) h
ends_append b (c ∷ cs) ys h = h

pub clean_append : (xs ys : List ℕ) → clean xs ≡ true → clean ys ≡ true → clean (xs ++ ys) ≡ true
unfolding clean
clean_append [] ys a b = b
clean_append (x ∷ xs) ys a b =
    let p = three_true (ok x) (not (ends x xs)) (clean xs) a in
    rw (p.0, ends_append x xs ys p.1, clean_append xs ys p.2 b) refl

other : (x b : ℕ) → ok x ≡ true → ok b ≡ false → (x == b) ≡ false
other x b good bad = elim (cases_Bool (x == b)) [
  | inl same ↦ let e : x ≡ b = grind (arith, nat_tests) in cc (subst (λ y. ok y ≡ true) e good, bad)
  | inr not_same ↦ not_same
]

pub clean_lacks : (b : ℕ) (xs : List ℕ) → ok b ≡ false → clean xs ≡ true → lacks b xs ≡ true
unfolding clean lacks
clean_lacks b [] bad h = refl
clean_lacks b (x ∷ xs) bad h =
    let p = three_true (ok x) (not (ends x xs)) (clean xs) h in
    rw (other x b p.0 bad, clean_lacks b xs bad p.2) refl

-- ---- glyphs of numbers

abbrev pub glyph : ℕ → Bool
glyph b = (nat_le 48 b && nat_le b 57) || (nat_le 97 b && nat_le b 102)

unfoldable pub glyphs : List ℕ → Bool
glyphs [] = true
glyphs (b ∷ bs) = glyph b && glyphs bs

glyphs_append : (xs ys : List ℕ) → glyphs xs ≡ true → glyphs ys ≡ true → glyphs (xs ++ ys) ≡ true
unfolding glyphs
glyphs_append [] ys a b = b
glyphs_append (x ∷ xs) ys a b =
    let p = and_parts (glyph x) (glyphs xs) a in
    rw (p.0, glyphs_append xs ys p.1 b) refl

glyphs_digit : (d : ℕ) → d < 10 → glyphs ((48 + d) ∷ []) ≡ true
unfolding glyphs
glyphs_digit d small =
    let a : nat_le 48 (48 + d) ≡ true = grind (arith, nat_tests) in
    let b : nat_le (48 + d) 57 ≡ true = grind (arith, nat_tests) in
    rw (a, b) refl

glyphs_hex : (d : ℕ) → d < 16 → glyphs (hex_glyph d ∷ []) ≡ true
unfolding glyphs
glyphs_hex d small = elim (cases_lt d 10) [
  | inl low ↦ let which : nat_lt d 10 ≡ true = grind (arith, nat_tests) in rw which (glyphs_digit d low)
  | inr high ↦
      let which : nat_lt d 10 ≡ false = grind (arith, nat_tests) in
      let a : nat_le (87 + d) 57 ≡ false = grind (arith, nat_tests) in
      let a2 : nat_le 48 (87 + d) ≡ true = grind (arith, nat_tests) in
      let b : nat_le 97 (87 + d) ≡ true = grind (arith, nat_tests) in
      let c : nat_le (87 + d) 102 ≡ true = grind (arith, nat_tests) in
      rw (which, a2, a, b, c) refl
]

glyphs_decimal : (n : ℕ) → n < 2 ^ 64 → glyphs (decimal n) ≡ true
glyphs_decimal n fits = decimal_by_steps (λ n ds. glyphs ds ≡ true) (λ n small. glyphs_digit n small)
    (λ n ds big front. glyphs_append ds ((48 + n % 10) ∷ []) front (glyphs_digit (n % 10) (omega arith))) n fits

pub glyphs_text : (k n : ℕ) → glyphs (hex_text k n) ≡ true
unfolding hex_text glyphs
glyphs_text zero n = refl
glyphs_text (suc k) n = glyphs_append (hex_text k (n / 16)) (hex_glyph (n % 16) ∷ []) (glyphs_text k (n / 16))
    (glyphs_hex (n % 16) (omega arith))

ok_between : (b : ℕ) → 48 ≤ b → b < 128 → b ≢ 58 → b ≢ 59 → (ok b ≡ true) × ((b == 32) ≡ false)
ok_between b low high one two =
    let a : nat_le 32 b ≡ true = grind (arith, nat_tests) in
    let c : nat_lt b 128 ≡ true = grind (arith, nat_tests) in
    let d : (b == 58) ≡ false = grind (arith, nat_tests) in
    let e : (b == 59) ≡ false = grind (arith, nat_tests) in
    let f : (b == 32) ≡ false = grind (arith, nat_tests) in
    (rw (a, c, d, e) refl, f)

ok_glyph : (b : ℕ) → glyph b ≡ true → (ok b ≡ true) × ((b == 32) ≡ false)
ok_glyph b h = elim (cases_lt b 97) [
  | inl low ↦
      let range : (48 ≤ b) × (b ≤ 57) = grind (arith, nat_tests) in
      ok_between b range.0 (omega (arith, range)) (λ e. absurd (omega (arith, range, e))) (λ e. absurd (omega (arith, range, e)))
  | inr high ↦
      let range : b ≤ 102 = grind (arith, nat_tests) in
      ok_between b (omega arith) (omega (arith, range)) (λ e. absurd (omega (arith, high, e))) (λ e. absurd (omega (arith, high, e)))
]

pub glyphs_clean : (xs : List ℕ) → glyphs xs ≡ true → clean xs ≡ true
unfolding glyphs clean
glyphs_clean [] h = refl
glyphs_clean (x ∷ xs) h =
    let p = and_parts (glyph x) (glyphs xs) h in
    let k = ok_glyph x p.0 in
    rw (k.0, k.1, glyphs_clean xs p.1) refl

pub clean_decimal : (n : ℕ) → n < 2 ^ 64 → clean (decimal n) ≡ true
clean_decimal n fits = glyphs_clean (decimal n) (glyphs_decimal n fits)

pub clean_hex : (k n : ℕ) → clean (hex_text k n) ≡ true
clean_hex k n = glyphs_clean (hex_text k n) (glyphs_text k n)

-- ---- operands

pub clean_number : (v : ℤ) (bits : ℕ) → FitsInt bits v → 2 ^ (bits - 1) < 2 ^ 64 → clean (signed_decimal v) ≡ true
unfolding clean
clean_number (pos n) bits fits wide = clean_decimal n (omega (arith, fits, wide))
clean_number (negsuc n) bits fits wide = clean_decimal (suc n) (omega (arith, fits, wide))

clean_end : (ds : List ℕ) → clean ds ≡ true → clean (ds ++ 41 ∷ []) ≡ true
unfolding clean
clean_end ds h = clean_append ds (41 ∷ []) h refl

clean_pair : (neg : Bool) (n c : ℕ) → n < 2 ^ 64 → c < 2 ^ 64 → clean (pair_text neg n c) ≡ true
unfolding clean
clean_pair true n c fn fc = clean_append (decimal n) (44 ∷ 45 ∷ (decimal c ++ 41 ∷ [])) (clean_decimal n fn)
    (clean_end (decimal c) (clean_decimal c fc))
clean_pair false n c fn fc = clean_append (decimal n) (44 ∷ 43 ∷ (decimal c ++ 41 ∷ [])) (clean_decimal n fn)
    (clean_end (decimal c) (clean_decimal c fc))

clean_raw : (bits n : ℕ) → clean (raw_text bits n) ≡ true
unfolding clean
clean_raw bits n = clean_hex (bits / 4) n

pub clean_index : (bits : ℕ) (i : Index) → IsIndexSize bits → IsIndex bits i → clean (index_text bits i) ≡ true
unfolding index_text
clean_index bits i size a = elim (cases_Bool (by_numbers bits i)) [
  | inl yes_ ↦ let small = numbers_small bits i size a in rw yes_ (clean_pair i.neg i.units i.bytes small.0 small.1)
  | inr raw ↦ rw raw (clean_raw bits (raw_of bits i))
]

pub clean_register : (reg : ℕ) (indirect : Bool) (rest : List ℕ) → reg < 8 → clean rest ≡ true
    → clean (operand_text (record { reg = reg; indirect = indirect }) rest) ≡ true
unfolding clean operand_text
clean_register reg true rest small h = let k = ok_between (48 + reg) (omega arith) (omega arith) (λ e. absurd (omega (arith, small, e)))
    (λ e. absurd (omega (arith, small, e))) in rw (k.0, k.1, h) refl
clean_register reg false rest small h = let k = ok_between (48 + reg) (omega arith) (omega arith) (λ e. absurd (omega (arith, small, e)))
    (λ e. absurd (omega (arith, small, e))) in rw (k.0, k.1, h) refl

pub clean_operand : (o : Operand) (rest : List ℕ) → IsOperand o → clean rest ≡ true → clean (operand_text o rest) ≡ true
clean_operand o rest small h = clean_register o.reg o.indirect rest small h

pub clean_blank : (t : List ℕ) → begins t ≡ true → clean t ≡ true → clean (32 ∷ t) ≡ true
unfolding clean
clean_blank [] b h = cc b
clean_blank (c ∷ cs) b h = rw (b, h) refl

pub first_glyph : (t : List ℕ) → 48 ≤ get_or t 0 0 → begins t ≡ true
first_glyph [] h = absurd (omega arith)
first_glyph (b ∷ bs) h = let e : (b == 32) ≡ false = grind (arith, nat_tests) in rw e refl

pub begins_number : (v : ℤ) (bits : ℕ) → FitsInt bits v → 2 ^ (bits - 1) < 2 ^ 64 → begins (signed_decimal v) ≡ true
begins_number (pos n) bits fits wide = first_glyph (decimal n) (digit_first n (omega (arith, fits, wide)))
begins_number (negsuc n) bits fits wide = refl

pub begins_operand : (o : Operand) (rest : List ℕ) → begins (operand_text o rest) ≡ true
unfolding operand_text
begins_operand o rest = elim o.indirect as (λ b. begins (cond b (64 ∷ 82 ∷ (48 + o.reg) ∷ rest) (82 ∷ (48 + o.reg) ∷ rest)) ≡ true) [
  | true ↦ refl
  | false ↦ refl
]

pub clean_extra : (bits : ℕ) (o : Operand) (e : Extra) → IsIndexSize bits → IsOperand o → ExtraFits bits o e
    → clean (extra_text bits o e) ≡ true
unfolding clean
clean_extra bits o Nothing size small fits = clean_operand o [] small refl
clean_extra bits o (Imm v) size small fits =
    let half = half_small bits size in
    clean_operand o (32 ∷ signed_decimal v) small (clean_blank (signed_decimal v) (begins_number v bits fits.1 half.1)
    (clean_number v bits fits.1 half.1))
clean_extra bits o (Idx i) size small fits = clean_operand o (index_text bits i) small (clean_index bits i size fits.1)

pub clean_indexed : (bits : ℕ) (o : Operand) (idx : Option Index) → IsIndexSize bits → IsOperand o → RightFits bits idx
    → clean (indexed_text bits o idx) ≡ true
unfolding clean
clean_indexed bits o None size small fits = clean_operand o [] small refl
clean_indexed bits o (Some i) size small fits = clean_operand o (index_text bits i) small (clean_index bits i size fits)

-- two operands
pub clean_two : (x y : List ℕ) → clean x ≡ true → clean y ≡ true → begins y ≡ true → clean (x ++ 44 ∷ 32 ∷ y) ≡ true
unfolding clean
clean_two x y a b some = clean_append x (44 ∷ 32 ∷ y) a (clean_blank y some b)
