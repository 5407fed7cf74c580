-- Operands that are written are read again.
use Rattle.std.proofs.Common.{◌≡◌, ℕ, ◌+◌, ◌-◌, ◌/◌, ◌^◌, ◌<◌, List, [], ◌∷◌, ◌++◌, suc, Option, Some, None, Bool, true, false, ◌==◌, refl}
use Rattle.std.proofs.Common.{arith, nat_le, inl, inr, Ok, ℤ, pos, negsuc}
use Rattle.std.proofs.lemmas.Bool.Decides.{nat_tests}
use Rattle.std.specs.Fmt.{decimal, signed_decimal}
use Rattle.natural_index.specs.declared.Index.{Index}
use Rattle.natural_index.specs.Index.{IsIndexSize, IsIndex, raw_of}
use Rattle.ebc_insn.specs.declared.Operand.{Operand}
use Rattle.ebc_insn.specs.declared.Extra.{Extra}
use Rattle.ebc_insn.specs.declared.Extra.TheVariants.{Nothing, Imm, Idx}
use Rattle.ebc_insn.specs.Spelling.{IsOperand, ExtraFits, LeftFits, RightFits, FitsInt}
use Rattle.asm_text.specs.Numbers.{hex_text}
use Rattle.asm_text.specs.Indexes.{index, index_text, pair_text, raw_text, by_numbers}
use Rattle.asm_text.specs.Operands.{operand_text, operand_of, extra_text, indexed_text, bare, left, right, extra, left_after, right_after}
use Rattle.asm_text.specs.Operands.{extra_after}
use Rattle.asm_text.proofs.Digits.{number_again}
use Rattle.asm_text.proofs.Again.{index_read, numbers_small}
use Rattle.asm_text.proofs.Pieces.{tidy, tidy_append, above_tidy, decimal_above, hex_above}
use Rattle.std.proofs.lemmas.Bool.{cases_Bool}

pub register_again : (reg : ℕ) (indirect : Bool) (rest : List ℕ) → reg < 8
    → operand_of (operand_text (record { reg = reg; indirect = indirect }) rest) ≡ Some (record { reg = reg; indirect = indirect }, rest)
unfolding operand_text operand_of
register_again reg true rest small =
    let low : nat_le 48 (48 + reg) ≡ true = grind (arith, nat_tests) in
    let high : nat_le (48 + reg) 55 ≡ true = grind (arith, nat_tests) in
    let back : 48 + reg - 48 ≡ reg = omega arith in
    rw (low, high, back) refl
register_again reg false rest small =
    let low : nat_le 48 (48 + reg) ≡ true = grind (arith, nat_tests) in
    let high : nat_le (48 + reg) 55 ≡ true = grind (arith, nat_tests) in
    let back : 48 + reg - 48 ≡ reg = omega arith in
    rw (low, high, back) refl

pub operand_again : (o : Operand) (rest : List ℕ) → IsOperand o → operand_of (operand_text o rest) ≡ Some (o, rest)
operand_again o rest small = register_again o.reg o.indirect rest small

-- what stands behind the register
extra_idx : (bits : ℕ) (o : Operand) (i : Index) (t : List ℕ) → o.indirect ≡ true → index bits t ≡ Ok i
    → extra_after bits (o, t) ≡ Ok (o, Idx i)
unfolding index
extra_idx bits o i [] ind h = cc h
extra_idx bits o i (b ∷ bs) ind h = rw (ind, h) refl

left_idx : (bits : ℕ) (o : Operand) (i : Index) (t : List ℕ) → o.indirect ≡ true → index bits t ≡ Ok i
    → left_after bits (o, t) ≡ Ok (o, Some i)
unfolding index
left_idx bits o i [] ind h = cc h
left_idx bits o i (b ∷ bs) ind h = rw (ind, h) refl

right_idx : (bits : ℕ) (o : Operand) (i : Index) (t : List ℕ) → index bits t ≡ Ok i → right_after bits (o, t) ≡ Ok (o, Some i)
unfolding index
right_idx bits o i [] h = cc h
right_idx bits o i (b ∷ bs) h = rw h refl

pub half_small : (bits : ℕ) → IsIndexSize bits → (0 < bits) × (2 ^ (bits - 1) < 2 ^ 64)
half_small bits (inl h) = rw h (omega arith, omega arith)
half_small bits (inr (inl h)) = rw h (omega arith, omega arith)
half_small bits (inr (inr h)) = rw h (omega arith, omega arith)

pub bare_again : (o : Operand) → IsOperand o → bare (operand_text o []) ≡ Ok o
unfolding bare
bare_again o small = rw (operand_again o [] small) refl

pub extra_again : (bits : ℕ) (o : Operand) (e : Extra) → IsIndexSize bits → IsOperand o → ExtraFits bits o e
    → extra bits (extra_text bits o e) ≡ Ok (o, e)
unfolding extra
extra_again bits o Nothing size small fits = rw (operand_again o [] small) refl
extra_again bits o (Imm v) size small fits =
    let half = half_small bits size in
    rw (operand_again o (32 ∷ signed_decimal v) small, fits.0, number_again bits v half.0 fits.1 half.1) refl
extra_again bits o (Idx i) size small fits =
    rw (operand_again o (index_text bits i) small) (extra_idx bits o i (index_text bits i) fits.0 (index_read bits i size fits.1))

pub left_again : (bits : ℕ) (o : Operand) (idx : Option Index) → IsIndexSize bits → IsOperand o → LeftFits bits o idx
    → left bits (indexed_text bits o idx) ≡ Ok (o, idx)
unfolding left
left_again bits o None size small fits = rw (operand_again o [] small) refl
left_again bits o (Some i) size small fits =
    rw (operand_again o (index_text bits i) small) (left_idx bits o i (index_text bits i) fits.0 (index_read bits i size fits.1))

pub right_again : (bits : ℕ) (o : Operand) (idx : Option Index) → IsIndexSize bits → IsOperand o → RightFits bits idx
    → right bits (indexed_text bits o idx) ≡ Ok (o, idx)
unfolding right
right_again bits o None size small fits = rw (operand_again o [] small) refl
right_again bits o (Some i) size small fits =
    rw (operand_again o (index_text bits i) small) (right_idx bits o i (index_text bits i) (index_read bits i size fits))

-- ---- none of them has a comma and a blank

pub tidy_number : (v : ℤ) (bits : ℕ) → FitsInt bits v → 2 ^ (bits - 1) < 2 ^ 64 → tidy (signed_decimal v) ≡ true
unfolding tidy
tidy_number (pos n) bits fits wide = above_tidy (decimal n) (decimal_above n (omega (arith, fits, wide)))
tidy_number (negsuc n) bits fits wide = above_tidy (decimal (suc n)) (decimal_above (suc n) (omega (arith, fits, wide)))

tidy_end : (ds : List ℕ) → tidy ds ≡ true → tidy (ds ++ 41 ∷ []) ≡ true
unfolding tidy
tidy_end ds h = tidy_append ds (41 ∷ []) h refl

tidy_pair : (neg : Bool) (n c : ℕ) → n < 2 ^ 64 → c < 2 ^ 64 → tidy (pair_text neg n c) ≡ true
unfolding tidy
tidy_pair true n c fn fc =
    let tail = tidy_end (decimal c) (above_tidy (decimal c) (decimal_above c fc)) in
    tidy_append (decimal n) (44 ∷ 45 ∷ (decimal c ++ 41 ∷ [])) (above_tidy (decimal n) (decimal_above n fn)) tail
tidy_pair false n c fn fc =
    let tail = tidy_end (decimal c) (above_tidy (decimal c) (decimal_above c fc)) in
    tidy_append (decimal n) (44 ∷ 43 ∷ (decimal c ++ 41 ∷ [])) (above_tidy (decimal n) (decimal_above n fn)) tail

tidy_raw : (bits n : ℕ) → tidy (raw_text bits n) ≡ true
unfolding tidy
tidy_raw bits n = above_tidy (hex_text (bits / 4) n) (hex_above (bits / 4) n)

pub tidy_index : (bits : ℕ) (i : Index) → IsIndexSize bits → IsIndex bits i → tidy (index_text bits i) ≡ true
unfolding index_text
tidy_index bits i size a = elim (cases_Bool (by_numbers bits i)) [
  | inl yes_ ↦ let small = numbers_small bits i size a in rw yes_ (tidy_pair i.neg i.units i.bytes small.0 small.1)
  | inr raw ↦ rw raw (tidy_raw bits (raw_of bits i))
]

pub tidy_register : (reg : ℕ) (indirect : Bool) (rest : List ℕ) → tidy rest ≡ true
    → tidy (operand_text (record { reg = reg; indirect = indirect }) rest) ≡ true
unfolding tidy operand_text
tidy_register reg true rest h = let other : (48 + reg == 44) ≡ false = grind (arith, nat_tests) in rw (other, h) refl
tidy_register reg false rest h = let other : (48 + reg == 44) ≡ false = grind (arith, nat_tests) in rw (other, h) refl

pub tidy_operand : (o : Operand) (rest : List ℕ) → tidy rest ≡ true → tidy (operand_text o rest) ≡ true
tidy_operand o rest h = tidy_register o.reg o.indirect rest h

pub tidy_extra : (bits : ℕ) (o : Operand) (e : Extra) → IsIndexSize bits → ExtraFits bits o e → tidy (extra_text bits o e) ≡ true
unfolding tidy
tidy_extra bits o Nothing size fits = tidy_operand o [] refl
tidy_extra bits o (Imm v) size fits = tidy_operand o (32 ∷ signed_decimal v) (tidy_number v bits fits.1 (half_small bits size).1)
tidy_extra bits o (Idx i) size fits = tidy_operand o (index_text bits i) (tidy_index bits i size fits.1)

pub tidy_left : (bits : ℕ) (o : Operand) (idx : Option Index) → IsIndexSize bits → LeftFits bits o idx
    → tidy (indexed_text bits o idx) ≡ true
unfolding tidy
tidy_left bits o None size fits = tidy_operand o [] refl
tidy_left bits o (Some i) size fits = tidy_operand o (index_text bits i) (tidy_index bits i size fits.1)

pub tidy_right : (bits : ℕ) (o : Operand) (idx : Option Index) → IsIndexSize bits → RightFits bits idx
    → tidy (indexed_text bits o idx) ≡ true
unfolding tidy
tidy_right bits o None size fits = tidy_operand o [] refl
tidy_right bits o (Some i) size fits = tidy_operand o (index_text bits i) (tidy_index bits i size fits)

pub tidy_blank : (t : List ℕ) → tidy t ≡ true → tidy (32 ∷ t) ≡ true
unfolding tidy
tidy_blank t h = h
