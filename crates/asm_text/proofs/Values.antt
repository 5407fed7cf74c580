-- Numbers, names and targets that are written are read again.
use Rattle.std.proofs.Common.{◌≡◌, ℕ, ◌+◌, ◌-◌, ◌%◌, ◌^◌, ◌<◌, ◌≤◌, List, [], ◌∷◌, ◌++◌, zero, suc, get_or, Option, Some, None, Bool, true}
use Rattle.std.proofs.Common.{false, not, ◌&&◌, ◌||◌, ◌==◌, cond, refl, arith, nat_le, inl, inr, Ok, ℤ, pos, negsuc, is_some}
use Rattle.std.proofs.lemmas.Bool.Decides.{nat_tests}
use Rattle.std.proofs.lemmas.Bool.{cases_Bool, and_parts}
use Rattle.std.proofs.lemmas.Fmt.{decimal_by_steps, decimal_digit, first_decimal}
use Rattle.std.specs.List.{list_all}
use Rattle.std.specs.Fmt.{decimal, signed_decimal}
use Rattle.natural_index.specs.declared.Index.{Index}
use Rattle.natural_index.specs.Index.{raw_of}
use Rattle.ebc_insn.specs.declared.Operand.{Operand}
use Rattle.ebc_insn.specs.declared.Extra.{Extra}
use Rattle.ebc_insn.specs.declared.Extra.TheVariants.{Nothing, Imm, Idx}
use Rattle.ebc_insn.specs.Spelling.{ExtraFits, FitsInt, IsOperand, TargetFits, target_bits}
use Rattle.asm_text.specs.Numbers.{are_digits, digit_of, is_decimal, is_numeral}
use Rattle.ebc_base.specs.Names.{continues_name, is_name}
use Rattle.asm_text.specs.Names.{is_place_name, is_register}
use Rattle.asm_text.specs.Splits.{is_empty}
use Rattle.asm_text.specs.Indexes.{by_numbers, index_text, pair_text, raw_text}
use Rattle.asm_text.specs.Operands.{at_register, beside, extra_text, is_first, near_target, operand_text, target, target_text, value}
use Rattle.asm_text.specs.Operands.{value_text}
use Rattle.asm_text.proofs.Digits.{digit_first, digit_top, number_again}
use Rattle.asm_text.proofs.Pieces.{not_true, tidy}
use Rattle.asm_text.proofs.NameLaws.{letters_of, name_no_numeral, name_some, name_tidy, number_no_name}
use Rattle.asm_text.proofs.Slots.{extra_again, tidy_blank, tidy_extra, tidy_number, tidy_operand}

-- ---- a number has its form

digit_ten : (b : ℕ) → 48 ≤ b → b ≤ 57 → is_some (digit_of 10 b) ≡ true
digit_ten b low high =
    let l : nat_le 48 b ≡ true = grind (arith, nat_tests) in
    let h : nat_le b 57 ≡ true = grind (arith, nat_tests) in
    rw (l, h) refl

digits_both : (xs ys : List ℕ) → are_digits 10 xs ≡ true → are_digits 10 ys ≡ true → are_digits 10 (xs ++ ys) ≡ true
digits_both [] ys a b = b
digits_both (x ∷ xs) ys a b =
    let p = and_parts (is_some (digit_of 10 x)) (are_digits 10 xs) a in
    rw (p.0, digits_both xs ys p.1 b) refl

digit_one : (d : ℕ) → d < 10 → are_digits 10 ((48 + d) ∷ []) ≡ true
digit_one d small = rw (digit_ten (48 + d) (omega arith) (omega arith)) refl

digits_all : (n : ℕ) → n < 2 ^ 64 → are_digits 10 (decimal n) ≡ true
digits_all n fits =
    decimal_by_steps (λ n ds. are_digits 10 ds ≡ true) (λ n small. digit_one n small)
    (λ n ds big front. digits_both ds ((48 + n % 10) ∷ []) front (digit_one (n % 10) (omega arith))) n fits

formed : (ds : List ℕ) → 48 < get_or ds 0 0 → are_digits 10 ds ≡ true → (is_decimal ds ≡ true) × (is_numeral ds ≡ true)
unfolding is_numeral
formed [] above all = absurd (omega arith)
formed (b ∷ []) above all =
    let sign : (b == 45) ≡ false = grind (arith, nat_tests) in
    (all, rw sign all)
formed (b ∷ c ∷ bs) above all =
    let sign : (b == 45) ≡ false = grind (arith, nat_tests) in
    let zero_ : (b == 48) ≡ false = grind (arith, nat_tests) in
    (rw zero_ all, rw (sign, zero_) all)

numeral_plain : (n : ℕ) → n < 2 ^ 64 → (is_decimal (decimal n) ≡ true) × (is_numeral (decimal n) ≡ true)
unfolding is_numeral
numeral_plain zero fits = rw (decimal_digit 0 (omega arith)) (refl, refl)
numeral_plain (suc n) fits = formed (decimal (suc n)) (first_decimal (suc n) (omega arith) fits) (digits_all (suc n) fits)

pub numeral : (v : ℤ) (bits : ℕ) → FitsInt bits v → 2 ^ (bits - 1) < 2 ^ 64 → is_numeral (signed_decimal v) ≡ true
unfolding is_numeral
numeral (pos n) bits fits wide = let p = numeral_plain n (omega (arith, fits, wide)) in p.1
numeral (negsuc n) bits fits wide = let p = numeral_plain (suc n) (omega (arith, fits, wide)) in p.0

-- ---- a number, or a name in its place

-- The name, if any, stands in place of 0.
abbrev pub ValueFits : ℕ → ℤ → Option (List ℕ) → Type 0
ValueFits bits v None = FitsInt bits v
ValueFits bits v (Some name) = (v ≡ pos 0) × (is_name name ≡ true)

decimal_no_name : (v : ℤ) (bits : ℕ) → FitsInt bits v → 2 ^ (bits - 1) < 2 ^ 64 → is_name (signed_decimal v) ≡ false
decimal_no_name (pos n) bits fits wide =
    let small : n < 2 ^ 64 = omega (arith, fits, wide) in
    let first = digit_first n small in
    number_no_name (decimal n) (digit_top n small) (λ e. absurd (omega (arith, first, e)))
decimal_no_name (negsuc n) bits fits wide = number_no_name (45 ∷ decimal (suc n)) (omega arith) (λ e. absurd (omega (arith, e)))

pub value_again : (bits : ℕ) (v : ℤ) (name : Option (List ℕ)) → 0 < bits → 2 ^ (bits - 1) < 2 ^ 64 → ValueFits bits v name
    → value bits (value_text v name) ≡ Ok (v, name)
unfolding value
value_again bits v None some wide fits = rw (decimal_no_name v bits fits wide, number_again bits v some fits wide) refl
value_again bits v (Some name) some wide fits = rw (fits.1, fits.0) refl

pub some_byte : (t : List ℕ) → 48 ≤ get_or t 0 0 → (is_empty t ≡ false)
some_byte [] h = absurd (omega arith)
some_byte (b ∷ bs) h = refl

pub some_number : (v : ℤ) (bits : ℕ) → FitsInt bits v → 2 ^ (bits - 1) < 2 ^ 64 → is_empty (signed_decimal v) ≡ false
some_number (pos n) bits fits wide = some_byte (decimal n) (digit_first n (omega (arith, fits, wide)))
some_number (negsuc n) bits fits wide = refl

pub value_good : (bits : ℕ) (v : ℤ) (name : Option (List ℕ)) → 2 ^ (bits - 1) < 2 ^ 64 → ValueFits bits v name
    → (is_empty (value_text v name) ≡ false) × (tidy (value_text v name) ≡ true)
value_good bits v None wide fits = (some_number v bits fits wide, tidy_number v bits fits wide)
value_good bits v (Some name) wide fits = (name_some name fits.1, name_tidy name fits.1)

-- ---- targets

pub some_operand : (o : Operand) (rest : List ℕ) → is_empty (operand_text o rest) ≡ false
unfolding operand_text
some_operand o rest = elim o.indirect as (λ b. is_empty (cond b (64 ∷ 82 ∷ (48 + o.reg) ∷ rest) (82 ∷ (48 + o.reg) ∷ rest)) ≡ false) [
  | true ↦ refl
  | false ↦ refl
]

not_numeral : (o : Operand) (rest : List ℕ) → is_numeral (operand_text o rest) ≡ false
unfolding operand_text is_numeral
not_numeral o rest = elim o.indirect as (λ b. is_numeral (cond b (64 ∷ 82 ∷ (48 + o.reg) ∷ rest) (82 ∷ (48 + o.reg) ∷ rest)) ≡ false) [
  | true ↦ refl
  | false ↦ refl
]

-- What stands behind a register ends a name there.
abbrev Stops : List ℕ → Type 0
Stops [] = Unit {0}
Stops (c ∷ cs) = continues_name c ≡ false

stops_name : (r d c : ℕ) (cs : List ℕ) → continues_name c ≡ false → is_name (r ∷ d ∷ c ∷ cs) ≡ false
stops_name r d c cs stop = elim (cases_Bool (is_name (r ∷ d ∷ c ∷ cs))) [
  | inl yes_ ↦
      let all = letters_of (r ∷ d ∷ c ∷ cs) yes_ in
      let p = and_parts (continues_name r) (list_all continues_name (d ∷ c ∷ cs)) all in
      let q = and_parts (continues_name d) (list_all continues_name (c ∷ cs)) p.1 in
      let s = and_parts (continues_name c) (list_all continues_name cs) q.1 in
      cc (s.0, stop)
  | inr no_ ↦ no_
]

no_place : (reg : ℕ) (indirect : Bool) (rest : List ℕ) → reg < 8 → Stops rest
    → is_place_name (operand_text (record { reg = reg; indirect = indirect }) rest) ≡ false
unfolding operand_text is_name
no_place reg true [] small stop = refl
no_place reg true (c ∷ cs) small stop = refl
no_place reg false [] small stop =
    let low : nat_le 48 (48 + reg) ≡ true = grind (arith, nat_tests) in
    let high : nat_le (48 + reg) 55 ≡ true = grind (arith, nat_tests) in
    rw (low, high) refl
no_place reg false (c ∷ cs) small stop = stops_name 82 (48 + reg) c cs stop

index_stops : (bits : ℕ) (i : Index) → Stops (index_text bits i)
unfolding index_text
index_stops bits i = elim (by_numbers bits i) as (λ b. Stops (cond b (pair_text i.neg i.units i.bytes) (raw_text bits (raw_of bits i)))) [
  | true ↦ refl
  | false ↦ refl
]

beside_stops : (e : Extra) → Stops (beside 32 e)
beside_stops Nothing = tt
beside_stops (Imm v) = refl
beside_stops (Idx i) = index_stops 32 i

either_way : (r : Bool) → (r && false) ≡ false
either_way true = refl
either_way false = refl

-- the target of a jump that isn't far, at a register
register_target : (relative : Bool) (o : Operand) (e : Extra) → IsOperand o → ExtraFits 32 o e → at_register (o, e) ≡ Ok (o, e, None)
    → near_target relative (extra_text 32 o e) ≡ Ok (o, e, None)
unfolding near_target
register_target relative o e fo fe at =
    rw (
      not_numeral o (beside 32 e),
      no_place o.reg o.indirect (beside 32 e) fo (beside_stops e),
      either_way relative,
      extra_again 32 o e (inr (inl refl)) fo fe,
    ) at

-- the target without a register
direct_target : (reg : ℕ) (ind : Bool) (v : ℤ) (far relative : Bool) → reg ≡ 0 → ind ≡ false → FitsInt (target_bits far) v
    → target far relative (signed_decimal v) ≡ Ok (record { reg = reg; indirect = ind }, Imm v, None)
unfolding near_target
direct_target reg ind v true relative zero_ off fits =
    rw (value_again 64 v None (omega arith) (omega arith) fits, zero_, off) refl
direct_target reg ind v false relative zero_ off fits =
    rw (numeral v 32 fits (omega arith), number_again 32 v (omega arith) fits (omega arith), zero_, off) refl

imm_target : (b : Bool) (o : Operand) (v : ℤ) (far relative : Bool) → is_first o ≡ b → TargetFits far o (Imm v)
    → target far relative (cond b (signed_decimal v) (extra_text 32 o (Imm v))) ≡ Ok (o, Imm v, None)
imm_target true o v true relative which fits = direct_target o.reg o.indirect v true relative fits.0 fits.1 fits.2
imm_target true o v false relative which fits =
    let p = and_parts (o.reg == 0) (not o.indirect) which in
    let none : o.reg ≡ 0 = let p0 : (o.reg == 0) ≡ true = p.0 in grind (arith, nat_tests) in
    direct_target o.reg o.indirect v false relative none (not_true _ p.1) fits.1.1
imm_target false o v true relative which fits = cc (rw (fits.0, fits.1) at which)
imm_target false o v false relative which fits =
    let other : (o.reg == 0) ≡ false = elim (cases_Bool (o.reg == 0)) [
      | inl zero_ ↦ cc (rw (zero_, fits.1.0) at which)
      | inr more ↦ more
    ] in
    register_target relative o (Imm v) fits.0 fits.1 (rw other refl)

-- The name, if any, stands in place of an immediate that is 0.
abbrev pub TargetNamed : Bool → Operand → Extra → Option (List ℕ) → Type 0
TargetNamed takes o e None = Unit {0}
TargetNamed takes o e (Some name) =
    ((o ≡ record { reg = 0; indirect = false }) × (e ≡ Imm (pos 0)) × (takes ≡ true)) × (is_place_name name ≡ true)

pub place_name : (name : List ℕ) → is_place_name name ≡ true → is_name name ≡ true
place_name name h = elim (is_register name) as (λ b. cond b false (is_name name) ≡ true → is_name name ≡ true) [
  | true ↦ λ g. cc g
  | false ↦ λ g. g
] h

named_target : (far relative : Bool) (name : List ℕ) → (far || relative) ≡ true → is_place_name name ≡ true
    → target far relative name ≡ Ok (record { reg = 0; indirect = false }, Imm (pos 0), Some name)
unfolding near_target value
named_target true relative name takes named = rw (place_name name named) refl
named_target false relative name takes named = rw (name_no_numeral name (place_name name named), takes, named) refl

pub target_again : (far relative : Bool) (o : Operand) (e : Extra) (name : Option (List ℕ)) → TargetFits far o e
    → TargetNamed (far || relative) o e name → target far relative (target_text o e name) ≡ Ok (o, e, name)
target_again far relative o e (Some name) fits named = rw (named.0.0, named.0.1) (named_target far relative name named.0.2 named.1)
target_again far relative o (Imm v) None fits named = imm_target (is_first o) o v far relative refl fits
target_again true relative o Nothing None fits named = absurd fits
target_again false relative o Nothing None fits named = register_target relative o Nothing fits.0 fits.1 refl
target_again true relative o (Idx i) None fits named = absurd fits
target_again false relative o (Idx i) None fits named = register_target relative o (Idx i) fits.0 fits.1 refl

-- a target is one operand
pub target_good : (far : Bool) (takes : Bool) (o : Operand) (e : Extra) (name : Option (List ℕ)) → TargetFits far o e
    → TargetNamed takes o e name → (is_empty (target_text o e name) ≡ false) × (tidy (target_text o e name) ≡ true)
target_good far takes o e (Some name) fits named =
    let is = place_name name named.1 in
    rw (named.0.0, named.0.1) (name_some name is, name_tidy name is)
target_good true takes o (Imm v) None fits named = elim (is_first o) as
    (λ b. (is_empty (cond b (signed_decimal v) (extra_text 32 o (Imm v))) ≡ false)
    × (tidy (cond b (signed_decimal v) (extra_text 32 o (Imm v))) ≡ true)) [
      | true ↦ (some_number v 64 fits.2 (omega arith), tidy_number v 64 fits.2 (omega arith))
      | false ↦ (
        some_operand o _,
        tidy_operand o (32 ∷ signed_decimal v)
            (tidy_blank (signed_decimal v) (tidy_number v 64 fits.2 (omega arith))),
      )
    ]
target_good false takes o (Imm v) None fits named = elim (is_first o) as
    (λ b. (is_empty (cond b (signed_decimal v) (extra_text 32 o (Imm v))) ≡ false)
    × (tidy (cond b (signed_decimal v) (extra_text 32 o (Imm v))) ≡ true)) [
      | true ↦ (some_number v 32 fits.1.1 (omega arith), tidy_number v 32 fits.1.1 (omega arith))
      | false ↦ (some_operand o _, tidy_extra 32 o (Imm v) (inr (inl refl)) fits.1)
    ]
target_good true takes o Nothing None fits named = absurd fits
target_good false takes o Nothing None fits named = (some_operand o _, tidy_extra 32 o Nothing (inr (inl refl)) fits.1)
target_good true takes o (Idx i) None fits named = absurd fits
target_good false takes o (Idx i) None fits named = (some_operand o _, tidy_extra 32 o (Idx i) (inr (inl refl)) fits.1)
