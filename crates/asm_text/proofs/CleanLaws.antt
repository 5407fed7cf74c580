-- The line of an instruction has no comment, no label and no space at its ends.
use Rattle.std.proofs.Common.{◌≡◌, ℕ, ◌-◌, ◌^◌, ◌<◌, ◌≤◌, List, [], ◌∷◌, ◌++◌, zero, suc, get_or, Option, Some, None, Bool, true, false}
use Rattle.std.proofs.Common.{cond, refl, ap, arith, nat_le, inl, inr, ℤ}
use Rattle.std.proofs.lemmas.Bool.Decides.{nat_tests}
use Rattle.std.specs.Fmt.{decimal, signed_decimal}
use Rattle.natural_index.specs.declared.Index.{Index}
use Rattle.natural_index.specs.Index.{IsIndexSize, raw_of}
use Rattle.ebc_insn.specs.declared.Operand.{Operand}
use Rattle.ebc_insn.specs.declared.Extra.{Extra}
use Rattle.ebc_insn.specs.declared.Extra.TheVariants.{Nothing, Imm, Idx}
use Rattle.ebc_insn.specs.declared.Insn.{Insn}
use Rattle.ebc_insn.specs.declared.Insn.TheVariants as insns
use Rattle.ebc_insn.specs.Spelling.{IsOperand, ExtraFits, LeftFits, RightFits, FitsInt, WellFormed, TargetFits, immediate_bits}
use Rattle.asm_text.specs.declared.form.Form.{Form}
use Rattle.asm_text.specs.declared.form.Form.TheVariants as forms
use Rattle.asm_text.specs.Names.{label_text}
use Rattle.asm_text.specs.Indexes.{by_numbers, index_text, pair_text, raw_text}
use Rattle.asm_text.specs.Operands.{extra_text, indexed_text, is_first, operand_text, special_text, target_text, value_text}
use Rattle.asm_text.specs.Mnemonics.{word_of, FormFits}
use Rattle.asm_text.specs.Instructions.{insn_text, line_of, pair, register_text}
use Rattle.asm_text.specs.Writing.{place_name}
use Rattle.asm_text.proofs.Digits.{digit_first}
use Rattle.asm_text.proofs.Forms.{form_again}
use Rattle.asm_text.proofs.Pieces.{above}
use Rattle.asm_text.proofs.Slots.{half_small}
use Rattle.asm_text.proofs.Clean.{clean, begins, clean_append, clean_decimal, clean_hex, clean_index, clean_number, clean_blank}
use Rattle.asm_text.proofs.Clean.{begins_number, begins_operand, clean_extra, clean_indexed, clean_operand, clean_two, first_glyph}
use Rattle.asm_text.proofs.InsnLaws.{long_size, move_wide, signed_wide}
use Rattle.std.proofs.lemmas.Bool.{and_parts}

-- What a line is, beside its meaning: it begins with no space and no point.
pub record GoodLine (t : List ℕ) : Type 0 where
  pub clean : clean t ≡ true
  pub begins : begins t ≡ true
  pub high : 48 ≤ get_or t 0 0

append_front : (x y : List ℕ) → begins x ≡ true → above x ≡ true → (begins (x ++ y) ≡ true) × (48 ≤ get_or (x ++ y) 0 0)
unfolding above
append_front [] y b a = cc b
append_front (c ∷ cs) y b a =
    let p = and_parts (nat_le 48 c) (above cs) a in
    let p0 : nat_le 48 c ≡ true = p.0 in
    (b, grind (arith, nat_tests))

nothing_more : (bs : List ℕ) → bs ++ [] ≡ bs
nothing_more [] = refl
nothing_more (b ∷ bs) = ap (λ t. b ∷ t) (nothing_more bs)

word_good : (f : Form) → FormFits f → GoodLine (line_of (f, None))
word_good f fits =
    let again = form_again f fits in
    let front = append_front (word_of f) [] again.3 again.1 in
    record { clean = again.2; begins = again.3; high = rw (← nothing_more (word_of f)) front.1 }

-- operands that are clean
abbrev pub GoodText : List ℕ → Type 0
GoodText t = (clean t ≡ true) × (begins t ≡ true)

line_good : (f : Form) (ops : List ℕ) → FormFits f → GoodText ops → GoodLine (line_of (f, Some ops))
line_good f ops fits good =
    let again = form_again f fits in
    let front = append_front (word_of f) (32 ∷ ops) again.3 again.1 in
    record { clean = clean_append (word_of f) (32 ∷ ops) again.2 (clean_blank ops good.1 good.0); begins = front.0; high = front.1 }

begins_two : (x y : List ℕ) → begins x ≡ true → begins (x ++ y) ≡ true
begins_two [] y h = cc h
begins_two (c ∷ cs) y h = h

pair_good : (x y : List ℕ) → GoodText x → GoodText y → GoodText (pair x y)
pair_good x y a b = (clean_two x y a.0 b.0 b.1, begins_two x (44 ∷ 32 ∷ y) a.1)

left_right : (bits : ℕ) (o : Operand) (idx : Option Index) → LeftFits bits o idx → RightFits bits idx
left_right bits o None fits = tt
left_right bits o (Some i) fits = fits.1

number_good : (v : ℤ) (bits : ℕ) → FitsInt bits v → 2 ^ (bits - 1) < 2 ^ 64 → GoodText (signed_decimal v)
number_good v bits fits wide = (clean_number v bits fits wide, begins_number v bits fits wide)

label_good : (place : ℕ) → GoodText (label_text place)
unfolding clean
label_good place = (rw (clean_hex 8 place) refl, refl)

value_good : (v : ℤ) (bits : ℕ) (place : Option ℕ) → FitsInt bits v → 2 ^ (bits - 1) < 2 ^ 64 → GoodText (value_text v (place_name place))
value_good v bits None fits wide = number_good v bits fits wide
value_good v bits (Some place) fits wide = label_good place

indexed_good : (bits : ℕ) (o : Operand) (idx : Option Index) → IsIndexSize bits → IsOperand o → RightFits bits idx
    → GoodText (indexed_text bits o idx)
indexed_good bits o idx size small fits = (clean_indexed bits o idx size small fits, begins_operand o _)

extra_good : (bits : ℕ) (o : Operand) (e : Extra) → IsIndexSize bits → IsOperand o → ExtraFits bits o e → GoodText (extra_text bits o e)
extra_good bits o e size small fits = (clean_extra bits o e size small fits, begins_operand o _)

bare_good : (o : Operand) → IsOperand o → GoodText (operand_text o [])
unfolding clean
bare_good o small = (clean_operand o [] small refl, begins_operand o [])

register_good : (reg : ℕ) → reg < 8 → GoodText (register_text reg)
register_good reg small = bare_good (record { reg = reg; indirect = false }) small

special_good : (which : ℕ) → which < 2 → GoodText (special_text which)
unfolding clean
special_good zero small = (refl, refl)
special_good (suc zero) small = (refl, refl)
special_good (suc (suc n)) small = absurd (omega arith)

begins_index : (bits : ℕ) (i : Index) → begins (index_text bits i) ≡ true
unfolding index_text
begins_index bits i = elim (by_numbers bits i) as (λ b. begins (cond b (pair_text i.neg i.units i.bytes)
    (raw_text bits (raw_of bits i))) ≡ true) [
      | true ↦ refl
      | false ↦ refl
    ]

target_either : (b : Bool) (far : Bool) (o : Operand) (v : ℤ) (place : Option ℕ) → TargetFits far o (Imm v)
    → GoodText (cond b (value_text v (place_name place)) (extra_text 32 o (Imm v)))
target_either true true o v place fits = value_good v 64 place fits.2 (omega arith)
target_either true false o v place fits = value_good v 32 place fits.1.1 (omega arith)
target_either false true o v place fits =
    let small : o.reg < 8 = rw fits.0 (omega arith) in (
      clean_operand o (32 ∷ signed_decimal v) small (clean_blank (signed_decimal v) (begins_number v 64 fits.2 (omega arith))
          (clean_number v 64 fits.2 (omega arith))),
      begins_operand o _,
    )
target_either false false o v place fits = extra_good 32 o (Imm v) (inr (inl refl)) fits.0 fits.1

target_good : (far : Bool) (o : Operand) (e : Extra) (place : Option ℕ) → TargetFits far o e → GoodText (target_text o e (place_name place))
target_good far o (Imm v) place fits = target_either (is_first o) far o v place fits
target_good true o Nothing place fits = absurd fits
target_good false o Nothing place fits = extra_good 32 o Nothing (inr (inl refl)) fits.0 fits.1
target_good true o (Idx i) place fits = absurd fits
target_good false o (Idx i) place fits = extra_good 32 o (Idx i) (inr (inl refl)) fits.0 fits.1

decimal_good : (n : ℕ) → n < 2 ^ 64 → GoodText (decimal n)
decimal_good n fits = (clean_decimal n fits, first_glyph (decimal n) (digit_first n fits))

-- the first operand of a move or a CMPI
left_good : (bits : ℕ) (o : Operand) (idx : Option Index) → IsIndexSize bits → IsOperand o → LeftFits bits o idx
    → GoodText (indexed_text bits o idx)
left_good bits o idx size small fits = indexed_good bits o idx size small (left_right bits o idx fits)

-- The line of an instruction, with a label in place of its immediate or without.
pub text_good : (i : Insn) (place : Option ℕ) → WellFormed i → GoodLine (insn_text i (place_name place))
text_good (insns.Break n) place fits = line_good forms.Break _ tt (decimal_good n (omega (arith, fits)))
text_good (insns.Jump c far relative o e) place fits = line_good (forms.Jump c far relative) _ tt (target_good far o e place fits)
text_good (insns.Jump8 c v) place fits = line_good (forms.Jump8 c) _ tt (value_good v 8 place fits (omega arith))
text_good (insns.Call far native relative o e) place fits = line_good (forms.Call far native relative) _ tt (target_good far o e place fits)
text_good insns.Ret place fits = word_good forms.Ret tt
text_good (insns.Compare op wide l r e) place fits = line_good (forms.Compare op wide) _ tt
    (pair_good (register_text l) (extra_text 16 r e) (register_good l fits.0) (extra_good 16 r e (inl refl) fits.1 fits.2))
text_good (insns.CompareImm op wide l idx long imm) place fits =
    let half = half_small (immediate_bits long) (long_size long) in
    line_good (forms.CompareImm op wide long) _ tt (pair_good (indexed_text 16 l idx) (signed_decimal imm)
    (left_good 16 l idx (inl refl) fits.0 fits.1) (number_good imm (immediate_bits long) fits.2 half.1))
text_good (insns.Arith op wide l r e) place fits = line_good (forms.Arith op wide) _ tt
    (pair_good (operand_text l []) (extra_text 16 r e) (bare_good l fits.0) (extra_good 16 r e (inl refl) fits.1 fits.2))
text_good (insns.Move size bits l r lidx ridx) place fits =
    let wide = move_wide size bits fits.0 in
    line_good (forms.Move size bits) _ fits.0 (pair_good (indexed_text bits l lidx) (indexed_text bits r ridx)
    (left_good bits l lidx wide fits.1 fits.3) (indexed_good bits r ridx wide fits.2 fits.4))
text_good (insns.MoveSigned bits l r lidx e) place fits =
    let wide = signed_wide bits fits.0 in
    line_good (forms.MoveSigned bits) _ fits.0 (pair_good (indexed_text bits l lidx) (extra_text bits r e)
    (left_good bits l lidx wide fits.1 fits.3) (extra_good bits r e wide fits.2 fits.4))
text_good (insns.MoveImm size bits l lidx imm) place fits =
    let half = half_small bits fits.0 in
    line_good (forms.MoveImm size bits) _ (fits.0, fits.1) (pair_good (indexed_text 16 l lidx) (value_text imm (place_name place))
    (left_good 16 l lidx (inl refl) fits.2 fits.3) (value_good imm bits place fits.4 half.1))
text_good (insns.MoveImmNatural bits l lidx idx) place fits = line_good (forms.MoveImmNatural bits) _ fits.0
    (pair_good (indexed_text 16 l lidx) (index_text bits idx) (left_good 16 l lidx (inl refl) fits.1 fits.2)
    (clean_index bits idx fits.0 fits.3, begins_index bits idx))
text_good (insns.MoveRelative bits l lidx imm) place fits =
    let half = half_small bits fits.0 in
    line_good (forms.MoveRelative bits) _ fits.0 (pair_good (indexed_text 16 l lidx) (value_text imm (place_name place))
    (left_good 16 l lidx (inl refl) fits.1 fits.2) (value_good imm bits place fits.3 half.1))
text_good (insns.LoadSpecial from) place fits = line_good forms.LoadSpecial _ tt
    (pair_good (special_text 0) (register_text from) (special_good 0 (omega arith)) (register_good from fits))
text_good (insns.StoreSpecial to which) place fits = line_good forms.StoreSpecial _ tt
    (pair_good (register_text to) (special_text which) (register_good to fits.0) (special_good which fits.1))
text_good (insns.Push wide o e) place fits = line_good (forms.Push wide) _ tt (extra_good 16 o e (inl refl) fits.0 fits.1)
text_good (insns.Pop wide o e) place fits = line_good (forms.Pop wide) _ tt (extra_good 16 o e (inl refl) fits.0 fits.1)
text_good (insns.PushNatural o e) place fits = line_good forms.PushNatural _ tt (extra_good 16 o e (inl refl) fits.0 fits.1)
text_good (insns.PopNatural o e) place fits = line_good forms.PopNatural _ tt (extra_good 16 o e (inl refl) fits.0 fits.1)
