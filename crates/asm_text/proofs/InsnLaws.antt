-- The text of an instruction is read as that instruction.
use Rattle.std.proofs.Common.{◌≡◌, ℕ, ◌-◌, ◌^◌, ◌<◌, List, [], zero, suc, Option, Some, None, Bool, true, false, ◌||◌, cond, refl, arith}
use Rattle.std.proofs.Common.{nat_lt, inl, inr, Result, Ok, ℤ, pos, negsuc}
use Rattle.std.proofs.lemmas.Bool.Decides.{nat_tests}
use Rattle.std.proofs.lemmas.Bool.{cases_lt}
use Rattle.std.specs.Fmt.{decimal, signed_decimal}
use Rattle.natural_index.specs.declared.Index.{Index}
use Rattle.natural_index.specs.Index.{IsIndexSize, IsIndex}
use Rattle.ebc_insn.specs.declared.Operand.{Operand}
use Rattle.ebc_insn.specs.declared.Extra.{Extra}
use Rattle.ebc_insn.specs.declared.Cond.{Cond}
use Rattle.ebc_insn.specs.declared.CmpOp.{CmpOp}
use Rattle.ebc_insn.specs.declared.ArithOp.{ArithOp}
use Rattle.ebc_insn.specs.declared.Insn.{Insn}
use Rattle.ebc_insn.specs.declared.Insn.TheVariants as insns
use Rattle.ebc_insn.specs.declared.Size.{Size}
use Rattle.ebc_insn.specs.declared.Size.TheVariants as sizes
use Rattle.ebc_insn.specs.Spelling.{IsOperand, ExtraFits, LeftFits, RightFits, FitsInt, WellFormed, MoveFits, IsWordOrDword, TargetFits}
use Rattle.ebc_insn.specs.Spelling.{immediate_bits}
use Rattle.asm_text.specs.declared.fault.AsmFault.{AsmFault}
use Rattle.asm_text.specs.declared.form.Form.{Form}
use Rattle.asm_text.specs.declared.form.Form.TheVariants as forms
use Rattle.asm_text.specs.Numbers.{number, number_value}
use Rattle.asm_text.specs.Faults.{made}
use Rattle.asm_text.specs.Splits.{halves, is_empty, sole}
use Rattle.asm_text.specs.Indexes.{index, index_text}
use Rattle.asm_text.specs.Operands.{bare, extra, extra_text, flags_special, indexed_text, left, operand_text, register, right, special}
use Rattle.asm_text.specs.Operands.{special_text, target, target_text, value, value_text}
use Rattle.asm_text.specs.Mnemonics.{FormFits, word_of}
use Rattle.asm_text.specs.Instructions.{NameFits, TakesName, immediate, insn_in, insn_of, insn_text, line_of, one, pair, register_text}
use Rattle.asm_text.specs.Instructions.{takes_name, two}
use Rattle.asm_text.proofs.Again.{index_read}
use Rattle.asm_text.proofs.Digits.{decimal_again, digit_first, no_sign, number_again}
use Rattle.asm_text.proofs.Forms.{form_again}
use Rattle.asm_text.proofs.NameLaws.{name_tidy}
use Rattle.asm_text.proofs.Pieces.{above_lacks, above_tidy, cut_first, cut_none, decimal_above, tidy, until_first, until_none}
use Rattle.asm_text.proofs.Slots.{bare_again, extra_again, half_small, left_again, right_again, tidy_extra, tidy_index, tidy_left}
use Rattle.asm_text.proofs.Slots.{tidy_number, tidy_operand, tidy_right}
use Rattle.asm_text.proofs.Values.{TargetNamed, ValueFits, place_name, some_byte, some_operand, target_again, target_good, value_again}
use Rattle.asm_text.proofs.Values.{value_good}

-- a line is read by its form
pub line_again : (f : Form) (ops : List ℕ) (r : Result (Insn × Option (List ℕ)) AsmFault) → FormFits f → insn_of f ops ≡ r
    → insn_in (line_of (f, Some ops)) ≡ r
unfolding insn_in
line_again f ops r fits h =
    let again = form_again f fits in
    rw (until_first 32 (word_of f) ops (above_lacks 32 (word_of f) (omega arith) again.1), again.0) h

word_again : (f : Form) (r : Result (Insn × Option (List ℕ)) AsmFault) → FormFits f → insn_of f [] ≡ r → insn_in (line_of (f, None)) ≡ r
unfolding insn_in
word_again f r fits h =
    let again = form_again f fits in
    rw (until_none 32 (word_of f) (above_lacks 32 (word_of f) (omega arith) again.1), again.0) h

-- ---- one operand, and two

one_again : {A : Type 0} (f : List ℕ → Result A AsmFault) (text : List ℕ) (r : Result A AsmFault) → is_empty text ≡ false → tidy text ≡ true
    → f text ≡ r → one f text ≡ r
unfolding sole
one_again f text r some h is = rw (some, cut_none text h) is

two_again : {A B : Type 0} (f : List ℕ → Result A AsmFault) (g : List ℕ → Result B AsmFault) (x y : List ℕ) (a : A) (b : B)
    → tidy x ≡ true → tidy y ≡ true → f x ≡ Ok a → g y ≡ Ok b → two f g (pair x y) ≡ Ok (a, b)
unfolding halves
two_again f g x y a b tx ty is_a is_b = rw (cut_first x y tx, cut_none y ty, is_a, is_b) refl

-- ---- the slots that a few forms have

register_again : (reg : ℕ) → reg < 8 → register (register_text reg) ≡ Ok reg
register_again reg small = rw (bare_again (record { reg = reg; indirect = false }) small) refl

register_tidy : (reg : ℕ) → tidy (register_text reg) ≡ true
unfolding tidy
register_tidy reg = tidy_operand (record { reg = reg; indirect = false }) [] refl

special_again : (which : ℕ) → which < 2 → (special (special_text which) ≡ Ok which) × (tidy (special_text which) ≡ true)
unfolding tidy
special_again zero small = (refl, refl)
special_again (suc zero) small = (refl, refl)
special_again (suc (suc n)) small = absurd (omega arith)

break_again : (n : ℕ) → n < 256 → insn_of forms.Break (decimal n) ≡ Ok (insns.Break n, None)
unfolding insn_of number_value
break_again n small =
    let fits : n < 2 ^ 64 = omega arith in
    let text = some_byte (decimal n) (digit_first n fits) in
    let whole = above_tidy (decimal n) (decimal_above n fits) in
    elim (cases_lt n 128) [
      | inl low ↦
          let below : nat_lt n 128 ≡ true = grind (arith, nat_tests) in
          let is : number 8 (decimal n) ≡ Ok (pos n) = rw (
            no_sign 8 (decimal n) (digit_first n fits),
            (decimal_again n fits).1,
            below,
          ) refl in
          rw (one_again (number 8) (decimal n) (Ok (pos n)) text whole is) refl
      | inr high ↦
          let above_ : nat_lt n 128 ≡ false = grind (arith, nat_tests) in
          let below : nat_lt n 256 ≡ true = grind (arith, nat_tests) in
          let is : number 8 (decimal n) ≡ Ok (negsuc (255 - n)) =
          rw (no_sign 8 (decimal n) (digit_first n fits), (decimal_again n fits).1, above_, below) refl in
          let back : 255 - (255 - n) ≡ n = omega arith in
          rw (one_again (number 8) (decimal n) (Ok (negsuc (255 - n))) text whole is, back) refl
    ]

imm_either : (t : Bool) (bits : ℕ) (v : ℤ) → 0 < bits → 2 ^ (bits - 1) < 2 ^ 64 → FitsInt bits v
    → cond t (value bits (signed_decimal v)) (made (λ w. (w, None)) (number bits (signed_decimal v))) ≡ Ok (v, None)
imm_either true bits v some wide fits = value_again bits v None some wide fits
imm_either false bits v some wide fits = rw (number_again bits v some fits wide) refl

immediate_again : (size : Size) (bits : ℕ) (l : Operand) (lidx : Option Index) (v : ℤ) (name : Option (List ℕ)) → IsIndexSize bits
    → FitsInt bits v → NameFits (insns.MoveImm size bits l lidx v) name → (immediate size bits (value_text v name) ≡ Ok (v, name))
    × (tidy (value_text v name) ≡ true)
immediate_again size bits l lidx v None wide fits named =
    let half = half_small bits wide in
    (imm_either (takes_name size bits) bits v half.0 half.1 fits, tidy_number v bits fits half.1)
immediate_again size bits l lidx v (Some name) wide fits named =
    let is = place_name name named.1 in
    let again = value_again 64 (pos 0) (Some name) (omega arith) (omega arith) (refl, is) in
    (rw (named.0.0, named.0.1, named.0.2) again, name_tidy name is)

-- ---- the forms

-- A form that takes no name has none.
no_name : (i : Insn) (name : Option (List ℕ)) → (TakesName i → ⊥) → NameFits i name → name ≡ None
no_name i None never fits = refl
no_name i (Some n) never fits = absurd (never fits.0)

jump_again : (c : Cond) (far relative : Bool) (o : Operand) (e : Extra) (name : Option (List ℕ)) → TargetFits far o e
    → TargetNamed (far || relative) o e name → insn_of (forms.Jump c far relative) (target_text o e name) ≡ Ok
    (insns.Jump c far relative o e, name)
unfolding insn_of
jump_again c far relative o e name fits named =
    let good = target_good far (far || relative) o e name fits named in
    rw (one_again (target far relative) (target_text o e name) (Ok (o, e, name)) good.0 good.1
    (target_again far relative o e name fits named)) refl

call_again : (far native relative : Bool) (o : Operand) (e : Extra) (name : Option (List ℕ)) → TargetFits far o e
    → TargetNamed (far || relative) o e name → insn_of (forms.Call far native relative) (target_text o e name) ≡ Ok
    (insns.Call far native relative o e, name)
unfolding insn_of
call_again far native relative o e name fits named =
    let good = target_good far (far || relative) o e name fits named in
    rw (one_again (target far relative) (target_text o e name) (Ok (o, e, name)) good.0 good.1
    (target_again far relative o e name fits named)) refl

jump8_again : (c : Cond) (v : ℤ) (name : Option (List ℕ)) → ValueFits 8 v name
    → insn_of (forms.Jump8 c) (value_text v name) ≡ Ok (insns.Jump8 c v, name)
unfolding insn_of
jump8_again c v name fits =
    let good = value_good 8 v name (omega arith) fits in
    rw (one_again (value 8) (value_text v name) (Ok (v, name)) good.0 good.1 (value_again 8 v name (omega arith) (omega arith) fits)) refl

compare_again : (op : CmpOp) (wide : Bool) (l : ℕ) (r : Operand) (e : Extra) → l < 8 → IsOperand r → ExtraFits 16 r e
    → insn_of (forms.Compare op wide) (pair (register_text l) (extra_text 16 r e)) ≡ Ok (insns.Compare op wide l r e, None)
unfolding insn_of
compare_again op wide l r e fl fr fe =
    rw (two_again register (extra 16) (register_text l) (extra_text 16 r e) l (r, e) (register_tidy l) (tidy_extra 16 r e (inl refl) fe)
    (register_again l fl) (extra_again 16 r e (inl refl) fr fe)) refl

pub long_size : (long : Bool) → IsIndexSize (immediate_bits long)
long_size true = inr (inl refl)
long_size false = inl refl

compare_imm_again : (op : CmpOp) (wide : Bool) (l : Operand) (idx : Option Index) (long : Bool) (v : ℤ) → IsOperand l → LeftFits 16 l idx
    → FitsInt (immediate_bits long) v → insn_of (forms.CompareImm op wide long) (pair (indexed_text 16 l idx) (signed_decimal v)) ≡ Ok
    (insns.CompareImm op wide l idx long v, None)
unfolding insn_of
compare_imm_again op wide l idx long v fl fi fv =
    let half = half_small (immediate_bits long) (long_size long) in
    rw (two_again (left 16) (number (immediate_bits long)) (indexed_text 16 l idx) (signed_decimal v) (l, idx) v
    (tidy_left 16 l idx (inl refl) fi) (tidy_number v (immediate_bits long) fv half.1) (left_again 16 l idx (inl refl) fl fi)
    (number_again (immediate_bits long) v half.0 fv half.1)) refl

arith_again : (op : ArithOp) (wide : Bool) (l r : Operand) (e : Extra) → IsOperand l → IsOperand r → ExtraFits 16 r e
    → insn_of (forms.Arith op wide) (pair (operand_text l []) (extra_text 16 r e)) ≡ Ok (insns.Arith op wide l r e, None)
unfolding insn_of tidy
arith_again op wide l r e fl fr fe =
    rw (two_again bare (extra 16) (operand_text l []) (extra_text 16 r e) l (r, e) (tidy_operand l [] refl)
    (tidy_extra 16 r e (inl refl) fe) (bare_again l fl) (extra_again 16 r e (inl refl) fr fe)) refl

move_again : (size : Size) (bits : ℕ) (l r : Operand) (lidx ridx : Option Index) → IsIndexSize bits → IsOperand l → IsOperand r
    → LeftFits bits l lidx → RightFits bits ridx
    → insn_of (forms.Move size bits) (pair (indexed_text bits l lidx) (indexed_text bits r ridx)) ≡ Ok
    (insns.Move size bits l r lidx ridx, None)
unfolding insn_of
move_again size bits l r lidx ridx wide fl fr fli fri =
    rw (two_again (left bits) (right bits) (indexed_text bits l lidx) (indexed_text bits r ridx) (l, lidx) (r, ridx)
    (tidy_left bits l lidx wide fli) (tidy_right bits r ridx wide fri) (left_again bits l lidx wide fl fli)
    (right_again bits r ridx wide fr fri)) refl

move_signed_again : (bits : ℕ) (l r : Operand) (lidx : Option Index) (e : Extra) → IsIndexSize bits → IsOperand l → IsOperand r
    → LeftFits bits l lidx → ExtraFits bits r e
    → insn_of (forms.MoveSigned bits) (pair (indexed_text bits l lidx) (extra_text bits r e)) ≡ Ok (insns.MoveSigned bits l r lidx e, None)
unfolding insn_of
move_signed_again bits l r lidx e wide fl fr fli fe =
    rw (two_again (left bits) (extra bits) (indexed_text bits l lidx) (extra_text bits r e) (l, lidx) (r, e)
    (tidy_left bits l lidx wide fli) (tidy_extra bits r e wide fe) (left_again bits l lidx wide fl fli)
    (extra_again bits r e wide fr fe)) refl

move_imm_again : (size : Size) (bits : ℕ) (l : Operand) (lidx : Option Index) (v : ℤ) (name : Option (List ℕ)) → IsIndexSize bits
    → IsOperand l → LeftFits 16 l lidx → FitsInt bits v → NameFits (insns.MoveImm size bits l lidx v) name
    → insn_of (forms.MoveImm size bits) (pair (indexed_text 16 l lidx) (value_text v name)) ≡ Ok (insns.MoveImm size bits l lidx v, name)
unfolding insn_of
move_imm_again size bits l lidx v name wide fl fli fv named =
    let good = immediate_again size bits l lidx v name wide fv named in
    rw (two_again (left 16) (immediate size bits) (indexed_text 16 l lidx) (value_text v name) (l, lidx) (v, name)
    (tidy_left 16 l lidx (inl refl) fli) good.1 (left_again 16 l lidx (inl refl) fl fli) good.0) refl

move_imm_natural_again : (bits : ℕ) (l : Operand) (lidx : Option Index) (i : Index) → IsIndexSize bits → IsOperand l → LeftFits 16 l lidx
    → IsIndex bits i
    → insn_of (forms.MoveImmNatural bits) (pair (indexed_text 16 l lidx) (index_text bits i)) ≡ Ok
    (insns.MoveImmNatural bits l lidx i, None)
unfolding insn_of
move_imm_natural_again bits l lidx i wide fl fli fi =
    rw (two_again (left 16) (index bits) (indexed_text 16 l lidx) (index_text bits i) (l, lidx) i (tidy_left 16 l lidx (inl refl) fli)
    (tidy_index bits i wide fi) (left_again 16 l lidx (inl refl) fl fli) (index_read bits i wide fi)) refl

move_relative_again : (bits : ℕ) (l : Operand) (lidx : Option Index) (v : ℤ) (name : Option (List ℕ)) → IsIndexSize bits → IsOperand l
    → LeftFits 16 l lidx → ValueFits bits v name
    → insn_of (forms.MoveRelative bits) (pair (indexed_text 16 l lidx) (value_text v name)) ≡ Ok (insns.MoveRelative bits l lidx v, name)
unfolding insn_of
move_relative_again bits l lidx v name wide fl fli fv =
    let half = half_small bits wide in
    let good = value_good bits v name half.1 fv in
    rw (two_again (left 16) (value bits) (indexed_text 16 l lidx) (value_text v name) (l, lidx) (v, name)
    (tidy_left 16 l lidx (inl refl) fli) good.1 (left_again 16 l lidx (inl refl) fl fli)
    (value_again bits v name half.0 half.1 fv)) refl

load_again : (from : ℕ) → from < 8 → insn_of forms.LoadSpecial (pair (special_text 0) (register_text from)) ≡ Ok
    (insns.LoadSpecial from, None)
unfolding insn_of tidy
load_again from small = rw (two_again flags_special register (special_text 0) (register_text from) tt from refl (register_tidy from) refl
    (register_again from small)) refl

store_again : (to which : ℕ) → to < 8 → which < 2 → insn_of forms.StoreSpecial (pair (register_text to) (special_text which)) ≡ Ok
    (insns.StoreSpecial to which, None)
unfolding insn_of
store_again to which small few =
    let again = special_again which few in
    rw (two_again register special (register_text to) (special_text which) to which (register_tidy to) again.1
    (register_again to small) again.0) refl

-- an operand with what stands beside it, alone
extra_alone : (o : Operand) (e : Extra) → IsOperand o → ExtraFits 16 o e → one (extra 16) (extra_text 16 o e) ≡ Ok (o, e)
extra_alone o e fo fe =
    one_again (extra 16) (extra_text 16 o e) (Ok (o, e)) (some_operand o _) (tidy_extra 16 o e (inl refl) fe)
    (extra_again 16 o e (inl refl) fo fe)

push_again : (wide : Bool) (o : Operand) (e : Extra) → IsOperand o → ExtraFits 16 o e
    → insn_of (forms.Push wide) (extra_text 16 o e) ≡ Ok (insns.Push wide o e, None)
unfolding insn_of
push_again wide o e fo fe = rw (extra_alone o e fo fe) refl

pop_again : (wide : Bool) (o : Operand) (e : Extra) → IsOperand o → ExtraFits 16 o e
    → insn_of (forms.Pop wide) (extra_text 16 o e) ≡ Ok (insns.Pop wide o e, None)
unfolding insn_of
pop_again wide o e fo fe = rw (extra_alone o e fo fe) refl

push_natural_again : (o : Operand) (e : Extra) → IsOperand o → ExtraFits 16 o e
    → insn_of forms.PushNatural (extra_text 16 o e) ≡ Ok (insns.PushNatural o e, None)
unfolding insn_of
push_natural_again o e fo fe = rw (extra_alone o e fo fe) refl

pop_natural_again : (o : Operand) (e : Extra) → IsOperand o → ExtraFits 16 o e
    → insn_of forms.PopNatural (extra_text 16 o e) ≡ Ok (insns.PopNatural o e, None)
unfolding insn_of
pop_natural_again o e fo fe = rw (extra_alone o e fo fe) refl

-- ---- the law

pub move_wide : (size : Size) (bits : ℕ) → MoveFits size bits → IsIndexSize bits
move_wide sizes.Byte bits (inl h) = inl h
move_wide sizes.Byte bits (inr h) = inr (inl h)
move_wide sizes.Word bits (inl h) = inl h
move_wide sizes.Word bits (inr h) = inr (inl h)
move_wide sizes.Dword bits (inl h) = inl h
move_wide sizes.Dword bits (inr h) = inr (inl h)
move_wide sizes.Qword bits h = h
move_wide sizes.Natural bits (inl h) = inl h
move_wide sizes.Natural bits (inr h) = inr (inl h)

pub signed_wide : (bits : ℕ) → IsWordOrDword bits → IsIndexSize bits
signed_wide bits (inl h) = inl h
signed_wide bits (inr h) = inr (inl h)

jump8_value : (c : Cond) (v : ℤ) (name : Option (List ℕ)) → FitsInt 8 v → NameFits (insns.Jump8 c v) name → ValueFits 8 v name
jump8_value c v None fits named = fits
jump8_value c v (Some name) fits named = (named.0, place_name name named.1)

relative_value : (bits : ℕ) (l : Operand) (lidx : Option Index) (v : ℤ) (name : Option (List ℕ)) → FitsInt bits v
    → NameFits (insns.MoveRelative bits l lidx v) name → ValueFits bits v name
relative_value bits l lidx v None fits named = fits
relative_value bits l lidx v (Some name) fits named = (named.0, place_name name named.1)

jump_named : (c : Cond) (far relative : Bool) (o : Operand) (e : Extra) (name : Option (List ℕ))
    → NameFits (insns.Jump c far relative o e) name → TargetNamed (far || relative) o e name
jump_named c far relative o e None named = tt
jump_named c far relative o e (Some name) named = named

call_named : (far native relative : Bool) (o : Operand) (e : Extra) (name : Option (List ℕ))
    → NameFits (insns.Call far native relative o e) name → TargetNamed (far || relative) o e name
call_named far native relative o e None named = tt
call_named far native relative o e (Some name) named = named

-- What the text of an instruction is.
abbrev pub Again : Insn → Option (List ℕ) → Type 0
Again i name = insn_in (insn_text i name) ≡ Ok (i, name)

-- it has no name
unnamed_again : (i : Insn) (name : Option (List ℕ)) → (TakesName i → ⊥) → NameFits i name → Again i None → Again i name
unnamed_again i name never fits again = rw (no_name i name never fits) again

-- The text of an instruction, with its name if it has one, is read as that instruction with that name.
pub insn_again : (i : Insn) (name : Option (List ℕ)) → WellFormed i → NameFits i name → Again i name
unfolding insn_of
insn_again (insns.Break n) name fits named = unnamed_again (insns.Break n) name (λ h. h) named
    (line_again forms.Break (decimal n) _ tt (break_again n fits))
insn_again (insns.Jump c far relative o e) name fits named = line_again (forms.Jump c far relative) (target_text o e name) _ tt
    (jump_again c far relative o e name fits (jump_named c far relative o e name named))
insn_again (insns.Jump8 c v) name fits named = line_again (forms.Jump8 c) (value_text v name) _ tt
    (jump8_again c v name (jump8_value c v name fits named))
insn_again (insns.Call far native relative o e) name fits named =
    line_again (forms.Call far native relative) (target_text o e name) _ tt
    (call_again far native relative o e name fits (call_named far native relative o e name named))
insn_again insns.Ret name fits named = unnamed_again insns.Ret name (λ h. h) named (word_again forms.Ret _ tt refl)
insn_again (insns.Compare op wide l r e) name fits named = unnamed_again (insns.Compare op wide l r e) name (λ h. h) named
    (line_again (forms.Compare op wide) _ _ tt (compare_again op wide l r e fits.0 fits.1 fits.2))
insn_again (insns.CompareImm op wide l idx long v) name fits named =
    unnamed_again (insns.CompareImm op wide l idx long v) name (λ h. h) named
    (line_again (forms.CompareImm op wide long) _ _ tt (compare_imm_again op wide l idx long v fits.0 fits.1 fits.2))
insn_again (insns.Arith op wide l r e) name fits named = unnamed_again (insns.Arith op wide l r e) name (λ h. h) named
    (line_again (forms.Arith op wide) _ _ tt (arith_again op wide l r e fits.0 fits.1 fits.2))
insn_again (insns.Move size bits l r lidx ridx) name fits named =
    unnamed_again (insns.Move size bits l r lidx ridx) name (λ h. h) named
    (line_again (forms.Move size bits) _ _ fits.0 (move_again size bits l r lidx ridx
    (move_wide size bits fits.0) fits.1 fits.2 fits.3 fits.4))
insn_again (insns.MoveSigned bits l r lidx e) name fits named =
    unnamed_again (insns.MoveSigned bits l r lidx e) name (λ h. h) named
    (line_again (forms.MoveSigned bits) _ _ fits.0 (move_signed_again bits l r lidx e
    (signed_wide bits fits.0) fits.1 fits.2 fits.3 fits.4))
insn_again (insns.MoveImm size bits l lidx v) name fits named =
    line_again (forms.MoveImm size bits) _ _ (fits.0, fits.1) (move_imm_again size bits l lidx v name fits.0 fits.2 fits.3 fits.4 named)
insn_again (insns.MoveImmNatural bits l lidx i) name fits named =
    unnamed_again (insns.MoveImmNatural bits l lidx i) name (λ h. h) named
    (line_again (forms.MoveImmNatural bits) _ _ fits.0 (move_imm_natural_again bits l lidx i fits.0 fits.1 fits.2 fits.3))
insn_again (insns.MoveRelative bits l lidx v) name fits named =
    line_again (forms.MoveRelative bits) _ _ fits.0 (move_relative_again bits l lidx v name fits.0 fits.1 fits.2
    (relative_value bits l lidx v name fits.3 named))
insn_again (insns.LoadSpecial from) name fits named = unnamed_again (insns.LoadSpecial from) name (λ h. h) named
    (line_again forms.LoadSpecial _ _ tt (load_again from fits))
insn_again (insns.StoreSpecial to which) name fits named = unnamed_again (insns.StoreSpecial to which) name (λ h. h) named
    (line_again forms.StoreSpecial _ _ tt (store_again to which fits.0 fits.1))
insn_again (insns.Push wide o e) name fits named = unnamed_again (insns.Push wide o e) name (λ h. h) named
    (line_again (forms.Push wide) _ _ tt (push_again wide o e fits.0 fits.1))
insn_again (insns.Pop wide o e) name fits named = unnamed_again (insns.Pop wide o e) name (λ h. h) named
    (line_again (forms.Pop wide) _ _ tt (pop_again wide o e fits.0 fits.1))
insn_again (insns.PushNatural o e) name fits named = unnamed_again (insns.PushNatural o e) name (λ h. h) named
    (line_again forms.PushNatural _ _ tt (push_natural_again o e fits.0 fits.1))
insn_again (insns.PopNatural o e) name fits named = unnamed_again (insns.PopNatural o e) name (λ h. h) named
    (line_again forms.PopNatural _ _ tt (pop_natural_again o e fits.0 fits.1))
