-- Meaning: Instructions as they are written and read: docs/ASSEMBLY.md, "Instructions".
use Rattle.std.specs.Prelude.{◌≡◌, ℕ, List, [], ◌∷◌, ◌++◌, Option, Some, None, Bool, true, false, ◌==◌, ◌||◌, if◌then◌else◌, Result, Ok}
use Rattle.std.specs.Prelude.{Err, ℤ, pos}
use Rattle.std.specs.Fmt.{decimal, signed_decimal}
use Rattle.ebc_insn.specs.declared.Extra.TheVariants.{Imm}
use Rattle.ebc_insn.specs.declared.Size.{Size}
use Rattle.ebc_insn.specs.declared.Size.TheVariants as sizes
use Rattle.ebc_insn.specs.declared.Insn.{Insn}
use Rattle.ebc_insn.specs.declared.Insn.TheVariants as insns
use Rattle.ebc_insn.specs.Spelling.{WellFormed, immediate_bits, int_raw}
use Rattle.ebc_base.specs.Steps.{◌>>=◌, or_else}
use Rattle.asm_text.specs.declared.form.Form.{Form}
use Rattle.asm_text.specs.declared.form.Form.TheVariants as forms
use Rattle.asm_text.specs.declared.fault.AsmFault.{AsmFault}
use Rattle.asm_text.specs.declared.fault.AsmFault.TheVariants as faults
use Rattle.asm_text.specs.Faults.{both, made}
use Rattle.asm_text.specs.Numbers.{number}
use Rattle.ebc_base.specs.Names.{is_name}
use Rattle.asm_text.specs.Names.{is_place_name}
use Rattle.asm_text.specs.Splits.{halves, is_empty, sole, word_part}
use Rattle.asm_text.specs.Indexes.{index, index_text}
use Rattle.asm_text.specs.Operands.{bare, extra, extra_text, flags_special, indexed_text, left, operand_text, register, right, special}
use Rattle.asm_text.specs.Operands.{special_text, target, target_text, value, value_text}
use Rattle.asm_text.specs.Mnemonics.{form_of, word_of}

-- ---- writing

abbrev pub register_text : ℕ → List ℕ
register_text reg = operand_text (record { reg = reg; indirect = false }) []

-- two operands
abbrev pub pair : List ℕ → List ℕ → List ℕ
pair first second = first ++ 44 ∷ 32 ∷ second

-- what the mnemonic of an instruction says
abbrev pub form_of_insn : Insn → Form
form_of_insn (insns.Break number) = forms.Break
form_of_insn (insns.Jump cond far relative o e) = forms.Jump cond far relative
form_of_insn (insns.Jump8 cond words) = forms.Jump8 cond
form_of_insn (insns.Call far native relative o e) = forms.Call far native relative
form_of_insn insns.Ret = forms.Ret
form_of_insn (insns.Compare op wide l r e) = forms.Compare op wide
form_of_insn (insns.CompareImm op wide l idx long imm) = forms.CompareImm op wide long
form_of_insn (insns.Arith op wide l r e) = forms.Arith op wide
form_of_insn (insns.Move size bits l r lidx ridx) = forms.Move size bits
form_of_insn (insns.MoveSigned bits l r lidx e) = forms.MoveSigned bits
form_of_insn (insns.MoveImm size bits l lidx imm) = forms.MoveImm size bits
form_of_insn (insns.MoveImmNatural bits l lidx idx) = forms.MoveImmNatural bits
form_of_insn (insns.MoveRelative bits l lidx imm) = forms.MoveRelative bits
form_of_insn (insns.LoadSpecial from) = forms.LoadSpecial
form_of_insn (insns.StoreSpecial to which) = forms.StoreSpecial
form_of_insn (insns.Push wide o e) = forms.Push wide
form_of_insn (insns.Pop wide o e) = forms.Pop wide
form_of_insn (insns.PushNatural o e) = forms.PushNatural
form_of_insn (insns.PopNatural o e) = forms.PopNatural

-- the operands of an instruction, with the name, if any, that stands in place of its immediate
abbrev pub operands_of_insn : Insn → Option (List ℕ) → Option (List ℕ)
operands_of_insn (insns.Break number) name = Some (decimal number)
operands_of_insn (insns.Jump cond far relative o e) name = Some (target_text o e name)
operands_of_insn (insns.Jump8 cond words) name = Some (value_text words name)
operands_of_insn (insns.Call far native relative o e) name = Some (target_text o e name)
operands_of_insn insns.Ret name = None
operands_of_insn (insns.Compare op wide l r e) name = Some (pair (register_text l) (extra_text 16 r e))
operands_of_insn (insns.CompareImm op wide l idx long imm) name = Some (pair (indexed_text 16 l idx) (signed_decimal imm))
operands_of_insn (insns.Arith op wide l r e) name = Some (pair (operand_text l []) (extra_text 16 r e))
operands_of_insn (insns.Move size bits l r lidx ridx) name = Some (pair (indexed_text bits l lidx) (indexed_text bits r ridx))
operands_of_insn (insns.MoveSigned bits l r lidx e) name = Some (pair (indexed_text bits l lidx) (extra_text bits r e))
operands_of_insn (insns.MoveImm size bits l lidx imm) name = Some (pair (indexed_text 16 l lidx) (value_text imm name))
operands_of_insn (insns.MoveImmNatural bits l lidx idx) name = Some (pair (indexed_text 16 l lidx) (index_text bits idx))
operands_of_insn (insns.MoveRelative bits l lidx imm) name = Some (pair (indexed_text 16 l lidx) (value_text imm name))
operands_of_insn (insns.LoadSpecial from) name = Some (pair (special_text 0) (register_text from))
operands_of_insn (insns.StoreSpecial to which) name = Some (pair (register_text to) (special_text which))
operands_of_insn (insns.Push wide o e) name = Some (extra_text 16 o e)
operands_of_insn (insns.Pop wide o e) name = Some (extra_text 16 o e)
operands_of_insn (insns.PushNatural o e) name = Some (extra_text 16 o e)
operands_of_insn (insns.PopNatural o e) name = Some (extra_text 16 o e)

-- the operands stand after a space
abbrev pub line_of : Form × Option (List ℕ) → List ℕ
line_of (f, None) = word_of f
line_of (f, Some operands) = word_of f ++ 32 ∷ operands

-- the text of an instruction
abbrev pub insn_text : Insn → Option (List ℕ) → List ℕ
insn_text i name = line_of (form_of_insn i, operands_of_insn i name)

-- A name may stand in place of its immediate, which is 0 then.
abbrev pub TakesName : Insn → Type 0
TakesName (insns.Jump8 cond words) = words ≡ pos 0
TakesName (insns.Jump cond far relative o e) =
    (o ≡ record { reg = 0; indirect = false }) × (e ≡ Imm (pos 0)) × ((far || relative) ≡ true)
TakesName (insns.Call far native relative o e) =
    (o ≡ record { reg = 0; indirect = false }) × (e ≡ Imm (pos 0)) × ((far || relative) ≡ true)
TakesName (insns.MoveImm size bits l lidx imm) = (size ≡ sizes.Qword) × (bits ≡ 64) × (imm ≡ pos 0)
TakesName (insns.MoveRelative bits l lidx imm) = imm ≡ pos 0
TakesName _ = ⊥

-- The name, if any, may stand in place of the immediate: it is one, and not that of a register.
abbrev pub NameFits : Insn → Option (List ℕ) → Type 0
NameFits i None = Unit {0}
NameFits i (Some name) = TakesName i × (is_place_name name ≡ true)

-- A name stands in place of the immediate of an instruction that may have one there: a register's name too, where no register
-- can stand.
abbrev pub IsNamed : Insn → Option (List ℕ) → Type 0
IsNamed i None = Unit {0}
IsNamed i (Some name) = TakesName i × (is_name name ≡ true)

-- The instruction is well formed, and so is the name, if any, in place of its immediate.
abbrev pub InsnFits : Insn × Option (List ℕ) → Type 0
InsnFits p = WellFormed p.0 × IsNamed p.0 p.1

-- ---- reading

abbrev pub one : {A : Type 0} → (List ℕ → Result A AsmFault) → List ℕ → Result A AsmFault
one f text = or_else faults.Operand (sole text) >>= f

abbrev pub two : {A B : Type 0} → (List ℕ → Result A AsmFault) → (List ℕ → Result B AsmFault) → List ℕ → Result (A × B) AsmFault
two f g text = or_else faults.Operand (halves text) >>= (λ p. both (f p.0) (g p.1))

-- the immediate of MOVI, or a name where it has 64 bits for 64 bits
abbrev pub takes_name : Size → ℕ → Bool
takes_name sizes.Qword bits = bits == 64
takes_name size bits = false

abbrev pub immediate : Size → ℕ → List ℕ → Result (ℤ × Option (List ℕ)) AsmFault
immediate size bits text = if takes_name size bits then value bits text else made (λ v. (v, None)) (number bits text)

-- an instruction without a name
abbrev pub unnamed : Insn → Insn × Option (List ℕ)
unnamed i = (i, None)

-- the instruction of a form with these operands, and the name in place of its immediate
unfoldable pub insn_of : Form → List ℕ → Result (Insn × Option (List ℕ)) AsmFault
insn_of forms.Break text = made (λ v. unnamed (insns.Break (int_raw 8 v))) (one (number 8) text)
insn_of (forms.Jump cond far relative) text =
    made (λ p. (insns.Jump cond far relative p.0 p.1, p.2)) (one (target far relative) text)
insn_of (forms.Jump8 cond) text = made (λ v. (insns.Jump8 cond v.0, v.1)) (one (value 8) text)
insn_of (forms.Call far native relative) text =
    made (λ p. (insns.Call far native relative p.0 p.1, p.2)) (one (target far relative) text)
insn_of forms.Ret text = if is_empty text then Ok (unnamed insns.Ret) else Err faults.Operand
insn_of (forms.Compare op wide) text =
    made (λ p. unnamed (insns.Compare op wide p.0 p.1.0 p.1.1)) (two register (extra 16) text)
insn_of (forms.CompareImm op wide long) text =
    made (λ p. unnamed (insns.CompareImm op wide p.0.0 p.0.1 long p.1)) (two (left 16) (number (immediate_bits long)) text)
insn_of (forms.Arith op wide) text =
    made (λ p. unnamed (insns.Arith op wide p.0 p.1.0 p.1.1)) (two bare (extra 16) text)
insn_of (forms.Move size bits) text =
    made (λ p. unnamed (insns.Move size bits p.0.0 p.1.0 p.0.1 p.1.1)) (two (left bits) (right bits) text)
insn_of (forms.MoveSigned bits) text =
    made (λ p. unnamed (insns.MoveSigned bits p.0.0 p.1.0 p.0.1 p.1.1)) (two (left bits) (extra bits) text)
insn_of (forms.MoveImm size bits) text =
    made (λ p. (insns.MoveImm size bits p.0.0 p.0.1 p.1.0, p.1.1)) (two (left 16) (immediate size bits) text)
insn_of (forms.MoveImmNatural bits) text =
    made (λ p. unnamed (insns.MoveImmNatural bits p.0.0 p.0.1 p.1)) (two (left 16) (index bits) text)
insn_of (forms.MoveRelative bits) text =
    made (λ p. (insns.MoveRelative bits p.0.0 p.0.1 p.1.0, p.1.1)) (two (left 16) (value bits) text)
insn_of forms.LoadSpecial text = made (λ p. unnamed (insns.LoadSpecial p.1)) (two flags_special register text)
insn_of forms.StoreSpecial text = made (λ p. unnamed (insns.StoreSpecial p.0 p.1)) (two register special text)
insn_of (forms.Push wide) text = made (λ p. unnamed (insns.Push wide p.0 p.1)) (one (extra 16) text)
insn_of (forms.Pop wide) text = made (λ p. unnamed (insns.Pop wide p.0 p.1)) (one (extra 16) text)
insn_of forms.PushNatural text = made (λ p. unnamed (insns.PushNatural p.0 p.1)) (one (extra 16) text)
insn_of forms.PopNatural text = made (λ p. unnamed (insns.PopNatural p.0 p.1)) (one (extra 16) text)

-- the instruction that a text is, and the name in place of its immediate
unfoldable pub insn_in : List ℕ → Result (Insn × Option (List ℕ)) AsmFault
insn_in text = or_else faults.Word (form_of (word_part text).0) >>= (λ f. insn_of f (word_part text).1)
