-- What each line of a source has: its names are names, and where one is filled in the bytes are zeros.
use Rattle.std.proofs.Common.{◌≡◌, ℕ, ◌+◌, ◌-◌, ◌*◌, ◌≤◌, List, [], ◌∷◌, ◌++◌, length, replicate, Option, Some, None, Result, Ok, Err, IfOk}
use Rattle.std.proofs.Common.{IfSome, Bool, true, false, cond, refl, sym, ap, subst, ◌∙◌, arith}
use Rattle.std.proofs.lemmas.Bool.Decides.{nat_tests}
use Rattle.std.proofs.lemmas.List.{append-nil, length-append}
use Rattle.std.proofs.lemmas.List.{length-replicate}
use Rattle.std.specs.Prelude.{⊤, ◌||◌, ◌&&◌, ◌==◌, is_some, nat_eq, ℤ, pos}
use Rattle.ebc_base.specs.Names.{is_name}
use Rattle.ebc_base.specs.Steps.{◌>>=◌, or_else}
use Rattle.ebc_object.specs.Objects.{width}
use Rattle.ebc_insn.specs.declared.Insn.{Insn}
use Rattle.ebc_insn.specs.declared.Insn.TheVariants as insns
use Rattle.ebc_insn.specs.declared.Extra.{Extra}
use Rattle.ebc_insn.specs.declared.Extra.TheVariants.{Nothing, Imm, Idx}
use Rattle.ebc_insn.specs.declared.Cond.{Cond}
use Rattle.ebc_insn.specs.declared.Operand.{Operand}
use Rattle.ebc_insn.specs.declared.code.Field.TheVariants as fields
use Rattle.ebc_insn.specs.Spelling.{bytes_of, condition, field_bytes, head, int_raw, operand, optional_field, size_number, spelling}
use Rattle.ebc_insn.specs.Spelling.{width_number}
use Rattle.ebc_insn.specs.declared.Size.{Size}
use Rattle.ebc_insn.specs.declared.Size.TheVariants as sizes
use Rattle.natural_index.specs.Index.{bit}
use Rattle.natural_index.specs.declared.Index.{Index}
use Rattle.asm_text.specs.Faults.{both, made}
use Rattle.asm_text.specs.Instructions.{IsNamed, TakesName, immediate, insn_in, insn_of, one, two, unnamed}
use Rattle.asm_text.specs.Mnemonics.{form_of}
use Rattle.asm_text.specs.Names.{is_place_name, is_register}
use Rattle.asm_text.specs.Numbers.{is_numeral, number}
use Rattle.asm_text.specs.Operands.{at_register, at_value, extra, left, near_target, target, value}
use Rattle.asm_text.specs.declared.form.Form.{Form}
use Rattle.asm_text.specs.declared.form.Form.TheVariants as forms
use Rattle.asm_text.specs.Lines.{Line, line_in, parted, statement_in}
use Rattle.asm_text.specs.Lines as lines
use Rattle.asm_text.specs.Splits.{halves, is_empty, sole, trim, trim_front, until, without_comment, word_part}
use Rattle.asm_text.specs.Statements.{Statement, directed, directive_of, instruction, name, statement_of, starts_point}
use Rattle.asm_text.specs.Statements as statements
use Rattle.asm_text.specs.declared.directive.Directive.{Directive}
use Rattle.asm_text.specs.declared.directive.Directive.TheVariants as directives
use Rattle.asm_text.specs.declared.fault.AsmFault.{AsmFault}
use Rattle.ebc_asm.specs.Pieces.{Use, distance_kind, insn_use, statement_bytes, use_of}
use Rattle.ebc_asm.specs.Pieces as pieces
use Rattle.ebc_asm.specs.Symbols.{global_of}
use Rattle.ebc_base.proofs.Truth.{second_true, first_true}
use Rattle.ebc_base.proofs.Given.{ok_weaken}
use Rattle.asm_text.proofs.Fitting.{kept_made, kept_one, kept_both, any_ok}

-- ---- names

-- The text, if any, is a name.
abbrev pub NameIs : Option (List ℕ) → Type 0
NameIs None = ⊤
NameIs (Some text) = is_name text ≡ true

-- The names of a statement are names, and one in place of an immediate may stand there.
abbrev NamesFit : Statement → Type 0
NamesFit (statements.Global n) = is_name n ≡ true
NamesFit (statements.Place n) = is_name n ≡ true
NamesFit (statements.Thunk n) = is_name n ≡ true
NamesFit (statements.Instruction i n) = IsNamed i n
NamesFit s = ⊤

kept_then : {A B E : Type 0} (Q : B → Type 0) (f : A → Result B E) (r : Result A E) → ((a : A) → IfOk (f a) Q) → IfOk (r >>= f) Q
kept_then Q f (Ok a) q = q a
kept_then Q f (Err e) q = tt

if_ok : {A E : Type 0} (Q : A → Type 0) (b : Bool) (a : A) (r : Result A E) → (b ≡ true → Q a) → IfOk r Q → IfOk (cond b (Ok a) r) Q
if_ok Q true a r h g = h refl
if_ok Q false a r h g = g

both_ok : {A E : Type 0} (Q : A → Type 0) (b : Bool) (r s : Result A E) → IfOk r Q → IfOk s Q → IfOk (cond b r s) Q
both_ok Q true r s h g = h
both_ok Q false r s h g = g

name_fits : (text : List ℕ) → IfOk (name text) (λ n. is_name n ≡ true)
name_fits text = if_ok (λ n. is_name n ≡ true) (is_name text) text (Err _) (λ e. e) tt

one_name : (text : List ℕ) → IfOk (one name text) (λ n. is_name n ≡ true)
one_name text = kept_then (λ n. is_name n ≡ true) name (or_else _ (sole text)) name_fits

-- ---- names in place of immediates

-- The name, if any, stands in place of 0.
abbrev ZeroNamed : ℤ × Option (List ℕ) → Type 0
ZeroNamed (v, None) = ⊤
ZeroNamed (v, Some n) = (v ≡ pos 0) × (is_name n ≡ true)

plain_named : (bits : ℕ) (text : List ℕ) → IfOk {T = ℤ × Option (List ℕ)} (made (λ v. (v, None)) (number bits text)) ZeroNamed
plain_named bits text = kept_made (λ _. ⊤) ZeroNamed (λ v. (v, None)) (number bits text) (any_ok (number bits text)) (λ v h. tt)

value_named : (bits : ℕ) (text : List ℕ) → IfOk (value bits text) ZeroNamed
unfolding value
value_named bits text = if_ok ZeroNamed (is_name text) (pos 0, Some text) _ (λ e. (refl, e)) (plain_named bits text)

-- The name, if any, stands in place of 0 beside the register 0.
abbrev AimNamed : Bool → Bool → Operand × Extra × Option (List ℕ) → Type 0
AimNamed far relative (o, e, None) = ⊤
AimNamed far relative (o, e, Some n) =
    (o ≡ record { reg = 0; indirect = false }) × (e ≡ Imm (pos 0)) × ((far || relative) ≡ true) × (is_name n ≡ true)

at_register_named : (relative : Bool) (p : Operand × Extra) → IfOk (at_register p) (AimNamed false relative)
at_register_named relative (o, Nothing) = tt
at_register_named relative (o, Idx i) = tt
at_register_named relative (o, Imm v) = both_ok (AimNamed false relative) (o.reg == 0) (Err _) (Ok (o, Imm v, None)) tt tt

place_name : (text : List ℕ) (b : Bool) → cond b false (is_name text) ≡ true → is_name text ≡ true
place_name text true h = cc h
place_name text false h = h

near_named : (relative : Bool) (text : List ℕ) → IfOk (near_target relative text) (AimNamed false relative)
unfolding near_target
near_named relative text =
    both_ok (AimNamed false relative) (is_numeral text) _ _ (kept_made (λ _. ⊤) (AimNamed false relative) (λ v. at_value (v, None))
    (number 32 text) (any_ok (number 32 text)) (λ v h. tt))
    (if_ok (AimNamed false relative) (relative && is_place_name text) (at_value (pos 0, Some text)) _
    (λ e. (
      refl,
      refl,
      first_true relative (is_place_name text) e,
      place_name text (is_register text) (second_true relative (is_place_name text) e),
    ))
    (kept_then (AimNamed false relative) at_register (extra 32 text) (at_register_named relative)))

far_named : (relative : Bool) (v : ℤ × Option (List ℕ)) → ZeroNamed v → AimNamed true relative (at_value v)
far_named relative (v, None) h = tt
far_named relative (v, Some n) h = (refl, ap Imm h.0, refl, h.1)

target_named : (far relative : Bool) (text : List ℕ) → IfOk (target far relative text) (AimNamed far relative)
target_named true relative text = kept_made ZeroNamed (AimNamed true relative) at_value (value 64 text) (value_named 64 text)
    (far_named relative)
target_named false relative text = near_named relative text

jump_named : (c : Cond) (far relative : Bool) (p : Operand × Extra × Option (List ℕ)) → AimNamed far relative p
    → IsNamed (insns.Jump c far relative p.0 p.1) p.2
jump_named c far relative (o, e, None) h = tt
jump_named c far relative (o, e, Some n) h = ((h.0, h.1, h.2), h.3)

call_named : (far native relative : Bool) (p : Operand × Extra × Option (List ℕ)) → AimNamed far relative p
    → IsNamed (insns.Call far native relative p.0 p.1) p.2
call_named far native relative (o, e, None) h = tt
call_named far native relative (o, e, Some n) h = ((h.0, h.1, h.2), h.3)

jump8_named : (c : Cond) (v : ℤ × Option (List ℕ)) → ZeroNamed v → IsNamed (insns.Jump8 c v.0) v.1
jump8_named c (v, None) h = tt
jump8_named c (v, Some n) h = h

relative_named : (bits : ℕ) (l : Operand) (lidx : Option Index) (v : ℤ × Option (List ℕ)) → ZeroNamed v
    → IsNamed (insns.MoveRelative bits l lidx v.0) v.1
relative_named bits l lidx (v, None) h = tt
relative_named bits l lidx (v, Some n) h = h

-- The name, if any, stands in place of 0 of 64 bits for 64 bits.
abbrev WideNamed : Size → ℕ → ℤ × Option (List ℕ) → Type 0
WideNamed size bits (v, None) = ⊤
WideNamed size bits (v, Some n) = (size ≡ sizes.Qword) × (bits ≡ 64) × (v ≡ pos 0) × (is_name n ≡ true)

wide_named : (bits : ℕ) → bits ≡ 64 → (v : ℤ × Option (List ℕ)) → ZeroNamed v → WideNamed sizes.Qword bits v
wide_named bits e (v, None) h = tt
wide_named bits e (v, Some n) h = (refl, e, h.0, h.1)

unnamed_wide : (size : Size) (bits : ℕ) (text : List ℕ) → IfOk {T = ℤ × Option (List ℕ)} (made (λ v. (v, None)) (number bits text))
    (WideNamed size bits)
unnamed_wide size bits text = kept_made (λ _. ⊤) (WideNamed size bits) (λ v. (v, None)) (number bits text) (any_ok (number bits text))
    (λ v h. tt)

qword_named : (bits : ℕ) (text : List ℕ) (b : Bool) → (bits == 64) ≡ b
    → IfOk {T = ℤ × Option (List ℕ)} (cond b (value bits text) (made (λ v. (v, None)) (number bits text))) (WideNamed sizes.Qword bits)
qword_named bits text true h =
    let e : bits ≡ 64 = grind (arith, nat_tests, h) in
    ok_weaken ZeroNamed (WideNamed sizes.Qword bits) (value bits text) (value_named bits text) (wide_named bits e)
qword_named bits text false h = unnamed_wide sizes.Qword bits text

immediate_named : (size : Size) (bits : ℕ) (text : List ℕ) → IfOk (immediate size bits text) (WideNamed size bits)
immediate_named sizes.Byte bits text = unnamed_wide sizes.Byte bits text
immediate_named sizes.Word bits text = unnamed_wide sizes.Word bits text
immediate_named sizes.Dword bits text = unnamed_wide sizes.Dword bits text
immediate_named sizes.Qword bits text = qword_named bits text (bits == 64) refl
immediate_named sizes.Natural bits text = unnamed_wide sizes.Natural bits text

move_named : (size : Size) (bits : ℕ) (l : Operand) (lidx : Option Index) (v : ℤ × Option (List ℕ)) → WideNamed size bits v
    → IsNamed (insns.MoveImm size bits l lidx v.0) v.1
move_named size bits l lidx (v, None) h = tt
move_named size bits l lidx (v, Some n) h = ((h.0, h.1, h.2), h.3)

behind_both : {A B : Type 0} (Q : B → Type 0) (r : Result A AsmFault) (s : Result B AsmFault) → IfOk s Q → IfOk (both r s) (λ p. Q p.1)
behind_both Q (Ok a) (Ok b) q = q
behind_both Q (Ok a) (Err f) q = tt
behind_both Q (Err e) (Ok b) q = tt
behind_both Q (Err e) (Err f) q = tt

kept_second : {A B : Type 0} (Q : B → Type 0) (f : List ℕ → Result A AsmFault) (g : List ℕ → Result B AsmFault) (text : List ℕ)
    → ((t : List ℕ) → IfOk (g t) Q) → IfOk (two f g text) (λ p. Q p.1)
kept_second Q f g text q = kept_then (λ p. Q p.1) (λ h. both (f h.0) (g h.1)) (or_else _ (halves text))
    (λ h. behind_both Q (f h.0) (g h.1) (q h.1))

-- The name, if any, may stand in place of the immediate.
abbrev Named : Insn × Option (List ℕ) → Type 0
Named p = IsNamed p.0 p.1

no_name : {A : Type 0} (f : A → Insn) (r : Result A AsmFault) → IfOk (made (λ a. unnamed (f a)) r) Named
no_name f (Ok a) = tt
no_name f (Err e) = tt

insn_named : (f : Form) (text : List ℕ) → IfOk (insn_of f text) Named
unfolding insn_of
insn_named forms.Break text = no_name (λ v. insns.Break (int_raw 8 v)) _
insn_named (forms.Jump c far relative) text = kept_made (AimNamed far relative) Named (λ p. (insns.Jump c far relative p.0 p.1, p.2))
    (one (target far relative) text) (kept_one (AimNamed far relative) (target far relative) text (target_named far relative))
    (jump_named c far relative)
insn_named (forms.Jump8 c) text = kept_made ZeroNamed Named (λ v. (insns.Jump8 c v.0, v.1)) (one (value 8) text)
    (kept_one ZeroNamed (value 8) text (value_named 8)) (jump8_named c)
insn_named (forms.Call far native relative) text = kept_made (AimNamed far relative) Named
    (λ p. (insns.Call far native relative p.0 p.1, p.2)) (one (target far relative) text)
    (kept_one (AimNamed far relative) (target far relative) text (target_named far relative)) (call_named far native relative)
insn_named forms.Ret text = if_ok Named (is_empty text) (unnamed insns.Ret) (Err _) (λ _. tt) tt
insn_named (forms.Compare op wide) text = no_name (λ (p : ℕ × (Operand × Extra)). insns.Compare op wide p.0 p.1.0 p.1.1) _
insn_named (forms.CompareImm op wide long) text = no_name (λ (p : (Operand × Option Index)
    × ℤ). insns.CompareImm op wide p.0.0 p.0.1 long p.1) _
insn_named (forms.Arith op wide) text = no_name (λ (p : Operand × (Operand × Extra)). insns.Arith op wide p.0 p.1.0 p.1.1) _
insn_named (forms.Move size bits) text = no_name (λ (p : (Operand × Option Index)
    × (Operand × Option Index)). insns.Move size bits p.0.0 p.1.0 p.0.1 p.1.1) _
insn_named (forms.MoveSigned bits) text = no_name (λ (p : (Operand × Option Index)
    × (Operand × Extra)). insns.MoveSigned bits p.0.0 p.1.0 p.0.1 p.1.1) _
insn_named (forms.MoveImm size bits) text =
    kept_made (λ (p : (Operand × Option Index) × (ℤ × Option (List ℕ))). WideNamed size bits p.1) Named
    (λ p. (insns.MoveImm size bits p.0.0 p.0.1 p.1.0, p.1.1)) (two (left 16) (immediate size bits) text)
    (kept_second (WideNamed size bits) (left 16) (immediate size bits) text (immediate_named size bits))
    (λ p h. move_named size bits p.0.0 p.0.1 p.1 h)
insn_named (forms.MoveImmNatural bits) text = no_name (λ (p : (Operand × Option Index)
    × Index). insns.MoveImmNatural bits p.0.0 p.0.1 p.1) _
insn_named (forms.MoveRelative bits) text =
    kept_made (λ (p : (Operand × Option Index) × (ℤ × Option (List ℕ))). ZeroNamed p.1) Named
    (λ p. (insns.MoveRelative bits p.0.0 p.0.1 p.1.0, p.1.1)) (two (left 16) (value bits) text)
    (kept_second ZeroNamed (left 16) (value bits) text (value_named bits)) (λ p h. relative_named bits p.0.0 p.0.1 p.1 h)
insn_named forms.LoadSpecial text = no_name (λ (p : Unit {0} × ℕ). insns.LoadSpecial p.1) _
insn_named forms.StoreSpecial text = no_name (λ (p : ℕ × ℕ). insns.StoreSpecial p.0 p.1) _
insn_named (forms.Push wide) text = no_name (λ (p : Operand × Extra). insns.Push wide p.0 p.1) _
insn_named (forms.Pop wide) text = no_name (λ (p : Operand × Extra). insns.Pop wide p.0 p.1) _
insn_named forms.PushNatural text = no_name (λ (p : Operand × Extra). insns.PushNatural p.0 p.1) _
insn_named forms.PopNatural text = no_name (λ (p : Operand × Extra). insns.PopNatural p.0 p.1) _

text_named : (text : List ℕ) → IfOk (insn_in text) Named
unfolding insn_in
text_named text = kept_then Named (λ f. insn_of f (word_part text).1) (or_else _ (form_of (word_part text).0))
    (λ f. insn_named f (word_part text).1)

-- ---- statements and lines

directed_fits : (d : Directive) (text : List ℕ) → IfOk (directed d text) NamesFit
directed_fits directives.Code text = if_ok NamesFit (is_empty text) statements.Code (Err _) (λ _. tt) tt
directed_fits directives.Data text = if_ok NamesFit (is_empty text) statements.Data (Err _) (λ _. tt) tt
directed_fits directives.Global text = kept_made (λ n. is_name n ≡ true) NamesFit (λ n. statements.Global n) (one name text) (one_name text)
    (λ n h. h)
directed_fits (directives.Numbers bits) text =
    if_ok NamesFit (bits == 64 && is_name text) (statements.Place text) _ (λ e. second_true (bits == 64) (is_name text) e)
    (kept_made (λ _. ⊤) NamesFit (λ vs. statements.Numbers bits vs) _ (any_ok _) (λ vs h. tt))
directed_fits directives.Thunk text = kept_made (λ n. is_name n ≡ true) NamesFit (λ n. statements.Thunk n) (one name text) (one_name text)
    (λ n h. h)
directed_fits directives.Zeros text = kept_made (λ _. ⊤) NamesFit (λ n. statements.Zeros n) _ (any_ok _) (λ n h. tt)

statement_fits : (text : List ℕ) → IfOk (statement_of text) NamesFit
unfolding statement_of
statement_fits text =
    both_ok NamesFit (starts_point text) _ _ (kept_then NamesFit (λ d. directed d (word_part text).1)
    (or_else _ (directive_of (word_part text).0)) (λ d. directed_fits d (word_part text).1))
    (kept_made Named NamesFit instruction (insn_in text) (text_named text) (λ i h. h))

-- The names of what a line states are names, where it states something.
abbrev NamesAre : Option Statement → Type 0
NamesAre None = ⊤
NamesAre (Some s) = NamesFit s

statement_in_fits : (text : List ℕ) → IfOk (statement_in text) NamesAre
statement_in_fits [] = tt
statement_in_fits (b ∷ bs) = kept_made NamesFit NamesAre Some (statement_of (b ∷ bs)) (statement_fits (b ∷ bs)) (λ s h. h)

abbrev LineNames : Line → Type 0
LineNames l = NameIs l.label × NamesAre l.statement

parted_fits : (text : List ℕ) (o : Option (List ℕ × List ℕ)) → IfOk (parted text o) LineNames
parted_fits text None = kept_made NamesAre LineNames lines.unlabelled (statement_in (trim text)) (statement_in_fits (trim text))
    (λ s h. (tt, h))
parted_fits text (Some p) =
    kept_made (λ q. (is_name q.0 ≡ true) × NamesAre q.1) LineNames lines.labelled (both (name (trim_front p.0)) (statement_in (trim p.1)))
    (kept_both (λ n. is_name n ≡ true) NamesAre (name (trim_front p.0)) (statement_in (trim p.1)) (name_fits (trim_front p.0))
    (statement_in_fits (trim p.1))) (λ q h. h)

line_names : (text : List ℕ) → IfOk (line_in text) LineNames
unfolding line_in
line_names text = both_ok LineNames (lines.is_ascii text) _ (Err _)
    (parted_fits (without_comment text) (until 58 (without_comment text))) tt

-- ---- bytes

-- Zeros stand where a name is filled in.
pub record Filled (bytes : List ℕ) (u : Use) : Type 0 where
  pub front : List ℕ
  pub back : List ℕ
  pub same : bytes ≡ front ++ (replicate (width u.kind) 0 ++ back)
  pub at : length front ≡ u.at
  pub kind : (1 ≤ u.kind) × (u.kind ≤ 5)
  pub from : IfSome u.from (λ n. n ≤ length bytes)

-- The name that is used, if any, is one, and zeros stand where it is filled in.
abbrev pub UseFits : List ℕ → Option Use → Type 0
UseFits bytes None = ⊤
UseFits bytes (Some u) = (is_name u.name ≡ true) × Filled bytes u

-- zeros at the end, as many as the immediate has
tail_filled : (x y : ℕ) (f z n : List ℕ) (size kind : ℕ) (from : Option ℕ) → z ≡ replicate (width kind) 0 → size ≡ width kind → (1 ≤ kind)
    × (kind ≤ 5) → IfSome from (λ m. m ≤ length (x ∷ y ∷ f ++ z))
    → Filled (x ∷ y ∷ f ++ z) (record { name = n; kind = kind; at = length (x ∷ y ∷ f ++ z) - size; from = from })
tail_filled x y f z n size kind from e s k m =
    let whole = length-append f z in
    let some : length z ≡ size = ap length e ∙ length-replicate (width kind) 0 ∙ sym s in
    record {
      front = x ∷ y ∷ f;
      back = [];
      same = ap (λ t. x ∷ y ∷ f ++ t) (e ∙ sym (append-nil (replicate (width kind) 0)));
      at = omega (arith, whole, some);
      kind = k;
      from = m;
    }

zero_field : (b c : Bool) → field_bytes (cond b (fields.Word 0) (cond c (fields.Dword 0) (fields.Qword 0))) ≡ replicate
    (width (distance_kind (cond b 2 (cond c 4 8)))) 0
unfolding field_bytes
zero_field true c = refl
zero_field false true = refl
zero_field false false = refl

zero_size : (b c : Bool) → cond b 2 (cond c 4 8) ≡ width (distance_kind (cond b 2 (cond c 4 8)))
zero_size true c = refl
zero_size false true = refl
zero_size false false = refl

small_kind : (b c : Bool) → (1 ≤ distance_kind (cond b 2 (cond c 4 8))) × (distance_kind (cond b 2 (cond c 4 8)) ≤ 5)
small_kind true c = (omega arith, omega arith)
small_kind false true = (omega arith, omega arith)
small_kind false false = (omega arith, omega arith)

jump8_filled : (cond : Cond) (n : List ℕ) → Filled (spelling (insns.Jump8 cond (pos 0))) (insn_use (insns.Jump8 cond (pos 0)) n)
unfolding bytes_of field_bytes
jump8_filled cond n = record {
  front = (0x02 + 64 * condition cond) ∷ [];
  back = [];
  same = refl;
  at = refl;
  kind = (omega arith, omega arith);
  from = omega arith;
}

jump_filled : (c : Cond) (far relative : Bool) (o : Operand) (n : List ℕ) → (far || relative) ≡ true
    → Filled (spelling (insns.Jump c far relative o (Imm (pos 0)))) (insn_use (insns.Jump c far relative o (Imm (pos 0))) n)
unfolding bytes_of field_bytes
jump_filled c true true o n h = tail_filled (head 0x01 true true) (operand o + 16 * bit true + 64 * condition c) [] (replicate 8 0) n 8 4
    (Some 10) refl refl (omega arith, omega arith) (omega arith)
jump_filled c true false o n h = tail_filled (head 0x01 true true) (operand o + 16 * bit false + 64 * condition c) []
    (replicate 8 0) n 8 5 None refl refl (omega arith, omega arith) tt
jump_filled c false true o n h = tail_filled (head 0x01 false true) (operand o + 16 * bit true + 64 * condition c) [] (replicate 4 0) n 4 3
    (Some 6) refl refl (omega arith, omega arith) (omega arith)
jump_filled c false false o n h = cc h

call_filled : (far native relative : Bool) (o : Operand) (n : List ℕ) → (far || relative) ≡ true
    → Filled (spelling (insns.Call far native relative o (Imm (pos 0)))) (insn_use (insns.Call far native relative o (Imm (pos 0))) n)
unfolding bytes_of field_bytes
call_filled true native true o n h = tail_filled (head 0x03 true true) (operand o + 16 * bit true + 32 * bit native) []
    (replicate 8 0) n 8 4 (Some 10) refl refl (omega arith, omega arith) (omega arith)
call_filled true native false o n h = tail_filled (head 0x03 true true) (operand o + 16 * bit false + 32 * bit native) []
    (replicate 8 0) n 8 5 None refl refl (omega arith, omega arith) tt
call_filled false native true o n h = tail_filled (head 0x03 false true) (operand o + 16 * bit true + 32 * bit native) []
    (replicate 4 0) n 4 3 (Some 6) refl refl (omega arith, omega arith) (omega arith)
call_filled false native false o n h = cc h

insn_filled : (i : Insn) (n : List ℕ) → TakesName i → Filled (spelling i) (insn_use i n)
unfolding bytes_of
insn_filled (insns.Jump8 c words) n h = subst (λ w. Filled (spelling (insns.Jump8 c w)) (insn_use (insns.Jump8 c w) n)) (sym h)
    (jump8_filled c n)
insn_filled (insns.Jump c far relative o e) n h = subst (λ x. Filled (spelling (insns.Jump c far relative o x))
    (insn_use (insns.Jump c far relative o x) n)) (sym h.1) (jump_filled c far relative o n h.2)
insn_filled (insns.Call far native relative o e) n h = subst (λ x. Filled (spelling (insns.Call far native relative o x))
    (insn_use (insns.Call far native relative o x) n)) (sym h.1) (call_filled far native relative o n h.2)
insn_filled (insns.MoveImm size bits l lidx imm) n h =
    subst (λ x. Filled (spelling (insns.MoveImm size bits l lidx x)) (insn_use (insns.MoveImm size bits l lidx x) n)) (sym h.2)
    (subst (λ b. Filled (spelling (insns.MoveImm size b l lidx (pos 0))) (insn_use (insns.MoveImm size b l lidx (pos 0)) n)) (sym h.1)
    (tail_filled (0x37 + 64 * 3) (operand l + 16 * size_number size + 64 * bit (is_some lidx)) (field_bytes (optional_field 16 lidx))
    (field_bytes (fields.Qword 0)) n 8 5 None (zero_field false false) refl (omega arith, omega arith) tt))
insn_filled (insns.MoveRelative bits l lidx imm) n h =
    subst (λ x. Filled (spelling (insns.MoveRelative bits l lidx x)) (insn_use (insns.MoveRelative bits l lidx x) n)) (sym h)
    (tail_filled (0x39 + 64 * width_number bits) (operand l + 64 * bit (is_some lidx)) (field_bytes (optional_field 16 lidx))
    (field_bytes (cond (nat_eq bits 16) (fields.Word 0) (cond (nat_eq bits 32) (fields.Dword 0) (fields.Qword 0)))) n
    (cond (nat_eq bits 16) 2 (cond (nat_eq bits 32) 4 8)) (distance_kind (cond (nat_eq bits 16) 2 (cond (nat_eq bits 32) 4 8)))
    (Some (length (spelling (insns.MoveRelative bits l lidx (pos 0)))))
    (zero_field (nat_eq bits 16) (nat_eq bits 32)) (zero_size (nat_eq bits 16) (nat_eq bits 32))
    (small_kind (nat_eq bits 16) (nat_eq bits 32)) (omega arith))
insn_filled _ n h = absurd h

statement_filled : (s : Statement) → NamesFit s → UseFits (statement_bytes s) (use_of (Some s))
statement_filled statements.Code h = tt
statement_filled statements.Data h = tt
statement_filled (statements.Global n) h = tt
statement_filled (statements.Numbers bits values) h = tt
statement_filled (statements.Place n) h = (
  h,
  record {
    front = [];
    back = [];
    same = refl;
    at = refl;
    kind = (omega arith, omega arith);
    from = tt;
  },
)
statement_filled (statements.Thunk n) h = (
  h,
  record {
    front = [];
    back = replicate 4 0;
    same = refl;
    at = refl;
    kind = (omega arith, omega arith);
    from = omega arith;
  },
)
statement_filled (statements.Zeros n) h = tt
statement_filled (statements.Instruction i None) h = tt
statement_filled (statements.Instruction i (Some n)) h = (h.1, insn_filled i n h.0)

-- ---- lines

-- What each line has that is read.
pub record LineFits (l : Line) : Type 0 where
  pub label : NameIs l.label
  pub global : NameIs (global_of l.statement)
  pub used : UseFits (pieces.bytes_of l.statement) (use_of l.statement)

global_fits : (o : Option Statement) → NamesAre o → NameIs (global_of o)
global_fits None h = tt
global_fits (Some statements.Code) h = tt
global_fits (Some statements.Data) h = tt
global_fits (Some (statements.Global n)) h = h
global_fits (Some (statements.Numbers bits values)) h = tt
global_fits (Some (statements.Place n)) h = tt
global_fits (Some (statements.Thunk n)) h = tt
global_fits (Some (statements.Zeros n)) h = tt
global_fits (Some (statements.Instruction i n)) h = tt

used_fits : (o : Option Statement) → NamesAre o → UseFits (pieces.bytes_of o) (use_of o)
used_fits None h = tt
used_fits (Some s) h = statement_filled s h

pub line_fits : (text : List ℕ) (l : Line) → line_in text ≡ Ok l → LineFits l
line_fits text l e =
    let names : LineNames l = subst (λ r. IfOk r LineNames) e (line_names text) in
    record { label = names.0; global = global_fits l.statement names.1; used = used_fits l.statement names.1 }
