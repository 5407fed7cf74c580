-- An instruction of a line that is read has a spelling, and its name, if any, stands where one may.
use Rattle.std.specs.Prelude.{option_and_then}
use Rattle.link_laws.proofs.Common.{any_ok, Bool, both, false, Form, IfOk, Insn, Line, List, None, parted, Size, Some, subst, until, ◌>>=◌}
use Rattle.link_laws.proofs.Common.{AsmFault, bits_at, FormFits, InsnFits, jump_form, kept_both, kept_made, move_form, stem_form, word_part}
use Rattle.link_laws.proofs.Common.{call_form, cond_both, Directive, insn_fits, option_map, other_form, signed_form, Statement, trim_front}
use Rattle.link_laws.proofs.Common.{compare_form, directive_of, instruction, move_letters, Option, starts_point, statement_in, statement_of}
use Rattle.link_laws.proofs.Common.{compare_imm_form, Err, if◌then◌else◌, move_imm_form, move_imm_letters, relative_letter, without_comment}
use Rattle.link_laws.proofs.Common.{cond, inl, inr, name, refl, trim, true, [], ℕ, ⊤, ◌&&◌, ◌==◌, ◌∷◌, ◌≡◌}
use Rattle.link_laws.proofs.Common.{directed, form_of, insn_in, insn_of, is_empty, is_name, jump_end, line_in, Ok, or_else, Result, stem_of}
use Rattle.ebc_insn.specs.declared.Size.TheVariants as sizes
use Rattle.asm_text.specs.declared.form.Form.TheVariants as forms
use Rattle.asm_text.specs.declared.directive.Directive.TheVariants as directives
use Rattle.asm_text.specs.Lines as lines
use Rattle.asm_text.specs.Statements as statements

-- ---- the forms of mnemonics

abbrev FitsForm : Option Form → Type 0
FitsForm None = ⊤
FitsForm (Some f) = FormFits f

if_fits : (b : Bool) (o p : Option Form) → FitsForm o → FitsForm p → FitsForm (if b then o else p)
if_fits true o p h g = h
if_fits false o p h g = g

map_fits : {A : Type 0} (f : A → Form) (o : Option A) → ((a : A) → FormFits (f a)) → FitsForm (option_map f o)
map_fits f None h = tt
map_fits f (Some a) h = h a

then_fits : {A : Type 0} (f : A → Option Form) (o : Option A) → ((a : A) → FitsForm (f a)) → FitsForm (option_and_then f o)
then_fits f None h = tt
then_fits f (Some a) h = h a

-- what holds of each of the numbers of bits that a letter may name, and where it names none
bits_by : (b : ℕ) (P : Option ℕ → Type 0) → P (Some 16) → P (Some 32) → P (Some 64) → P None → P (bits_at b)
bits_by b P h g i n =
    cond_both (b == 119) _ _ P (λ e. h) (λ e. cond_both (b == 100) _ _ P (λ e. g) (λ e. cond_both (b == 113) _ _ P (λ e. i) (λ e. n)))

bits_fits : (b : ℕ) (f : ℕ → Option Form) → FitsForm (f 16) → FitsForm (f 32) → FitsForm (f 64) → FitsForm (option_and_then f (bits_at b))
bits_fits b f h g i = bits_by b (λ o. FitsForm (option_and_then f o)) h g i tt

move_fits : (size : Size) (b : ℕ) → FitsForm (option_and_then (λ bits. move_form size bits) (bits_at b))
move_fits sizes.Qword b = bits_fits b (λ bits. move_form sizes.Qword bits) (inl refl) (inr (inl refl)) (inr (inr refl))
move_fits size b = bits_fits b (λ bits. move_form size bits) (inl refl) (inr refl) tt

move_imm_fits : (size : Size) (b : ℕ) → FitsForm (option_and_then (λ bits. move_imm_form size bits) (bits_at b))
move_imm_fits sizes.Natural b = bits_fits b (λ bits. move_imm_form sizes.Natural bits) (inl refl) (inr (inl refl)) (inr (inr refl))
move_imm_fits size b = bits_fits b (λ bits. move_imm_form size bits) (inl refl, tt) (inr (inl refl), tt) (inr (inr refl), tt)

letters_fit : (s : List ℕ) → FitsForm (move_letters s)
letters_fit (s ∷ w ∷ []) = search (then_fits, move_fits)
letters_fit (s ∷ n ∷ w ∷ []) = if_fits (s == 115 && n == 110) (option_and_then signed_form (bits_at w)) None
    (bits_fits w signed_form (inl refl) (inr refl) tt) tt
letters_fit xs = tt

imm_letters_fit : (s : List ℕ) → FitsForm (move_imm_letters s)
imm_letters_fit (s ∷ w ∷ []) = search (then_fits, move_imm_fits)
imm_letters_fit xs = tt

relative_fits : (s : List ℕ) → FitsForm (relative_letter s)
relative_fits (w ∷ []) =
    bits_by w (λ o. FitsForm (option_map (λ bits. forms.MoveRelative bits) o)) (inl refl) (inr (inl refl)) (inr (inr refl)) tt
relative_fits xs = tt

jump_end_fits : (far : Bool) (s : List ℕ) → FitsForm (jump_end far s)
jump_end_fits far [] = tt
jump_end_fits far (b ∷ bs) = search (if_fits, map_fits)

jump_fits : (s : List ℕ) → FitsForm (jump_form s)
jump_fits [] = tt
jump_fits (b ∷ []) = search if_fits
jump_fits (b ∷ c ∷ rest) = search (if_fits, map_fits, then_fits, jump_end_fits)

call_fits : (s : List ℕ) → FitsForm (call_form s)
call_fits (b ∷ c ∷ rest) = search (if_fits, then_fits) depth 12
call_fits xs = tt

compare_fits : (s : List ℕ) → FitsForm (compare_form s)
compare_fits (b ∷ c ∷ rest) = search (map_fits, then_fits)
compare_fits xs = tt

compare_imm_fits : (s : List ℕ) → FitsForm (compare_imm_form s)
compare_imm_fits (b ∷ c ∷ d ∷ rest) = search (map_fits, then_fits)
compare_imm_fits xs = tt

other_fits : (stem suffix : List ℕ) → FitsForm (other_form stem suffix)
unfolding other_form
other_fits stem suffix = search (if_fits, map_fits, then_fits) depth 24

stem_fits : (stem suffix : List ℕ) → FitsForm (stem_form stem suffix)
unfolding stem_form
stem_fits stem suffix =
    search (
      if_fits,
      letters_fit suffix,
      imm_letters_fit suffix,
      relative_fits suffix,
      jump_fits suffix,
      call_fits suffix,
      compare_fits suffix,
      compare_imm_fits suffix,
      other_fits stem suffix,
    ) depth 24

-- a mnemonic names a form that there is
form_fits : (word : List ℕ) → FitsForm (form_of word)
unfolding form_of
form_fits word = stem_fits (stem_of word).0 (stem_of word).1

-- ---- instructions, statements and lines

read_form : (fault : AsmFault) (o : Option Form) (text : List ℕ) → FitsForm o → IfOk (or_else fault o >>= (λ f. insn_of f text)) InsnFits
read_form fault None text h = tt
read_form fault (Some f) text h = insn_fits f text h

text_fits : (text : List ℕ) → IfOk (insn_in text) InsnFits
unfolding insn_in
text_fits text = read_form _ (form_of (word_part text).0) (word_part text).1 (form_fits (word_part text).0)

-- a statement that is an instruction has such a one
abbrev StatementFits : Statement → Type 0
StatementFits (statements.Instruction i n) = InsnFits (i, n)
StatementFits s = ⊤

if_ok : {A E : Type 0} (Q : A → Type 0) (b : Bool) (r s : Result A E) → IfOk r Q → IfOk s Q → IfOk (cond b r s) Q
if_ok Q true r s h g = h
if_ok Q false r s h g = g

directed_fits : (d : Directive) (text : List ℕ) → IfOk (directed d text) StatementFits
directed_fits directives.Code text = if_ok StatementFits (is_empty text) (Ok statements.Code) (Err _) tt tt
directed_fits directives.Data text = if_ok StatementFits (is_empty text) (Ok statements.Data) (Err _) tt tt
directed_fits directives.Global text = kept_made (λ _. ⊤) StatementFits (λ n. statements.Global n) _ (any_ok _) (λ n h. tt)
directed_fits (directives.Numbers bits) text = if_ok StatementFits (bits == 64 && is_name text) (Ok (statements.Place text)) _ tt
    (kept_made (λ _. ⊤) StatementFits (λ vs. statements.Numbers bits vs) _ (any_ok _) (λ vs h. tt))
directed_fits directives.Thunk text = kept_made (λ _. ⊤) StatementFits (λ n. statements.Thunk n) _ (any_ok _) (λ n h. tt)
directed_fits directives.Zeros text = kept_made (λ _. ⊤) StatementFits (λ n. statements.Zeros n) _ (any_ok _) (λ n h. tt)

directive_fits : (fault : AsmFault) (o : Option Directive) (text : List ℕ) → IfOk (or_else fault o >>= (λ d. directed d text)) StatementFits
directive_fits fault None text = tt
directive_fits fault (Some d) text = directed_fits d text

statement_fits : (text : List ℕ) → IfOk (statement_of text) StatementFits
unfolding statement_of
statement_fits text =
    if_ok StatementFits (starts_point text) _ _ (directive_fits _ (directive_of (word_part text).0) (word_part text).1)
    (kept_made InsnFits StatementFits instruction (insn_in text) (text_fits text) (λ i h. h))

abbrev OptionFits : Option Statement → Type 0
OptionFits None = ⊤
OptionFits (Some s) = StatementFits s

option_fits : (text : List ℕ) → IfOk (statement_in text) OptionFits
option_fits [] = tt
option_fits (b ∷ bs) = kept_made StatementFits OptionFits Some (statement_of (b ∷ bs)) (statement_fits (b ∷ bs)) (λ s h. h)

abbrev LineFits : Line → Type 0
LineFits l = OptionFits l.statement

parted_fits : (text : List ℕ) (o : Option (List ℕ × List ℕ)) → IfOk (parted text o) LineFits
parted_fits text None = kept_made OptionFits LineFits lines.unlabelled (statement_in (trim text)) (option_fits (trim text)) (λ s h. h)
parted_fits text (Some p) =
    kept_made (λ q. ⊤ × OptionFits q.1) LineFits lines.labelled (both (name (trim_front p.0)) (statement_in (trim p.1)))
    (kept_both (λ _. ⊤) OptionFits (name (trim_front p.0)) (statement_in (trim p.1)) (any_ok _) (option_fits (trim p.1))) (λ q h. h.1)

line_reads : (text : List ℕ) → IfOk (line_in text) LineFits
unfolding line_in
line_reads text = if_ok LineFits (lines.is_ascii text) _ (Err _) (parted_fits (without_comment text) (until 58 (without_comment text))) tt

-- an instruction of a line that is read is as it is read
pub insn_is_read : (text : List ℕ) (l : Line) (i : Insn) (n : Option (List ℕ)) → line_in text ≡ Ok l
    → l.statement ≡ Some (statements.Instruction i n) → InsnFits (i, n)
insn_is_read text l i n e is = subst OptionFits is (subst (λ r. IfOk r LineFits) e (line_reads text))
