-- The label of a line, and what the line says.
use Rattle.std.proofs.Common.{◌≡◌, ℕ, List, Option, Some, None, Result, Ok, Err, Bool, true, false, cond, ap}
use Rattle.ebc_base.specs.Names.{is_name}
use Rattle.asm_text.specs.declared.fault.AsmFault.{AsmFault}
use Rattle.asm_text.specs.Faults.{both, made}
use Rattle.asm_text.specs.Lines.{Line, is_ascii, label_in, label_of, labelled, line_in, parted, statement_in, unlabelled}
use Rattle.asm_text.specs.Splits.{trim, trim_front, until, without_comment}
use Rattle.asm_text.specs.Statements.{Statement}

none_labelled : (s : Result (Option Statement) AsmFault) (l : Line) → made unlabelled s ≡ Ok l → None ≡ l.label
none_labelled (Ok s) l h = let is : unlabelled s ≡ l = cc h in ap (λ (m : Line). m.label) is
none_labelled (Err f) l h = absurd (cc h)

one_labelled : (b : Bool) (t : List ℕ) (f : AsmFault) (s : Result (Option Statement) AsmFault) (l : Line)
    → made labelled (both (cond b (Ok t) (Err f)) s) ≡ Ok l → cond b (Some t) None ≡ l.label
one_labelled true t f (Ok s) l h = let is : labelled (t, s) ≡ l = cc h in ap (λ (m : Line). m.label) is
one_labelled true t f (Err e) l h = absurd (cc h)
one_labelled false t f (Ok s) l h = absurd (cc h)
one_labelled false t f (Err e) l h = absurd (cc h)

parted_label : (text : List ℕ) (o : Option (List ℕ × List ℕ)) (l : Line) → parted text o ≡ Ok l → label_in o ≡ l.label
parted_label text None l h = none_labelled (statement_in (trim text)) l h
parted_label text (Some p) l h = one_labelled (is_name (trim_front p.0)) (trim_front p.0) _ (statement_in (trim p.1)) l h

if_ascii : (b : Bool) (text : List ℕ) (o : Option (List ℕ × List ℕ)) (f : AsmFault) (l : Line) → cond b (parted text o) (Err f) ≡ Ok l
    → cond b (label_in o) None ≡ l.label
if_ascii true text o f l h = parted_label text o l h
if_ascii false text o f l h = absurd (cc h)

-- A line that is read says the label that the line has.
pub label_read : (text : List ℕ) (l : Line) → line_in text ≡ Ok l → label_of text ≡ l.label
unfolding line_in
label_read text l h = if_ascii (is_ascii text) (without_comment text) (until 58 (without_comment text)) _ l h
