-- The lines of a source one after the other: its labels, and what is read of it.
use Rattle.std.proofs.Common.{◌≡◌, ℕ, suc, ◌+◌, ◌<◌, ◌≤◌, List, [], ◌∷◌, ◌++◌, length, map, take, drop, Option, Some, None, Ok, Err, Bool}
use Rattle.std.proofs.Common.{true, false, cond, refl, sym, ap, subst, ◌∙◌, arith}
use Rattle.std.proofs.lemmas.Bool.Decides.{nat_tests}
use Rattle.std.proofs.lemmas.List.{length-append}
use Rattle.std.proofs.lemmas.List.Folds.{list_any-append}
use Rattle.std.proofs.lemmas.Option.{same_Some}
use Rattle.std.proofs.lemmas.Slice.Eq.{bytes_eq-Decides}
use Rattle.std.specs.Prelude.{bytes_eq, not, ◌==◌, ◌||◌, nat_lt, unwrap_or, if◌then◌else◌}
use Rattle.std.specs.List.{position_or_len}
use Rattle.ebc_base.specs.Tables.{is_named}
use Rattle.ebc_object.specs.declared.object.Fixup.{Fixup}
use Rattle.ebc_object.specs.declared.object.Object.{Object}
use Rattle.ebc_object.specs.declared.object.Symbol.{Symbol}
use Rattle.asm_text.specs.Lines.{Line, label_of}
use Rattle.asm_text.specs.Splits.{line_cut, lines_of, longer, until}
use Rattle.asm_text.specs.declared.fault.AsmFault.{AsmFault}
use Rattle.ebc_asm.specs.declared.assembler.Assembler.{Assembler}
use Rattle.ebc_asm.specs.declared.end.AsmEnd.{AsmEnd}
use Rattle.ebc_asm.specs.declared.end.AsmEnd.TheVariants as asm_ends
use Rattle.ebc_asm.specs.declared.end.LineEnd.{LineEnd}
use Rattle.ebc_asm.specs.declared.end.LineEnd.TheVariants as ends
use Rattle.ebc_asm.specs.declared.names.Standing.{Standing}
use Rattle.ebc_asm.specs.Held.{AreLabels, Holds, HoldsLines, TakesText, at_line, held_object, standing_in, symbols_of}
use Rattle.ebc_asm.specs.Pieces.{section_of}
use Rattle.ebc_asm.specs.Sources.{Gives, is_defined, line_behind, lines_behind, object_in, object_of}
use Rattle.ebc_asm.specs.Symbols.{and_name, fixups_in, is_some_name, names_with, start, symbol_of}
use Rattle.ebc_asm.proofs.NameSteps.{symbols_are}

-- ---- the first line, and what follows it

abbrev parts_at : ℕ → List ℕ → List ℕ × List ℕ
parts_at p text = unwrap_or (if nat_lt p (length text) then Some (take p text, drop (p + 1) text) else None) (text, [])

abbrev parts : List ℕ → List ℕ × List ℕ
parts text = parts_at (position_or_len (λ x. x == 10) text) text

abbrev in_front : ℕ → List ℕ × List ℕ → List ℕ × List ℕ
in_front b p = (b ∷ p.0, p.1)

moved : (c : Bool) (b : ℕ) (bs xs ys : List ℕ) → unwrap_or (if c then Some (b ∷ xs, ys) else None) (b ∷ bs, []) ≡ in_front b
    (unwrap_or (if c then Some (xs, ys) else None) (bs, []))
moved true b bs xs ys = refl
moved false b bs xs ys = refl

parts_later : (p b : ℕ) (bs : List ℕ) → parts_at (1 + p) (b ∷ bs) ≡ in_front b (parts_at p bs)
parts_later p b bs =
    let one : 1 + p ≡ suc p = omega arith in
    let two : suc p + 1 ≡ suc (p + 1) = omega arith in
    let test : nat_lt (suc p) (length (b ∷ bs)) ≡ nat_lt p (length bs) = grind (arith, nat_tests) in
    rw (one, two, test) (moved (nat_lt p (length bs)) b bs (take p bs) (drop (p + 1) bs))

parts_one : (c : Bool) (p b : ℕ) (bs : List ℕ) → parts_at (cond (not c) (1 + p) 0) (b ∷ bs) ≡ cond c ([], bs) (in_front b (parts_at p bs))
parts_one true p b bs = let some : nat_lt 0 (length (b ∷ bs)) ≡ true = grind (arith, nat_tests) in rw some refl
parts_one false p b bs = parts_later p b bs

parts_first : (b : ℕ) (bs : List ℕ) → parts (b ∷ bs) ≡ cond (b == 10) ([], bs) (in_front b (parts bs))
parts_first b bs = parts_one (b == 10) (position_or_len (λ x. x == 10) bs) b bs

lines_one : (c : Bool) (b : ℕ) (bs : List ℕ) (p : List ℕ × List ℕ) → (c ≡ false → longer b (lines_of bs) ≡ (b ∷ p.0) ∷ lines_of p.1)
    → cond c ([] ∷ lines_of bs) (longer b (lines_of bs)) ≡ (cond c ([], bs) (in_front b p)).0 ∷ lines_of (cond c ([], bs) (in_front b p)).1
lines_one true b bs p h = refl
lines_one false b bs p h = h refl

lines_parts : (b : ℕ) (bs : List ℕ) → lines_of (b ∷ bs) ≡ (parts (b ∷ bs)).0 ∷ lines_of (parts (b ∷ bs)).1
unfolding lines_of
lines_parts b [] = subst (λ (p : List ℕ × List ℕ). lines_of (b ∷ []) ≡ p.0 ∷ lines_of p.1) (sym (parts_first b []))
    (lines_one (b == 10) b [] (parts []) (λ e. refl))
lines_parts b (c ∷ cs) =
    subst (λ (p : List ℕ × List ℕ). lines_of (b ∷ c ∷ cs) ≡ p.0 ∷ lines_of p.1) (sym (parts_first b (c ∷ cs)))
    (lines_one (b == 10) b (c ∷ cs) (parts (c ∷ cs)) (λ e. ap (λ ts. longer b ts) (lines_parts c cs)))

shorter_one : (c : Bool) (b : ℕ) (bs : List ℕ) (p : List ℕ × List ℕ) → length p.1 ≤ length bs
    → length (cond c ([], bs) (in_front b p)).1 ≤ length bs
shorter_one true b bs p h = omega arith
shorter_one false b bs p h = h

parts_shorter : (text : List ℕ) → length (parts text).1 ≤ length text
parts_shorter [] = omega arith
parts_shorter (b ∷ bs) =
    let rest = shorter_one (b == 10) b bs (parts bs) (parts_shorter bs) in
    rw (parts_first b bs) (omega (arith, rest))

parts_less : (b : ℕ) (bs : List ℕ) → length (parts (b ∷ bs)).1 < length (b ∷ bs)
parts_less b bs =
    let rest = shorter_one (b == 10) b bs (parts bs) (parts_shorter bs) in
    rw (parts_first b bs) (omega (arith, rest))

-- a line is the first of its text, before those of what follows it
pub next_lines : (text x y : List ℕ) → line_cut text ≡ Some (x, y) → lines_of text ≡ x ∷ lines_of y
unfolding line_cut until
next_lines [] x y h = cc h
next_lines (b ∷ bs) x y h =
    let e : parts (b ∷ bs) ≡ (x, y) = same_Some _ _ h in
    lines_parts b bs ∙ ap (λ (p : List ℕ × List ℕ). p.0 ∷ lines_of p.1) e

pub next_shorter : (text x y : List ℕ) → line_cut text ≡ Some (x, y) → length y < length text
unfolding line_cut until
next_shorter [] x y h = cc h
next_shorter (b ∷ bs) x y h =
    let e : parts (b ∷ bs) ≡ (x, y) = same_Some _ _ h in
    let less = parts_less b bs in
    let n : length (parts (b ∷ bs)).1 ≡ length y = ap (λ (p : List ℕ × List ℕ). length p.1) e in
    omega (arith, less, n)

pub next_none : (text : List ℕ) → line_cut text ≡ None → lines_of text ≡ []
unfolding line_cut lines_of
next_none [] h = refl
next_none (b ∷ bs) h = cc h

-- ---- the labels

or_false : (a : Bool) → a ≡ (a || false)
or_false true = refl
or_false false = refl

or_there : (a b : Bool) → (b ≡ true → a ≡ true) → a ≡ (a || b)
or_there true b h = refl
or_there false true h = h refl
or_there false false h = refl

or_thrice : (a b c : Bool) → ((a || b) || c) ≡ (a || (b || c))
or_thrice true b c = refl
or_thrice false b c = refl

named_or_not : (c : Bool) (n name : List ℕ) (ns : List (List ℕ)) → is_named n ns ≡ c
    → is_named name (cond c ns (ns ++ n ∷ [])) ≡ (is_named name ns || bytes_eq name n)
named_or_not true n name ns h =
    or_there (is_named name ns) (bytes_eq name n) (λ e. let is : name ≡ n = (bytes_eq-Decides name n).0 e in rw is h)
named_or_not false n name ns h = list_any-append (bytes_eq name) ns (n ∷ [])
    ∙ ap (λ b. is_named name ns || b) (sym (or_false (bytes_eq name n)))

named_with : (o : Option (List ℕ)) (name : List ℕ) (ns : List (List ℕ))
    → is_named name (and_name o ns) ≡ (is_named name ns || is_some_name name o)
named_with None name ns = or_false (is_named name ns)
named_with (Some n) name ns = named_or_not (is_named n ns) n name ns refl

-- These names and the labels of what is left are the labels of texts.
abbrev pub WillBeLabels : List (List ℕ) → List ℕ → List (List ℕ) → Type 0
WillBeLabels labels rest texts = (name : List ℕ) → (is_named name labels || is_defined (lines_of rest) name) ≡ is_defined texts name

pub labels_more : (before after : List (List ℕ)) (rest text more : List ℕ) (texts : List (List ℕ)) → line_cut rest ≡ Some (text, more)
    → after ≡ and_name (label_of text) before
    → WillBeLabels before rest texts → WillBeLabels after more texts
labels_more before after rest text more texts cut e h name =
    let first : is_named name after ≡ (is_named name before || is_some_name name (label_of text)) = ap (λ ns. is_named name ns) e
    ∙ named_with (label_of text) name before in
    let lines : is_defined (lines_of rest) name ≡ (is_some_name name (label_of text) || is_defined (lines_of more) name) =
    ap (λ ts. is_defined ts name) (next_lines rest text more cut) in
    ap (λ b. b || is_defined (lines_of more) name) first
    ∙ or_thrice (is_named name before) (is_some_name name (label_of text)) (is_defined (lines_of more) name)
    ∙ ap (λ b. is_named name before || b) (sym lines)
    ∙ h name

pub labels_all : (labels : List (List ℕ)) (rest : List ℕ) (texts : List (List ℕ)) → line_cut rest ≡ None → WillBeLabels labels rest texts
    → AreLabels labels texts
labels_all labels rest texts cut h name =
    let lines : is_defined (lines_of rest) name ≡ false = ap (λ ts. is_defined ts name) (next_none rest cut) in
    or_false (is_named name labels) ∙ ap (λ b. is_named name labels || b) (sym lines) ∙ h name

-- ---- the lines

-- An assembler holds the lines before, and what is read of the rest is what is read of the whole.
pub record HoldsBefore (texts : List (List ℕ)) (rest : List ℕ) (number : ℕ) (a : Assembler) : Type 0 where
  pub before : List Line
  pub holds : Holds before a
  pub lines : lines_behind texts [] texts ≡ lines_behind texts before (lines_of rest)
  pub count : length before ≡ number

pub none_before : (source : List ℕ) (a : Assembler) → Holds [] a → HoldsBefore (lines_of source) source 0 a
none_before source a h = record { before = []; holds = h; lines = refl; count = refl }

line_ok : (texts ts : List (List ℕ)) (t : List ℕ) (before : List Line) (l : Line) → line_behind texts before t ≡ Ok l
    → lines_behind texts before (t ∷ ts) ≡ lines_behind texts (before ++ l ∷ []) ts
unfolding lines_behind
line_ok texts ts t before l e = rw e refl

line_err : (texts ts : List (List ℕ)) (t : List ℕ) (before : List Line) (f : AsmFault) → line_behind texts before t ≡ Err f
    → lines_behind texts before (t ∷ ts) ≡ Err (f, length before + 1)
unfolding lines_behind
line_err texts ts t before f e = rw e refl

pub one_more : (texts : List (List ℕ)) (rest text more : List ℕ) (n : ℕ) (a b : Assembler) (h : HoldsBefore texts rest n a)
    → line_cut rest ≡ Some (text, more)
    → TakesText (Ok tt) texts h.before text b → HoldsBefore texts more (n + 1) b
one_more texts rest text more n a b h cut t =
    let count = length-append h.before (t.0 ∷ []) in
    let c = h.count in
    record {
      before = h.before ++ t.0 ∷ [];
      holds = t.1.1;
      lines = h.lines ∙ ap (λ ts. lines_behind texts h.before ts) (next_lines rest text more cut)
          ∙ line_ok texts (lines_of more) text h.before t.0 t.1.0;
      count = omega (arith, count, c);
    }

pub refused : (texts : List (List ℕ)) (rest text more : List ℕ) (n : ℕ) (a b : Assembler) (e : LineEnd) (h : HoldsBefore texts rest n a)
    → line_cut rest ≡ Some (text, more)
    → TakesText (Err e) texts h.before text b → HoldsLines (Err (at_line (n + 1) e)) (lines_behind texts [] texts)
refused texts rest text more n a b (ends.Fault f) h cut t =
    h.lines ∙ ap (λ ts. lines_behind texts h.before ts) (next_lines rest text more cut) ∙ line_err texts (lines_of more) text h.before f t
    ∙ ap (λ k. Err (f, k + 1)) h.count
refused texts rest text more n a b ends.NoMemory h cut t = tt

behind_none : (texts : List (List ℕ)) (before : List Line) → lines_behind texts before [] ≡ Ok before
unfolding lines_behind
behind_none texts before = refl

pub all_held : (texts : List (List ℕ)) (rest : List ℕ) (n : ℕ) (a : Assembler) → line_cut rest ≡ None → HoldsBefore texts rest n a
    → (ls : List Line) × ((lines_behind texts [] texts ≡ Ok ls) × Holds ls a)
all_held texts rest n a cut h =
    (h.before, (h.lines ∙ ap (λ ts. lines_behind texts h.before ts) (next_none rest cut) ∙ behind_none texts h.before, h.holds))

-- ---- the object

object_same : (c1 c2 d1 d2 : List ℕ) (s1 s2 : List Symbol) (f1 f2 g1 g2 : List Fixup) → c1 ≡ c2 → d1 ≡ d2 → s1 ≡ s2 → f1 ≡ f2 → g1 ≡ g2
    → ◌≡◌ {A = Object} (record { code = c1; contents = d1; symbols = s1; fixups = f1 ++ g1 })
    (record { code = c2; contents = d2; symbols = s2; fixups = f2 ++ g2 })
object_same c1 c2 d1 d2 s1 s2 f1 f2 g1 g2 c d s f g = rw (c, d, s, f, g) refl

symbols_held : (ls : List Line) (table : List (List ℕ)) (places : List Standing) → table ≡ names_with [] ls
    → places ≡ map (standing_in ls) (names_with [] ls) → symbols_of table places ≡ map (symbol_of ls) (names_with [] ls)
symbols_held ls table places t p = rw (t, p) (symbols_are ls (names_with [] ls))

-- the object that an assembler has is that of the lines that it holds
pub object_held : (ls : List Line) (a : Assembler) → Holds ls a → held_object a ≡ object_in ls
unfolding object_in
object_held ls a h =
    object_same a.code.bytes.items (section_of false false ls) a.contents.bytes.items (section_of true false ls)
    (symbols_of a.names.table a.names.places.items) (map (symbol_of ls) (names_with [] ls))
    a.code.fixups.items (fixups_in false start (names_with [] ls) ls) a.contents.fixups.items (fixups_in true start (names_with [] ls) ls)
    h.code h.contents (symbols_held ls a.names.table a.names.places.items h.names h.places) h.code_fixups h.data_fixups

pub assembled : (source : List ℕ) (ls : List Line) (a : Assembler) → lines_behind (lines_of source) [] (lines_of source) ≡ Ok ls
    → Holds ls a → object_of source ≡ Ok (held_object a)
unfolding object_of
assembled source ls a e h = rw e (ap Ok (sym (object_held ls a h)))

pub not_assembled : (source : List ℕ) (e : AsmEnd) → HoldsLines (Err e) (lines_behind (lines_of source) [] (lines_of source))
    → Gives (Err e) (object_of source)
unfolding object_of
not_assembled source (asm_ends.Fault kind line) h = rw h refl
not_assembled source asm_ends.NoMemory h = tt
