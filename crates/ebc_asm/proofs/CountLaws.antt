-- A source has no more names and no more fixups than bytes.
use Rattle.std.proofs.Common.{◌≡◌, ℕ, ◌+◌, ◌<◌, ◌≤◌, List, [], ◌∷◌, ◌++◌, length, take, drop, Option, Some, None, Result, Ok, Err, Bool}
use Rattle.std.proofs.Common.{true, false, cond, refl, subst, arith}
use Rattle.std.proofs.lemmas.Bool.Decides.{nat_tests}
use Rattle.std.proofs.lemmas.List.{length-append, length-drop, length-take}
use Rattle.std.specs.Prelude.{IfOk, IfSome, not, ◌==◌, nat_lt, unwrap_or, if◌then◌else◌}
use Rattle.std.specs.List.{position_or_len}
use Rattle.ebc_base.specs.Tables.{is_named}
use Rattle.asm_text.specs.Faults.{both, made}
use Rattle.asm_text.specs.Lines.{Line, is_ascii, line_in, parted, statement_in}
use Rattle.asm_text.specs.Lines as lines
use Rattle.asm_text.specs.Splits.{keep, lines_of, longer, trim, trim_back, trim_front, until, without_comment}
use Rattle.asm_text.specs.Statements.{Statement, name, statement_of}
use Rattle.asm_text.specs.Statements as statements
use Rattle.asm_text.specs.declared.fault.AsmFault.{AsmFault}
use Rattle.ebc_asm.specs.Pieces.{Use, bytes_of, data_after, use_of}
use Rattle.ebc_asm.specs.Symbols.{and_name, and_names, fixups_in, fixups_of, global_of, names_with, used_name}

-- ---- names and fixups of lines

abbrev count : {A : Type 0} → Option A → ℕ
count None = 0
count (Some x) = 1

-- how many names a line has
abbrev pub names_in_line : Line → ℕ
names_in_line l = count l.label + (count (global_of l.statement) + count (use_of l.statement))

-- how many names lines have
abbrev pub names_in_lines : List Line → ℕ
names_in_lines [] = 0
names_in_lines (l ∷ ls) = names_in_line l + names_in_lines ls

pub names_in_more : (ls : List Line) (l : Line) → names_in_lines (ls ++ l ∷ []) ≡ names_in_lines ls + names_in_line l
names_in_more [] l = omega arith
names_in_more (x ∷ ls) l = let rest = names_in_more ls l in omega (arith, rest)

name_or_not : (b : Bool) (n : List ℕ) (ns : List (List ℕ)) → length (cond b ns (ns ++ n ∷ [])) ≤ length ns + 1
name_or_not true n ns = omega arith
name_or_not false n ns = let e = length-append ns (n ∷ []) in omega (arith, e)

one_name : (o : Option (List ℕ)) (ns : List (List ℕ)) → length (and_name o ns) ≤ length ns + count o
one_name None ns = omega arith
one_name (Some n) ns = name_or_not (is_named n ns) n ns

used_once : (u : Option Use) → count (used_name u) ≡ count u
used_once None = refl
used_once (Some u) = refl

line_names : (l : Line) (ns : List (List ℕ)) → length (and_names l ns) ≤ length ns + names_in_line l
line_names l ns =
    let a = one_name l.label ns in
    let b = one_name (global_of l.statement) (and_name l.label ns) in
    let c = one_name (used_name (use_of l.statement)) (and_name (global_of l.statement) (and_name l.label ns)) in
    let d = used_once (use_of l.statement) in
    omega (arith, a, b, c, d)

-- the names of lines are no more
pub names_few : (ns : List (List ℕ)) (ls : List Line) → length (names_with ns ls) ≤ length ns + names_in_lines ls
unfolding names_with
names_few ns [] = omega arith
names_few ns (l ∷ ls) =
    let first = line_names l ns in
    let rest = names_few (and_names l ns) ls in
    omega (arith, first, rest)

fixups_once : (d : Bool) (n : ℕ) (names : List (List ℕ)) (u : Option Use) → length (fixups_of d n names u) ≡ count u
fixups_once d n names None = refl
fixups_once d n names (Some u) = refl

-- nor are the fixups
pub fixups_few : (d : Bool) (c k : ℕ) (names : List (List ℕ)) (ls : List Line)
    → length (fixups_in false (record { in_data = d; code_end = c; data_end = k }) names ls) + length
    (fixups_in true (record { in_data = d; code_end = c; data_end = k }) names ls) ≤ names_in_lines ls
unfolding fixups_in
fixups_few d c k names [] = omega arith
fixups_few true c k names (l ∷ ls) =
    let rest = fixups_few (data_after true l.statement) c (k + length (bytes_of l.statement)) names ls in
    let e = length-append (fixups_of true k names (use_of l.statement))
    (fixups_in true (record {
      in_data = data_after true l.statement;
      code_end = c;
      data_end = k + length (bytes_of l.statement);
    }) names ls) in
    let f = fixups_once true k names (use_of l.statement) in
    omega (arith, rest, e, f)
fixups_few false c k names (l ∷ ls) =
    let rest = fixups_few (data_after false l.statement) (c + length (bytes_of l.statement)) k names ls in
    let e = length-append (fixups_of false c names (use_of l.statement))
    (fixups_in false (record {
      in_data = data_after false l.statement;
      code_end = c + length (bytes_of l.statement);
      data_end = k;
    }) names ls) in
    let f = fixups_once false c names (use_of l.statement) in
    omega (arith, rest, e, f)

-- ---- the text of a line

front_short : (text : List ℕ) → length (trim_front text) ≤ length text
unfolding trim_front
front_short text = let e = length-drop (position_or_len (λ b. not (b == 32)) text) text in omega (arith, e)

keep_short : (c : Bool) (b : ℕ) → length (cond c [] (b ∷ [])) ≤ 1
keep_short true b = omega arith
keep_short false b = omega arith

kept_short : (b : ℕ) (bs : List ℕ) → length (keep b bs) ≤ length bs + 1
kept_short b [] = keep_short (b == 32) b
kept_short b (c ∷ cs) = omega arith

back_short : (text : List ℕ) → length (trim_back text) ≤ length text
unfolding trim_back
back_short [] = omega arith
back_short (b ∷ bs) = let e = back_short bs in let f = kept_short b (trim_back bs) in omega (arith, e, f)

trim_short : (text : List ℕ) → length (trim text) ≤ length text
trim_short text = let e = back_short (trim_front text) in let f = front_short text in omega (arith, e, f)

-- Both parts are in the text, and one byte more.
abbrev Parts : List ℕ → List ℕ × List ℕ → Type 0
Parts text p = (length p.0 ≤ length text) × (length p.1 < length text)

parts_or_none : (b : Bool) (n : ℕ) (text : List ℕ) → nat_lt n (length text) ≡ b
    → IfSome (if b then Some (take n text, drop (n + 1) text) else None) (Parts text)
parts_or_none true n text h =
    let less : n < length text = grind (arith, nat_tests, h) in
    let e = length-drop (n + 1) text in
    let f = length-take n text in
    (omega (arith, f), omega (arith, e, less))
parts_or_none false n text h = tt

until_short : (b : ℕ) (text : List ℕ) → IfSome (until b text) (Parts text)
unfolding until
until_short b text = parts_or_none (nat_lt (position_or_len (λ x. x == b) text) (length text))
    (position_or_len (λ x. x == b) text) text refl

first_or_all : (text : List ℕ) (o : Option (List ℕ × List ℕ)) → IfSome o (Parts text) → length (unwrap_or o (text, [])).0 ≤ length text
first_or_all text None h = omega arith
first_or_all text (Some p) h = h.0

comment_short : (text : List ℕ) → length (without_comment text) ≤ length text
comment_short text = first_or_all text (until 59 text) (until_short 59 text)

statement_once : (s : Statement) → count (global_of (Some s)) + count (use_of (Some s)) ≤ 1
statement_once statements.Code = omega arith
statement_once statements.Data = omega arith
statement_once (statements.Global n) = omega arith
statement_once (statements.Numbers bits values) = omega arith
statement_once (statements.Place n) = omega arith
statement_once (statements.Thunk n) = omega arith
statement_once (statements.Zeros n) = omega arith
statement_once (statements.Instruction i None) = omega arith
statement_once (statements.Instruction i (Some n)) = omega arith

-- A statement has no more names than this.
abbrev AtMost : ℕ → Option Statement → Type 0
AtMost n s = count (global_of s) + count (use_of s) ≤ n

some_at_most : (b : ℕ) (bs : List ℕ) (r : Result Statement AsmFault) → IfOk (made Some r) (AtMost (length (b ∷ bs)))
some_at_most b bs (Ok s) = let e = statement_once s in omega (arith, e)
some_at_most b bs (Err f) = tt

statement_in_short : (text : List ℕ) → IfOk (statement_in text) (AtMost (length text))
statement_in_short [] = omega arith
statement_in_short (b ∷ bs) = some_at_most b bs (statement_of (b ∷ bs))

-- A line has no more names than this.
abbrev LineAtMost : ℕ → Line → Type 0
LineAtMost n l = names_in_line l ≤ n

unlabelled_short : (n m : ℕ) (r : Result (Option Statement) AsmFault) → m ≤ n → IfOk r (AtMost m)
    → IfOk (made lines.unlabelled r) (LineAtMost n)
unlabelled_short n m (Ok s) le h = omega (arith, le, h)
unlabelled_short n m (Err f) le h = tt

labelled_short : (n m : ℕ) (r : Result (List ℕ) AsmFault) (s : Result (Option Statement) AsmFault) → m < n → IfOk s (AtMost m)
    → IfOk (made lines.labelled (both r s)) (LineAtMost n)
labelled_short n m (Ok a) (Ok s) le h = omega (arith, le, h)
labelled_short n m (Ok a) (Err f) le h = tt
labelled_short n m (Err e) (Ok s) le h = tt
labelled_short n m (Err e) (Err f) le h = tt

parted_short : (n : ℕ) (text : List ℕ) (o : Option (List ℕ × List ℕ)) → length text ≤ n → IfSome o (Parts text)
    → IfOk (parted text o) (LineAtMost n)
parted_short n text None le h =
    let e = trim_short text in
    unlabelled_short n (length (trim text)) (statement_in (trim text)) (omega (arith, le, e)) (statement_in_short (trim text))
parted_short n text (Some p) le h =
    let e = trim_short p.1 in
    let f : length p.1 < length text = h.1 in
    labelled_short n (length (trim p.1)) (name (trim_front p.0)) (statement_in (trim p.1)) (omega (arith, le, e, f))
    (statement_in_short (trim p.1))

or_fault : {A : Type 0} (Q : A → Type 0) (b : Bool) (r : Result A AsmFault) (f : AsmFault) → IfOk r Q → IfOk (cond b r (Err f)) Q
or_fault Q true r f h = h
or_fault Q false r f h = tt

line_short : (text : List ℕ) → IfOk (line_in text) (LineAtMost (length text))
unfolding line_in
line_short text =
    or_fault (LineAtMost (length text)) (is_ascii text) (parted (without_comment text) (until 58 (without_comment text))) _
    (parted_short (length text) (without_comment text) (until 58 (without_comment text)) (comment_short text)
    (until_short 58 (without_comment text)))

-- a line has no more names than bytes
pub line_few : (text : List ℕ) (l : Line) → line_in text ≡ Ok l → names_in_line l ≤ length text
line_few text l e = subst (λ r. IfOk r (LineAtMost (length text))) e (line_short text)

-- ---- the texts of a source

-- how many bytes texts have
abbrev pub size_of : List (List ℕ) → ℕ
size_of [] = 0
size_of (t ∷ ts) = length t + size_of ts

longer_size : (b : ℕ) (ts : List (List ℕ)) → size_of (longer b ts) ≡ size_of ts + 1
longer_size b [] = refl
longer_size b (t ∷ ts) = omega arith

line_or_not : (c : Bool) (b n : ℕ) (ts : List (List ℕ)) → size_of ts ≤ n → size_of (cond c ([] ∷ ts) (longer b ts)) ≤ n + 1
line_or_not true b n ts h = omega (arith, h)
line_or_not false b n ts h = let e = longer_size b ts in omega (arith, h, e)

-- the lines of a text are no longer than the text
pub lines_size : (text : List ℕ) → size_of (lines_of text) ≤ length text
unfolding lines_of
lines_size [] = omega arith
lines_size (b ∷ bs) = let e = line_or_not (b == 10) b (length bs) (lines_of bs) (lines_size bs) in omega (arith, e)
