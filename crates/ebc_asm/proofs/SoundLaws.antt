-- What a source stands for is an object, where it has no more symbols and fixups than an object may have; a source of at most 1 MiB
-- has no more.
use Rattle.std.proofs.Common.{◌≡◌, ℕ, ◌+◌, ◌≤◌, List, [], ◌∷◌, ◌++◌, length, map, Result, Ok, Err, Bool, true, false, refl, sym, ap, subst}
use Rattle.std.proofs.Common.{arith}
use Rattle.std.proofs.lemmas.Bool.Decides.{nat_tests}
use Rattle.std.proofs.lemmas.List.{length-append, length-map}
use Rattle.std.proofs.lemmas.List.Elements.{All-append}
use Rattle.std.specs.Prelude.{nat_le}
use Rattle.ebc_base.specs.Steps.{◌>>=◌, passes}
use Rattle.ebc_object.specs.Objects.{IsFixup, IsObject, most}
use Rattle.ebc_object.specs.declared.object.Object.{Object}
use Rattle.asm_text.specs.Lines.{Line, line_in}
use Rattle.asm_text.specs.Splits.{lines_of}
use Rattle.asm_text.specs.declared.fault.AsmFault.{AsmFault}
use Rattle.ebc_asm.specs.Pieces.{bytes_of, ends_in_data, if_there, section_of}
use Rattle.ebc_asm.specs.Sources.{Fault, behind, global_is_defined, has_room, is_placed, label_is_new, line_behind, lines_behind, numbered}
use Rattle.ebc_asm.specs.Sources.{object_in, object_of}
use Rattle.ebc_asm.specs.Symbols.{fixups_in, global_of, names_with, start, symbol_of}
use Rattle.ebc_asm.proofs.CountLaws.{fixups_few, line_few, lines_size, names_few, names_in_lines, names_in_more, size_of}
use Rattle.ebc_asm.proofs.FitLaws.{LineFits, line_fits}
use Rattle.ebc_asm.proofs.FixupLaws.{AreFit, all_fixups, are_fixups, ascending, both_ascending, data_later}
use Rattle.ebc_asm.proofs.LineLaws.{section_more}
use Rattle.ebc_asm.proofs.LineSteps.{apart_in, known_in}
use Rattle.ebc_asm.proofs.SymbolLaws.{all_symbols, are_names, named_apart}

-- ---- one line

-- What is told of a line that passes is that the line is the one that its text says, and that it has room.
abbrev Passed : List Line → Result Line AsmFault → Line → Type 0
Passed before read l = (read ≡ Ok l) × (has_room before l ≡ true)

past : {A : Type 0} (b : Bool) (f : AsmFault) (r : Result A AsmFault) (a : A) → (passes b f >>= (λ _. r)) ≡ Ok a → (b ≡ true) × (r ≡ Ok a)
past true f r a h = (refl, h)
past false f r a h = absurd (cc h)

behind_passed : (texts : List (List ℕ)) (before : List Line) (m l : Line) → behind texts before m ≡ Ok l → Passed before (Ok m) l
unfolding behind
behind_passed texts before m l h =
    let a = past (global_is_defined texts (global_of m.statement)) _ _ l h in
    let b = past (label_is_new before m.label) _ _ l a.1 in
    let c = past (has_room before m) _ _ l b.1 in
    let d = past (is_placed before m) _ _ l c.1 in
    let e : m ≡ l = cc d.1 in
    (d.1, subst (λ x. has_room before x ≡ true) e c.0)

read_passed : (texts : List (List ℕ)) (before : List Line) (r : Result Line AsmFault) (l : Line) → (r >>= behind texts before) ≡ Ok l
    → Passed before r l
read_passed texts before (Ok m) l h = behind_passed texts before m l h
read_passed texts before (Err f) l h = absurd (cc h)

passed : (texts : List (List ℕ)) (before : List Line) (t : List ℕ) (l : Line) → line_behind texts before t ≡ Ok l
    → Passed before (line_in t) l
unfolding line_behind
passed texts before t l h = read_passed texts before (line_in t) l h

-- ---- lines

-- Lines have what is read, in sections that aren't too large.
pub record Reads (ls : List Line) : Type 0 where
  pub fit : AreFit ls
  pub code : length (section_of false false ls) ≤ most
  pub contents : length (section_of true false ls) ≤ most

-- Such lines have at most so many names.
record ReadsFew (n : ℕ) (ls : List Line) : Type 0 where
  reads : Reads ls
  few : names_in_lines ls ≤ n

fit_last : (ls : List Line) (l : Line) → AreFit ls → LineFits l → AreFit (ls ++ l ∷ [])
fit_last [] l h f = (f, tt)
fit_last (x ∷ ls) l h f = (h.0, fit_last ls l h.1 f)

within : (w d : Bool) (old bs : List ℕ) (here : List ℕ) → length old ≤ most → (d ≡ w → here ≡ old) → length here + length bs ≤ most
    → length (old ++ if_there w d bs) ≤ most
within true true old bs here h e r = let n = length-append old bs in let m = ap length (e refl) in omega (arith, n, m, r)
within true false old bs here h e r = let n = length-append old [] in omega (arith, n, h)
within false true old bs here h e r = let n = length-append old [] in omega (arith, n, h)
within false false old bs here h e r = let n = length-append old bs in let m = ap length (e refl) in omega (arith, n, m, r)

room_of : (ls : List Line) (l : Line) → has_room ls l ≡ true → length (section_of (ends_in_data false ls) false ls) + length
    (bytes_of l.statement) ≤ most
room_of ls l h = at_most (length (section_of (ends_in_data false ls) false ls) + length (bytes_of l.statement)) most h
  where
    at_most : (m n : ℕ) → nat_le m n ≡ true → m ≤ n
    at_most m n e = grind (arith, nat_tests, e)

section_within : (w : Bool) (ls : List Line) (l : Line) → length (section_of w false ls) ≤ most → has_room ls l ≡ true
    → length (section_of w false (ls ++ l ∷ [])) ≤ most
section_within w ls l h r =
    subst (λ bs. length bs ≤ most) (sym (section_more w false ls l))
    (within w (ends_in_data false ls) (section_of w false ls) (bytes_of l.statement) (section_of (ends_in_data false ls) false ls) h
    (λ e. ap (λ d. section_of d false ls) e) (room_of ls l r))

reads_more : (texts : List (List ℕ)) (before : List Line) (t : List ℕ) (l : Line) (n : ℕ) → line_behind texts before t ≡ Ok l
    → ReadsFew n before → ReadsFew (n + length t) (before ++ l ∷ [])
reads_more texts before t l n h r =
    let p = passed texts before t l h in
    let more = names_in_more before l in
    let few = line_few t l p.0 in
    let old = r.few in
    record {
      reads = record {
        fit = fit_last before l r.reads.fit (line_fits t l p.0);
        code = section_within false before l r.reads.code p.1;
        contents = section_within true before l r.reads.contents p.1;
      };
      few = omega (arith, more, few, old);
    }

reads_step : (texts : List (List ℕ)) (before : List Line) (t : List ℕ) (ts : List (List ℕ)) (ls : List Line) (n : ℕ)
    (r : Result Line AsmFault) → line_behind texts before t ≡ r
    → (numbered before r >>= (λ l. lines_behind texts (before ++ l ∷ []) ts)) ≡ Ok ls → ReadsFew n before
    → ((l : Line) → lines_behind texts (before ++ l ∷ []) ts ≡ Ok ls → ReadsFew (n + length t) (before ++ l ∷ [])
    → ReadsFew ((n + length t) + size_of ts) ls)
    → ReadsFew (n + (length t + size_of ts)) ls
reads_step texts before t ts ls n (Ok l) e h r rest =
    let whole = rest l h (reads_more texts before t l n e r) in
    let few = whole.few in
    record { reads = whole.reads; few = omega (arith, few) }
reads_step texts before t ts ls n (Err f) e h r rest = absurd (cc h)

reads_all : (texts : List (List ℕ)) (before : List Line) (ts : List (List ℕ)) (ls : List Line) (n : ℕ)
    → lines_behind texts before ts ≡ Ok ls → ReadsFew n before → ReadsFew (n + size_of ts) ls
unfolding lines_behind
reads_all texts before [] ls n h r =
    let e : before ≡ ls = cc h in
    let few = r.few in
    subst (λ x. ReadsFew (n + 0) x) e (record { reads = r.reads; few = omega (arith, few) })
reads_all texts before (t ∷ ts) ls n h r =
    reads_step texts before t ts ls n (line_behind texts before t) refl h r
    (λ l g q. reads_all texts (before ++ l ∷ []) ts ls (n + length t) g q)

-- ---- the object

-- Lines that are read make an object, where it has no more symbols and fixups than one may have.
pub is_object : (ls : List Line) → Reads ls → length (object_in ls).symbols ≤ most → length (object_in ls).fixups ≤ most
    → IsObject (object_in ls)
unfolding object_in
is_object ls r few few_fixups =
    let symbols : length (map (symbol_of ls) (names_with [] ls)) ≡ length (names_with [] ls) =
    length-map (names_with [] ls) (symbol_of ls) in
    let code = are_fixups false false 0 0 (names_with [] ls) ls [] refl r.fit (known_in [] ls) in
    let contents = are_fixups true false 0 0 (names_with [] ls) ls [] refl r.fit (known_in [] ls) in
    record {
      code_size = r.code;
      contents_size = r.contents;
      symbol_count = few;
      fixup_count = few_fixups;
      symbols = all_symbols ls (names_with [] ls) (are_names [] ls tt r.fit);
      names = named_apart ls (names_with [] ls) (apart_in [] ls tt);
      fixups = All-append (IsFixup (section_of false false ls) (section_of true false ls) (length (map (symbol_of ls) (names_with [] ls))))
          (fixups_in false start (names_with [] ls) ls) (fixups_in true start (names_with [] ls) ls)
          (all_fixups false 0 (section_of false false ls) (section_of true false ls) (names_with [] ls)
          (length (map (symbol_of ls) (names_with [] ls))) (fixups_in false start (names_with [] ls) ls)
          (sym symbols) r.code r.contents code)
          (all_fixups true 0 (section_of false false ls) (section_of true false ls) (names_with [] ls)
          (length (map (symbol_of ls) (names_with [] ls))) (fixups_in true start (names_with [] ls) ls)
          (sym symbols) r.code r.contents contents);
      ascend = both_ascending 0 (section_of false false ls) (names_with [] ls) (fixups_in false start (names_with [] ls) ls)
          (fixups_in true start (names_with [] ls) ls) code
          (data_later (section_of true false ls) (names_with [] ls) (fixups_in true start (names_with [] ls) ls) contents)
          (ascending true 0 (section_of true false ls) (names_with [] ls) (fixups_in true start (names_with [] ls) ls) contents);
    }

-- lines make no more symbols than they have names
pub symbols_few : (ls : List Line) → length (object_in ls).symbols ≤ names_in_lines ls
unfolding object_in
symbols_few ls =
    let named = names_few [] ls in
    let symbols = length-map (names_with [] ls) (symbol_of ls) in
    omega (arith, named, symbols)

-- nor more fixups
pub object_fixups_few : (ls : List Line) → length (object_in ls).fixups ≤ names_in_lines ls
unfolding object_in
object_fixups_few ls =
    let both = length-append (fixups_in false start (names_with [] ls) ls) (fixups_in true start (names_with [] ls) ls) in
    let fixups = fixups_few false 0 0 (names_with [] ls) ls in
    omega (arith, both, fixups)

nothing_read : ReadsFew 0 []
unfolding section_of
nothing_read = record { reads = record { fit = tt; code = omega arith; contents = omega arith }; few = omega arith }

all_read : (source : List ℕ) (ls : List Line) → lines_behind (lines_of source) [] (lines_of source) ≡ Ok ls
    → ReadsFew (0 + size_of (lines_of source)) ls
all_read source ls h = reads_all (lines_of source) [] (lines_of source) ls 0 h nothing_read

-- The lines of a source without a fault have what is read.
pub lines_read : (source : List ℕ) (ls : List Line) → lines_behind (lines_of source) [] (lines_of source) ≡ Ok ls → Reads ls
lines_read source ls h = (all_read source ls h).reads

-- the lines of a source that stands for an object
lines_for : (source : List ℕ) (r : Result (List Line) Fault) (o : Object) → lines_behind (lines_of source) [] (lines_of source) ≡ r
    → (r >>= (λ ls. Ok (object_in ls))) ≡ Ok o
    → (ls : List Line) × (object_in ls ≡ o) × ReadsFew (0 + size_of (lines_of source)) ls
lines_for source (Ok ls) o e h = let is : object_in ls ≡ o = cc h in (ls, is, all_read source ls e)
lines_for source (Err f) o e h = absurd (cc h)

-- What a source stands for is an object, where it has no more symbols and fixups than one may have.
pub counted : (source : List ℕ) (o : Object) → object_of source ≡ Ok o → length o.symbols ≤ most → length o.fixups ≤ most → IsObject o
unfolding object_of
counted source o h =
    let p = lines_for source (lines_behind (lines_of source) [] (lines_of source)) o refl h in
    subst (λ x. length x.symbols ≤ most → length x.fixups ≤ most → IsObject x) p.1 (is_object p.0 p.2.reads)

-- what a source of at most 1 MiB stands for is an object
pub sound : (source : List ℕ) (o : Object) → object_of source ≡ Ok o → length source ≤ most → IsObject o
unfolding object_of
sound source o h small =
    let p = lines_for source (lines_behind (lines_of source) [] (lines_of source)) o refl h in
    let size = lines_size source in
    let few = p.2.few in
    let symbols = symbols_few p.0 in
    let fixups = object_fixups_few p.0 in
    subst IsObject p.1 (is_object p.0 p.2.reads (omega (arith, size, few, symbols, small)) (omega (arith, size, few, fixups, small)))
