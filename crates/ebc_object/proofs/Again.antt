-- What is written is read again.
use Rattle.std.proofs.Common.{◌≡◌, ℕ, ◌+◌, ◌*◌, ◌<◌, ◌≤◌, true, false, cond, List, [], ◌∷◌, ◌++◌, length, get_or, drop, Ok, append_assoc}
use Rattle.std.proofs.Common.{length-append, length-drop, refl, sym, ap, subst, ◌∙◌, arith}
use Rattle.std.specs.Prelude.{All, AllPairs, codes, nat_eq, nat_le, nat_lt}
use Rattle.std.specs.Int.{w32, to_le_bytes}
use Rattle.std.specs.List.{flat_map, list_all}
use Rattle.std.proofs.lemmas.Bool.{cond_both, le-leb, lt-ltb}
use Rattle.std.proofs.lemmas.List.{append-nil}
use Rattle.std.proofs.lemmas.List.Elements.{All-head, All-tail}
use Rattle.std.proofs.lemmas.List.Sums.{sum_by-cons}
use Rattle.ebc_base.specs.Names.{is_name}
use Rattle.ebc_base.specs.Tables.{is_named}
use Rattle.ebc_base.proofs.NameText.{name_len}
use Rattle.ebc_object.specs.declared.object.Fixup.{Fixup}
use Rattle.ebc_object.specs.declared.object.Object.{Object}
use Rattle.ebc_object.specs.declared.object.Symbol.{Symbol}
use Rattle.ebc_object.specs.Files.{fixup_bytes, fixup_size, head_bytes, object_bytes, symbol_bytes, symbol_size}
use Rattle.ebc_object.specs.Objects.{AreNamedApart, EndsBefore, IsFixup, IsObject, IsSymbol, filled, most, section_bytes, width}
use Rattle.ebc_object.specs.Readings.{byte_at, count_at, ends_before, fixup_at, fixups_at, has_zeros, head_of, mark_of, name_at, bytes_at}
use Rattle.ebc_object.specs.Readings.{object_of_file}
use Rattle.ebc_object.specs.Readings.{named_at, names_of, place_at, symbol_at, symbols_at, symbols_size, u32_at}
use Rattle.ebc_object.proofs.Stands.{Stands, Stands-next, byte-again, field-again, u32-again}
use Rattle.ebc_object.proofs.Tried.{behind_from_ascend, by_zeros, from_one_to_two, new_from_apart}

-- ---- symbols

small-section : (code contents : List ℕ) (k : ℕ) → length code ≤ most → length contents ≤ most
    → length (section_bytes code contents k) ≤ most
small-section code contents k c d =
    let P : List ℕ → Type 0 = λ bs. length bs ≤ most in
    cond_both (nat_eq k 1) code (cond (nat_eq k 2) contents []) P (λ yes. c)
    (λ no. cond_both (nat_eq k 2) contents [] P (λ yes. d) (λ nor. omega arith))

name-again : (file : List ℕ) (names : List (List ℕ)) (at : ℕ) (name rest : List ℕ) → Stands file at (length name ∷ (name ++ rest))
    → is_name name ≡ true → is_named name names ≡ false → name_at file names at ≡ Ok name
unfolding name_at
name-again file names at name rest stands is new =
    let sizes = name_len name is in
    let n : byte_at file at ≡ Ok (length name) = byte-again file at (length name) (name ++ rest) stands in
    let low : nat_le 1 (length name) ≡ true = le-leb 1 (length name) sizes.0 in
    let high : nat_le (length name) 63 ≡ true = le-leb (length name) 63 sizes.1 in
    let next : Stands file (at + 1) (name ++ rest) = Stands-next file at (length name ∷ []) (name ++ rest) (at + 1) stands refl in
    let bytes : bytes_at file (at + 1) (length name) ≡ Ok name = field-again file (at + 1) (length name) name rest next refl in
    rw (n, low, high, bytes, is, new) refl

named-again :
    (file code contents : List ℕ) (at : ℕ) (s : Symbol) (rest : List ℕ) → length code ≤ most → length contents ≤ most →
    Stands file at (s.kind ∷ (s.global ∷ (to_le_bytes w32 s.offset ++ rest))) → IsSymbol code contents s
    → named_at file code contents s.name at ≡ Ok s
unfolding named_at
named-again file code contents at s rest c d stands is =
    let room : length (section_bytes code contents s.kind) ≤ most = small-section code contents s.kind c d in
    let kind : byte_at file at ≡ Ok s.kind = byte-again file at s.kind (s.global ∷ (to_le_bytes w32 s.offset ++ rest)) stands in
    let kind_is : nat_le s.kind 2 ≡ true = le-leb s.kind 2 is.kind in
    let second : Stands file (at + 1) (s.global ∷ (to_le_bytes w32 s.offset ++ rest)) =
    Stands-next file at (s.kind ∷ []) (s.global ∷ (to_le_bytes w32 s.offset ++ rest)) (at + 1) stands refl in
    let global : byte_at file (at + 1) ≡ Ok s.global = byte-again file (at + 1) s.global (to_le_bytes w32 s.offset ++ rest) second in
    let global_is : nat_le s.global 1 ≡ true = le-leb s.global 1 is.global in
    let third : Stands file (at + 2) (to_le_bytes w32 s.offset ++ rest) =
    Stands-next file at (s.kind ∷ s.global ∷ []) (to_le_bytes w32 s.offset ++ rest) (at + 2) stands refl in
    let offset : u32_at file (at + 2) ≡ Ok s.offset = u32-again file (at + 2) s.offset rest (omega (arith, is.offset)) third in
    let offset_is : nat_le s.offset (length (section_bytes code contents s.kind)) ≡ true =
    le-leb s.offset (length (section_bytes code contents s.kind)) is.offset in
    rw (kind, kind_is, global, global_is, offset, offset_is) refl

symbol-spelled : (s : Symbol) (rest : List ℕ) → symbol_bytes s ++ rest ≡ length s.name ∷
    (s.name ++ (s.kind ∷ (s.global ∷ (to_le_bytes w32 s.offset ++ rest))))
unfolding symbol_bytes
symbol-spelled s rest =
    let tags : List ℕ = s.kind ∷ s.global ∷ [] in
    ap (λ t. length s.name ∷ t) (append_assoc (s.name ++ tags) (to_le_bytes w32 s.offset) rest
    ∙ append_assoc s.name tags (to_le_bytes w32 s.offset ++ rest))

pub length-symbol : (s : Symbol) → length (symbol_bytes s) ≡ symbol_size s
unfolding symbol_bytes
length-symbol s =
    let tags : List ℕ = s.kind ∷ s.global ∷ [] in
    omega (arith, length-append (s.name ++ tags) (to_le_bytes w32 s.offset), length-append s.name tags)

symbol-again :
    (file code contents : List ℕ) (names : List (List ℕ)) (at : ℕ) (s : Symbol) (rest : List ℕ) → length code ≤ most
    → length contents ≤ most →
    Stands file at (symbol_bytes s ++ rest) → IsSymbol code contents s → is_named s.name names ≡ false
    → symbol_at file code contents names at ≡ Ok s
unfolding symbol_at
symbol-again file code contents names at s rest c d stands is new =
    let tail : List ℕ = s.kind ∷ (s.global ∷ (to_le_bytes w32 s.offset ++ rest)) in
    let first : Stands file at (length s.name ∷ (s.name ++ tail)) = subst (Stands file at) (symbol-spelled s rest) stands in
    let name : name_at file names at ≡ Ok s.name = name-again file names at s.name tail first is.name new in
    let second : Stands file (at + 1) (s.name ++ tail) = Stands-next file at (length s.name ∷ []) (s.name ++ tail) (at + 1) first refl in
    let third : Stands file (at + 1 + length s.name) tail = Stands-next file (at + 1) s.name tail (at + 1 + length s.name) second refl in
    let named : named_at file code contents s.name (at + 1 + length s.name) ≡ Ok s =
    named-again file code contents (at + 1 + length s.name) s rest c d third is in
    rw (name, named) refl

symbols-again :
    (file code contents : List ℕ) (before more : List Symbol) (at : ℕ) (rest : List ℕ) → length code ≤ most → length contents ≤ most →
    Stands file at (flat_map symbol_bytes more ++ rest) → All (IsSymbol code contents) more → AllPairs AreNamedApart (before ++ more) →
    (symbols_at (length more) file code contents before at ≡ Ok (before ++ more)) × (Stands file (at + symbols_size more) rest)
unfolding symbols_at
symbols-again file code contents before [] at rest c d stands are apart =
    (ap Ok (sym (append-nil before)), subst (λ n. Stands file n rest) (omega arith) stands)
symbols-again file code contents before (s ∷ ss) at rest c d stands are apart =
    let here : Stands file at (symbol_bytes s ++ (flat_map symbol_bytes ss ++ rest)) =
    subst (Stands file at) (append_assoc (symbol_bytes s) (flat_map symbol_bytes ss) rest) stands in
    let next : Stands file (at + symbol_size s) (flat_map symbol_bytes ss ++ rest) =
    Stands-next file at (symbol_bytes s) (flat_map symbol_bytes ss ++ rest) (at + symbol_size s) here
    (ap (λ n. at + n) (length-symbol s)) in
    let new : is_named s.name (names_of before) ≡ false = new_from_apart before ss s apart in
    let first : symbol_at file code contents (names_of before) at ≡ Ok s =
    symbol-again file code contents (names_of before) at s (flat_map symbol_bytes ss ++ rest) c d here
    (All-head (IsSymbol code contents) s ss are) new in
    let pushed : (before ++ s ∷ []) ++ ss ≡ before ++ s ∷ ss = append_assoc before (s ∷ []) ss in
    let then = symbols-again file code contents (before ++ s ∷ []) ss (at + symbol_size s) rest c d next
    (All-tail (IsSymbol code contents) s ss are) (subst (AllPairs AreNamedApart) (sym pushed) apart) in
    let size : symbols_size (s ∷ ss) ≡ symbol_size s + symbols_size ss = sum_by-cons symbol_size s ss in
    (rw first (then.0 ∙ ap Ok pushed), subst (λ n. Stands file n rest) (omega (arith, size)) then.1)

-- ---- fixups

place-again :
    (file code contents : List ℕ) (before : List Fixup) (symbols at : ℕ) (f : Fixup) (rest : List ℕ) → length code ≤ most
    → length contents ≤ most →
    Stands file at (f.section ∷ (f.kind ∷ (to_le_bytes w32 f.offset ++ rest))) → IsFixup code contents symbols f
    → list_all (ends_before f.section f.offset) before ≡ true →
    place_at file code contents before at ≡ Ok (record { section = f.section; kind = f.kind; offset = f.offset })
unfolding place_at filled
place-again file code contents before symbols at f rest c d stands is behind =
    let room : length (section_bytes code contents f.section) ≤ most = small-section code contents f.section c d in
    let ends = from_one_to_two f.section is.section in
    let section : byte_at file at ≡ Ok f.section = byte-again file at f.section (f.kind ∷ (to_le_bytes w32 f.offset ++ rest)) stands in
    let section_low : nat_le 1 f.section ≡ true = le-leb 1 f.section ends.0 in
    let section_high : nat_le f.section 2 ≡ true = le-leb f.section 2 ends.1 in
    let second : Stands file (at + 1) (f.kind ∷ (to_le_bytes w32 f.offset ++ rest)) =
    Stands-next file at (f.section ∷ []) (f.kind ∷ (to_le_bytes w32 f.offset ++ rest)) (at + 1) stands refl in
    let kind : byte_at file (at + 1) ≡ Ok f.kind = byte-again file (at + 1) f.kind (to_le_bytes w32 f.offset ++ rest) second in
    let kind_low : nat_le 1 f.kind ≡ true = le-leb 1 f.kind is.kind.0 in
    let kind_high : nat_le f.kind 5 ≡ true = le-leb f.kind 5 is.kind.1 in
    let third : Stands file (at + 2) (to_le_bytes w32 f.offset ++ rest) =
    Stands-next file at (f.section ∷ f.kind ∷ []) (to_le_bytes w32 f.offset ++ rest) (at + 2) stands refl in
    let offset : u32_at file (at + 2) ≡ Ok f.offset = u32-again file (at + 2) f.offset rest (omega (arith, is.within)) third in
    let zeros : has_zeros (section_bytes code contents f.section) f.offset (width f.kind) ≡ true =
    by_zeros (section_bytes code contents f.section) f.offset (width f.kind) is.within is.zeros in
    rw (section, section_low, section_high, kind, kind_low, kind_high, offset, zeros, behind) refl

fixup-again :
    (file code contents : List ℕ) (symbols : ℕ) (before : List Fixup) (at : ℕ) (f : Fixup) (rest : List ℕ) → length code ≤ most
    → length contents ≤ most → symbols ≤ most →
    Stands file at (fixup_bytes f ++ rest) → IsFixup code contents symbols f → list_all (ends_before f.section f.offset) before ≡ true →
    (fixup_at file code contents symbols before at ≡ Ok f) × (Stands file (at + fixup_size) rest)
unfolding fixup_at fixup_bytes
fixup-again file code contents symbols before at f rest c d few stands is behind =
    let tail : List ℕ = to_le_bytes w32 f.symbol ++ (to_le_bytes w32 f.from ++ rest) in
    let place = place-again file code contents before symbols at f tail c d stands is behind in
    let front : List ℕ = f.section ∷ f.kind ∷ (to_le_bytes w32 f.offset) in
    let second : Stands file (at + 6) tail = Stands-next file at front tail (at + 6) stands refl in
    let symbol : u32_at file (at + 6) ≡ Ok f.symbol = u32-again file (at + 6) f.symbol (to_le_bytes w32 f.from ++ rest)
    (omega (arith, is.symbol)) second in
    let symbol_is : nat_lt f.symbol symbols ≡ true = lt-ltb f.symbol symbols is.symbol in
    let third : Stands file (at + 10) (to_le_bytes w32 f.from ++ rest) =
    Stands-next file (at + 6) (to_le_bytes w32 f.symbol) (to_le_bytes w32 f.from ++ rest) (at + 10) second (omega arith) in
    let from : u32_at file (at + 10) ≡ Ok f.from = u32-again file (at + 10) f.from rest is.from third in (
      rw (place, symbol, symbol_is, from) refl,
      Stands-next file (at + 10) (to_le_bytes w32 f.from) rest (at + fixup_size) third
          (omega arith),
    )

fixups-again :
    (file code contents : List ℕ) (symbols : ℕ) (before more : List Fixup) (at : ℕ) (rest : List ℕ) → length code ≤ most
    → length contents ≤ most → symbols ≤ most →
    Stands file at (flat_map fixup_bytes more ++ rest) → All (IsFixup code contents symbols) more → AllPairs EndsBefore (before ++ more) →
    (fixups_at (length more) file code contents symbols before at ≡ Ok (before ++ more))
    × (Stands file (at + fixup_size * length more) rest)
unfolding fixups_at
fixups-again file code contents symbols before [] at rest c d few stands are ascend =
    (ap Ok (sym (append-nil before)), subst (λ n. Stands file n rest) (omega arith) stands)
fixups-again file code contents symbols before (f ∷ fs) at rest c d few stands are ascend =
    let here : Stands file at (fixup_bytes f ++ (flat_map fixup_bytes fs ++ rest)) =
    subst (Stands file at) (append_assoc (fixup_bytes f) (flat_map fixup_bytes fs) rest) stands in
    let first = fixup-again file code contents symbols before at f (flat_map fixup_bytes fs ++ rest) c d few here
    (All-head (IsFixup code contents symbols) f fs are) (behind_from_ascend before fs f ascend) in
    let one : fixup_at file code contents symbols before at ≡ Ok f = first.0 in
    let pushed : (before ++ f ∷ []) ++ fs ≡ before ++ f ∷ fs = append_assoc before (f ∷ []) fs in
    let then = fixups-again file code contents symbols (before ++ f ∷ []) fs (at + fixup_size) rest c d few first.1
    (All-tail (IsFixup code contents symbols) f fs are) (subst (AllPairs EndsBefore) (sym pushed) ascend) in
    (rw one (then.0 ∙ ap Ok pushed), subst (λ n. Stands file n rest) (omega arith) then.1)

-- ---- the head

count-again : (file : List ℕ) (at n : ℕ) (rest : List ℕ) → n ≤ most → Stands file at (to_le_bytes w32 n ++ rest) → (count_at file at ≡ Ok n)
    × (Stands file (at + 4) rest)
unfolding count_at
count-again file at n rest few stands =
    let number : u32_at file at ≡ Ok n = u32-again file at n rest (omega (arith, few)) stands in
    let test : nat_le n most ≡ true = le-leb n most few in
    (rw (number, test) refl, Stands-next file at (to_le_bytes w32 n) rest (at + 4) stands refl)

-- the bytes of the head, with what follows
abbrev headed : Object → List ℕ → List ℕ
headed o rest =
    codes "EBCO" ++ (to_le_bytes w32 1 ++ (to_le_bytes w32 (length o.code) ++ (to_le_bytes w32 (length o.contents)
    ++ (to_le_bytes w32 (length o.symbols) ++ (to_le_bytes w32 (length o.fixups) ++ rest)))))

mark-again : (file rest : List ℕ) → Stands file 0 (codes "EBCO" ++ (to_le_bytes w32 1 ++ rest)) → (mark_of file ≡ Ok tt)
    × (Stands file 8 rest)
unfolding mark_of
mark-again file rest stands =
    let mark : bytes_at file 0 4 ≡ Ok (codes "EBCO") = field-again file 0 4 (codes "EBCO") (to_le_bytes w32 1 ++ rest) stands refl in
    let second : Stands file 4 (to_le_bytes w32 1 ++ rest) = Stands-next file 0 (codes "EBCO") (to_le_bytes w32 1 ++ rest) 4 stands refl in
    let version : u32_at file 4 ≡ Ok 1 = u32-again file 4 1 rest (omega arith) second in
    (rw (mark, version) refl, Stands-next file 4 (to_le_bytes w32 1) rest 8 second refl)

head-again : (o : Object) (file rest : List ℕ) → IsObject o → Stands file 0 (headed o rest) →
    (head_of file ≡ Ok (record {
      code = length o.code;
      contents = length o.contents;
      symbols = length o.symbols;
      fixups = length o.fixups;
    })) × (Stands file 24 rest)
unfolding head_of
head-again o file rest is stands =
    let d : List ℕ = to_le_bytes w32 (length o.fixups) ++ rest in
    let c : List ℕ = to_le_bytes w32 (length o.symbols) ++ d in
    let b : List ℕ = to_le_bytes w32 (length o.contents) ++ c in
    let a : List ℕ = to_le_bytes w32 (length o.code) ++ b in
    let mark = mark-again file a stands in
    let mark_is : mark_of file ≡ Ok tt = mark.0 in
    let code = count-again file 8 (length o.code) b is.code_size mark.1 in
    let code_is : count_at file 8 ≡ Ok (length o.code) = code.0 in
    let contents = count-again file 12 (length o.contents) c is.contents_size code.1 in
    let contents_is : count_at file 12 ≡ Ok (length o.contents) = contents.0 in
    let symbols = count-again file 16 (length o.symbols) d is.symbol_count contents.1 in
    let symbols_is : count_at file 16 ≡ Ok (length o.symbols) = symbols.0 in
    let fixups = count-again file 20 (length o.fixups) rest is.fixup_count symbols.1 in
    let fixups_is : count_at file 20 ≡ Ok (length o.fixups) = fixups.0 in
    (rw (mark_is, code_is, contents_is, symbols_is, fixups_is) refl, fixups.1)

-- ---- the whole

object-spelled : (o : Object) → object_bytes o ≡ headed o (o.code
    ++ (o.contents ++ (flat_map symbol_bytes o.symbols ++ (flat_map fixup_bytes o.fixups ++ []))))
unfolding object_bytes head_bytes
object-spelled o =
    let ss : List ℕ = flat_map symbol_bytes o.symbols in
    let fs : List ℕ = flat_map fixup_bytes o.fixups in
    ap (headed o)
    (append_assoc (o.code ++ o.contents) ss fs
    ∙ (append_assoc o.code o.contents (ss ++ fs)
    ∙ ap (λ t. o.code ++ (o.contents ++ (ss ++ t))) (sym (append-nil fs))))

pub object-again : (o : Object) → IsObject o → object_of_file (object_bytes o) ≡ Ok o
unfolding object_of_file
object-again o is =
    let file : List ℕ = object_bytes o in
    let fs : List ℕ = flat_map fixup_bytes o.fixups ++ [] in
    let ss : List ℕ = flat_map symbol_bytes o.symbols ++ fs in
    let start : Stands file 0 (headed o (o.code ++ (o.contents ++ ss))) = record { within = omega arith; is = object-spelled o } in
    let head = head-again o file (o.code ++ (o.contents ++ ss)) is start in
    let code : bytes_at file 24 (length o.code) ≡ Ok o.code = field-again file 24 (length o.code) o.code (o.contents ++ ss) head.1 refl in
    let second : Stands file (24 + length o.code) (o.contents ++ ss) =
    Stands-next file 24 o.code (o.contents ++ ss) (24 + length o.code) head.1 refl in
    let contents : bytes_at file (24 + length o.code) (length o.contents) ≡ Ok o.contents =
    field-again file (24 + length o.code) (length o.contents) o.contents ss second refl in
    let third : Stands file (24 + length o.code + length o.contents) ss =
    Stands-next file (24 + length o.code) o.contents ss (24 + length o.code + length o.contents) second refl in
    let symbols = symbols-again file o.code o.contents [] o.symbols
    (24 + length o.code + length o.contents) fs is.code_size is.contents_size third is.symbols is.names in
    let fixups = fixups-again file o.code o.contents (length o.symbols) [] o.fixups
    (24 + length o.code + length o.contents + symbols_size o.symbols) [] is.code_size is.contents_size is.symbol_count symbols.1
    is.fixups is.ascend in
    let end : ℕ = 24 + length o.code + length o.contents + symbols_size o.symbols + fixup_size * length o.fixups in
    let none : length (drop end file) ≡ 0 = ap length fixups.1.is in
    let last : nat_le (length file) end ≡ true = le-leb (length file) end (omega (arith, none, length-drop end file)) in
    rw (head.0, code, contents, symbols.0, fixups.0, last) refl

-- ---- what is written

pub short-names : (o : Object) (ss : List Symbol) → ss ≡ o.symbols → IsObject o → All (λ (s : Symbol). length s.name < 256) ss
short-names o ss is object =
    subst (All (λ (s : Symbol). length s.name < 256)) (sym is)
    (λ k d within. let sizes = name_len (get_or o.symbols k d).name (object.symbols k d within).name in omega (arith, sizes.1))

-- the parts of a file, as they are appended
pub written :
    (o : Object) (start head code contents symbols fixups cs ds : List ℕ) (ss : List Symbol) (fs : List Fixup) → start ≡ [] → head ≡ start
    ++ head_bytes o →
    cs ≡ o.code → code ≡ head ++ cs → ds ≡ o.contents → contents ≡ code ++ ds → ss ≡ o.symbols → symbols ≡ contents
    ++ flat_map symbol_bytes ss →
    fs ≡ o.fixups → fixups ≡ symbols ++ flat_map fixup_bytes fs → fixups ≡ object_bytes o
unfolding object_bytes
written o start head code contents symbols fixups cs ds ss fs none first c second d third s fourth f fifth =
    rw (fifth, f, fourth, s, third, d, second, c, first, none) refl
