-- What is read is spelled so, and is an object.
use Rattle.std.proofs.Common.{◌≡◌, ℕ, zero, suc, ◌+◌, ◌*◌, ◌^◌, ◌≤◌, true, false, not, ◌&&◌, List, [], ◌∷◌, ◌++◌, length, drop, Ok}
use Rattle.std.proofs.Common.{append_assoc, refl, sym, ap, subst, ◌∙◌, arith}
use Rattle.std.specs.Prelude.{All, AllPairs, bytes_eq, codes, nat_eq, nat_le, nat_lt}
use Rattle.std.specs.Int.{w32, to_le_bytes}
use Rattle.std.specs.List.{flat_map, list_all}
use Rattle.std.proofs.lemmas.Bool.{and_from, and_parts, eqb-true, leb-true, lt-ltb, not-true}
use Rattle.std.proofs.lemmas.List.{append-nil, drop_all}
use Rattle.std.proofs.lemmas.List.Elements.{All-nil, All-push}
use Rattle.std.proofs.lemmas.List.Sums.{sum_by-cons}
use Rattle.std.proofs.lemmas.Slice.Eq.{bytes_eq-Decides}
use Rattle.ebc_base.specs.Steps.{passes}
use Rattle.ebc_base.specs.Names.{is_name}
use Rattle.ebc_base.specs.Tables.{is_named}
use Rattle.ebc_object.specs.declared.fault.ObjectFault.TheVariants as faults
use Rattle.ebc_object.specs.declared.fixups.Place.{Place}
use Rattle.ebc_object.specs.declared.head.Head.{Head}
use Rattle.ebc_object.specs.declared.object.Fixup.{Fixup}
use Rattle.ebc_object.specs.declared.object.Object.{Object}
use Rattle.ebc_object.specs.declared.object.Symbol.{Symbol}
use Rattle.ebc_object.specs.Files.{fixup_bytes, fixup_size, head_bytes, object_bytes, symbol_bytes, symbol_size}
use Rattle.ebc_object.specs.Objects.{AreNamedApart, EndsBefore, IsFixup, IsObject, IsSymbol, most, section_bytes, width}
use Rattle.ebc_object.specs.Readings.{Fault, byte_at, count_at, ends_before, fixup_at, fixups_at, has_zeros, head_of, mark_of, bytes_at}
use Rattle.ebc_object.specs.Readings.{object_of_file}
use Rattle.ebc_object.specs.Readings.{name_at, named_at, names_of, place_at, symbol_at, symbols_at, symbols_size, u32_at}
use Rattle.ebc_object.specs.Walks.{HasLast, is_fixup}
use Rattle.ebc_object.proofs.Stands.{AreBytes, Spells, Spells-join, Spells-none, bind-ok, byte-read, field-read, passes-ok, same_Ok}
use Rattle.ebc_object.proofs.Stands.{u32-read}
use Rattle.ebc_object.proofs.Tried.{HasLast-push, IsFixup-by, apart_push, ascend_push}

-- ---- symbols

-- A name that was read.
record NameRead (file : List ℕ) (names : List (List ℕ)) (at : ℕ) (name : List ℕ) : Type 0 where
  pub spelled : Spells file at ((length name ∷ []) ++ name) (at + 1 + length name)
  pub is : is_name name ≡ true
  pub new : is_named name names ≡ false

name-read : (file : List ℕ) (names : List (List ℕ)) (at : ℕ) (name : List ℕ) → name_at file names at ≡ Ok name → NameRead file names at name
unfolding name_at
name-read file names at name h =
    let n = bind-ok (byte_at file at) _ name h in
    let size = bind-ok (passes (nat_le 1 n.0 && nat_le n.0 63) (faults.Range, at)) _ name n.2 in
    let bytes = bind-ok (bytes_at file (at + 1) n.0) _ name size.2 in
    let form = bind-ok (passes (is_name bytes.0) (faults.Range, at + 1)) _ name bytes.2 in
    let new = bind-ok (passes (not (is_named bytes.0 names)) (faults.Order, at + 1)) _ name form.2 in
    let same : bytes.0 ≡ name = same_Ok {E = Fault} bytes.0 name new.2 in
    let field = field-read file (at + 1) n.0 bytes.0 (at + 1 + n.0) bytes.1 refl in
    let byte : Spells file at (n.0 ∷ []) (at + 1) = byte-read file at n.0 (at + 1) n.1 refl in
    let both : Spells file at ((n.0 ∷ []) ++ bytes.0) (at + 1 + n.0) =
    Spells-join file at (at + 1) (at + 1 + n.0) (n.0 ∷ []) bytes.0 byte field.0 in
    let P : ℕ → Type 0 = λ m. Spells file at ((m ∷ []) ++ bytes.0) (at + 1 + m) in
    subst (NameRead file names at) same
    (record {
      spelled = subst P (sym field.1) both;
      is = passes-ok (is_name bytes.0) (faults.Range, at + 1) form.0 form.1;
      new = not-true (is_named bytes.0 names) (passes-ok (not (is_named bytes.0 names)) (faults.Order, at + 1) new.0 new.1);
    })

-- What stands behind a name, once it was read.
record NamedRead (file code contents name : List ℕ) (at : ℕ) (s : Symbol) : Type 0 where
  pub named : s.name ≡ name
  pub tags : Spells file at (s.kind ∷ s.global ∷ []) (at + 2)
  pub number : Spells file (at + 2) (to_le_bytes w32 s.offset) (at + 6)
  pub kind : s.kind ≤ 2
  pub global : s.global ≤ 1
  pub offset : s.offset ≤ length (section_bytes code contents s.kind)

named-read : (file code contents name : List ℕ) (at : ℕ) (s : Symbol) → AreBytes file → named_at file code contents name at ≡ Ok s
    → NamedRead file code contents name at s
unfolding named_at
named-read file code contents name at s bytes h =
    let kind = bind-ok (byte_at file at) _ s h in
    let k = bind-ok (passes (nat_le kind.0 2) (faults.Range, at)) _ s kind.2 in
    let global = bind-ok (byte_at file (at + 1)) _ s k.2 in
    let g = bind-ok (passes (nat_le global.0 1) (faults.Range, at + 1)) _ s global.2 in
    let offset = bind-ok (u32_at file (at + 2)) _ s g.2 in
    let o = bind-ok (passes (nat_le offset.0 (length (section_bytes code contents kind.0))) (faults.Range, at + 2)) _ s offset.2 in
    let made : Symbol = record { name = name; kind = kind.0; global = global.0; offset = offset.0 } in
    let same : made ≡ s = same_Ok {E = Fault} made s o.2 in
    let first : Spells file at (kind.0 ∷ []) (at + 1) = byte-read file at kind.0 (at + 1) kind.1 refl in
    let second : Spells file (at + 1) (global.0 ∷ []) (at + 2) = byte-read file (at + 1) global.0 (at + 2) global.1 (omega arith) in
    let third = u32-read file (at + 2) offset.0 (at + 6) bytes offset.1 (omega arith) in
    subst (NamedRead file code contents name at) same
    (record {
      named = refl;
      tags = Spells-join file at (at + 1) (at + 2) (kind.0 ∷ []) (global.0 ∷ []) first second;
      number = third.0;
      kind = leb-true kind.0 2 (passes-ok (nat_le kind.0 2) (faults.Range, at) k.0 k.1);
      global = leb-true global.0 1 (passes-ok (nat_le global.0 1) (faults.Range, at + 1) g.0 g.1);
      offset = leb-true offset.0 (length (section_bytes code contents kind.0))
          (passes-ok (nat_le offset.0 (length (section_bytes code contents kind.0))) (faults.Range, at + 2) o.0 o.1);
    })

-- A symbol that was read.
record SymbolRead (file code contents : List ℕ) (names : List (List ℕ)) (at : ℕ) (s : Symbol) : Type 0 where
  pub spelled : Spells file at (symbol_bytes s) (at + symbol_size s)
  pub symbol : IsSymbol code contents s
  pub new : is_named s.name names ≡ false

symbol-read : (file code contents : List ℕ) (names : List (List ℕ)) (at : ℕ) (s : Symbol) → AreBytes file
    → symbol_at file code contents names at ≡ Ok s → SymbolRead file code contents names at s
unfolding symbol_at symbol_bytes
symbol-read file code contents names at s bytes h =
    let name = bind-ok (name_at file names at) _ s h in
    let first : NameRead file names at name.0 = name-read file names at name.0 name.1 in
    let then : NamedRead file code contents name.0 (at + 1 + length name.0) s =
    named-read file code contents name.0 (at + 1 + length name.0) s bytes name.2 in
    let front : NameRead file names at s.name = subst (NameRead file names at) (sym then.named) first in
    let P : List ℕ → Type 0 = λ m. NamedRead file code contents m (at + 1 + length m) s in
    let back : NamedRead file code contents s.name (at + 1 + length s.name) s = subst P (sym then.named) then in
    let middle : ℕ = at + 1 + length s.name in
    let tagged = Spells-join file at middle (middle + 2) ((length s.name ∷ []) ++ s.name)
    (s.kind ∷ s.global ∷ []) front.spelled back.tags in
    let whole = Spells-join file at (middle + 2) (middle + 6) ((length s.name ∷ []) ++ s.name ++ (s.kind ∷ s.global ∷ []))
    (to_le_bytes w32 s.offset) tagged back.number in
    let end : middle + 6 ≡ at + symbol_size s = omega arith in
    record {
      spelled = subst (Spells file at ((length s.name ∷ []) ++ s.name ++ (s.kind ∷ s.global ∷ []) ++ to_le_bytes w32 s.offset)) end whole;
      symbol = record { name = front.is; kind = back.kind; global = back.global; offset = back.offset };
      new = front.new;
    }

-- Symbols that were read behind others: what they are, how they are spelled, and that all are symbols with names of their own
-- where those before are.
pub record SymbolsRead (n : ℕ) (file code contents : List ℕ) (before : List Symbol) (at : ℕ) (all : List Symbol) : Type 0 where
  pub more : List Symbol
  pub is : all ≡ before ++ more
  pub count : length more ≡ n
  pub spelled : Spells file at (flat_map symbol_bytes more) (at + symbols_size more)
  pub symbols : All (IsSymbol code contents) before → All (IsSymbol code contents) all
  pub names : AllPairs AreNamedApart before → AllPairs AreNamedApart all

pub symbols-read : (n : ℕ) (file code contents : List ℕ) (before all : List Symbol) (at : ℕ) → AreBytes file → at ≤ length file
    → symbols_at n file code contents before at ≡ Ok all → SymbolsRead n file code contents before at all
unfolding symbols_at
symbols-read zero file code contents before all at bytes within h =
    let same : before ≡ all = same_Ok {E = Fault} before all h in
    record {
      more = [];
      is = sym same ∙ sym (append-nil before);
      count = refl;
      spelled = subst (Spells file at []) (omega arith) (Spells-none file at within);
      symbols = λ are. subst (All (IsSymbol code contents)) same are;
      names = λ apart. subst (AllPairs AreNamedApart) same apart;
    }
symbols-read (suc n) file code contents before all at bytes within h =
    let s = bind-ok (symbol_at file code contents (names_of before) at) _ all h in
    let one : SymbolRead file code contents (names_of before) at s.0 = symbol-read file code contents (names_of before) at s.0 bytes s.1 in
    let then : SymbolsRead n file code contents (before ++ s.0 ∷ []) (at + symbol_size s.0) all =
    symbols-read n file code contents (before ++ s.0 ∷ []) all (at + symbol_size s.0) bytes one.spelled.within s.2 in
    let size : symbols_size (s.0 ∷ then.more) ≡ symbol_size s.0 + symbols_size then.more = sum_by-cons symbol_size s.0 then.more in
    let end : at + symbol_size s.0 + symbols_size then.more ≡ at + symbols_size (s.0 ∷ then.more) = omega (arith, size) in
    record {
      more = s.0 ∷ then.more;
      is = then.is ∙ append_assoc before (s.0 ∷ []) then.more;
      count = omega (arith, then.count);
      spelled = subst (Spells file at (symbol_bytes s.0 ++ flat_map symbol_bytes then.more)) end
          (Spells-join file at (at + symbol_size s.0) (at + symbol_size s.0 + symbols_size then.more) (symbol_bytes s.0)
          (flat_map symbol_bytes then.more) one.spelled then.spelled);
      symbols = λ are. then.symbols (All-push (IsSymbol code contents) before s.0 are one.symbol);
      names = λ apart. then.names (apart_push before s.0 apart one.new);
    }

-- ---- fixups

-- Where a fixup fills in bytes, once it was read.
record PlaceRead (file code contents : List ℕ) (before : List Fixup) (at : ℕ) (p : Place) : Type 0 where
  pub tags : Spells file at (p.section ∷ p.kind ∷ []) (at + 2)
  pub number : Spells file (at + 2) (to_le_bytes w32 p.offset) (at + 6)
  pub section : (nat_le 1 p.section && nat_le p.section 2) ≡ true
  pub kind : (nat_le 1 p.kind && nat_le p.kind 5) ≡ true
  pub zeros : has_zeros (section_bytes code contents p.section) p.offset (width p.kind) ≡ true
  pub behind : list_all (ends_before p.section p.offset) before ≡ true

place-read : (file code contents : List ℕ) (before : List Fixup) (at : ℕ) (p : Place) → AreBytes file
    → place_at file code contents before at ≡ Ok p → PlaceRead file code contents before at p
unfolding place_at
place-read file code contents before at p bytes h =
    let section = bind-ok (byte_at file at) _ p h in
    let s = bind-ok (passes (nat_le 1 section.0 && nat_le section.0 2) (faults.Range, at)) _ p section.2 in
    let kind = bind-ok (byte_at file (at + 1)) _ p s.2 in
    let k = bind-ok (passes (nat_le 1 kind.0 && nat_le kind.0 5) (faults.Range, at + 1)) _ p kind.2 in
    let offset = bind-ok (u32_at file (at + 2)) _ p k.2 in
    let z = bind-ok (passes (has_zeros (section_bytes code contents section.0) offset.0 (width kind.0))
    (faults.Range, at + 2)) _ p offset.2 in
    let b = bind-ok (passes (list_all (ends_before section.0 offset.0) before) (faults.Order, at + 2)) _ p z.2 in
    let made : Place = record { section = section.0; kind = kind.0; offset = offset.0 } in
    let same : made ≡ p = same_Ok {E = Fault} made p b.2 in
    let first : Spells file at (section.0 ∷ []) (at + 1) = byte-read file at section.0 (at + 1) section.1 refl in
    let second : Spells file (at + 1) (kind.0 ∷ []) (at + 2) = byte-read file (at + 1) kind.0 (at + 2) kind.1 (omega arith) in
    let third = u32-read file (at + 2) offset.0 (at + 6) bytes offset.1 (omega arith) in
    subst (PlaceRead file code contents before at) same
    (record {
      tags = Spells-join file at (at + 1) (at + 2) (section.0 ∷ []) (kind.0 ∷ []) first second;
      number = third.0;
      section = passes-ok (nat_le 1 section.0 && nat_le section.0 2) (faults.Range, at) s.0 s.1;
      kind = passes-ok (nat_le 1 kind.0 && nat_le kind.0 5) (faults.Range, at + 1) k.0 k.1;
      zeros = passes-ok (has_zeros (section_bytes code contents section.0) offset.0 (width kind.0)) (faults.Range, at + 2) z.0 z.1;
      behind = passes-ok (list_all (ends_before section.0 offset.0) before) (faults.Order, at + 2) b.0 b.1;
    })

-- A fixup that was read.
pub record FixupRead (file code contents : List ℕ) (symbols : ℕ) (before : List Fixup) (at : ℕ) (f : Fixup) : Type 0 where
  pub spelled : Spells file at (fixup_bytes f) (at + fixup_size)
  pub fixup : IsFixup code contents symbols f
  pub behind : list_all (ends_before f.section f.offset) before ≡ true

pub fixup-read : (file code contents : List ℕ) (symbols : ℕ) (before : List Fixup) (at : ℕ) (f : Fixup) → AreBytes file
    → fixup_at file code contents symbols before at ≡ Ok f → FixupRead file code contents symbols before at f
unfolding fixup_at fixup_bytes is_fixup
fixup-read file code contents symbols before at f bytes h =
    let place = bind-ok (place_at file code contents before at) _ f h in
    let symbol = bind-ok (u32_at file (at + 6)) _ f place.2 in
    let s = bind-ok (passes (nat_lt symbol.0 symbols) (faults.Range, at + 6)) _ f symbol.2 in
    let from = bind-ok (u32_at file (at + 10)) _ f s.2 in
    let p : Place = place.0 in
    let made : Fixup = record { section = p.section; kind = p.kind; offset = p.offset; symbol = symbol.0; from = from.0 } in
    let same : made ≡ f = same_Ok {E = Fault} made f from.2 in
    let first : PlaceRead file code contents before at p = place-read file code contents before at p bytes place.1 in
    let second = u32-read file (at + 6) symbol.0 (at + 10) bytes symbol.1 (omega arith) in
    let third = u32-read file (at + 10) from.0 (at + fixup_size) bytes from.1 (omega arith) in
    let tags : List ℕ = p.section ∷ p.kind ∷ [] in
    let a = Spells-join file at (at + 2) (at + 6) tags (to_le_bytes w32 p.offset) first.tags first.number in
    let b = Spells-join file at (at + 6) (at + 10) (tags ++ to_le_bytes w32 p.offset) (to_le_bytes w32 symbol.0) a second.0 in
    let c = Spells-join file at (at + 10) (at + fixup_size) (tags ++ to_le_bytes w32 p.offset ++ to_le_bytes w32 symbol.0)
    (to_le_bytes w32 from.0) b third.0 in
    let section = and_parts (nat_le 1 p.section) (nat_le p.section 2) first.section in
    let kind = and_parts (nat_le 1 p.kind) (nat_le p.kind 5) first.kind in
    let named : nat_lt symbol.0 symbols ≡ true = passes-ok (nat_lt symbol.0 symbols) (faults.Range, at + 6) s.0 s.1 in
    subst (FixupRead file code contents symbols before at) same
    (record {
      spelled = c;
      fixup = IsFixup-by code contents symbols made
          (and_from (nat_le 1 p.section) _ section.0
          (and_from (nat_le p.section 2) _ section.1
          (and_from (nat_le 1 p.kind) _ kind.0
          (and_from (nat_le p.kind 5) _ kind.1
          (and_from (has_zeros (section_bytes code contents p.section) p.offset (width p.kind)) _ first.zeros
          (and_from (nat_lt symbol.0 symbols) _ named (lt-ltb from.0 (2 ^ 32) third.1)))))));
      behind = first.behind;
    })

-- and then it is the last
pub HasLast-read :
    (file code contents : List ℕ) (symbols : ℕ) (seen before after : List Fixup) (at : ℕ) (f : Fixup) → AreBytes file → seen ≡ before
    → after ≡ before ++ f ∷ [] →
    fixup_at file code contents symbols seen at ≡ Ok f → HasLast after
HasLast-read file code contents symbols seen before after at f bytes is pushed read =
    let one : FixupRead file code contents symbols seen at f = fixup-read file code contents symbols seen at f bytes read in
    subst HasLast (sym pushed) (HasLast-push before f (subst (λ fs. list_all (ends_before f.section f.offset) fs ≡ true) is one.behind))

-- Fixups that were read behind others.
pub record FixupsRead (n : ℕ) (file code contents : List ℕ) (symbols : ℕ) (before : List Fixup) (at : ℕ) (all : List Fixup) : Type 0 where
  pub more : List Fixup
  pub is : all ≡ before ++ more
  pub count : length more ≡ n
  pub spelled : Spells file at (flat_map fixup_bytes more) (at + fixup_size * n)
  pub fixups : All (IsFixup code contents symbols) before → All (IsFixup code contents symbols) all
  pub ascend : AllPairs EndsBefore before → AllPairs EndsBefore all

pub fixups-read : (n : ℕ) (file code contents : List ℕ) (symbols : ℕ) (before all : List Fixup) (at : ℕ) → AreBytes file → at ≤ length file
    → fixups_at n file code contents symbols before at ≡ Ok all → FixupsRead n file code contents symbols before at all
unfolding fixups_at
fixups-read zero file code contents symbols before all at bytes within h =
    let same : before ≡ all = same_Ok {E = Fault} before all h in
    record {
      more = [];
      is = sym same ∙ sym (append-nil before);
      count = refl;
      spelled = subst (Spells file at []) (omega arith) (Spells-none file at within);
      fixups = λ are. subst (All (IsFixup code contents symbols)) same are;
      ascend = λ pairs. subst (AllPairs EndsBefore) same pairs;
    }
fixups-read (suc n) file code contents symbols before all at bytes within h =
    let f = bind-ok (fixup_at file code contents symbols before at) _ all h in
    let one : FixupRead file code contents symbols before at f.0 = fixup-read file code contents symbols before at f.0 bytes f.1 in
    let then : FixupsRead n file code contents symbols (before ++ f.0 ∷ []) (at + fixup_size) all =
    fixups-read n file code contents symbols (before ++ f.0 ∷ []) all (at + fixup_size) bytes one.spelled.within f.2 in
    record {
      more = f.0 ∷ then.more;
      is = then.is ∙ append_assoc before (f.0 ∷ []) then.more;
      count = omega (arith, then.count);
      spelled = subst (Spells file at (fixup_bytes f.0 ++ flat_map fixup_bytes then.more)) (omega arith)
          (Spells-join file at (at + fixup_size) (at + fixup_size + fixup_size * n) (fixup_bytes f.0)
          (flat_map fixup_bytes then.more) one.spelled then.spelled);
      fixups = λ are. then.fixups (All-push (IsFixup code contents symbols) before f.0 are one.fixup);
      ascend = λ pairs. then.ascend (ascend_push before f.0 pairs one.behind);
    }

-- ---- the head

count-read : (file : List ℕ) (at n next : ℕ) → AreBytes file → count_at file at ≡ Ok n → at + 4 ≡ next
    → (Spells file at (to_le_bytes w32 n) next) × (n ≤ most)
unfolding count_at
count-read file at n next bytes h is =
    let number = bind-ok (u32_at file at) _ n h in
    let test = bind-ok (passes (nat_le number.0 most) (faults.Count, at)) _ n number.2 in
    let same : number.0 ≡ n = same_Ok {E = Fault} number.0 n test.2 in
    let here = u32-read file at number.0 next bytes number.1 is in (
      subst (λ m. Spells file at (to_le_bytes w32 m) next) same here.0,
      subst (λ m. m ≤ most) same (leb-true number.0 most (passes-ok (nat_le number.0 most) (faults.Count, at) test.0 test.1)),
    )

mark-read : (file : List ℕ) (u : Unit {0}) → AreBytes file → mark_of file ≡ Ok u → Spells file 0 (codes "EBCO" ++ to_le_bytes w32 1) 8
unfolding mark_of
mark-read file u bytes h =
    let mark = bind-ok (bytes_at file 0 4) _ u h in
    let m = bind-ok (passes (bytes_eq mark.0 (codes "EBCO")) (faults.Mark, 0)) _ u mark.2 in
    let version = bind-ok (u32_at file 4) _ u m.2 in
    let first = field-read file 0 4 mark.0 4 mark.1 refl in
    let second = u32-read file 4 version.0 8 bytes version.1 refl in
    let is : mark.0 ≡ codes "EBCO" = (bytes_eq-Decides mark.0 (codes "EBCO")).0
    (passes-ok (bytes_eq mark.0 (codes "EBCO")) (faults.Mark, 0) m.0 m.1) in
    let one : version.0 ≡ 1 = eqb-true version.0 1 (passes-ok (nat_eq version.0 1) (faults.Mark, 4) u version.2) in
    Spells-join file 0 4 8 (codes "EBCO") (to_le_bytes w32 1) (subst (λ bs. Spells file 0 bs 4) is first.0)
    (subst (λ v. Spells file 4 (to_le_bytes w32 v) 8) one second.0)

-- The head of a file that was read.
record HeadRead (file : List ℕ) (h : Head) : Type 0 where
  pub spelled :
      Spells file 0
      (codes "EBCO" ++ to_le_bytes w32 1 ++ to_le_bytes w32 h.code ++ to_le_bytes w32 h.contents ++ to_le_bytes w32 h.symbols
      ++ to_le_bytes w32 h.fixups) 24
  pub code : h.code ≤ most
  pub contents : h.contents ≤ most
  pub symbols : h.symbols ≤ most
  pub fixups : h.fixups ≤ most

head-read : (file : List ℕ) (h : Head) → AreBytes file → head_of file ≡ Ok h → HeadRead file h
unfolding head_of
head-read file h bytes read =
    let mark = bind-ok (mark_of file) _ h read in
    let code = bind-ok (count_at file 8) _ h mark.2 in
    let contents = bind-ok (count_at file 12) _ h code.2 in
    let symbols = bind-ok (count_at file 16) _ h contents.2 in
    let fixups = bind-ok (count_at file 20) _ h symbols.2 in
    let made : Head = record { code = code.0; contents = contents.0; symbols = symbols.0; fixups = fixups.0 } in
    let same : made ≡ h = same_Ok {E = Fault} made h fixups.2 in
    let front : List ℕ = codes "EBCO" ++ to_le_bytes w32 1 in
    let a = count-read file 8 code.0 12 bytes code.1 refl in
    let b = count-read file 12 contents.0 16 bytes contents.1 refl in
    let c = count-read file 16 symbols.0 20 bytes symbols.1 refl in
    let d = count-read file 20 fixups.0 24 bytes fixups.1 refl in
    let to_a = Spells-join file 0 8 12 front (to_le_bytes w32 code.0) (mark-read file mark.0 bytes mark.1) a.0 in
    let to_b = Spells-join file 0 12 16 (front ++ to_le_bytes w32 code.0) (to_le_bytes w32 contents.0) to_a b.0 in
    let to_c = Spells-join file 0 16 20 (front ++ to_le_bytes w32 code.0 ++ to_le_bytes w32 contents.0)
    (to_le_bytes w32 symbols.0) to_b c.0 in
    subst (HeadRead file) same
    (record {
      spelled = Spells-join file 0 20 24 (front ++ to_le_bytes w32 code.0 ++ to_le_bytes w32 contents.0 ++ to_le_bytes w32 symbols.0)
          (to_le_bytes w32 fixups.0) to_c d.0;
      code = a.1;
      contents = b.1;
      symbols = c.1;
      fixups = d.1;
    })

-- ---- the whole

-- the head of an object is spelled by how long its parts are
head-spelled : (o : Object) (h : Head) → length o.code ≡ h.code → length o.contents ≡ h.contents → length o.symbols ≡ h.symbols
    → length o.fixups ≡ h.fixups →
    head_bytes o ≡ codes "EBCO" ++ to_le_bytes w32 1 ++ to_le_bytes w32 h.code ++ to_le_bytes w32 h.contents ++ to_le_bytes w32 h.symbols
    ++ to_le_bytes w32 h.fixups
unfolding head_bytes
head-spelled o h a b c d = rw (a, b, c, d) refl

AllPairs-nil : {X : Type 0} (R : X → X → Type 0) → AllPairs R []
AllPairs-nil R i j d first below = absurd (omega arith)

-- what a file is read as is an object, and the file is its file
pub object-read : (file : List ℕ) (o : Object) → AreBytes file → object_of_file file ≡ Ok o → (object_bytes o ≡ file) × IsObject o
unfolding object_of_file object_bytes
object-read file o bytes read =
    let head = bind-ok (head_of file) _ o read in
    let h : Head = head.0 in
    let code = bind-ok (bytes_at file 24 h.code) _ o head.2 in
    let contents = bind-ok (bytes_at file (24 + h.code) h.contents) _ o code.2 in
    let start : ℕ = 24 + h.code + h.contents in
    let symbols = bind-ok (symbols_at h.symbols file code.0 contents.0 [] start) _ o contents.2 in
    let middle : ℕ = start + symbols_size symbols.0 in
    let fixups = bind-ok (fixups_at h.fixups file code.0 contents.0 (length symbols.0) [] middle) _ o symbols.2 in
    let end : ℕ = middle + fixup_size * h.fixups in
    let over = bind-ok (passes (nat_le (length file) end) (faults.Count, end)) _ o fixups.2 in
    let made : Object = record { code = code.0; contents = contents.0; symbols = symbols.0; fixups = fixups.0 } in
    let same : made ≡ o = same_Ok {E = Fault} made o over.2 in
    let first : HeadRead file h = head-read file h bytes head.1 in
    let code_read = field-read file 24 h.code code.0 (24 + h.code) code.1 refl in
    let contents_read = field-read file (24 + h.code) h.contents contents.0 start contents.1 refl in
    let ss : SymbolsRead h.symbols file code.0 contents.0 [] start symbols.0 =
    symbols-read h.symbols file code.0 contents.0 [] symbols.0 start bytes contents_read.0.within symbols.1 in
    let symbols_spelled : Spells file start (flat_map symbol_bytes symbols.0) middle =
    subst (λ (zs : List Symbol). Spells file start (flat_map symbol_bytes zs) (start + symbols_size zs)) (sym ss.is) ss.spelled in
    let fs : FixupsRead h.fixups file code.0 contents.0 (length symbols.0) [] middle fixups.0 =
    fixups-read h.fixups file code.0 contents.0 (length symbols.0) [] fixups.0 middle bytes symbols_spelled.within fixups.1 in
    let fixups_spelled : Spells file middle (flat_map fixup_bytes fixups.0) end =
    subst (λ (zs : List Fixup). Spells file middle (flat_map fixup_bytes zs) end) (sym fs.is) fs.spelled in
    let symbol_count : length symbols.0 ≡ h.symbols = ap length ss.is ∙ ss.count in
    let fixup_count : length fixups.0 ≡ h.fixups = ap length fs.is ∙ fs.count in
    let head_is = head-spelled made h code_read.1 contents_read.1 symbol_count fixup_count in
    let head_spelled : Spells file 0 (head_bytes made) 24 = subst (λ bs. Spells file 0 bs 24) (sym head_is) first.spelled in
    let a = Spells-join file 0 24 (24 + h.code) (head_bytes made) code.0 head_spelled code_read.0 in
    let b = Spells-join file 0 (24 + h.code) start (head_bytes made ++ code.0) contents.0 a contents_read.0 in
    let c = Spells-join file 0 start middle (head_bytes made ++ code.0 ++ contents.0) (flat_map symbol_bytes symbols.0) b symbols_spelled in
    let d = Spells-join file 0 middle end (head_bytes made ++ code.0 ++ contents.0 ++ flat_map symbol_bytes symbols.0)
    (flat_map fixup_bytes fixups.0) c fixups_spelled in
    let all : List ℕ = head_bytes made ++ code.0 ++ contents.0 ++ flat_map symbol_bytes symbols.0 ++ flat_map fixup_bytes fixups.0 in
    let nothing : drop end file ≡ [] = drop_all end file (leb-true (length file) end
    (passes-ok (nat_le (length file) end) (faults.Count, end) over.0 over.1)) in
    let whole : file ≡ all = d.is ∙ (ap (λ t. all ++ t) nothing ∙ append-nil all) in
    let object : IsObject made =
    record {
      code_size = subst (λ n. n ≤ most) (sym code_read.1) first.code;
      contents_size = subst (λ n. n ≤ most) (sym contents_read.1) first.contents;
      symbol_count = subst (λ n. n ≤ most) (sym symbol_count) first.symbols;
      fixup_count = subst (λ n. n ≤ most) (sym fixup_count) first.fixups;
      symbols = ss.symbols (All-nil (IsSymbol code.0 contents.0));
      names = ss.names (AllPairs-nil AreNamedApart);
      fixups = fs.fixups (All-nil (IsFixup code.0 contents.0 (length symbols.0)));
      ascend = fs.ascend (AllPairs-nil EndsBefore);
    } in
    (subst (λ (p : Object). object_bytes p ≡ file) same (sym whole), subst IsObject same object)
