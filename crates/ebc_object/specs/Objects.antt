-- Meaning: what an object is: code and data, the symbols that stand in them or are looked for elsewhere, and the fixups that
-- a linker fills in. docs/OBJECTS.md, "What an object has".
use Rattle.std.specs.Prelude.{◌≡◌, ◌≢◌, ◌⊎◌, ℕ, ◌+◌, ◌^◌, ◌<◌, ◌≤◌, List, [], length, take, drop, true, All, AllPairs, nat_eq}
use Rattle.std.specs.Prelude.{if◌then◌else◌}
use Rattle.ebc_base.specs.Names.{is_name}
use Rattle.ebc_object.specs.declared.object.Object.{Object}
use Rattle.ebc_object.specs.declared.object.Symbol.{Symbol}
use Rattle.ebc_object.specs.declared.object.Fixup.{Fixup}

-- the most bytes of code and of data, the most symbols and the most fixups: 1 MiB
abbrev pub most : ℕ
most = 2 ^ 20

-- the bytes of a section by its number: 1 is the code, 2 the data, and any other has none
abbrev pub section_bytes : List ℕ → List ℕ → ℕ → List ℕ
section_bytes code contents section =
    if nat_eq section 1 then code else (if nat_eq section 2 then contents else [])

-- how many bytes a fixup of a kind fills in: words8, rel16, rel32, rel64 and abs64 are 1 to 5
abbrev pub width : ℕ → ℕ
width kind = if nat_eq kind 1 then 1 else (if nat_eq kind 2 then 2 else (if nat_eq kind 3 then 4 else 8))

-- the bytes that a fixup fills in
unfoldable pub filled : List ℕ → List ℕ → Fixup → List ℕ
filled code contents f = take (width f.kind) (drop f.offset (section_bytes code contents f.section))

-- A symbol is undefined, in the code or in the data (0, 1, 2), local or global (0, 1), and stands in its section or at its
-- end; one that is undefined stands at 0.
pub record IsSymbol (code contents : List ℕ) (s : Symbol) : Type 0 where
  pub name : is_name s.name ≡ true
  pub kind : s.kind ≤ 2
  pub global : s.global ≤ 1
  pub offset : s.offset ≤ length (section_bytes code contents s.kind)

-- A fixup fills in bytes of the code or of the data, which are zeros, by one of so many symbols.
pub record IsFixup (code contents : List ℕ) (symbols : ℕ) (f : Fixup) : Type 0 where
  pub section : (f.section ≡ 1) ⊎ (f.section ≡ 2)
  pub kind : (1 ≤ f.kind) × (f.kind ≤ 5)
  pub within : f.offset + width f.kind ≤ length (section_bytes code contents f.section)
  pub zeros : All (λ b. b ≡ 0) (filled code contents f)
  pub symbol : f.symbol < symbols
  pub from : f.from < 2 ^ 32

-- two symbols have two names
abbrev pub AreNamedApart : Symbol → Symbol → Type 0
AreNamedApart s t = s.name ≢ t.name

-- the bytes of one fixup end before those of another begin, or in a section before
abbrev pub EndsBefore : Fixup → Fixup → Type 0
EndsBefore f g = (f.section < g.section) ⊎ ((f.section ≡ g.section) × (f.offset + width f.kind ≤ g.offset))

-- An object: no part of it is too large, each symbol and each fixup is one, no two symbols share a name, and fixups
-- ascend by section and offset and share no byte.
pub record IsObject (o : Object) : Type 0 where
  pub code_size : length o.code ≤ most
  pub contents_size : length o.contents ≤ most
  pub symbol_count : length o.symbols ≤ most
  pub fixup_count : length o.fixups ≤ most
  pub symbols : All (IsSymbol o.code o.contents) o.symbols
  pub names : AllPairs AreNamedApart o.symbols
  pub fixups : All (IsFixup o.code o.contents (length o.symbols)) o.fixups
  pub ascend : AllPairs EndsBefore o.fixups
