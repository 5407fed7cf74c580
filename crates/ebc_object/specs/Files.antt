-- Meaning: the file of an object, byte by byte. docs/OBJECTS.md, "The file". A number has its lowest byte first.
use Rattle.std.specs.Prelude.{ℕ, ◌+◌, List, [], ◌∷◌, ◌++◌, length, codes}
use Rattle.std.specs.Int.{w32, to_le_bytes}
use Rattle.std.specs.List.{flat_map}
use Rattle.ebc_object.specs.declared.object.Object.{Object}
use Rattle.ebc_object.specs.declared.object.Symbol.{Symbol}
use Rattle.ebc_object.specs.declared.object.Fixup.{Fixup}

-- the mark, version 1, and the lengths of the four lists
unfoldable pub head_bytes : Object → List ℕ
head_bytes o =
    codes "EBCO" ++ to_le_bytes w32 1 ++ to_le_bytes w32 (length o.code) ++ to_le_bytes w32 (length o.contents)
    ++ to_le_bytes w32 (length o.symbols) ++ to_le_bytes w32 (length o.fixups)

unfoldable pub symbol_bytes : Symbol → List ℕ
symbol_bytes s = (length s.name ∷ []) ++ s.name ++ (s.kind ∷ s.global ∷ []) ++ to_le_bytes w32 s.offset

unfoldable pub fixup_bytes : Fixup → List ℕ
fixup_bytes f =
    (f.section ∷ f.kind ∷ []) ++ to_le_bytes w32 f.offset ++ to_le_bytes w32 f.symbol ++ to_le_bytes w32 f.from

unfoldable pub object_bytes : Object → List ℕ
object_bytes o = head_bytes o ++ o.code ++ o.contents ++ flat_map symbol_bytes o.symbols ++ flat_map fixup_bytes o.fixups

-- how many bytes a symbol takes, and how many each fixup
abbrev pub symbol_size : Symbol → ℕ
symbol_size s = 7 + length s.name

abbrev pub fixup_size : ℕ
fixup_size = 14
