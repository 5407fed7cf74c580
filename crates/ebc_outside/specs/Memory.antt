-- For proofs: what a folder in memory stores, seen as files and as names. This project defines it: docs/OUTSIDE.md.
use Rattle.std.specs.Prelude.{ℕ, List, map, String, Vec, string_bytes}
use Rattle.std.specs.declared.alloc.Global.{Global}
use Rattle.std.specs.BTreeMap.{BTreeMap}
use Rattle.std.specs.FinMap.{from_entries}
use Rattle.ebc_outside.specs.Files.{Files}

-- an entry of the map as a name and the bytes under it
abbrev pub file_of : String Global × Vec ℕ Global → List ℕ × List ℕ
file_of entry = (string_bytes entry.0, entry.1.items)

-- the map as files
abbrev pub files_of : BTreeMap (String Global) (Vec ℕ Global) → Files
files_of files = from_entries (map file_of files.entries)

-- the texts as names
abbrev pub names_of : Vec (String Global) Global → List (List ℕ)
names_of names = map string_bytes names.items
