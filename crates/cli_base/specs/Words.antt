-- Meaning: the words of a call, as their bytes: docs/COMMANDS.md, "Commands".
use Rattle.std.specs.Prelude.{ℕ, List, map, String, Vec, string_bytes}
use Rattle.std.specs.declared.alloc.Global.{Global}

-- the words as their bytes
abbrev pub word_bytes : Vec (String Global) Global → List (List ℕ)
word_bytes words = map string_bytes words.items
