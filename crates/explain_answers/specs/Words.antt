-- For proofs: what the words of an answer are. docs/COMMANDS.md, "Standard error".
use Rattle.std.specs.Prelude.{ℕ, Bool, true, false, ◌&&◌, ◌==◌, List, []}
use Rattle.std.specs.Prelude.{Option, Some, None, codes, length, slice_get}
use Rattle.std.specs.Str.{bytes_eq}
use Rattle.explain_answers.specs.declared.program.Program.{Program}
use Rattle.explain_answers.specs.declared.program.Program.TheVariants as programs

-- a word by its number, counted from 0; empty if there is none
abbrev pub or_empty : Option (List ℕ) → List ℕ
or_empty (Some word) = word
or_empty None = []

abbrev pub word_or_empty : List (List ℕ) → ℕ → List ℕ
word_or_empty words number = or_empty (slice_get words number)

-- the name of a program
abbrev pub program_name : Program → List ℕ
program_name programs.Ebc = codes "ebc"
program_name programs.EbcPlaces = codes "ebc_places"
program_name programs.EbcNotes = codes "ebc_notes"
program_name programs.EbcLint = codes "ebc_lint"

-- whether one of the words is a plan, whose objects may be what is at fault
abbrev pub names_objects : Program → List (List ℕ) → Bool
names_objects programs.Ebc words = bytes_eq (word_or_empty words 0) (codes "link")
names_objects programs.EbcPlaces words = false
names_objects programs.EbcNotes words = true
names_objects programs.EbcLint words = false

-- whether raw code is checked: `check CODE`
abbrev pub checks_code : Program → List (List ℕ) → Bool
checks_code programs.Ebc words = bytes_eq (word_or_empty words 0) (codes "check") && (length words == 2)
checks_code programs.EbcPlaces words = false
checks_code programs.EbcNotes words = false
checks_code programs.EbcLint words = false

-- whether an option ROM is made of an image: `rom wrap`
abbrev pub wraps : Program → List (List ℕ) → Bool
wraps programs.Ebc words = bytes_eq (word_or_empty words 0) (codes "rom") && bytes_eq (word_or_empty words 1) (codes "wrap")
wraps programs.EbcPlaces words = false
wraps programs.EbcNotes words = false
wraps programs.EbcLint words = false
