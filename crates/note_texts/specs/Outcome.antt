-- For proofs: what a function returns that reads in steps and stops at the first fault. docs/NOTES.md has it in words.
use Rattle.std.specs.Prelude.{◌≡◌, Result, Ok, Err}
use Rattle.note_types.specs.declared.fault.TomlFault.{TomlFault}
use Rattle.note_types.specs.declared.fault.NotesEnd.{NotesEnd}
use Rattle.note_types.specs.declared.fault.NotesEnd.TheVariants as ends

-- what a refusal says of the reading: nothing where memory ran out
abbrev pub Fails : {Y : Type 0} → NotesEnd → Result Y TomlFault → Type 0
Fails ends.NoMemory read = Unit {0}
Fails (ends.Fault f) read = read ≡ Err f

-- what a function returned, seen by view, is what reading gives, unless memory ran out
abbrev pub GivesBy : {X Y : Type 0} → (X → Y) → Result X NotesEnd → Result Y TomlFault → Type 0
GivesBy view (Ok x) read = read ≡ Ok (view x)
GivesBy view (Err e) read = Fails e read

-- what a function returned is what reading gives, unless memory ran out
abbrev pub Gives : {Y : Type 0} → Result Y NotesEnd → Result Y TomlFault → Type 0
Gives result read = GivesBy (λ y. y) result read
