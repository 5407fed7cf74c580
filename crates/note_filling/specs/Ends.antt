-- For proofs: what a function returns that fills a text and stops at the first fault.
use Rattle.std.specs.Prelude.{◌≡◌, None, Result, Ok, Err}
use Rattle.note_types.specs.declared.fault.NotesEnd.{NotesEnd}
use Rattle.note_types.specs.declared.fault.NotesEnd.TheVariants as notes
use Rattle.note_filling.specs.declared.end.FillEnd.{FillEnd}
use Rattle.note_filling.specs.declared.end.FillEnd.TheVariants as ends
use Rattle.note_filling.specs.declared.end.Flaw.{Flaw as Fault}

-- the end of a reading of notes, as the end of a filling
abbrev pub of_notes : NotesEnd → FillEnd
of_notes (notes.Fault fault) = ends.Flaw (record { fault = fault; label = None })
of_notes notes.NoMemory = ends.NoMemory

-- an end is this fault, unless memory ran out
abbrev pub IsFlawOf : Fault → FillEnd → Type 0
IsFlawOf fault ends.NoMemory = Unit {0}
IsFlawOf fault (ends.Flaw f) = fault ≡ f

-- what a refusal says of the reading: nothing where memory ran out
abbrev pub Fails : {Y : Type 0} → FillEnd → Result Y Fault → Type 0
Fails ends.NoMemory read = Unit {0}
Fails (ends.Flaw f) read = read ≡ Err f

-- what a function returned is what the reading gives, unless memory ran out
abbrev pub Gives : {Y : Type 0} → Result Y FillEnd → Result Y Fault → Type 0
Gives (Ok x) read = read ≡ Ok x
Gives (Err e) read = Fails e read

-- a function goes on where the reading has no fault, and ends by the fault otherwise, unless memory ran out
abbrev pub Checks : {X : Type 0} → Result X FillEnd → Result (Unit {0}) Fault → Type 0
Checks (Ok x) read = read ≡ Ok tt
Checks (Err e) read = Fails e read
