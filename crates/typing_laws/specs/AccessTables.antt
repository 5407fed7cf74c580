-- For proofs: the laws that the tables of accesses agree: those of the typing rules, and those of the neutral machine.
-- docs/RULES.md, "Access".
use Rattle.std.specs.Prelude.{◌≡◌, true, false, Ok}
use Rattle.ebc_insn.specs.declared.Size.TheVariants as sizes
use Rattle.note_types.specs.declared.cell.Cell.{Cell}
use Rattle.note_types.specs.declared.cell.SlotKind.{SlotKind}
use Rattle.note_types.specs.declared.types.Ty.{Ty}
use Rattle.rules_base.specs.Access.{loads, stores, parameter_load}
use Rattle.rules_base.specs.declared.access.Access.{Access}
use Rattle.rules_base.specs.declared.access.Access.TheVariants.{Byte, Word, Dword, Qword, Form64, Natural, Signed}
use Rattle.rules_base.specs.declared.access.Loaded.{Loaded}
use Rattle.neutral_machine.specs.Locations as neutral

-- what an access of the rules is in the neutral machine; a form of 32 bits accesses as a move of its size does
abbrev pub access_of : Access → neutral.Access
access_of Byte = neutral.Move sizes.Byte
access_of Word = neutral.Move sizes.Word
access_of Dword = neutral.Move sizes.Dword
access_of Qword = neutral.Move sizes.Qword
access_of Form64 = neutral.Form true
access_of Natural = neutral.Move sizes.Natural
access_of Signed = neutral.Signed

-- the rules let a cell be loaded by just the accesses by which the neutral machine reads it
abbrev pub LoadsAgree : Type 0
LoadsAgree = (a : Access) (c : Cell) → loads a c ≡ neutral.reads (access_of a) c

-- and stored to by just those by which it writes it
abbrev pub StoresAgree : Type 0
StoresAgree = (a : Access) (c : Cell) → stores a c ≡ neutral.writes (access_of a) c

-- a parameter that the rules let be loaded is read
abbrev pub ParametersAgree : Type 0
ParametersAgree = (a : Access) (kind : SlotKind) (t : Ty) (x : Loaded) → parameter_load a kind t ≡ Ok x
    → neutral.reads_slot (access_of a) kind ≡ true

-- a form of 32 bits reads and writes as a move of its size
abbrev pub FormsAgree : Type 0
FormsAgree = (c : Cell) → (neutral.reads (neutral.Form false) c ≡ neutral.reads (neutral.Move sizes.Dword) c)
    × (neutral.writes (neutral.Form false) c ≡ neutral.writes (neutral.Move sizes.Dword) c)
