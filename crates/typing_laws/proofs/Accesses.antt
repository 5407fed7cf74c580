-- The accesses of the rules are those of the neutral machine.
use Rattle.typing_laws.proofs.Common.{arith, ◌≡◌, true, false, Cell, loads, stores, Move, Form, Signed, writes, Size}
use Rattle.rules_base.specs.declared.access.Access.{Access}
use Rattle.neutral_machine.specs.Locations.{reads}
use Rattle.neutral_machine.specs.Locations as neutral

-- the access of the rules that an access of the neutral machine is
abbrev pub access_of : neutral.Access → Access
access_of (Move Size.Byte) = Access.Byte
access_of (Move Size.Word) = Access.Word
access_of (Move Size.Dword) = Access.Dword
access_of (Move Size.Qword) = Access.Qword
access_of (Move Size.Natural) = Access.Natural
access_of (Form true) = Access.Form64
access_of (Form false) = Access.Dword
access_of Signed = Access.Signed

pub reads_is : (a : neutral.Access) (c : Cell) → reads a c ≡ loads (access_of a) c
reads_is a c = grind arith

pub writes_from : (a : neutral.Access) (c : Cell) → stores (access_of a) c ≡ true → writes a c ≡ true
writes_from a c e = grind (arith, e)
