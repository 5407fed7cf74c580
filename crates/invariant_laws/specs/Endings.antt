-- Meaning: how a typed program's run may end: the one exception that it may raise.
use Rattle.std.specs.Prelude.{◌≡◌}
use Rattle.std.specs.Bool.{⊤}
use Rattle.note_types.specs.declared.ending.Ending.{Ending}
use Rattle.note_types.specs.declared.ending.Ending.TheVariants as ending
use Rattle.note_types.specs.declared.exception.Exception.TheVariants as raises

-- a run raises nothing but a division by zero
abbrev pub RaisesOnlyDivideError : Ending → Type 0
RaisesOnlyDivideError (ending.Raised e) = e ≡ raises.DivideError
RaisesOnlyDivideError _ = ⊤
