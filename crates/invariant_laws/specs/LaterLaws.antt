-- For proofs: what is said of these definitions by themselves.
use Rattle.std.specs.Prelude.{ℕ, Bool}
use Rattle.note_types.specs.States.{StateBelow}
use Rattle.note_types.specs.declared.notes.Notes.{Notes}
use Rattle.note_types.specs.declared.state.State.{State}
use Rattle.note_types.specs.declared.types.Ty.{Ty}
use Rattle.neutral_machine.specs.Config.{Registers, FunctionFrame}
use Rattle.neutral_machine.specs.Fits.{Fits}
use Rattle.neutral_machine.specs.FitsState.{FitsState}
use Rattle.neutral_machine.specs.Memory.{Memory}
use Rattle.host_model.specs.Values.{Neutral}
use Rattle.invariant_laws.specs.Later.{Later}

-- A value that fits a type fits it later.
abbrev pub FitsLater : Type 0
FitsLater =
    (notes : Notes) (d : ℕ) (U V : Memory) (saved : Registers) (t : Ty) (v : Neutral) → Later d U V → Fits notes U d saved t v
    → Fits notes V d saved t v

-- A frame that fits a state fits each state above it.
abbrev pub StatesFitBelow : Type 0
StatesFitBelow =
    (notes : Notes) (m : Memory) (d : ℕ) (f : FunctionFrame) (s t : State) (regs : Registers) (c : Bool) (made : ℕ)
    → StateBelow s t → FitsState notes m d f s regs c made → FitsState notes m d f t regs c made
