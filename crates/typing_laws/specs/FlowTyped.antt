-- For proofs: what follows from the rules for the stack.
use Rattle.std.specs.Prelude.{ℕ, ◌≤◌, List}
use Rattle.ebc_insn.specs.declared.Insn.{Insn}
use Rattle.ebc_width.specs.Width.{IsWidth}
use Rattle.neutral_machine.specs.Room.{HasRoom}
use Rattle.neutral_machine.specs.Rows.{Site}
use Rattle.note_types.specs.declared.notes.FnNote.{FnNote}
use Rattle.note_types.specs.declared.state.State.{State}
use Rattle.rules_flow.specs.declared.successors.Successors.{Successors}
use Rattle.neutral_machine.specs.Config.{FunctionFrame, Frame, Config}
use Rattle.neutral_machine.specs.Layout.{total}
use Rattle.host_model.specs.Placements.{stack_bytes}
use Rattle.host_model.specs.World.{World}
use Rattle.typing_laws.specs.OneRule.{WorldTyped, StandsTyped}
use Rattle.invariant_laws.specs.Sound.{SoundBelow}

-- The frames of a sound configuration lie on the stack, at either width.
abbrev pub SoundFitsStack : Type 0
SoundFitsStack = (w : ℕ) (world : World) (a : Config) → IsWidth w → SoundBelow world a → total w a.frames ≤ stack_bytes w world.notes

-- The stack has room for what an instruction puts there that its rule accepts, at either width.
abbrev pub RuleFitsStack : Type 0
RuleFitsStack =
    (w : ℕ) (world : World) (a : Config) (f : FunctionFrame) (fs : List Frame) (note : FnNote) (here : Site) (s : State) (i : Insn)
    (x : Successors)
    → IsWidth w → WorldTyped world → StandsTyped world a f fs note here s i x → HasRoom w world a i
