-- Meaning: what an instruction of control or of the stack leads to.
use Rattle.std.specs.Prelude.{ℕ, None, Some}
use Rattle.note_types.specs.declared.state.State.{State}
use Rattle.rules_flow.specs.declared.successors.Successors.{Successors}

-- the next instruction
abbrev pub falls : State → Successors
falls s = record { fall = Some s; jump = None }

-- the instruction at a place
abbrev pub goes : ℕ → State → Successors
goes place s = record { fall = None; jump = Some (place, s) }

-- the next instruction, or the one at a place
abbrev pub parts : State → ℕ → State → Successors
parts s place t = record { fall = Some s; jump = Some (place, t) }

-- no instruction of the function
abbrev pub ends : Successors
ends = record { fall = None; jump = None }
