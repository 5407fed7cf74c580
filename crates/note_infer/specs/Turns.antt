-- For proofs: what an instruction does in a state, told by what changes: the states that it leads to from there.
use Rattle.std.specs.Prelude.{Bool, true, false, Option, None, Some, ⊤}
use Rattle.note_types.specs.declared.state.State.{State}
use Rattle.rules_base.specs.Change.{changed}
use Rattle.rules_flow.specs.Steps.{FitsStep, FitsUpdate, successors_of, updated}
use Rattle.rules_flow.specs.Successors.{falls}
use Rattle.rules_flow.specs.declared.successors.Successors.{Successors}
use Rattle.note_infer.specs.declared.turns.Fall.{Fall}
use Rattle.note_infer.specs.declared.turns.Fall.TheVariants.{Data, Flow}
use Rattle.note_infer.specs.declared.turns.Turn.{Turn}
use Rattle.note_infer.specs.declared.turns.Turn.TheVariants.{Falls, Leads}

-- the state after a change
abbrev pub fallen : State → Fall → State
fallen s (Data change) = changed s change
fallen s (Flow update) = updated s update

-- the change is one that the state has room for
abbrev pub FitsFall : State → Fall → Type 0
FitsFall s (Data change) = ⊤
FitsFall s (Flow update) = FitsUpdate s update

-- the states that an instruction leads to
abbrev pub after_turn : State → Turn → Successors
after_turn s (Falls fall) = falls (fallen s fall)
after_turn s (Leads step) = successors_of s step

abbrev pub FitsTurn : State → Turn → Type 0
FitsTurn s (Falls fall) = FitsFall s fall
FitsTurn s (Leads step) = FitsStep s step

-- the state that falls on, if control does
abbrev pub fall_to : Bool → State → Option State
fall_to true s = Some s
fall_to false s = None
