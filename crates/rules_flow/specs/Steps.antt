-- For proofs: what an instruction of control or of the stack does, told by what changes: the states that it leads to from a
-- state.
use Rattle.std.specs.Prelude.{◌+◌, ◌^◌, ◌<◌, ◌≤◌, not, drop, length, ⊤}
use Rattle.note_types.specs.declared.state.State.{State}
use Rattle.rules_base.specs.Change.{changed}
use Rattle.rules_flow.specs.declared.step.Step.{Step}
use Rattle.rules_flow.specs.declared.step.Step.TheVariants.{Falls, Goes, Parts, Ends}
use Rattle.rules_flow.specs.declared.step.Update.{Update}
use Rattle.rules_flow.specs.declared.step.Update.TheVariants.{Called, Made, Pushed, Popped, Dropped}
use Rattle.rules_flow.specs.declared.successors.Successors.{Successors}
use Rattle.rules_flow.specs.Calls.{called, with_thunk}
use Rattle.rules_flow.specs.Frames.{with_item, with_left, without_top}
use Rattle.rules_flow.specs.Narrowing.{narrow}
use Rattle.rules_flow.specs.Successors.{ends, falls, goes, parts}

-- the state after a change
abbrev pub updated : State → Update → State
updated s (Called t written) = called s t written
updated s Made = with_thunk s
updated s (Pushed item) = with_item s item
updated s (Popped change) = changed (without_top s) change
updated s (Dropped count lost) = with_left s lost (drop count s.items)

-- the change is one that the state has room for
abbrev pub FitsUpdate : State → Update → Type 0
FitsUpdate s (Called t written) = ⊤
FitsUpdate s Made = s.made + 1 < 2 ^ 32
FitsUpdate s (Pushed item) = length s.items < 65
FitsUpdate s (Popped change) = ⊤
FitsUpdate s (Dropped count lost) = count ≤ length s.items

-- the states that an instruction leads to
abbrev pub successors_of : State → Step → Successors
successors_of s (Falls update) = falls (updated s update)
successors_of s (Goes place) = goes place s
successors_of s (Parts place set) = parts (narrow s (not set)) place (narrow s set)
successors_of s Ends = ends

abbrev pub FitsStep : State → Step → Type 0
FitsStep s (Falls update) = FitsUpdate s update
FitsStep s _ = ⊤
