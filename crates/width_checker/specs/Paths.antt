-- For proofs: where control goes on after an instruction, told beside the state that is kept and the one at the place of a
-- jump taken.
use Rattle.std.specs.Prelude.{Bool, true, false, if◌then◌else◌}
use Rattle.note_types.specs.declared.state.State.{State}
use Rattle.rules_flow.specs.declared.successors.Successors.{Successors}
use Rattle.rules_flow.specs.Successors.{ends, falls, goes, parts}
use Rattle.width_checker.specs.declared.row.Path.{Path}
use Rattle.width_checker.specs.declared.row.Path.TheVariants as path

-- the states that an instruction leads to, where after it the kept one is s, and the one at the place of a jump taken is t
abbrev pub successors_from : State → State → Path → Successors
successors_from s t path.Falls = falls s
successors_from s t (path.Goes place) = goes place s
successors_from s t (path.Parts place) = parts s place t
successors_from s t path.Ends = ends

-- whether control falls through to the next instruction
abbrev pub does_fall : Path → Bool
does_fall path.Falls = true
does_fall (path.Parts place) = true
does_fall _ = false
