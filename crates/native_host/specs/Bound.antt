-- For proofs: what the host of either image does at a bound call, as code has it. docs/PAIRS.md, "The rules".
use Rattle.std.specs.Prelude.{ℕ, List, Option, Result, Ok, Err, ⊤}
use Rattle.std.specs.Option.{option_map_or}
use Rattle.host_model.specs.HostPlans.{Asking, asked_args, asked_signature, asking_refused, call_event}
use Rattle.host_model.specs.Placements.{Placement}
use Rattle.host_model.specs.RunState.{RunState}
use Rattle.host_model.specs.World.{World}
use Rattle.note_types.specs.declared.ending.Ending.{Ending}
use Rattle.note_types.specs.declared.seen.Seen.{Seen}
use Rattle.note_types.specs.declared.types.Ty.{Ty}
use Rattle.note_types.specs.declared.value.Value.{Value}
use Rattle.pair_model.specs.Binds as binds
use Rattle.pair_model.specs.PairRuns.{bound_number}
use Rattle.pair_model.specs.Rules.{reply_refused}
use Rattle.native_host.specs.declared.bound.BoundCall.{BoundCall}
use Rattle.native_host.specs.declared.bound.BoundStep.{BoundStep}
use Rattle.native_host.specs.declared.bound.BoundStep.TheVariants as step

-- a bound call, which the code has in a record of its own
abbrev pub bound_call_of : BoundCall → binds.BoundCall
bound_call_of c = record { signature = c.signature; function = c.function }

-- what the call step of a bound call comes to, as far as the caller's image goes: after its event the run ends as at a call of a
-- native method, or it is a call by a signature with these arguments
abbrev pub bound_step : (place : ℕ) → Asking → BoundStep
bound_step place asking =
    option_map_or (step.Ended (call_event place asking)) (asking_refused place asking)
    (step.Called (call_event place asking) (asked_signature asking) (asked_args asking))

-- where it is a call
abbrev pub OnCalled : BoundStep → ((signature : ℕ) → (args : List Seen) → Type 0) → Type 0
OnCalled (step.Called e g args) P = P g args
OnCalled _ P = ⊤

-- what the reply of a bound call comes to: how the pair ends, or the number that R7 of the caller gets
abbrev pub bound_answer : ℕ → World → Placement → RunState → Option Ty → Value → Result ℕ Ending
bound_answer w world P r kind v = option_map_or Err (reply_refused world r.script kind v) (Ok (bound_number w world P r kind v))
