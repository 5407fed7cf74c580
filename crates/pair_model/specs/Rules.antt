-- Meaning: the six rules by which two images on one host take a step, said once for whatever the state of a side is.
-- docs/PAIRS.md, "The rules".
use Rattle.std.specs.Prelude.{ℕ, suc, true, List, [], ◌∷◌, ◌++◌, map, length, drop, Option, Some, None, nat_lt}
use Rattle.std.specs.Prelude.{if◌then◌else◌}
use Rattle.std.specs.Option.{option_map, option_map_or, option_or}
use Rattle.host_model.specs.HostPlans.{Asking, View, Returns, Calls, Leaves, Enters, Ends, asked_args, asking_refused, call_event}
use Rattle.host_model.specs.HostPlans.{function_params, is_error, signature_result}
use Rattle.host_model.specs.Objects.{made_objects}
use Rattle.host_model.specs.Progress.{ScriptPlace}
use Rattle.host_model.specs.ScriptValues.{fits, given}
use Rattle.host_model.specs.World.{World}
use Rattle.host_model.specs.declared.object.TypedObject.{TypedObject}
use Rattle.note_types.specs.declared.ending.Ending.{Ending}
use Rattle.note_types.specs.declared.ending.Ending.TheVariants.{Running, Finished, Mismatch}
use Rattle.note_types.specs.declared.event.Event.{Event}
use Rattle.note_types.specs.declared.event.Event.TheVariants as event
use Rattle.note_types.specs.declared.notes.Param.{Param}
use Rattle.note_types.specs.declared.reason.Reason.TheVariants as reason
use Rattle.note_types.specs.declared.seen.Seen.{Seen}
use Rattle.note_types.specs.declared.types.Ty.{Ty}
use Rattle.note_types.specs.declared.value.Value.{Value}
use Rattle.note_types.specs.declared.value.Value.TheVariants as value
use Rattle.pair_model.specs.Binds.{BoundCall, bound_at}
use Rattle.pair_model.specs.Pairs.{Both, PairWorld, Stage, ProviderRuns, CallerRuns, CallTaken, CallRuns, CallReturned, PairState, SideOf}
use Rattle.pair_model.specs.declared.event.PairEvent.{PairEvent}
use Rattle.pair_model.specs.declared.event.PairEvent.TheVariants as pair_event

-- ---- what is refused

-- how a pair ends at the first argument, counted from k, that doesn't fit its parameter
unfoldable pub parameter_refused : List TypedObject → ℕ → List Param → List Seen → Option Ending
parameter_refused made k (p ∷ ps) (x ∷ xs) =
    if fits made p.ty x.value then parameter_refused made (suc k) ps xs else Some (Mismatch (reason.Argument k x (given value.Any)))
parameter_refused made k _ _ = None

-- how it ends where B can't take a call of a function with these arguments: while B has served fewer thunks than its notes have, or
-- at an argument
unfoldable pub provider_refused : World → ScriptPlace → (function : ℕ) → List Seen → Option Ending
provider_refused b at f args =
    if nat_lt at.thunks (length b.notes.thunk) then Some (Mismatch (reason.Bind f))
    else parameter_refused (made_objects b.notes b.script at.entries) 0 (function_params b.notes f) args

-- how it ends at a bound call: as at a call of a native method of A, and then as B can't take it
abbrev pub call_refused : PairWorld → (provider : ScriptPlace) → (function place : ℕ) → Asking → Option Ending
call_refused world at f place asking = option_or (asking_refused place asking) (provider_refused world.b at f (asked_args asking))

-- how it ends where a value that B returned doesn't fit the result of A's signature, if that has one
unfoldable pub reply_refused : World → ScriptPlace → Option Ty → Value → Option Ending
reply_refused a at None v = None
reply_refused a at (Some t) v =
    if fits (made_objects a.notes a.script at.entries) t v then None else Some (Mismatch (reason.Reply at.entries))

-- ---- what a side's step leaves of a pair

-- the events that a side has more than before, as the pair has them
abbrev pub added : {S : Type 0} → SideOf S → (Event → PairEvent) → (before after : S) → List PairEvent
added side of before after = map of (drop (length (side.trace before)) (side.trace after))

-- the pair once A has come to a state, and once B has
abbrev pub with_a : {S : Type 0} → SideOf S → PairState S → S → PairState S
with_a side p s = record p { a = s; trace = p.trace ++ added side pair_event.A p.a s; ending = side.ending s }

abbrev pub with_b : {S : Type 0} → SideOf S → PairState S → S → PairState S
with_b side p s = record p { b = s; trace = p.trace ++ added side pair_event.B p.b s; ending = side.ending s }

-- ---- 1. B's own run

-- where B's own run finished with a value that is no error, it is A's turn; any other ending is the pair's
abbrev pub provider_ended : {S : Type 0} → Both (SideOf S) → PairState S → Ending → PairState S
provider_ended sides p (Finished v) =
    if is_error v then p else record p { b = sides.b.resting p.b; stage = CallerRuns; ending = sides.a.ending p.a }
provider_ended sides p _ = p

unfoldable pub provider_step : {S : Type 0} → Both (SideOf S) → PairState S → Option (PairState S)
provider_step sides p = option_map (λ s. provider_ended sides (with_b sides.b p s) (sides.b.ending s)) (sides.b.step p.b)

-- ---- 2. A's steps, and 3. its bound calls

-- a bound call was told, and the pair ends so, or the call is taken
abbrev pub call_told : {S : Type 0} → Both (SideOf S) → PairState S → BoundCall → Event → List Seen → Option Ending → PairState S
call_told sides p call e args (Some ending) = with_a sides.a p (sides.a.performed p.a (Ends (e ∷ []) ending))
call_told sides p call e args None =
    record (with_a sides.a p (sides.a.performed p.a (Ends (e ∷ []) Running))) {
      stage = CallTaken call.signature call.function (map (λ (x : Seen). x.value) args);
    }

-- the call step of a bound call from a place
unfoldable pub call_step : {S : Type 0} → PairWorld → Both (SideOf S) → PairState S → (place : ℕ) → Asking → BoundCall → PairState S
call_step world sides p place asking call =
    call_told sides p call (call_event place asking) (asked_args asking)
    (call_refused world (sides.b.script p.b) call.function place asking)

-- a step of A's own
abbrev pub plain_step : {S : Type 0} → Both (SideOf S) → PairState S → Option (PairState S)
plain_step sides p = option_map (with_a sides.a p) (sides.a.step p.a)

-- a step of A by what its host sees: a call from the place of a bound call is one
abbrev pub caller_step_seen : {S : Type 0} → PairWorld → Both (SideOf S) → PairState S → Option View → Option (PairState S)
caller_step_seen world sides p (Some (Calls place asking)) =
    option_map_or (λ call. Some (call_step world sides p place asking call)) (bound_at world.binds world.a.notes place)
    (plain_step sides p)
caller_step_seen world sides p _ = plain_step sides p

unfoldable pub caller_step : {S : Type 0} → PairWorld → Both (SideOf S) → PairState S → Option (PairState S)
caller_step world sides p = caller_step_seen world sides p (sides.a.view p.a)

-- ---- 4. the entering

-- the function is under way, unless the pair ended
abbrev pub function_entered : {S : Type 0} → (signature : ℕ) → PairState S → Ending → PairState S
function_entered g p Running = record p { stage = CallRuns g }
function_entered g p _ = p

-- a function of B is entered with the arguments' values
unfoldable pub enter_step : {S : Type 0} → Both (SideOf S) → PairState S → (signature function : ℕ) → List Value → PairState S
enter_step sides p g f values =
    let s = sides.b.performed p.b (Enters (event.Entered f (map given values)) 0 f values) in
    function_entered g (with_b sides.b p s) (sides.b.ending s)

-- ---- 5. a function of B

-- a step of B by what its host sees; where B's first frame is left, the function returned
abbrev pub function_step_seen : {S : Type 0} → Both (SideOf S) → PairState S → (signature : ℕ) → Option View → Option (PairState S)
function_step_seen sides p g (Some (Returns true f v)) =
    Some (record (with_b sides.b p (sides.b.performed p.b (Leaves (event.Returned f v)))) { stage = CallReturned g v })
function_step_seen sides p g _ = option_map (with_b sides.b p) (sides.b.step p.b)

unfoldable pub function_step : {S : Type 0} → Both (SideOf S) → PairState S → (signature : ℕ) → Option (PairState S)
function_step sides p g = function_step_seen sides p g (sides.b.view p.b)

-- ---- 6. the reply

-- the pair ends so, or R7 of A gets the value, which is told
abbrev pub call_answered : {S : Type 0} → Both (SideOf S) → PairState S → Option Ty → Value → Option Ending → PairState S
call_answered sides p kind v (Some ending) = with_a sides.a p (sides.a.performed p.a (Ends [] ending))
call_answered sides p kind v None = record p {
  a = sides.a.replied p.a kind v;
  stage = CallerRuns;
  trace = p.trace ++ pair_event.Bound v ∷ [];
}

unfoldable pub reply_step : {S : Type 0} → PairWorld → Both (SideOf S) → PairState S → (signature : ℕ) → Value → PairState S
reply_step world sides p g v =
    let kind = signature_result world.a.notes g in
    call_answered sides p kind v (reply_refused world.a (sides.a.script p.a) kind v)

-- ---- a step

-- by how far the pair is
abbrev pub stage_step : {S : Type 0} → PairWorld → Both (SideOf S) → PairState S → Stage → Option (PairState S)
stage_step world sides p ProviderRuns = provider_step sides p
stage_step world sides p CallerRuns = caller_step world sides p
stage_step world sides p (CallTaken g f values) = Some (enter_step sides p g f values)
stage_step world sides p (CallRuns g) = function_step sides p g
stage_step world sides p (CallReturned g v) = Some (reply_step world sides p g v)

-- by how it ended
abbrev pub step_if : {S : Type 0} → PairWorld → Both (SideOf S) → PairState S → Ending → Option (PairState S)
step_if world sides p Running = stage_step world sides p p.stage
step_if world sides p _ = Some p

-- A step of a pair, which stays as it is once it ended; none where a side is stuck.
unfoldable pub pair_step : {S : Type 0} → PairWorld → Both (SideOf S) → PairState S → Option (PairState S)
pair_step world sides p = step_if world sides p p.ending

-- the pair before its first step
abbrev pub pair_start : {S : Type 0} → Both (SideOf S) → (a b : S) → PairState S
pair_start sides a b = record { a = a; b = b; stage = ProviderRuns; trace = []; ending = sides.b.ending b }
