-- Laws of how much a step tells: one event at most.
use Rattle.pair_host.proofs.Common.{ℕ, ◌≤◌, Bool, true, false, if◌then◌else◌, nat_eq, List, [], ◌∷◌, ◌++◌, map, length, Option, Some, None}
use Rattle.pair_host.proofs.Common.{arith, slice_get, option_map_or, option_or, machine_step, StepEnd, Concrete, Ending, Event, Plan, View}
use Rattle.pair_host.proofs.Common.{host_plan, host_turn, is_due, function_params, Finishes, Leaves, Accepts, Enters, Replies, Resumes}
use Rattle.pair_host.proofs.Common.{Notifies, Ends, Returns, Calls, GoesOn, IsDue, NotifiedReturns, ThunkView, Names, NamesNone, NotMapped}
use Rattle.pair_host.proofs.Common.{asked_args, call_event, signature_params, signature_result, call_under_way, entered, frame_for}
use Rattle.pair_host.proofs.Common.{host_step, host_view, inside, left, objects_at, performed, resumed, thunk_made, thunk_view, with_call}
use Rattle.pair_host.proofs.Common.{written_number, made_objects, Placement, code_at, ScriptPlace, one_callback, one_instruction}
use Rattle.pair_host.proofs.Common.{one_notification, RunState, SavedFrame, after_instruction, instruction_step, run_step, running_step}
use Rattle.pair_host.proofs.Common.{step_if, given, World, TypedObject, told}
use Rattle.std.proofs.Common.{not, ◌&&◌, nat_le}
use Rattle.std.specs.Prelude.{⊤}
use Rattle.note_types.specs.declared.script.{Callback.Callback, Notify.Notify, ScriptCall.ScriptCall}
use Rattle.host_model.specs.HostPlans.{call_plan, call_settled, callback_fits, asked_signature, asking_refused, enter_plan, entry_refused}
use Rattle.host_model.specs.HostPlans.{next_plan, notification_fits, notify_plan, reply_fits}
use Rattle.host_model.specs.{HostPlans.reply_plan, HostPlans.reply_stores, Placements.frame_limit}
use Rattle.ebc_machine.specs.declared.StepEnd.TheVariants as ends
use Rattle.note_types.specs.declared.ending.Ending.TheVariants as ending
use Rattle.note_types.specs.declared.event.Event.TheVariants as event
use Rattle.note_types.specs.declared.exception.Exception.TheVariants as raises
use Rattle.note_types.specs.declared.reason.Reason.TheVariants as reason

-- ---- plans

-- a plan that tells one event at most
abbrev IsBrief : Plan → Type 0
IsBrief (Ends es e) = length es ≤ 1
IsBrief _ = ⊤

settled-brief : (world : World) (n : ℕ) (e : Event) (o : Option Ending) → IsBrief (call_settled world n e o)
settled-brief world n e None = tt
settled-brief world n e (Some x) = omega arith

enter-brief : (world : World) (made : List TypedObject) (n k d : ℕ) (b : Callback) → IsBrief (enter_plan world.notes made n k d b)
unfolding enter_plan
enter-brief world made n k d b = go (callback_fits world.notes made b) (nat_le frame_limit d)
  where
    go : (t u : Bool) → IsBrief (if not t then Ends [] (ending.Mismatch (reason.Enter n k)) else if u then Ends []
        (ending.Mismatch reason.Depth) else Enters (event.Entered b.function (map given b.values)) n b.function b.values)
    go false u = omega arith
    go true true = omega arith
    go true false = tt

reply-brief : (world : World) (made : List TypedObject) (n : ℕ) (m : Bool) (c : ScriptCall) → IsBrief (reply_plan world.notes made n m c)
unfolding reply_plan
reply-brief world made n m c = go (reply_fits world.notes made c && m)
  where
    go : (t : Bool) → IsBrief (if t then Replies (event.Replied n c.result)
        (reply_stores world.notes made (signature_params world.notes c.signature) c) (signature_result world.notes c.signature) c.result
        else Ends [] (ending.Mismatch (reason.Reply n)))
    go true = tt
    go false = omega arith

notify-brief : (world : World) (made : List TypedObject) (at : ScriptPlace) (d : ℕ) (n : Notify) → IsBrief (notify_plan world made at d n)
unfolding notify_plan
notify-brief world made at d n = go (notification_fits world made at n) (nat_le frame_limit d)
  where
    go : (t u : Bool) → IsBrief (if not t then Ends [] (ending.Mismatch (reason.Notify at.notifications)) else if u then Ends []
        (ending.Mismatch reason.Depth) else Notifies (event.Notified n.function (map given n.args)) n.function n.args)
    go false u = omega arith
    go true true = omega arith
    go true false = tt

plan-brief : (world : World) (at : ScriptPlace) (v : View) → IsBrief (host_plan world at v)
unfolding host_plan call_plan
plan-brief world at (Returns true f u) = tt
plan-brief world at (Returns false f u) = tt
plan-brief world at (Calls place asking) =
    settled-brief world at.entries (call_event place asking)
    (option_or (asking_refused place asking) (entry_refused (slice_get world.script.call at.entries) (asked_signature asking) (asked_args
    asking)))
plan-brief world at (GoesOn n k d m) = go (slice_get world.script.call n)
  where
    by : (c : ScriptCall) (o : Option Callback) → IsBrief (option_map_or
        (enter_plan world.notes (made_objects world.notes world.script at.entries) n k d) o
        (reply_plan world.notes (made_objects world.notes world.script at.entries) n m c))
    by c None = reply-brief world (made_objects world.notes world.script at.entries) n m c
    by c (Some b) = enter-brief world (made_objects world.notes world.script at.entries) n k d b

    go : (o : Option ScriptCall) → IsBrief (option_map_or (next_plan world.notes
        (made_objects world.notes world.script at.entries) n k d m) o (Ends [] ending.ScriptEnd))
    go None = omega arith
    go (Some c) = by c (slice_get c.enter k)
plan-brief world at (NotifiedReturns f u) = tt
plan-brief world at (IsDue d) = go (slice_get world.script.notify at.notifications)
  where
    go : (o : Option Notify) → IsBrief (option_map_or (notify_plan world (made_objects world.notes world.script at.entries) at d) o
        (Ends [] ending.ScriptEnd))
    go None = omega arith
    go (Some n) = notify-brief world (made_objects world.notes world.script at.entries) at d n

-- ---- steps

-- after a step of a run that had told nothing it has told one event at most
abbrev pub TellsOne : RunState → Type 0
TellsOne r = length r.trace ≤ 1

module _ (w : ℕ) (world : World) (P : Placement) where
  entered-brief : (notified : Bool) (r : RunState) (f : ℕ) (numbers : List ℕ) → TellsOne r
      → TellsOne (entered notified w world P r f numbers)
  entered-brief notified r f numbers few = go (inside w r.machine (code_at world.notes P f) (function_params world.notes f) numbers)
    where
      go : (o : Option Concrete)
          → TellsOne (option_map_or (λ s. record r { machine = s; hosts = frame_for notified r.machine f ∷ r.hosts }) o
          (record r { ending = ending.Raised raises.StackFault }))
      go None = few
      go (Some s) = few

  performed-brief : (r : RunState) (p : Plan) → IsBrief p → TellsOne (performed w world P (told [] r) p)
  unfolding performed
  performed-brief r (Finishes v) b = go r.hosts
    where
      go : (hs : List SavedFrame) → TellsOne (left (told [] r) hs)
      go [] = omega arith
      go (f ∷ fs) = omega arith
  performed-brief r (Leaves e) b = go r.hosts
    where
      go : (hs : List SavedFrame) → length ((left (told [] r) hs).trace ++ e ∷ []) ≤ 1
      go [] = omega arith
      go (f ∷ fs) = omega arith
  performed-brief r (Accepts e entry objects stores) b = omega arith
  performed-brief r (Enters e entry f values) b =
      entered-brief false (record r { hosts = with_call (one_callback (call_under_way r.hosts)) r.hosts; trace = e ∷ [] }) f
      (map (written_number w world.notes P (objects_at world r)) values) (omega arith)
  performed-brief r (Replies e stores kind v) b = omega arith
  performed-brief r (Resumes e) b = go r.hosts
    where
      go : (hs : List SavedFrame) → length ((resumed (told [] r) hs).trace ++ e ∷ []) ≤ 1
      go [] = omega arith
      go (f ∷ fs) = omega arith
  performed-brief r (Notifies e f values) b =
      entered-brief true (record r { script = one_notification r.script; trace = e ∷ [] }) f
      (map (written_number w world.notes P (objects_at world r)) values) (omega arith)
  performed-brief r (Ends es e) b = b

  host_step-brief : (r : RunState) → TellsOne (host_step w world P (told [] r))
  unfolding host_step
  host_step-brief r = go (host_view w world P (told [] r))
    where
      go : (o : Option View)
          → TellsOne (option_map_or (λ v. performed w world P (told [] r) (host_plan world r.script v)) o (told [] r))
      go None = omega arith
      go (Some v) = performed-brief r (host_plan world r.script v) (plan-brief world r.script v)

  thunk-brief : (r : RunState) (s : Concrete) (address : ℕ) (v : ThunkView) → TellsOne (thunk_made w world P (told [] r) s address v)
  unfolding thunk_made
  thunk-brief r s address NotMapped = omega arith
  thunk-brief r s address NamesNone = omega arith
  thunk-brief r s address (Names f) = omega arith

  after_instruction-brief : (r : RunState) (e : StepEnd) (s : Concrete) → TellsOne (after_instruction w world P (told [] r) (e, s))
  unfolding after_instruction
  after_instruction-brief r ends.Next s = omega arith
  after_instruction-brief r (ends.Native target) s = omega arith
  after_instruction-brief r ends.Gate s = omega arith
  after_instruction-brief r (ends.MakeThunk address) s = thunk-brief r s address (thunk_view world P s address)
  after_instruction-brief r (ends.Raised e) s = omega arith

  instruction_step-brief : (r : RunState) → TellsOne (instruction_step w world P (told [] r))
  unfolding instruction_step
  instruction_step-brief r =
      let m : StepEnd × Concrete = machine_step w r.machine in
      after_instruction-brief (record r { script = one_instruction r.script }) m.0 m.1

  running_step-brief : (r : RunState) → TellsOne (running_step w world P (told [] r))
  unfolding running_step
  running_step-brief r = go (host_turn (nat_eq r.machine.ip r.machine.gate) (call_under_way r.hosts) (is_due world.script r.script))
    where
      go : (b : Bool) → TellsOne (if b then host_step w world P (told [] r) else instruction_step w world P (told [] r))
      go true = host_step-brief r
      go false = instruction_step-brief r

  pub run_step-brief : (r : RunState) → TellsOne (run_step w world P (told [] r))
  unfolding run_step
  run_step-brief r = go r.ending
    where
      go : (e : Ending) → TellsOne (step_if w world P (told [] r) e)
      go ending.Running = running_step-brief r
      go (ending.Finished v) = omega arith
      go (ending.Raised x) = omega arith
      go (ending.Mismatch x) = omega arith
      go ending.ScriptEnd = omega arith
