-- Laws of what plans leave: the run with an event more, before whoever runs the machine has done its part.
use Rattle.native_host.proofs.Common.{◌≡◌, ℕ, true, false, List, [], ◌∷◌, ◌++◌, map, Option, Some, refl, sym, ap, ap₂, ◌∙◌, append-nil}
use Rattle.native_host.proofs.Common.{Ending, Event, Seen, Value, Concrete, Ends, Enters, Notifies, Replies, Store, after_stores}
use Rattle.native_host.proofs.Common.{call_under_way, objects_at, performed, with_call, written_number, Placement, NoCall, copied}
use Rattle.native_host.proofs.Common.{one_callback, RunState, SavedFrame, given, World, step_of, HostStep}
use Rattle.note_types.specs.declared.types.Ty.{Ty}
use Rattle.note_types.specs.Concrete.{with_register}
use Rattle.host_model.specs.{HostPlans.Plan, HostSteps.entered, Progress.one_notification}

-- the numbers of values that aren't lent
pub map-given : (f : Value → ℕ) (values : List Value) → map (λ (s : Seen). f s.value) (map given values) ≡ map f values
map-given f [] = refl
map-given f (v ∷ vs) = ap (λ xs. f v ∷ xs) (map-given f vs)

-- the run ends, with no event
pub performed-ends : (w : ℕ) (world : World) (P : Placement) (r : RunState) (end : Ending)
    → performed w world P r (Ends [] end) ≡ record r { ending = end }
unfolding performed
performed-ends w world P r end = ap (λ t. record r { trace = t; ending = end }) (append-nil r.trace)

-- a function is to be entered as a notification
pub performed-notifies : (w : ℕ) (world : World) (P : Placement) (r : RunState) (e : Event) (f : ℕ) (values : List Value)
    (t : List Event) (args : List Seen) → t ≡ r.trace ++ e ∷ [] → args ≡ map given values
    → performed w world P r (Notifies e f values)
    ≡ entered true w world P (record r { script = one_notification r.script; trace = t }) f
    (map (λ (s : Seen). written_number w world.notes P (objects_at world r) s.value) args)
unfolding performed
performed-notifies w world P r e f values t args told given =
    ap₂ (λ u xs. entered true w world P (record r { script = one_notification r.script; trace = u }) f xs) (sym told)
    (sym (ap (map (λ (s : Seen). written_number w world.notes P (objects_at world r) s.value)) given
    ∙ map-given (written_number w world.notes P (objects_at world r)) values))

-- what a plan comes to, and what it leaves, by an equation for it
pub step-by : (number : Value → ℕ) (plan other : Plan) (s : HostStep) → plan ≡ other → step_of number other ≡ Some s
    → Some s ≡ step_of number plan
step-by number plan other s is comes = sym (ap (step_of number) is ∙ comes)

pub ends-by : (w : ℕ) (world : World) (P : Placement) (r : RunState) (plan : Plan) (end : Ending) → plan ≡ Ends [] end
    → performed w world P r plan ≡ record r { ending = end }
ends-by w world P r plan end is = ap (performed w world P r) is ∙ performed-ends w world P r end

-- a function is to be entered as a callback
pub performed-enters : (w : ℕ) (world : World) (P : Placement) (r : RunState) (e : Event) (entry f : ℕ) (values : List Value)
    (hosts : List SavedFrame) (t : List Event) (args : List Seen) → hosts ≡ with_call (one_callback (call_under_way r.hosts)) r.hosts
    → t ≡ r.trace ++ e ∷ [] → args ≡ map given values
    → performed w world P r (Enters e entry f values)
    ≡ entered false w world P (record r { hosts = hosts; trace = t }) f
    (map (λ (s : Seen). written_number w world.notes P (objects_at world r) s.value) args)
unfolding performed
performed-enters w world P r e entry f values hosts t args marked told given =
    ap₂ (λ hs u. entered false w world P (record r { hosts = hs; trace = u }) f (map (written_number w world.notes P (objects_at world r))
    values))
    (sym marked) (sym told)
    ∙ ap (entered false w world P (record r { hosts = hosts; trace = t }) f)
    (sym (ap (map (λ (s : Seen). written_number w world.notes P (objects_at world r) s.value)) given
    ∙ map-given (written_number w world.notes P (objects_at world r)) values))

-- a native call gets its reply
pub performed-replies : (w : ℕ) (world : World) (P : Placement) (r : RunState) (e : Event) (stores : List Store) (kind : Option Ty) (v :
    Value)
    (s : Concrete) (hosts : List SavedFrame) (t : List Event) (n : ℕ)
    → after_stores w world.notes P (objects_at world r) (copied (call_under_way r.hosts)) stores r.machine ≡ s
    → hosts ≡ with_call NoCall r.hosts → t ≡ r.trace ++ e ∷ [] → n ≡ written_number w world.notes P (objects_at world r) v
    → performed w world P r (Replies e stores kind v) ≡ record r { machine = with_register s 7 n; hosts = hosts; trace = t }
unfolding performed
performed-replies w world P r e stores kind v s hosts t n stored marked told number =
    ap₂ (λ m k. record r { machine = with_register m 7 k; hosts = with_call NoCall r.hosts; trace = r.trace ++ e ∷ [] }) stored (sym number)
    ∙ ap₂ (λ hs u. record r { machine = with_register s 7 n; hosts = hs; trace = u }) (sym marked) (sym told)
