-- Laws of the call step: the plan that the host has where a native call is asked for, and what that leaves.
use Rattle.native_host.proofs.Common.{◌≡◌, ℕ, ◌+◌, ◌<◌, Bool, true, false, if◌then◌else◌, nat_eq, List, [], ◌∷◌, ◌++◌, length, map, take}
use Rattle.native_host.proofs.Common.{drop, Option, Some, None, slice_get, refl, sym, ap, ap₂, ◌∙◌, subst, arith, option_and_then}
use Rattle.native_host.proofs.Common.{option_map_or, option_or, none-some, same_Some, Memory, with_mark, Frame, Concrete, register, Ending}
use Rattle.native_host.proofs.Common.{Event, ScriptCall, Seen, saved_of, with_arguments, NO_ENTRY, Asking, Asks, Ends, NoSite, Store}
use Rattle.native_host.proofs.Common.{argument_refused, call_event, host_plan, signature_params, site_of, after_stores, asking_at}
use Rattle.native_host.proofs.Common.{asking_by, call_under_way, performed, slots_asked, slots_of, with_call, with_objects, made_objects}
use Rattle.native_host.proofs.Common.{TypedObject, Placement, Accepted, Asked, NativeCall, ScriptPlace, RunState, SavedFrame, IsScript}
use Rattle.native_host.proofs.Common.{World, with_memory, asked, entry_count, Host, HostStep}
use Rattle.std.proofs.{Math.Seq.take-append_seam, lemmas.Bool.eqb-true}
use Rattle.host_model.specs.HostPlans.{Accepts, Calls, Unmapped, asked_args, asked_signature, asking_refused, call_plan, call_settled}
use Rattle.host_model.specs.HostPlans.{entry_refused}
use Rattle.native_host.specs.Steps.{end_step, settled, taken}
use Rattle.native_host.proofs.{AskingLaws.other-place, AskingLaws.slots-count, TopLaws.marked-some}
use Rattle.note_types.specs.declared.ending.Ending.TheVariants as ending
use Rattle.note_types.specs.declared.reason.Reason.TheVariants as reason
use Rattle.native_host.specs.declared.step.HostStep.TheVariants as step

-- ---- the plan

pub plan-asked : (world : World) (at : ScriptPlace) (place : ℕ) (a b : Asking) (o : Option Ending) → b ≡ a
    → o ≡ option_or (asking_refused place a) (entry_refused (slice_get world.script.call at.entries) (asked_signature a) (asked_args a))
    → host_plan world at (Calls place b) ≡ call_settled world at.entries (call_event place a) o
unfolding host_plan call_plan
plan-asked world at place a b o is refused =
    ap (λ x. host_plan world at (Calls place x)) is ∙ ap (call_settled world at.entries (call_event place a)) (sym refused)

-- Where nothing is refused the script has a call left, by the signature that is asked for, and the target is right.
pub accepted-call : (o : Option ScriptCall) (place : ℕ) (a : Asking)
    → None ≡ option_or (asking_refused place a) (entry_refused o (asked_signature a) (asked_args a))
    → (c : ScriptCall) × (o ≡ Some c) × (args : List Seen) × (a ≡ Asks c.signature None args)
accepted-call o place NoSite none = absurd (none-some _ none)
accepted-call o place (Unmapped g) none = absurd (none-some _ none)
accepted-call o place (Asks g (Some x) args) none = absurd (none-some _ none)
accepted-call None place (Asks g None args) none = absurd (none-some _ none)
accepted-call (Some c) place (Asks g None args) none = go (nat_eq c.signature g) refl none
  where
    go : (b : Bool) → nat_eq c.signature g ≡ b
        → None ≡ (if b then argument_refused 0 args c.args else Some (ending.Mismatch (reason.Signature g c.signature)))
        → (d : ScriptCall) × (Some c ≡ Some d) × (xs : List Seen) × (Asks g None args ≡ Asks d.signature None xs)
    go false is none = absurd (none-some _ none)
    go true is none = (c, refl, args, ap (λ x. Asks x None args) (sym (eqb-true c.signature g is)))

-- ---- its argument slots

asked-slots : (w : ℕ) (world : World) (P : Placement) (r : RunState) (target g : ℕ) (args : List Seen) (site : Option ℕ)
    → option_map_or (λ x. asking_by w world P r target x (slots_of w world r x)) site NoSite ≡ Asks g None args
    → length (option_map_or (λ xs. xs) (option_and_then (slots_of w world r) site) []) ≡ length (signature_params world.notes g)
asked-slots w world P r target g args None is = absurd (cc)
asked-slots w world P r target g args (Some x) is = go (slots_of w world r x) refl is
  where
    go : (o : Option (List ℕ)) → slots_of w world r x ≡ o → asking_by w world P r target x o ≡ Asks g None args
        → length (option_map_or (λ xs. xs) o []) ≡ length (signature_params world.notes g)
    go None are is = absurd (cc)
    go (Some xs) are is =
        slots-count w r.machine (register r.machine 0) (signature_params world.notes x) xs are
        ∙ ap (λ y. length (signature_params world.notes y)) (ap asked_signature is)

-- there are as many as the script's call has arguments
pub slots-asked-count : (w : ℕ) (world : World) (P : Placement) (r : RunState) (place target e : ℕ) (c : ScriptCall) (args : List Seen)
    → IsScript world.notes world.script → slice_get world.script.call e ≡ Some c
    → asking_at w world P r place target ≡ Asks c.signature None args
    → entry_count world.script e ≡ length (slots_asked w world r (Asked place target))
unfolding asking_at
slots-asked-count w world P r place target e c args script there is =
    ap (λ o. option_map_or (λ (d : ScriptCall). length d.args) o 0) there
    ∙ ((script.calls e c there).args ∙ sym (asked-slots w world P r target c.signature args (site_of world.notes place) is))

-- ---- the top frame

pub with_call-arguments : (fs : List Frame) (xs : List ℕ) (call : NativeCall ℕ)
    → with_call call (map saved_of (with_arguments xs fs)) ≡ with_call call (map saved_of fs)
unfolding with_arguments saved_of
with_call-arguments [] xs call = refl
with_call-arguments (f ∷ fs) xs call = refl

pub with_call-twice : (hs : List SavedFrame) (a b : NativeCall ℕ) → with_call a (with_call b hs) ≡ with_call a hs
with_call-twice [] a b = refl
with_call-twice (h ∷ hs) a b = refl

front-slots : (fs : List Frame) (xs : List ℕ) (f : Frame) → slice_get (with_arguments xs fs) 0 ≡ Some f → take (length xs) f.slots ≡ xs
unfolding with_arguments
front-slots [] xs f there = absurd (none-some f there)
front-slots (g ∷ fs) xs f there =
    ap (λ (h : Frame). take (length xs) h.slots) (sym (same_Some (record g { slots = xs ++ drop (length xs) g.slots }) f there))
    ∙ take-append_seam xs (drop (length xs) g.slots)

-- a script has fewer calls than the entry of a frame that has none
pub entry-real : (e : ℕ) → e < 16384 → nat_eq e NO_ENTRY ≡ false
entry-real e few = other-place e NO_ENTRY (λ same. let most : NO_ENTRY ≡ 4294967295 = refl in omega (arith, same, few, most))

-- the frames once the call is accepted whose slots were copied
marked-accepted : (fs gs : List Frame) (entry count : ℕ) (xs : List ℕ) (call : NativeCall ℕ) → gs ≡ with_arguments xs fs
    → nat_eq entry NO_ENTRY ≡ false → count ≡ length xs
    → map saved_of (with_mark entry 0 count gs) ≡ with_call (Accepted entry 0 xs) (with_call call (map saved_of fs))
marked-accepted fs gs entry count xs call copied some as_many =
    ap₂ (λ n hs. map saved_of (with_mark entry 0 n hs)) as_many copied
    ∙ (marked-some (with_arguments xs fs) entry 0 (length xs) xs some (front-slots fs xs)
    ∙ (with_call-arguments fs xs (Accepted entry 0 xs) ∙ sym (with_call-twice (map saved_of fs) (Accepted entry 0 xs) call)))

under-way-asked : (fs : List Frame) (call : NativeCall ℕ) → 0 < length fs → call_under_way (with_call call (map saved_of fs)) ≡ call
under-way-asked [] call some = absurd (omega arith)
under-way-asked (f ∷ fs) call some = refl

-- ---- what the plan leaves

state-same : (r : RunState) (s t : Concrete) (hs js : List SavedFrame) (p q : ScriptPlace) (u v : List Event) (e : Ending)
    → s ≡ t → hs ≡ js → p ≡ q → u ≡ v
    → record r { machine = s; hosts = hs; script = p; trace = u; ending = e }
    ≡ record r { machine = t; hosts = js; script = q; trace = v; ending = e }
state-same r s t hs js p q u v e machine hosts script trace =
    ap₂ (λ x y. record r { machine = x; hosts = y; script = p; trace = u; ending = e }) machine hosts
    ∙ ap₂ (λ x y. record r { machine = t; hosts = js; script = x; trace = y; ending = e }) script trace

pub performed-tells : (w : ℕ) (world : World) (P : Placement) (r : RunState) (e : Event) (end : Ending)
    → performed w world P r (Ends (e ∷ []) end) ≡ record r { trace = r.trace ++ e ∷ []; ending = end }
unfolding performed
performed-tells w world P r e end = refl

-- what is left to whoever runs the machine where the run ends
taken-end : (w : ℕ) (world : World) (P : Placement) (v : ℕ) (k : Host v) (n : Memory) (gs : List Frame) (place target : ℕ) (r : RunState)
    (s : HostStep) (end : Ending) → Some s ≡ end_step end
    → record (asked k n gs place target r) { ending = end } ≡ taken false w world P (settled k n gs place target s r) s
taken-end w world P v k n gs place target r s (ending.Mismatch why) is =
    subst (λ z. record (asked k n gs place target r) { ending = ending.Mismatch why }
    ≡ taken false w world P (settled k n gs place target z r) z) (same_Some (step.Mismatch why) s (sym is)) refl
taken-end w world P v k n gs place target r s ending.ScriptEnd is =
    subst (λ z. record (asked k n gs place target r) { ending = ending.ScriptEnd }
    ≡ taken false w world P (settled k n gs place target z r) z) (same_Some step.ScriptEnd s (sym is)) refl
taken-end w world P v k n gs place target r s (ending.Raised x) is =
    subst (λ z. record (asked k n gs place target r) { ending = ending.Raised x }
    ≡ taken false w world P (settled k n gs place target z r) z) (same_Some (step.Raised x) s (sym is)) refl
taken-end w world P v k n gs place target r s ending.Running is = absurd (none-some s (sym is))
taken-end w world P v k n gs place target r s (ending.Finished x) is = absurd (none-some s (sym is))

module _ (w : ℕ) (world : World) (P : Placement) (v : ℕ) (h k : Host v) (m n : Memory) (fs gs : List Frame) (place target : ℕ)
    (r : RunState) (e : Event) (notified : k.notifications ≡ h.notifications) (told : k.trace.items ≡ h.trace.items ++ e ∷ []) where
  -- the run ends
  pub asked-ends : (xs : List ℕ) (end : Ending) (s : HostStep) → n ≡ m → gs ≡ with_arguments xs fs → k.entries ≡ h.entries
      → Some s ≡ end_step end
      → performed w world P (asked h m fs place target r) (Ends (e ∷ []) end)
      ≡ taken false w world P (settled k n gs place target s r) s
  asked-ends xs end s memory copied entries is =
      performed-tells w world P (asked h m fs place target r) e end
      ∙ (state-same r _ _ _ _ _ _ _ _ end (ap (with_memory r.machine) (sym memory))
      (sym (ap (λ hs. with_call (Asked place target) (map saved_of hs)) copied ∙ with_call-arguments fs xs (Asked place target)))
      (ap₂ (λ a b. record r.script { entries = a; notifications = b }) (sym entries) (sym notified)) (sym told)
      ∙ taken-end w world P v k n gs place target r s end is)

  -- the call is accepted
  pub asked-accepts : (js : List Frame) (xs : List ℕ) (count : ℕ) (objects : List TypedObject) (stores : List Store) → 0 < length fs
      → slots_asked w world (asked h m fs place target r) (Asked place target) ≡ xs
      → gs ≡ with_arguments xs fs → js ≡ with_mark h.entries 0 count gs → nat_eq h.entries NO_ENTRY ≡ false → count ≡ length xs
      → k.entries ≡ h.entries + 1
      → after_stores w world.notes P (made_objects world.notes world.script h.entries ++ objects) [] stores
      (with_objects w world.notes P (length (made_objects world.notes world.script h.entries)) objects (with_memory r.machine m))
      ≡ with_memory r.machine n
      → performed w world P (asked h m fs place target r) (Accepts e h.entries objects stores)
      ≡ taken false w world P (settled k n js place target step.Accepted r) step.Accepted
  unfolding performed
  asked-accepts js xs count objects stores some slots copied marked real as_many entries after =
      let under = under-way-asked fs (Asked place target) some in
      let hosts : map saved_of js ≡ with_call (Accepted h.entries 0 (slots_asked w world (asked h m fs place target r)
      (call_under_way (with_call (Asked place target) (map saved_of fs))))) (with_call (Asked place target) (map saved_of fs)) =
      ap (map saved_of) marked
      ∙ (marked-accepted fs gs h.entries count xs (Asked place target) copied real as_many
      ∙ ap (λ ys. with_call (Accepted h.entries 0 ys) (with_call (Asked place target) (map saved_of fs)))
      (sym (ap (slots_asked w world (asked h m fs place target r)) under ∙ slots))) in
      state-same r _ _ _ _ _ _ _ _ r.ending after (sym hosts)
      (ap₂ (λ a b. record r.script { entries = a; notifications = b }) (sym entries) (sym notified)) (sym told)
