-- How a step of a side may end a run with a result: only as its first function is left, so that no frame is there then. And a step
-- makes a thunk only where the notes have one more.
use Rattle.pair_laws.proofs.Common.{◌≡◌, ℕ, suc, ◌+◌, Bool, true, false, ◌&&◌, not, if◌then◌else◌, nat_eq, nat_le, List, [], ◌∷◌, map}
use Rattle.pair_laws.proofs.Common.{Option, Some, None, option_and_then, refl, sym, ap, ◌∙◌, subst, slice_get, option_map_or, option_or}
use Rattle.pair_laws.proofs.Common.{false≢true, none-some, same_Some, Insn, some_of_map, TopHost, executed, Ending, Event, Notify, Seen}
use Rattle.pair_laws.proofs.Common.{Spot, Value, FunctionFrame, Frame, Function, Host, Config, hosts, call_under_way, Asking, Asks, View}
use Rattle.pair_laws.proofs.Common.{Returns, Calls, GoesOn, NotifiedReturns, IsDue, return_view, Leaves, Enters, Ends, asking_refused}
use Rattle.pair_laws.proofs.Common.{call_event, asked_args, signature_params, signature_result, host_plan, Memory, ScriptPlace, is_empty}
use Rattle.pair_laws.proofs.Common.{made_objects, given, World, TypedObject, live_memory, FramesKeep, SoundBelow, instruction_left}
use Rattle.std.specs.Bool.{⊤}
use Rattle.neutral_machine.specs.{Rows.Site, Rows.NeutralRow, Rows.Next, Rows.Native, Rows.MakeThunk, Outcomes.Gives, Outcomes.Raises}
use Rattle.neutral_machine.specs.Outcomes.{Stuck}
use Rattle.note_types.specs.declared.script.{Callback.Callback, ScriptCall.ScriptCall}
use Rattle.host_model.specs.HostPlans.{Plan, Finishes, Replies, Resumes, Notifies, notification_fits, notify_plan, argument_refused}
use Rattle.host_model.specs.HostPlans.{entry_refused, call_settled, call_plan, asked_signature, callback_fits, enter_plan, reply_fits}
use Rattle.host_model.specs.{HostPlans.reply_plan, HostPlans.reply_stores, HostPlans.next_plan, Placements.frame_limit, Progress.one_thunk}
use Rattle.host_model.specs.ScriptValues.{same_seen}
use Rattle.host_laws.proofs.Leaving.{neutral_ending_left, neutral_ending_resumed}
use Rattle.invariant_laws.proofs.After.{instruction_leaves}
use Rattle.pair_laws.proofs.Sides.{no_return, returns_top}
use Rattle.note_types.specs.declared.ending.Ending.TheVariants as ending
use Rattle.note_types.specs.declared.event.Event.TheVariants as event
use Rattle.note_types.specs.declared.reason.Reason.TheVariants as reason
use Rattle.note_types.specs.declared.spot.Spot.TheVariants as spot
use Rattle.neutral_machine.specs.NeutralHost as neutral

-- no result
abbrev pub Unfinished : Ending → Type 0
Unfinished (ending.Finished v) = ⊥
Unfinished _ = ⊤

-- ---- frames below the first one

-- function frames stand only above one of the host
pub no_frames : (world : World) (m : Memory) (made : ℕ) (fs : List Frame) → FramesKeep world m made fs → is_empty (hosts fs) ≡ true
    → fs ≡ []
no_frames world m made [] k e = refl
no_frames world m made (Host h ∷ fs) k e = absurd (false≢true e)
no_frames world m made (Function f ∷ []) k e = absurd k.0.2
no_frames world m made (Function f ∷ Host h ∷ fs) k e = absurd (false≢true e)
no_frames world m made (Function f ∷ Function g ∷ fs) k e = absurd (let x = no_frames world m made (Function g ∷ fs) k.1 e in cc)

-- what the host sees of the first function is of the only frame
pub first_top : (world : World) (a : Config) (s : Spot) (f : ℕ) (v : Value) → neutral.host_view world a s ≡ Some (Returns true f v)
    → (t : TopHost a) → is_empty (hosts t.rest) ≡ true
unfolding neutral.host_view
first_top world a spot.Gate f v e t =
    let q = some_of_map (return_view t.frame.notified (is_empty (hosts t.rest)) t.frame.func) (neutral.result_of world a t.frame.func)
    (Returns true f v) (sym (ap (neutral.return_seen world a) t.is) ∙ e) in
    first_is t.frame.notified (is_empty (hosts t.rest)) t.frame.func q.0 q.2
  where
    first_of : View → Bool
    first_of (Returns b f v) = b
    first_of _ = false

    first_is : (n b : Bool) (g : ℕ) (u : Value) → return_view n b g u ≡ Returns true f v → b ≡ true
    first_is false b g u e = ap first_of e
    first_is true b g u e = absurd (cc)
first_top world a (spot.Place p) f v e t = absurd (no_return world a (call_under_way a.frames) true f v e)
first_top world a (spot.Wild y) f v e t = absurd (no_return world a (call_under_way a.frames) true f v e)

-- what is left of that frame is none
pub left_none : (world : World) (a : Config) (f : ℕ) (v : Value) → SoundBelow world a
    → neutral.host_view world a a.spot ≡ Some (Returns true f v) → (neutral.left a a.frames).frames ≡ []
left_none world a f v sound e =
    let t = returns_top world a a.spot true f v e in
    let k = subst (FramesKeep world (live_memory world a) a.made) t.is sound.frames in
    ap (λ fs. (neutral.left a fs).frames) t.is ∙ no_frames world (live_memory world a) a.made t.rest k.1 (first_top world a a.spot f v e t)

-- ---- plans

-- a plan that gives no result
abbrev pub Goes : Plan → Type 0
Goes (Finishes v) = ⊥
Goes (Ends es e) = Unfinished e
Goes _ = ⊤

pub goes_unfinished : (world : World) (a : Config) (p : Plan) → a.ending ≡ ending.Running → Goes p
    → Unfinished (neutral.performed world a p).ending
unfolding neutral.performed
goes_unfinished world a (Finishes v) on g = absurd g
goes_unfinished world a (Leaves e) on g = subst Unfinished (sym (neutral_ending_left a a.frames ∙ on)) tt
goes_unfinished world a (Resumes e) on g = subst Unfinished (sym (neutral_ending_resumed a a.frames ∙ on)) tt
goes_unfinished world a (Ends es e) on g = g
goes_unfinished world a c on g = subst Unfinished (sym on) tt

argument_goes : (k : ℕ) (xs ys : List Seen) (e : Ending) → argument_refused k xs ys ≡ Some e → Unfinished e
unfolding argument_refused
argument_goes k [] ys e h = absurd (none-some e h)
argument_goes k (x ∷ xs) [] e h = absurd (none-some e h)
argument_goes k (x ∷ xs) (y ∷ ys) e h = go (same_seen x y) h (argument_goes (suc k) xs ys e)
  where
    go : (t : Bool) → (if t then argument_refused (suc k) xs ys else Some (ending.Mismatch (reason.Argument k x y))) ≡ Some e
        → (argument_refused (suc k) xs ys ≡ Some e → Unfinished e) → Unfinished e
    go true h more = more h
    go false h more = subst Unfinished (same_Some _ e h) tt

entry_goes : (o : Option ScriptCall) (g : ℕ) (args : List Seen) (e : Ending) → entry_refused o g args ≡ Some e → Unfinished e
entry_goes None g args e h = subst Unfinished (same_Some _ e h) tt
entry_goes (Some c) g args e h = go (nat_eq c.signature g) h
  where
    go : (t : Bool) → (if t then argument_refused 0 args c.args else Some (ending.Mismatch (reason.Signature g c.signature))) ≡ Some e
        → Unfinished e
    go true h = argument_goes 0 args c.args e h
    go false h = subst Unfinished (same_Some _ e h) tt

asking_goes : (place : ℕ) (asking : Asking) (e : Ending) → asking_refused place asking ≡ Some e → Unfinished e
asking_goes place (Asks g None args) e h = absurd (none-some e h)
asking_goes place c e h = subst Unfinished (same_Some _ e h) tt

either_goes : (o q : Option Ending) (e : Ending) → option_or o q ≡ Some e → (o ≡ Some e → Unfinished e) → (q ≡ Some e → Unfinished e)
    → Unfinished e
either_goes None q e h f g = g h
either_goes (Some x) q e h f g = f h

settled_goes : (world : World) (n : ℕ) (e : Event) (o : Option Ending) → ((x : Ending) → o ≡ Some x → Unfinished x)
    → Goes (call_settled world n e o)
settled_goes world n e None f = tt
settled_goes world n e (Some x) f = f x refl

enter_goes : (world : World) (made : List TypedObject) (n k d : ℕ) (b : Callback) → Goes (enter_plan world.notes made n k d b)
unfolding enter_plan
enter_goes world made n k d b = go (callback_fits world.notes made b) (nat_le frame_limit d)
  where
    go : (t u : Bool) → Goes (if not t then Ends [] (ending.Mismatch (reason.Enter n k)) else if u then Ends []
        (ending.Mismatch reason.Depth) else Enters (event.Entered b.function (map given b.values)) n b.function b.values)
    go false u = tt
    go true true = tt
    go true false = tt

reply_goes : (world : World) (made : List TypedObject) (n : ℕ) (m : Bool) (c : ScriptCall) → Goes (reply_plan world.notes made n m c)
unfolding reply_plan
reply_goes world made n m c = go (reply_fits world.notes made c && m)
  where
    go : (t : Bool) → Goes (if t then Replies (event.Replied n c.result)
        (reply_stores world.notes made (signature_params world.notes c.signature) c) (signature_result world.notes c.signature) c.result
        else Ends [] (ending.Mismatch (reason.Reply n)))
    go true = tt
    go false = tt

notify_goes : (world : World) (made : List TypedObject) (at : ScriptPlace) (d : ℕ) (n : Notify) → Goes (notify_plan world made at d n)
unfolding notify_plan
notify_goes world made at d n = go (notification_fits world made at n) (nat_le frame_limit d)
  where
    go : (t u : Bool) → Goes (if not t then Ends [] (ending.Mismatch (reason.Notify at.notifications)) else if u then Ends []
        (ending.Mismatch reason.Depth) else Notifies (event.Notified n.function (map given n.args)) n.function n.args)
    go false u = tt
    go true true = tt
    go true false = tt

-- of what the host sees only that the first function returned gives a result
pub plan_goes : (world : World) (at : ScriptPlace) (v : View) → ((f : ℕ) (u : Value) → v ≡ Returns true f u → ⊥)
    → Goes (host_plan world at v)
unfolding host_plan call_plan
plan_goes world at (Returns true f u) n = absurd (n f u refl)
plan_goes world at (Returns false f u) n = tt
plan_goes world at (Calls place asking) n =
    settled_goes world at.entries (call_event place asking) _
    (λ x h. either_goes (asking_refused place asking) (entry_refused (slice_get world.script.call at.entries) (asked_signature asking)
    (asked_args asking)) x h (asking_goes place asking x)
    (entry_goes (slice_get world.script.call at.entries) (asked_signature asking) (asked_args asking) x))
plan_goes world at (GoesOn n k d m) other = go (slice_get world.script.call n)
  where
    by : (c : ScriptCall) (o : Option Callback) → Goes (option_map_or
        (enter_plan world.notes (made_objects world.notes world.script at.entries) n k d) o
        (reply_plan world.notes (made_objects world.notes world.script at.entries) n m c))
    by c None = reply_goes world (made_objects world.notes world.script at.entries) n m c
    by c (Some b) = enter_goes world (made_objects world.notes world.script at.entries) n k d b

    go : (o : Option ScriptCall) → Goes (option_map_or (next_plan world.notes
        (made_objects world.notes world.script at.entries) n k d m) o (Ends [] ending.ScriptEnd))
    go None = tt
    go (Some c) = by c (slice_get c.enter k)
plan_goes world at (NotifiedReturns f u) n = tt
plan_goes world at (IsDue d) other = go (slice_get world.script.notify at.notifications)
  where
    go : (o : Option Notify) → Goes (option_map_or (notify_plan world (made_objects world.notes world.script at.entries) at d) o
        (Ends [] ending.ScriptEnd))
    go None = tt
    go (Some n) = notify_goes world (made_objects world.notes world.script at.entries) at d n

-- ---- instructions

-- serving a thunk cell leaves the ending
thunk_goes : (world : World) (a b : Config) → neutral.thunk_made world a ≡ Some b → b.ending ≡ a.ending
unfolding neutral.thunk_made
thunk_goes world a b e =
    let q = some_of_map (λ (f : ℕ). record a { made = a.made + 1; script = one_thunk a.script })
    (option_and_then (neutral.thunk_function world.notes) (neutral.next_thunk a (a.registers 7))) b e in
    sym (ap (λ (c : Config). c.ending) q.2)

-- an instruction gives no result
pub insn_unfinished : (world : World) (a b : Config) (f : FunctionFrame) (fs : List Frame) (here : Site) (i : Insn)
    → a.frames ≡ Function f ∷ fs → a.ending ≡ ending.Running
    → (p : ℕ) (o : NeutralRow) → executed world a here i ≡ o → instruction_left world a p o ≡ Some b → Unfinished b.ending
insn_unfinished world a b f fs here i fr on p Stuck x e = absurd (none-some b e)
insn_unfinished world a b f fs here i fr on p (Raises r) x e = subst (λ (z : Config). Unfinished z.ending) (same_Some _ b e) tt
insn_unfinished world a b f fs here i fr on p (Gives (Next, c)) x e =
    let k = instruction_leaves world a f fs here i Next c fr x in
    subst (λ (z : Config). Unfinished z.ending) (same_Some c b e) (subst Unfinished (sym (k.ending ∙ on)) tt)
insn_unfinished world a b f fs here i fr on p (Gives (Native v, c)) x e =
    let k = instruction_leaves world a f fs here i (Native v) c fr x in
    subst (λ (z : Config). Unfinished z.ending) (same_Some _ b e) (subst Unfinished (sym (k.ending ∙ on)) tt)
insn_unfinished world a b f fs here i fr on p (Gives (MakeThunk j, c)) x e =
    let k = instruction_leaves world a f fs here i (MakeThunk j) c fr x in
    by_next (nat_eq j c.made) (k.ending ∙ on) e
  where
    by_next : (t : Bool) → c.ending ≡ ending.Running → (if t then neutral.thunk_made world c else None) ≡ Some b → Unfinished b.ending
    by_next true on e = subst Unfinished (sym (thunk_goes world c b e ∙ on)) tt
    by_next false on e = absurd (none-some b e)
