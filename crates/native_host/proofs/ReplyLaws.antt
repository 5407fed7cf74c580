-- Laws of callbacks and replies: which plan the host has, and arguments that are named one after the other.
use Rattle.native_host.proofs.Common.{◌≡◌, ℕ, zero, suc, ◌+◌, ◌<◌, ◌≤◌, Bool, true, false, not, ◌&&◌, if◌then◌else◌, List, [], ◌∷◌, length}
use Rattle.native_host.proofs.Common.{map, take, drop, get_or, Option, Some, None, refl, sym, ap, ap₂, ◌∙◌, arith, add-one, nat_le}
use Rattle.native_host.proofs.Common.{slice_get, flat_map, sum_by, option_map_or, drop_more, length-map, same_Some, Memory, ranges}
use Rattle.native_host.proofs.Common.{with_memory, Frame, Mismatch, ScriptEnd, Notes, WantParam, OutValue, ScriptCall, GoesOn, Ends, Enters}
use Rattle.native_host.proofs.Common.{Replies, all_named_right, named_right, reply_fits, reply_plan, reply_stores, host_plan, out_store}
use Rattle.native_host.proofs.Common.{write_store, signature_params, after_stores, call_under_way, writes_mapped, made_objects, Placement}
use Rattle.native_host.proofs.Common.{frame_limit, ScriptPlace, RunState, SavedFrame, World, given, TypedObject, can_enter, IsCalled, shown}
use Rattle.native_host.proofs.Common.{top_count, are_mapped, Host, saved_of, Concrete}
use Rattle.std.specs.List.{list_all}
use Rattle.std.proofs.lemmas.List.Sums.{sum_by-append}
use Rattle.note_types.specs.declared.script.Callback.{Callback}
use Rattle.host_model.specs.HostPlans.{View, enter_plan, next_plan, signature_result, times_named}
use Rattle.host_model.specs.HostSteps.{call_seen, write_mapped}
use Rattle.native_host.proofs.{StoreLaws.stores-append, TopLaws.under-way}
use Rattle.note_types.specs.declared.event.Event.TheVariants as event
use Rattle.note_types.specs.declared.reason.Reason.TheVariants as reason

-- ---- arguments that are named

named-next : (error : Bool) (ps : List WantParam) (outs : List OutValue) (k : ℕ) (d : WantParam) → k < length ps
    → all_named_right error k (drop k ps) outs
    ≡ (named_right error (get_or ps k d).want (times_named k outs) && all_named_right error (k + 1) (drop (k + 1) ps) outs)
unfolding all_named_right
named-next error ps outs k d less =
    ap (λ qs. all_named_right error k qs outs) (drop_more ps k d less)
    ∙ ap (λ j. named_right error (get_or ps k d).want (times_named k outs) && all_named_right error j (drop (k + 1) ps) outs) (sym (add-one
    k))

pub named-stop : (error : Bool) (ps : List WantParam) (outs : List OutValue) (k : ℕ) (d : WantParam) → k < length ps
    → named_right error (get_or ps k d).want (times_named k outs) ≡ false → all_named_right error k (drop k ps) outs ≡ false
named-stop error ps outs k d less wrong =
    named-next error ps outs k d less ∙ ap (λ b. b && all_named_right error (k + 1) (drop (k + 1) ps) outs) wrong

pub named-on : (error : Bool) (ps : List WantParam) (outs : List OutValue) (k : ℕ) (d : WantParam) → k < length ps
    → named_right error (get_or ps k d).want (times_named k outs) ≡ true
    → all_named_right error k (drop k ps) outs ≡ all_named_right error (k + 1) (drop (k + 1) ps) outs
named-on error ps outs k d less right =
    named-next error ps outs k d less ∙ ap (λ b. b && all_named_right error (k + 1) (drop (k + 1) ps) outs) right

-- ---- callbacks

pub enter-unfit : (notes : Notes) (made : List TypedObject) (entry callbacks frames : ℕ) (b : Callback)
    → can_enter notes made b.function b.values ≡ false
    → enter_plan notes made entry callbacks frames b ≡ Ends [] (Mismatch (reason.Enter entry callbacks))
unfolding enter_plan
enter-unfit notes made entry callbacks frames b unfit =
    ap (λ fit. if not fit then Ends [] (Mismatch (reason.Enter entry callbacks)) else if nat_le frame_limit frames then Ends [] (Mismatch
    reason.Depth)
    else Enters (event.Entered b.function (map given b.values)) entry b.function b.values) unfit

pub enter-deep : (notes : Notes) (made : List TypedObject) (entry callbacks frames : ℕ) (b : Callback) (deep : Bool)
    → can_enter notes made b.function b.values ≡ true → nat_le frame_limit frames ≡ deep
    → enter_plan notes made entry callbacks frames b ≡ (if deep then Ends [] (Mismatch reason.Depth)
    else Enters (event.Entered b.function (map given b.values)) entry b.function b.values)
unfolding enter_plan
enter-deep notes made entry callbacks frames b deep fits depth =
    ap (λ fit. if not fit then Ends [] (Mismatch (reason.Enter entry callbacks)) else if nat_le frame_limit frames then Ends [] (Mismatch
    reason.Depth)
    else Enters (event.Entered b.function (map given b.values)) entry b.function b.values) fits
    ∙ ap (λ d. if d then Ends [] (Mismatch reason.Depth) else Enters (event.Entered b.function (map given b.values)) entry b.function
    b.values) depth

pub top-count-is : (fs : List Frame) (count : ℕ) → ((f : Frame) → slice_get fs 0 ≡ Some f → count ≡ f.count) → 0 < length fs
    → count ≡ top_count fs
top-count-is [] count is some = absurd (omega arith)
top-count-is (f ∷ fs) count is some = is f refl

-- ---- replies

pub reply-by : (notes : Notes) (made : List TypedObject) (entry : ℕ) (mapped : Bool) (c : ScriptCall) (right : Bool)
    → (reply_fits notes made c && mapped) ≡ right
    → reply_plan notes made entry mapped c ≡ (if right then Replies (event.Replied entry c.result)
    (reply_stores notes made (signature_params notes c.signature) c) (signature_result notes c.signature) c.result
    else Ends [] (Mismatch (reason.Reply entry)))
unfolding reply_plan
reply-by notes made entry mapped c right is =
    ap (λ b. if b then Replies (event.Replied entry c.result)
    (reply_stores notes made (signature_params notes c.signature) c) (signature_result notes c.signature) c.result
    else Ends [] (Mismatch (reason.Reply entry))) is

-- the stores of a reply, in cells of objects first
pub stored-all : (w : ℕ) (notes : Notes) (P : Placement) (made : List TypedObject) (slots : List ℕ) (params : List WantParam) (c :
    ScriptCall)
    (s : Concrete) (m n o : Memory) → after_stores w notes P made slots (flat_map (write_store notes made) c.write) (with_memory s m)
    ≡ with_memory s n
    → after_stores w notes P made slots (flat_map (out_store params) c.out) (with_memory s n) ≡ with_memory s o
    → after_stores w notes P made slots (reply_stores notes made params c) (with_memory s m) ≡ with_memory s o
unfolding reply_stores
stored-all w notes P made slots params c s m n o first second =
    stores-append w notes P made slots (flat_map (write_store notes made) c.write) (flat_map (out_store params) c.out) (with_memory s m)
    ∙ (ap (after_stores w notes P made slots (flat_map (out_store params) c.out)) first ∙ second)

-- ---- a native call that goes on

-- what the host sees then, by the entry and the callbacks that the mark of the top frame has
pub seen-goes : (w : ℕ) (world : World) (P : Placement) (h : Host w) (m : Memory) (fs : List Frame) (r : RunState) (v : View)
    (called : IsCalled fs) (entry callbacks : ℕ) → ((f : Frame) → slice_get fs 0 ≡ Some f → entry ≡ f.entry)
    → ((f : Frame) → slice_get fs 0 ≡ Some f → callbacks ≡ f.callback)
    → call_seen w world P (shown h m (map saved_of fs) r) (call_under_way (map saved_of fs)) ≡ Some v
    → v ≡ GoesOn entry callbacks (length fs) (writes_mapped w world P (shown h m (map saved_of fs) r) entry)
seen-goes w world P h m fs r v called entry callbacks marked counted seen =
    sym (same_Some _ v (ap (λ (n : ℕ). Some (GoesOn called.top.entry called.top.callback n
    (writes_mapped w world P (shown h m (map saved_of fs) r) called.top.entry))) (sym (length-map fs saved_of))
    ∙ (sym (ap (call_seen w world P (shown h m (map saved_of fs) r)) (under-way fs called)) ∙ seen)))
    ∙ ap₂ (λ e b. GoesOn e b (length fs) (writes_mapped w world P (shown h m (map saved_of fs) r) e))
    (sym (marked called.top called.there)) (sym (counted called.top called.there))

pub goes-none : (world : World) (at : ScriptPlace) (v : View) (entry callbacks frames : ℕ) (mapped : Bool)
    → v ≡ GoesOn entry callbacks frames mapped → None ≡ slice_get world.script.call entry → host_plan world at v ≡ Ends [] ScriptEnd
unfolding host_plan
goes-none world at v entry callbacks frames mapped goes none =
    ap (host_plan world at) goes
    ∙ ap (λ o. option_map_or (next_plan world.notes (made_objects world.notes world.script at.entries) entry callbacks frames mapped) o
    (Ends [] ScriptEnd)) (sym none)

-- what is planned by the call's next step, where the script has the call
planned : (world : World) (at : ScriptPlace) (made : List TypedObject) (v : View) (entry callbacks frames : ℕ) (mapped : Bool)
    (c : ScriptCall) (o : Option Callback) → v ≡ GoesOn entry callbacks frames mapped → Some c ≡ slice_get world.script.call entry
    → o ≡ slice_get c.enter callbacks → made ≡ made_objects world.notes world.script at.entries
    → host_plan world at v
    ≡ option_map_or (enter_plan world.notes made entry callbacks frames) o (reply_plan world.notes made entry mapped c)
unfolding host_plan
planned world at made v entry callbacks frames mapped c o goes some next is =
    ap (host_plan world at) goes
    ∙ (ap (λ p. option_map_or (next_plan world.notes (made_objects world.notes world.script at.entries) entry callbacks frames mapped) p
    (Ends [] ScriptEnd)) (sym some)
    ∙ ap₂ (λ p ms. option_map_or (enter_plan world.notes ms entry callbacks frames) p (reply_plan world.notes ms entry mapped c)) (sym next)
    (sym is))

pub goes-enter : (world : World) (at : ScriptPlace) (made : List TypedObject) (v : View) (entry callbacks frames : ℕ) (mapped : Bool)
    (c : ScriptCall) (b : Callback) → v ≡ GoesOn entry callbacks frames mapped → Some c ≡ slice_get world.script.call entry
    → Some b ≡ slice_get c.enter callbacks → made ≡ made_objects world.notes world.script at.entries
    → host_plan world at v ≡ enter_plan world.notes made entry callbacks frames b
goes-enter world at made v entry callbacks frames mapped c b = planned world at made v entry callbacks frames mapped c (Some b)

-- which writes are mapped, as the host tries it
writes-are : (w : ℕ) (world : World) (P : Placement) (h : Host w) (m : Memory) (hosts : List SavedFrame) (r : RunState) (entry : ℕ)
    (c : ScriptCall) → Some c ≡ slice_get world.script.call entry → h.made.items ≡ made_objects world.notes world.script h.entries
    → writes_mapped w world P (shown h m hosts r) entry ≡ are_mapped w world.notes P h.made.items (ranges m) c.write
unfolding writes_mapped
writes-are w world P h m hosts r entry c some made =
    ap (λ o. option_map_or (λ (c : ScriptCall). list_all (write_mapped w world P (shown h m hosts r)) c.write) o false) (sym some)
    ∙ ap (λ ms. are_mapped w world.notes P ms (ranges m) c.write) (sym made)

pub goes-reply : (w : ℕ) (world : World) (P : Placement) (h : Host w) (m : Memory) (hosts : List SavedFrame) (r : RunState) (v : View)
    (entry callbacks frames : ℕ) (c : ScriptCall)
    → v ≡ GoesOn entry callbacks frames (writes_mapped w world P (shown h m hosts r) entry)
    → Some c ≡ slice_get world.script.call entry → None ≡ slice_get c.enter callbacks
    → h.made.items ≡ made_objects world.notes world.script h.entries
    → host_plan world (shown h m hosts r).script v
    ≡ reply_plan world.notes h.made.items entry (are_mapped w world.notes P h.made.items (ranges m) c.write) c
goes-reply w world P h m hosts r v entry callbacks frames c goes some none made =
    planned world (shown h m hosts r).script h.made.items v entry callbacks frames _ c None goes some none made
    ∙ ap (λ b. reply_plan world.notes h.made.items entry b c) (writes-are w world P h m hosts r entry c some made)

-- ---- how many callbacks

-- a part of a sum, of the items up to one of them
pub element-sum : {A : Type 0} (f : A → ℕ) (xs : List A) (i : ℕ) (x : A) → slice_get xs i ≡ Some x → f x ≤ sum_by f (take (i + 1) xs)
element-sum f [] i x there = absurd (cc)
element-sum f (y ∷ ys) zero x there =
    let same : f y ≡ f x = ap f (same_Some y x there) in
    let sum : sum_by f (y ∷ []) ≡ 0 + f y = refl in omega (arith, same, sum)
element-sum f (y ∷ ys) (suc i) x there =
    let rest = element-sum f ys i x there in
    let sum : sum_by f (y ∷ take (i + 1) ys) ≡ 0 + f y + sum_by f (take (i + 1) ys) = sum_by-append f (y ∷ []) (take (i + 1) ys) in
    let cut : sum_by f (take (suc i + 1) (y ∷ ys)) ≡ sum_by f (y ∷ take (i + 1) ys) =
    ap (λ n. sum_by f (take n (y ∷ ys))) (let e : suc i + 1 ≡ suc (i + 1) = omega arith in e) in
    omega (arith, rest, sum, cut)
