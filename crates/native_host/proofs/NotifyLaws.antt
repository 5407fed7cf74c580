-- Laws of the notify step: which plan the host has where a notification is due.
use Rattle.native_host.proofs.Common.{◌≡◌, ℕ, Bool, true, false, not, List, [], map, Some, None, sym, ap, ◌∙◌, if◌then◌else◌, nat_le}
use Rattle.native_host.proofs.Common.{slice_get, option_map_or, Mismatch, ScriptEnd, Ends, Notifies, host_plan, made_objects, frame_limit}
use Rattle.native_host.proofs.Common.{ScriptPlace, given, World, TypedObject}
use Rattle.note_types.specs.declared.script.Notify.{Notify}
use Rattle.host_model.specs.HostPlans.{IsDue, notification_fits, notify_plan}
use Rattle.note_types.specs.declared.event.Event.TheVariants as event
use Rattle.note_types.specs.declared.reason.Reason.TheVariants as reason

-- no notification is left
pub due-none : (world : World) (at : ScriptPlace) (frames : ℕ) → None ≡ slice_get world.script.notify at.notifications
    → host_plan world at (IsDue frames) ≡ Ends [] ScriptEnd
unfolding host_plan
due-none world at frames none =
    ap (λ o. option_map_or (notify_plan world (made_objects world.notes world.script at.entries) at frames) o (Ends [] ScriptEnd)) (sym
    none)

due-some : (world : World) (at : ScriptPlace) (frames : ℕ) (n : Notify) → Some n ≡ slice_get world.script.notify at.notifications
    → host_plan world at (IsDue frames) ≡ notify_plan world (made_objects world.notes world.script at.entries) at frames n
unfolding host_plan
due-some world at frames n some =
    ap (λ o. option_map_or (notify_plan world (made_objects world.notes world.script at.entries) at frames) o (Ends [] ScriptEnd)) (sym
    some)

-- the next one doesn't fit
pub due-unfit : (world : World) (at : ScriptPlace) (made : List TypedObject) (frames : ℕ) (n : Notify)
    → Some n ≡ slice_get world.script.notify at.notifications → made ≡ made_objects world.notes world.script at.entries
    → notification_fits world made at n ≡ false
    → host_plan world at (IsDue frames) ≡ Ends [] (Mismatch (reason.Notify at.notifications))
unfolding notify_plan
due-unfit world at made frames n some is unfit =
    due-some world at frames n some
    ∙ (ap (λ m. notify_plan world m at frames n) (sym is)
    ∙ ap (λ b. if not b then Ends [] (Mismatch (reason.Notify at.notifications)) else if nat_le frame_limit frames then Ends [] (Mismatch
    reason.Depth)
    else Notifies (event.Notified n.function (map given n.args)) n.function n.args) unfit)

-- there are nine frames, or fewer
pub due-deep : (world : World) (at : ScriptPlace) (made : List TypedObject) (frames : ℕ) (n : Notify) (deep : Bool)
    → Some n ≡ slice_get world.script.notify at.notifications → made ≡ made_objects world.notes world.script at.entries
    → notification_fits world made at n ≡ true → nat_le frame_limit frames ≡ deep
    → host_plan world at (IsDue frames) ≡ (if deep then Ends [] (Mismatch reason.Depth)
    else Notifies (event.Notified n.function (map given n.args)) n.function n.args)
unfolding notify_plan
due-deep world at made frames n deep some is fits depth =
    due-some world at frames n some
    ∙ (ap (λ m. notify_plan world m at frames n) (sym is)
    ∙ (ap (λ b. if not b then Ends [] (Mismatch (reason.Notify at.notifications)) else if nat_le frame_limit frames then Ends [] (Mismatch
    reason.Depth)
    else Notifies (event.Notified n.function (map given n.args)) n.function n.args) fits
    ∙ ap (λ b. if b then Ends [] (Mismatch reason.Depth) else Notifies (event.Notified n.function (map given n.args)) n.function n.args)
    depth))
