-- Rows of a small driver, the one of docs/NOTES.md with its script of docs/SCRIPTS.md: the definitions of the host compute
-- them. A slip in one of the definitions shows here at once.
use Rattle.neutral_machine.proofs.Common.{◌≡◌, ℕ, ◌+◌, ◌^◌, ◌<◌, true, false, List, [], ◌∷◌, Some, None, refl, arith, Notes, Notify, Value}
use Rattle.neutral_machine.proofs.Common.{GoesOn, IsDue, is_due, call_plan, argument_refused, host_plan, enter_plan, reply_plan, reply_fits}
use Rattle.neutral_machine.proofs.Common.{reply_stores, notify_plan, all_named_right, field_at, filling, written_number, TypedObject}
use Rattle.neutral_machine.proofs.Common.{made_objects, placed_objects, Placement, script_start, one_entry, fits, fits_each, given}
use Rattle.neutral_machine.proofs.Common.{same_value, World}
use Rattle.note_types.specs.declared.ending.Ending.TheVariants.{Mismatch, ScriptEnd}
use Rattle.host_model.specs.HostPlans.{Asks, NoSite, Returns, NotifiedReturns, InArgument, Accepts, Ends, Enters, Finishes, Leaves, Replies}
use Rattle.host_model.specs.HostPlans.{Resumes, Notifies}
use Rattle.host_model.specs.{HostSteps.entered_at, HostSteps.thunk_place, Progress.ScriptPlace}
use Rattle.neutral_machine.proofs.Driver.{driver, driver_notes, driver_notified, driver_with, locate_call, register_call}
use Rattle.note_types.specs.declared.cell.Cell.TheVariants as cell
use Rattle.note_types.specs.declared.event.Event.TheVariants as event
use Rattle.note_types.specs.declared.reason.Reason.TheVariants as reason
use Rattle.note_types.specs.declared.types.Ty.TheVariants as ty
use Rattle.note_types.specs.declared.value.Value.TheVariants as value

-- how far a run is once one call was accepted
abbrev one_call : ScriptPlace
one_call = one_entry script_start

-- ---- numbers

-- an error has the bit of its own width
error_at_4 : (notes : Notes) (P : Placement) (made : List TypedObject) → written_number 4 notes P made (value.StatusError 14) ≡ 0x8000000E
unfolding written_number
error_at_4 notes P made = refl

error_at_8 : (notes : Notes) (P : Placement) (made : List TypedObject)
    → written_number 8 notes P made (value.StatusError 14) ≡ 0x800000000000000E
unfolding written_number
error_at_8 notes P made = refl

-- ---- the first call

-- it is told, and accepted
located : call_plan driver 0 0x1014 (Asks 0 None (given value.Out ∷ [])) ≡ Accepts
    (event.Called 0x1014 (Some 0) (given value.Out ∷ [])) 0 [] []
unfolding call_plan argument_refused same_value filling made_objects placed_objects
located = refl

-- its reply stores an address through the argument, and is told
found : host_plan driver one_call (GoesOn 0 0 1 true)
    ≡ Replies (event.Replied 0 (value.StatusOk 0)) (record { target = InArgument 0; cell = cell.Ptr 1 1 false; value = value.Ptr 1 0 } ∷ [])
    (Some (ty.Status 0)) (value.StatusOk 0)
unfolding host_plan enter_plan reply_plan reply_fits reply_stores all_named_right field_at fits made_objects placed_objects
found = refl

-- an object of another shape doesn't fit the cell
elsewhere : host_plan (driver_with (record locate_call { out = record { argument = 0; value = value.Ptr 0 0 } ∷ [] } ∷ [])) one_call
    (GoesOn 0 0 1 true) ≡ Ends [] (Mismatch (reason.Reply 0))
unfolding host_plan enter_plan reply_plan reply_fits reply_stores all_named_right field_at fits made_objects placed_objects
elsewhere = refl

-- an error names no out argument
refused : host_plan (driver_with (record locate_call { out = []; result = value.StatusError 14 } ∷ [])) one_call (GoesOn 0 0 1 true)
    ≡ Replies (event.Replied 0 (value.StatusError 14)) [] (Some (ty.Status 0)) (value.StatusError 14)
unfolding host_plan enter_plan reply_plan reply_fits reply_stores all_named_right field_at fits made_objects placed_objects
refused = refl

refused_yet_given : host_plan (driver_with (record locate_call { result = value.StatusError 14 } ∷ [])) one_call
    (GoesOn 0 0 1 true) ≡ Ends [] (Mismatch (reason.Reply 0))
unfolding host_plan enter_plan reply_plan reply_fits reply_stores all_named_right field_at fits made_objects placed_objects
refused_yet_given = refl

-- ---- the second call

-- the script may have no call left, or one by another signature; another argument is told
left_over : call_plan (driver_with (locate_call ∷ [])) 1 0x1032 (Asks 1 None (given (value.Entry 1) ∷ [])) ≡ Ends
    (event.Called 0x1032 (Some 1) (given (value.Entry 1) ∷ []) ∷ []) ScriptEnd
unfolding call_plan
left_over = refl

turned_round : call_plan driver 0 0x1032 (Asks 1 None (given (value.Entry 1) ∷ [])) ≡ Ends
    (event.Called 0x1032 (Some 1) (given (value.Entry 1) ∷ []) ∷ []) (Mismatch (reason.Signature 1 0))
unfolding call_plan
turned_round = refl

another_entry : call_plan driver 1 0x1032 (Asks 1 None (given (value.Entry 0) ∷ []))
    ≡ Ends (event.Called 0x1032 (Some 1) (given (value.Entry 0) ∷ []) ∷ [])
    (Mismatch (reason.Argument 0 (given (value.Entry 0)) (given (value.Entry 1))))
unfolding call_plan argument_refused same_value
another_entry = refl

-- a call at a place without a site
no_site : call_plan driver 0 0x1000 NoSite ≡ Ends (event.Called 0x1000 None [] ∷ []) (Mismatch (reason.Site 0x1000))
unfolding call_plan
no_site = refl

-- it enters the callback twice, and then replies
first_callback : host_plan driver (record one_call { entries = 2 }) (GoesOn 1 0 1 true) ≡ Enters
    (event.Entered 1 (given (value.Int 1) ∷ [])) 1 1 (value.Int 1 ∷ [])
unfolding host_plan enter_plan fits_each fits made_objects placed_objects
first_callback = refl

second_callback : host_plan driver (record one_call { entries = 2 }) (GoesOn 1 1 1 true) ≡ Enters
    (event.Entered 1 (given (value.Int 2) ∷ [])) 1 1 (value.Int 2 ∷ [])
unfolding host_plan enter_plan fits_each fits made_objects placed_objects
second_callback = refl

registered : host_plan driver (record one_call { entries = 2 }) (GoesOn 1 2 1 true) ≡ Replies (event.Replied 1 (value.StatusOk 0)) []
    (Some (ty.Status 0)) (value.StatusOk 0)
unfolding host_plan reply_plan reply_fits reply_stores all_named_right field_at fits made_objects placed_objects
registered = refl

-- a tenth frame isn't made
too_deep : host_plan driver (record one_call { entries = 2 }) (GoesOn 1 0 9 true) ≡ Ends [] (Mismatch reason.Depth)
unfolding host_plan enter_plan fits_each fits made_objects placed_objects
too_deep = refl

-- ---- returns

finished : host_plan driver script_start (Returns true 0 (value.StatusOk 0)) ≡ Finishes (value.StatusOk 0)
unfolding host_plan
finished = refl

returned : host_plan driver script_start (Returns false 1 (value.StatusOk 0)) ≡ Leaves (event.Returned 1 (value.StatusOk 0))
unfolding host_plan
returned = refl

-- ---- notifications

-- the function that is a callback, after so many instructions
abbrev ticking : (at : ℕ) → List Value → Notify
ticking at values = record { at = at; function = 1; args = values }

-- the driver with one notification
abbrev notified_by : Notify → World
notified_by n = driver_notified 2 (locate_call ∷ register_call ∷ []) (n ∷ [])

-- how far a run is after so many instructions, once so many notifications were entered and so many thunks served
abbrev come : (notifications instructions thunks : ℕ) → ScriptPlace
come notifications instructions thunks = record { entries = 1; notifications = notifications; instructions = instructions; thunks = thunks }

due_in_time : is_due (notified_by (ticking 2 (value.Int 7 ∷ []))).script (come 0 2 1) ≡ true
unfolding is_due
due_in_time = refl

due_late : is_due (notified_by (ticking 2 (value.Int 7 ∷ []))).script (come 0 30 1) ≡ true
unfolding is_due
due_late = refl

not_due_yet : is_due (notified_by (ticking 2 (value.Int 7 ∷ []))).script (come 0 1 1) ≡ false
unfolding is_due
not_due_yet = refl

none_left : is_due (notified_by (ticking 2 (value.Int 7 ∷ []))).script (come 1 30 1) ≡ false
unfolding is_due
none_left = refl

notified : host_plan (notified_by (ticking 2 (value.Int 7 ∷ []))) (come 0 2 1) (IsDue 1)
    ≡ Notifies (event.Notified 1 (given (value.Int 7) ∷ [])) 1 (value.Int 7 ∷ [])
unfolding host_plan notify_plan fits_each fits made_objects placed_objects
notified = refl

-- the thunk cell isn't made yet
notified_early : host_plan (notified_by (ticking 1 (value.Int 7 ∷ []))) (come 0 1 0) (IsDue 1) ≡ Ends [] (Mismatch (reason.Notify 0))
unfolding host_plan notify_plan fits_each fits made_objects placed_objects
notified_early = refl

-- a value of another type, one too many, and the entry function
notified_wrongly : host_plan (notified_by (ticking 2 (value.Null ∷ []))) (come 0 2 1) (IsDue 1) ≡ Ends [] (Mismatch (reason.Notify 0))
unfolding host_plan notify_plan fits_each fits made_objects placed_objects
notified_wrongly = refl

notified_with_two : host_plan (notified_by (ticking 2 (value.Int 7 ∷ value.Int 8 ∷ []))) (come 0 2 1) (IsDue 1)
    ≡ Ends [] (Mismatch (reason.Notify 0))
unfolding host_plan notify_plan fits_each fits made_objects placed_objects
notified_with_two = refl

notified_entry :
    host_plan (notified_by (record { at = 2; function = 0; args = value.Handle 0 ∷ value.Ptr 0 0 ∷ [] })) (come 0 2 1) (IsDue 1)
    ≡ Ends [] (Mismatch (reason.Notify 0))
unfolding host_plan notify_plan fits_each fits made_objects placed_objects
notified_entry = refl

-- a tenth frame isn't made
notified_too_deep : host_plan (notified_by (ticking 2 (value.Int 7 ∷ []))) (come 0 2 1) (IsDue 9) ≡ Ends [] (Mismatch reason.Depth)
unfolding host_plan notify_plan fits_each fits made_objects placed_objects
notified_too_deep = refl

resumed : host_plan (notified_by (ticking 2 (value.Int 7 ∷ []))) (come 1 4 1) (NotifiedReturns 1 (value.StatusOk 0))
    ≡ Resumes (event.Resumed 1 (value.StatusOk 0))
unfolding host_plan
resumed = refl

-- ---- the thunk cell

-- the place that the cell's offset names, wherever the image lies
ticks : (P : Placement) → P.image < 2 ^ 63 → thunk_place P (P.image + 0x2000) 0xFFFFF040 ≡ 0x1044
ticks P l = omega (arith, l)

entered_there : entered_at driver_notes 0x1044 ≡ Some 1
entered_there = refl
