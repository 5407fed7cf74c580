-- The run of the driver of docs/NOTES.md with its script and one notification, which enters its callback with 7, by the number
-- of instructions that it waits for.
use Rattle.neutral_machine.proofs.Common.{ℕ, List, [], ◌∷◌, ◌++◌, Some, refl, Event, ScriptCall, given, World}
use Rattle.neutral_machine.proofs.{Driver.driver_notified, Driver.locate_call, Driver.register_call, Computing.runs_compute}
use Rattle.neutral_machine.proofs.{DriverRuns.asked, DriverRuns.whole, Programs.driver_image, Rows.Everywhere}
use Rattle.note_types.specs.declared.ending.Ending.TheVariants as ending
use Rattle.note_types.specs.declared.event.Event.TheVariants as event
use Rattle.note_types.specs.declared.reason.Reason.TheVariants as reason
use Rattle.note_types.specs.declared.spot.Spot.TheVariants as spot
use Rattle.note_types.specs.declared.value.Value.TheVariants as value

-- a script with these calls and a notification after so many instructions
abbrev notified_with : ℕ → List ScriptCall → World
notified_with at calls = driver_notified 2 calls (record { at = at; function = 1; args = value.Int 7 ∷ [] } ∷ [])

-- the driver's script with one
abbrev notified : ℕ → World
notified at = notified_with at (locate_call ∷ register_call ∷ [])

-- it is told that the function is entered, and that it returns
abbrev entering : List Event
entering = event.Notified 1 (given (value.Int 7) ∷ []) ∷ []

abbrev ticked : List Event
ticked = entering ++ event.Resumed 1 (value.StatusOk 0) ∷ []

-- ---- after two instructions: the thunk cell is made

before_third : Everywhere (notified 2) driver_image 2 (record { spot = spot.Place 0x1008; trace = []; ending = ending.Running })
unfolding runs_compute
before_third = record { at4 = refl; at8 = refl; neutral = refl }

in_callback : Everywhere (notified 2) driver_image 3 (record { spot = spot.Place 0x1044; trace = entering; ending = ending.Running })
unfolding runs_compute
in_callback = record { at4 = refl; at8 = refl; neutral = refl }

-- it goes on where it was
back : Everywhere (notified 2) driver_image 6 (record { spot = spot.Place 0x1008; trace = ticked; ending = ending.Running })
unfolding runs_compute
back = record { at4 = refl; at8 = refl; neutral = refl }

running : Everywhere (notified 2) driver_image 35 (record { spot = spot.Gate; trace = ticked ++ whole; ending = ending.Running })
unfolding runs_compute
running = record { at4 = refl; at8 = refl; neutral = refl }

finished : Everywhere (notified 2) driver_image 36
    (record { spot = spot.Gate; trace = ticked ++ whole; ending = ending.Finished (value.StatusOk 0) })
unfolding runs_compute
finished = record { at4 = refl; at8 = refl; neutral = refl }

-- ---- after one: no thunk is served yet

early : Everywhere (notified 1) driver_image 1 (record { spot = spot.Place 0x1006; trace = []; ending = ending.Running })
unfolding runs_compute
early = record { at4 = refl; at8 = refl; neutral = refl }

too_early : Everywhere (notified 1) driver_image 2
    (record { spot = spot.Place 0x1006; trace = []; ending = ending.Mismatch (reason.Notify 0) })
unfolding runs_compute
too_early = record { at4 = refl; at8 = refl; neutral = refl }

-- ---- after seventeen: within the first callback of the second call

abbrev nested : List Event
nested =
    asked
    ++ event.Entered 1 (given (value.Int 1) ∷ []) ∷ event.Notified 1 (given (value.Int 7) ∷ [])
    ∷ event.Resumed 1 (value.StatusOk 0) ∷ event.Returned 1 (value.StatusOk 0)
    ∷ event.Entered 1 (given (value.Int 2) ∷ []) ∷ event.Returned 1 (value.StatusOk 0)
    ∷ event.Replied 1 (value.StatusOk 0) ∷ []

in_a_callback : Everywhere (notified 17) driver_image 35 (record { spot = spot.Gate; trace = nested; ending = ending.Running })
unfolding runs_compute
in_a_callback = record { at4 = refl; at8 = refl; neutral = refl }

after_a_callback : Everywhere (notified 17) driver_image 36
    (record { spot = spot.Gate; trace = nested; ending = ending.Finished (value.StatusOk 0) })
unfolding runs_compute
after_a_callback = record { at4 = refl; at8 = refl; neutral = refl }

-- ---- after a hundred: the run is over before

never_running : Everywhere (notified 100) driver_image 31 (record { spot = spot.Gate; trace = whole; ending = ending.Running })
unfolding runs_compute
never_running = record { at4 = refl; at8 = refl; neutral = refl }

never : Everywhere (notified 100) driver_image 32 (record { spot = spot.Gate; trace = whole; ending = ending.Finished (value.StatusOk 0) })
unfolding runs_compute
never = record { at4 = refl; at8 = refl; neutral = refl }

-- ---- after ten, where the first call's reply is an error: the flags choose the next branch, and R7 is the result

abbrev refusing : World
refusing = notified_with 10 (record locate_call { out = []; result = value.StatusError 14 } ∷ register_call ∷ [])

abbrev refused : List Event
refused = event.Called 0x1014 (Some 0) (given value.Out ∷ []) ∷ event.Replied 0 (value.StatusError 14) ∷ []

before_branch : Everywhere refusing driver_image 16
    (record { spot = spot.Place 0x1020; trace = refused ++ ticked; ending = ending.Running })
unfolding runs_compute
before_branch = record { at4 = refl; at8 = refl; neutral = refl }

refused_running : Everywhere refusing driver_image 19
    (record { spot = spot.Gate; trace = refused ++ ticked; ending = ending.Running })
unfolding runs_compute
refused_running = record { at4 = refl; at8 = refl; neutral = refl }

refused_still : Everywhere refusing driver_image 20
    (record { spot = spot.Gate; trace = refused ++ ticked; ending = ending.Finished (value.StatusError 14) })
unfolding runs_compute
refused_still = record { at4 = refl; at8 = refl; neutral = refl }
