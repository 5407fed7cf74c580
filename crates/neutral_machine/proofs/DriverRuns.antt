-- The run of the driver of docs/NOTES.md with its script, step by step, and of three variants of the script.
use Rattle.neutral_machine.proofs.Common.{List, [], ◌∷◌, ◌++◌, Some, refl, Event, given, World}
use Rattle.neutral_machine.proofs.Driver.{driver, driver_with, locate_call, register_call}
use Rattle.neutral_machine.proofs.{Computing.runs_compute, Programs.driver_image, Rows.Everywhere}
use Rattle.note_types.specs.declared.ending.Ending.TheVariants as ending
use Rattle.note_types.specs.declared.event.Event.TheVariants as event
use Rattle.note_types.specs.declared.reason.Reason.TheVariants as reason
use Rattle.note_types.specs.declared.spot.Spot.TheVariants as spot
use Rattle.note_types.specs.declared.value.Value.TheVariants as value

-- ---- the script as it is

-- the first call, told and answered
abbrev located : List Event
located = event.Called 0x1014 (Some 0) (given value.Out ∷ []) ∷ event.Replied 0 (value.StatusOk 0) ∷ []

-- the second call
abbrev pub asked : List Event
asked = located ++ event.Called 0x1032 (Some 1) (given (value.Entry 1) ∷ []) ∷ []

-- all events
abbrev pub whole : List Event
whole =
    asked
    ++ event.Entered 1 (given (value.Int 1) ∷ []) ∷ event.Returned 1 (value.StatusOk 0)
    ∷ event.Entered 1 (given (value.Int 2) ∷ []) ∷ event.Returned 1 (value.StatusOk 0)
    ∷ event.Replied 1 (value.StatusOk 0) ∷ []

started : Everywhere driver driver_image 0 (record { spot = spot.Place 0x1000; trace = []; ending = ending.Running })
unfolding runs_compute
started = record { at4 = refl; at8 = refl; neutral = refl }

running : Everywhere driver driver_image 31 (record { spot = spot.Gate; trace = whole; ending = ending.Running })
unfolding runs_compute
running = record { at4 = refl; at8 = refl; neutral = refl }

finished : Everywhere driver driver_image 32 (record { spot = spot.Gate; trace = whole; ending = ending.Finished (value.StatusOk 0) })
unfolding runs_compute
finished = record { at4 = refl; at8 = refl; neutral = refl }

-- ---- variants

-- the script has no second call
left_over : Everywhere (driver_with (locate_call ∷ [])) driver_image 20
    (record { spot = spot.Place 0x1038; trace = asked; ending = ending.ScriptEnd })
unfolding runs_compute
left_over = record { at4 = refl; at8 = refl; neutral = refl }

-- and a run that ended stays as it is
left_over_still : Everywhere (driver_with (locate_call ∷ [])) driver_image 21
    (record { spot = spot.Place 0x1038; trace = asked; ending = ending.ScriptEnd })
unfolding runs_compute
left_over_still = record { at4 = refl; at8 = refl; neutral = refl }

-- the first call's reply is an error
abbrev refusing : World
refusing = driver_with (record locate_call { out = []; result = value.StatusError 14 } ∷ register_call ∷ [])

refused : Everywhere refusing driver_image 16
    (record {
      spot = spot.Gate;
      trace = event.Called 0x1014 (Some 0) (given value.Out ∷ []) ∷ event.Replied 0 (value.StatusError 14) ∷ [];
      ending = ending.Finished (value.StatusError 14);
    })
unfolding runs_compute
refused = record { at4 = refl; at8 = refl; neutral = refl }

-- the first call's reply gives an object of another shape
abbrev mistaken : World
mistaken = driver_with (record locate_call { out = record { argument = 0; value = value.Ptr 0 0 } ∷ [] } ∷ register_call ∷ [])

mismatched : Everywhere mistaken driver_image 9
    (record {
      spot = spot.Place 0x1016;
      trace = event.Called 0x1014 (Some 0) (given value.Out ∷ []) ∷ [];
      ending = ending.Mismatch (reason.Reply 0);
    })
unfolding runs_compute
mismatched = record { at4 = refl; at8 = refl; neutral = refl }
