-- Whole runs that each show one thing, computed at both widths and in the neutral machine.
use Rattle.neutral_machine.proofs.Common.{◌≡◌, ◌+◌, ℕ, List, [], ◌∷◌, ◌++◌, Option, Some, None, refl, option_map, flat_map, loaded, Event}
use Rattle.neutral_machine.proofs.Common.{Config, written_number, object_at, own_placement, thunk_at, StatusOf, reading_of, given, lent}
use Rattle.neutral_machine.proofs.Common.{Neutral, At, ObjectOf, FieldOf, FieldOfLocals, number, signed_error_at, report_after}
use Rattle.std.proofs.Common.{replicate}
use Rattle.neutral_machine.proofs.Programs.{driver_image, dividing_image, lending_image, lending_world, nest_image, nest_world, plain_world}
use Rattle.neutral_machine.proofs.Programs.{pointer_image, pointer_world, static_image, static_world, width_image}
use Rattle.neutral_machine.proofs.{Driver.driver, Driver.driver_notes, Computing.runs_compute, Rows.AtWidths, Rows.Everywhere}
use Rattle.neutral_machine.specs.NeutralRun.{config_after}
use Rattle.host_model.specs.Runs.{run_of}
use Rattle.note_types.specs.declared.ending.Ending.TheVariants as ending
use Rattle.note_types.specs.declared.event.Event.TheVariants as event
use Rattle.note_types.specs.declared.exception.Exception.TheVariants as raises
use Rattle.note_types.specs.declared.reason.Reason.TheVariants as reason
use Rattle.note_types.specs.declared.spot.Spot.TheVariants as spot
use Rattle.note_types.specs.declared.value.Value.TheVariants as value

-- ---- an exception

divides : Everywhere plain_world dividing_image 3 (record {
  spot = spot.Place 0x1008;
  trace = [];
  ending = ending.Raised raises.DivideError;
})
unfolding runs_compute
divides = record { at4 = refl; at8 = refl; neutral = refl }

-- ---- code that isn't the same at both widths

-- the two runs stand at one place before the jump that depends on the width, and apart after it
before_jump : AtWidths plain_world width_image 2 (record { spot = spot.Place 0x1008; trace = []; ending = ending.Running })
unfolding runs_compute
before_jump = record { at4 = refl; at8 = refl }

jumped_4 : report_after 4 plain_world width_image 3 ≡ record { spot = spot.Place 0x1006; trace = []; ending = ending.Running }
unfolding runs_compute
jumped_4 = refl

jumped_8 : report_after 8 plain_world width_image 3 ≡ record { spot = spot.Place 0x100A; trace = []; ending = ending.Running }
unfolding runs_compute
jumped_8 = refl

ended_4 : report_after 4 plain_world width_image 7 ≡ record { spot = spot.Gate; trace = []; ending = ending.Finished value.Any }
unfolding runs_compute
ended_4 = refl

ended_8 : report_after 8 plain_world width_image 5 ≡ record { spot = spot.Gate; trace = []; ending = ending.Finished value.Any }
unfolding runs_compute
ended_8 = refl

-- the neutral machine is stuck at its comparison
stuck : config_after plain_world width_image 2 ≡ None
unfolding runs_compute
stuck = refl

-- ---- bytes that the loader moves

-- a static number, read through a relocated address
static_read : Everywhere static_world static_image 4 (record { spot = spot.Gate; trace = []; ending = ending.Finished (value.Int 0x12A) })
unfolding runs_compute
static_read = record { at4 = refl; at8 = refl; neutral = refl }

-- a static number, read through a relocated address in a static pointer of 64 bits
pointer_followed : Everywhere pointer_world pointer_image 5 (record {
  spot = spot.Gate;
  trace = [];
  ending = ending.Finished (value.Int 0x539);
})
unfolding runs_compute
pointer_followed = record { at4 = refl; at8 = refl; neutral = refl }

-- ---- callbacks within callbacks

-- a call of the method, and its callback
abbrev entered_from : ℕ → List Event
entered_from place = event.Called place (Some 0) [] ∷ event.Entered 1 (given (value.Ptr 0 0) ∷ []) ∷ []

-- nine frames of the host: the first one and eight callbacks; the ninth call is told, and its callback isn't entered
abbrev nine_deep : List Event
nine_deep = entered_from 0x1004 ++ flat_map entered_from (replicate 7 0x100C) ++ event.Called 0x100C (Some 0) [] ∷ []

nested : Everywhere nest_world nest_image 35 (record { spot = spot.Place 0x100E; trace = nine_deep; ending = ending.Running })
unfolding runs_compute
nested = record { at4 = refl; at8 = refl; neutral = refl }

too_deep : Everywhere nest_world nest_image 36 (record {
  spot = spot.Place 0x100E;
  trace = nine_deep;
  ending = ending.Mismatch reason.Depth;
})
unfolding runs_compute
too_deep = record { at4 = refl; at8 = refl; neutral = refl }

-- ---- numbers and readings of a status

status_4 : written_number 4 driver_notes (own_placement 4 driver) [] (value.StatusError 14) ≡ 0x8000000E
unfolding runs_compute
status_4 = refl

status_8 : written_number 8 driver_notes (own_placement 8 driver) [] (value.StatusError 14) ≡ 0x800000000000000E
unfolding runs_compute
status_8 = refl

-- sign-extended, both are negative
signed_4 : signed_error_at 4 14 ≡ 0xFFFFFFFF8000000E
signed_4 = refl

signed_8 : signed_error_at 8 14 ≡ 0x800000000000000E
signed_8 = refl

-- the number of one width is no status at the other
read_4 : reading_of 4 driver_notes (own_placement 4 driver) [] StatusOf 0x8000000E ≡ value.StatusError 14
unfolding runs_compute
read_4 = refl

read_8 : reading_of 8 driver_notes (own_placement 8 driver) [] StatusOf 0x800000000000000E ≡ value.StatusError 14
unfolding runs_compute
read_8 = refl

wild_8 : reading_of 8 driver_notes (own_placement 8 driver) [] StatusOf 0x8000000E ≡ value.Wild 0x8000000E
unfolding runs_compute
wild_8 = refl

-- ---- a thunk cell

-- the number in so many bytes of memory at an address
abbrev held : ℕ → (k address size : ℕ) → Option ℕ
held w k address size = loaded (run_of w driver (own_placement w driver) driver_image k).machine address size

-- before BREAK 5 the cell holds the distance to its function, and after it the thunk's address, in as many bytes as an
-- address has; the others stay
distance_4 : held 4 1 ((own_placement 4 driver).image + 0x2000) 8 ≡ Some 0xFFFFF040
unfolding runs_compute
distance_4 = refl

distance_8 : held 8 1 ((own_placement 8 driver).image + 0x2000) 8 ≡ Some 0xFFFFF040
unfolding runs_compute
distance_8 = refl

served_4 : held 4 2 ((own_placement 4 driver).image + 0x2000) 8 ≡ Some (thunk_at driver_notes (own_placement 4 driver) 1)
unfolding runs_compute
served_4 = refl

served_8 : held 8 2 ((own_placement 8 driver).image + 0x2000) 8 ≡ Some (thunk_at driver_notes (own_placement 8 driver) 1)
unfolding runs_compute
served_8 = refl

served_neutral : option_map (λ (a : Config). a.made) (config_after driver driver_image 2) ≡ Some 1
unfolding runs_compute
served_neutral = refl

-- ---- a cell that is lent, an object that is made, and a pointer that is written

lends : Everywhere lending_world lending_image 13
    (record {
      spot = spot.Gate;
      trace = event.Called 0x1010 (Some 0) (lent (value.Int 5) ∷ []) ∷ event.Replied 0 (value.StatusOk 0) ∷ [];
      ending = ending.Finished (value.Int 77);
    })
unfolding runs_compute
lends = record { at4 = refl; at8 = refl; neutral = refl }

-- the number in so many bytes of an object, so far from its start, once the reply is stored
abbrev in_object : ℕ → (object offset size : ℕ) → Option ℕ
in_object w object offset size =
    loaded (run_of w lending_world (own_placement w lending_world) lending_image 8).machine
    (object_at lending_world.notes (own_placement w lending_world) object + offset) size

pointer_4 : in_object 4 1 4 4 ≡ Some (object_at lending_world.notes (own_placement 4 lending_world) 2 + 8)
unfolding runs_compute
pointer_4 = refl

pointer_8 : in_object 8 1 8 8 ≡ Some (object_at lending_world.notes (own_placement 8 lending_world) 2 + 16)
unfolding runs_compute
pointer_8 = refl

made_4 : in_object 4 2 8 4 ≡ Some 9
unfolding runs_compute
made_4 = refl

made_8 : in_object 8 2 16 4 ≡ Some 9
unfolding runs_compute
made_8 = refl

-- in the neutral machine: none where there is no cell or no configuration
abbrev neutral_cell : (k object instance field : ℕ) → Option (Option Neutral)
neutral_cell k object instance field = option_map (λ (a : Config). a.cells (FieldOf object instance field))
    (config_after lending_world lending_image k)

pointer_neutral : neutral_cell 8 1 0 1 ≡ Some (Some (At (ObjectOf 2) 2 0))
unfolding runs_compute
pointer_neutral = refl

made_neutral : neutral_cell 8 2 1 0 ≡ Some (Some (number 9))
unfolding runs_compute
made_neutral = refl

-- a cell of the made object that the script doesn't give holds null
zero_neutral : neutral_cell 8 2 0 0 ≡ Some (Some (number 0))
unfolding runs_compute
zero_neutral = refl

-- no such object before the call is accepted
absent_neutral : neutral_cell 6 2 1 0 ≡ Some None
unfolding runs_compute
absent_neutral = refl

-- what the local holds before the call, and after the reply
local_before : option_map (λ (a : Config). a.cells (FieldOfLocals 0 0)) (config_after lending_world lending_image 6) ≡ Some
    (Some (number 5))
unfolding runs_compute
local_before = refl

local_after : option_map (λ (a : Config). a.cells (FieldOfLocals 0 0)) (config_after lending_world lending_image 8) ≡ Some
    (Some (number 77))
unfolding runs_compute
local_after = refl
