-- Runs of a pair, computed at both widths and in the neutral machine: a bound call of a function that doubles a number, and the
-- same where B has a thunk cell that it never makes.
use Rattle.pair_laws.proofs.Common.{◌≡◌, ℕ, true, false, List, [], ◌∷◌, ◌++◌, Some, refl, given, FnNote, Thunk, bind_agrees, Both}
use Rattle.pair_laws.proofs.Common.{PairWorld, OfA, OfB, PairEvent, Image}
use Rattle.pair_laws.specs.NeutralPair.{neutral_pair_report_after}
use Rattle.pair_model.specs.PairReports.{PairReport, pair_report_after}
use Rattle.pair_laws.proofs.{Programs.a_notes, Programs.b_notes, Programs.pair_with, Programs.images_with, Computing.pairs_compute}
use Rattle.note_types.specs.declared.ending.Ending.TheVariants as ending
use Rattle.note_types.specs.declared.event.Event.TheVariants as event
use Rattle.note_types.specs.declared.reason.Reason.TheVariants as reason
use Rattle.note_types.specs.declared.spot.Spot.TheVariants as spot
use Rattle.note_types.specs.declared.value.Value.TheVariants as value
use Rattle.pair_model.specs.declared.event.PairEvent.TheVariants as pair_event

-- a run of a pair shows this after so many steps, at either width and in the neutral machine
record Everywhere (world : PairWorld) (images : Both Image) (k : ℕ) (shown : PairReport) : Type 0 where
  at4 : pair_report_after 4 world images k ≡ shown
  at8 : pair_report_after 8 world images k ≡ shown
  neutral : neutral_pair_report_after world images k ≡ Some shown

-- ---- a bound call

abbrev asked : List PairEvent
asked = pair_event.A (event.Called 0x100A (Some 0) (given (value.Int 21) ∷ [])) ∷ []

abbrev entering : List PairEvent
entering = asked ++ pair_event.B (event.Entered 1 (given (value.Int 21) ∷ [])) ∷ []

abbrev returned : List PairEvent
returned = entering ++ pair_event.B (event.Returned 1 (value.Int 42)) ∷ []

abbrev answered : List PairEvent
answered = returned ++ pair_event.Bound (value.Int 42) ∷ []

abbrev without : PairWorld
without = pair_with []

-- B's own run takes three steps, and then A stands at its start
provider_is_done : Everywhere without (images_with []) 3
    (record { side = OfA; spot = spot.Place 0x1000; trace = []; ending = ending.Running })
unfolding pairs_compute
provider_is_done = record { at4 = refl; at8 = refl; neutral = refl }

is_taken : Everywhere without (images_with []) 8
    (record { side = OfA; spot = spot.Place 0x100C; trace = asked; ending = ending.Running })
unfolding pairs_compute
is_taken = record { at4 = refl; at8 = refl; neutral = refl }

is_entered : Everywhere without (images_with []) 9
    (record { side = OfB; spot = spot.Place 0x1006; trace = entering; ending = ending.Running })
unfolding pairs_compute
is_entered = record { at4 = refl; at8 = refl; neutral = refl }

has_returned : Everywhere without (images_with []) 13
    (record { side = OfA; spot = spot.Place 0x100C; trace = returned; ending = ending.Running })
unfolding pairs_compute
has_returned = record { at4 = refl; at8 = refl; neutral = refl }

is_answered : Everywhere without (images_with []) 14
    (record { side = OfA; spot = spot.Place 0x100C; trace = answered; ending = ending.Running })
unfolding pairs_compute
is_answered = record { at4 = refl; at8 = refl; neutral = refl }

goes_on : Everywhere without (images_with []) 16 (record { side = OfA; spot = spot.Gate; trace = answered; ending = ending.Running })
unfolding pairs_compute
goes_on = record { at4 = refl; at8 = refl; neutral = refl }

finished : Everywhere without (images_with []) 17
    (record { side = OfA; spot = spot.Gate; trace = answered; ending = ending.Finished (value.Int 42) })
unfolding pairs_compute
finished = record { at4 = refl; at8 = refl; neutral = refl }

stays : Everywhere without (images_with []) 100
    (record { side = OfA; spot = spot.Gate; trace = answered; ending = ending.Finished (value.Int 42) })
unfolding pairs_compute
stays = record { at4 = refl; at8 = refl; neutral = refl }

-- ---- a thunk cell that B never makes

abbrev unmade : List Thunk
unmade = record { place = 0x2000; function = 1 } ∷ []

abbrev unmade_images : Both Image
unmade_images = images_with (0x02 ∷ 0xF0 ∷ 0xFF ∷ 0xFF ∷ 0x00 ∷ 0x00 ∷ 0x00 ∷ 0x00 ∷ [])

not_before : Everywhere (pair_with unmade) unmade_images 7
    (record { side = OfA; spot = spot.Place 0x100C; trace = []; ending = ending.Running })
unfolding pairs_compute
not_before = record { at4 = refl; at8 = refl; neutral = refl }

refused : Everywhere (pair_with unmade) unmade_images 8
    (record { side = OfA; spot = spot.Place 0x100C; trace = asked; ending = ending.Mismatch (reason.Bind 1) })
unfolding pairs_compute
refused = record { at4 = refl; at8 = refl; neutral = refl }

refused_still : Everywhere (pair_with unmade) unmade_images 100
    (record { side = OfA; spot = spot.Place 0x100C; trace = asked; ending = ending.Mismatch (reason.Bind 1) })
unfolding pairs_compute
refused_still = record { at4 = refl; at8 = refl; neutral = refl }

-- ---- binds

agrees : bind_agrees a_notes (b_notes [] 1000) (record { method = 0; function = 1 }) ≡ true
unfolding pairs_compute
agrees = refl

too_narrow : bind_agrees a_notes (b_notes [] 10) (record { method = 0; function = 1 }) ≡ false
unfolding pairs_compute
too_narrow = refl

-- the entry function, though its types agree
not_the_entry : bind_agrees a_notes (record (b_notes [] 1000) { entry = 1 }) (record { method = 0; function = 1 }) ≡ false
unfolding pairs_compute
not_the_entry = refl

-- a function that isn't marked, though its types agree
abbrev unmarked : List FnNote → List FnNote
unmarked (f ∷ g ∷ []) = f ∷ record g { enter = false } ∷ []
unmarked fs = fs

not_unmarked : bind_agrees a_notes (record (b_notes [] 1000) { function = unmarked (b_notes [] 1000).function })
    (record { method = 0; function = 1 }) ≡ false
unfolding pairs_compute
not_unmarked = refl

-- a function of other parameters
not_without : bind_agrees a_notes (b_notes [] 1000) (record { method = 0; function = 0 }) ≡ false
unfolding pairs_compute
not_without = refl
