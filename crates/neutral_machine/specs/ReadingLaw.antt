-- For proofs: the law of readings: a number that shows a neutral value is read, at each width, as the value is.
-- docs/HOST.md, "Readings".
use Rattle.std.specs.Prelude.{◌≡◌, ℕ, List, Some}
use Rattle.ebc_width.specs.Width.{IsWidth, cut_at}
use Rattle.neutral_machine.specs.Config.{Frame}
use Rattle.neutral_machine.specs.Layout.{addresses}
use Rattle.host_model.specs.declared.object.TypedObject.{TypedObject}
use Rattle.host_model.specs.Objects.{made_objects}
use Rattle.host_model.specs.Placements.{Placement, IsPlacement}
use Rattle.host_model.specs.World.{World}
use Rattle.host_model.specs.Readings.{Sort, reading_of}
use Rattle.note_types.specs.declared.notes.Notes.{Notes}
use Rattle.note_types.specs.declared.value.Value.{Value}
use Rattle.neutral_machine.specs.Named.{HasObjects}
use Rattle.neutral_machine.specs.NeutralReadings.{neutral_reading, neutral_result}
use Rattle.host_model.specs.Values.{Neutral, Addresses, Shows}

-- where a neutral value has a reading, the number that shows it has that reading
abbrev pub ReadsAlike : ℕ → Notes → Placement → List TypedObject → Addresses → Type 0
ReadsAlike w notes P made A =
    (sort : Sort) (v : Neutral) (x : ℕ) (t : Value) → neutral_reading notes made sort v ≡ Some t → Shows w A v x
    → reading_of w notes P made sort x ≡ t

-- and so it is with a function's result, of which the machine looks at the natural part
abbrev pub ResultsAlike : ℕ → Notes → Placement → List TypedObject → Addresses → Type 0
ResultsAlike w notes P made A =
    (sort : Sort) (v : Neutral) (x : ℕ) (t : Value) → neutral_result notes made sort v ≡ Some t → Shows w A v x
    → reading_of w notes P made sort (cut_at w x) ≡ t

-- Both laws hold under a valid placement, after each number of calls and whatever frames stand.
abbrev pub ReadingsAlike : Type 0
ReadingsAlike =
    (w : ℕ) (world : World) (P : Placement) → IsWidth w → HasObjects world → IsPlacement w world P → (entries : ℕ) (fs : List Frame)
    → ReadsAlike w world.notes P (made_objects world.notes world.script entries) (addresses w world.notes P fs)
    × ResultsAlike w world.notes P (made_objects world.notes world.script entries) (addresses w world.notes P fs)
