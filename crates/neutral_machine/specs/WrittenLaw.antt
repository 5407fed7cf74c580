-- For proofs: what a reader gives as a value: each number within what it may be. And the laws of written values: one that
-- fits a type has a neutral value that fits it, and its number at each width shows that value. docs/HOST.md, "Values".
use Rattle.std.specs.Prelude.{◌≡◌, ℕ, ◌^◌, ◌<◌, List, length, true, ⊤}
use Rattle.ebc_width.specs.Width.{IsWidth}
use Rattle.host_model.specs.HostSteps.{written_number}
use Rattle.neutral_machine.specs.Config.{Frame}
use Rattle.neutral_machine.specs.Layout.{addresses}
use Rattle.host_model.specs.declared.object.TypedObject.{TypedObject}
use Rattle.host_model.specs.Objects.{made_objects}
use Rattle.host_model.specs.Placements.{Placement, IsPlacement, handle_count}
use Rattle.host_model.specs.World.{World}
use Rattle.note_types.specs.declared.notes.Notes.{Notes}
use Rattle.note_types.specs.declared.types.Ty.{Ty}
use Rattle.note_types.specs.declared.value.Value.{Value}
use Rattle.note_types.specs.declared.value.Value.TheVariants as value
use Rattle.neutral_machine.specs.Fits.{FitsPlain}
use Rattle.neutral_machine.specs.Named.{HasObjects}
use Rattle.host_model.specs.ScriptValues.{fits}
use Rattle.host_model.specs.Values.{Addresses, Shows, IsCode}
use Rattle.neutral_machine.specs.Written.{value_as}

-- a value within what a reader gives
abbrev pub IsValue : Notes → Value → Type 0
IsValue notes (value.Int n) = n < 2 ^ 64
IsValue notes (value.Size n c) = ⊤
IsValue notes (value.Ptr o i) = ⊤
IsValue notes value.Null = ⊤
IsValue notes (value.StatusOk k) = IsCode k
IsValue notes (value.StatusError k) = IsCode k
IsValue notes (value.Handle k) = k < handle_count
IsValue notes (value.Entry f) = f < length notes.function
IsValue notes (value.Method m) = m < length notes.methods
IsValue notes value.Any = ⊤
IsValue notes value.Out = ⊤
IsValue notes (value.Wild x) = x < 2 ^ 64

-- A written value that fits a type has a neutral value that fits it, where the type means the same in every frame.
abbrev pub WrittenFits : Type 0
WrittenFits = (notes : Notes) (made : List TypedObject) (t : Ty) (v : Value) → fits made t v ≡ true
    → FitsPlain notes made t (value_as notes made t v)

-- A written value shows, at a width and put as any type, as its number there.
abbrev pub WrittenShows : ℕ → Notes → Placement → List TypedObject → Addresses → Type 0
WrittenShows w notes P made A = (t : Ty) (v : Value) → IsValue notes v
    → Shows w A (value_as notes made t v) (written_number w notes P made v)

-- So it does under a valid placement, after each number of calls and whatever frames stand.
abbrev pub WrittenNumberShows : Type 0
WrittenNumberShows =
    (w : ℕ) (world : World) (P : Placement) → IsWidth w → HasObjects world → IsPlacement w world P → (entries : ℕ) (fs : List Frame)
    → WrittenShows w world.notes P (made_objects world.notes world.script entries) (addresses w world.notes P fs)
