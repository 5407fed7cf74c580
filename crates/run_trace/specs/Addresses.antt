-- For proofs: what a number is as an address of a run: docs/TRACE.md, "Addresses". In which object it lies says where the objects
-- of the state lie; what the objects are say the notes, since the host places them in one order: docs/HOST.md, "Memory".
use Rattle.std.specs.Prelude.{ℕ, suc, ◌+◌, ◌-◌, ◌/◌, ◌%◌, ◌^◌, List, [], ◌∷◌, length, Option, Some, None, nat_eq, nat_lt, if◌then◌else◌}
use Rattle.std.specs.Option.{option_and_then}
use Rattle.ebc_width.specs.Ranges.{Range, covers}
use Rattle.host_model.specs.Placements.{area_step}
use Rattle.note_types.specs.declared.notes.Notes.{Notes}
use Rattle.step_texts.specs.declared.meaning.Meaning.{Meaning}
use Rattle.step_texts.specs.declared.meaning.Meaning.TheVariants.{Past, Place}
use Rattle.step_texts.specs.declared.meaning.Thing.{Thing}
use Rattle.step_texts.specs.declared.meaning.Thing.TheVariants as things
use Rattle.step_texts.specs.declared.step.Change.{Change}
use Rattle.run_trace.specs.declared.addresses.Located.{Located}

-- ---- where an address lies

-- the first of these objects that has the byte at x, and how far past its beginning that is; they are numbered from k on
unfoldable pub located : ℕ → List Range → ℕ → Option Located
located k [] x = None
located k (r ∷ rs) x = if covers x 1 r then Some (record { object = k; offset = x - r.base }) else located (suc k) rs x

-- ---- what lies there

-- the things of the native area past the gate: the methods, the functions' thunks, and the handles
abbrev pub thing_past_gate : Notes → ℕ → Thing
thing_past_gate notes k =
    let methods = length notes.methods in
    let functions = length notes.function in
    if nat_lt k methods then things.Method k
    else if nat_lt (k - methods) functions then things.Entry (k - methods)
    else things.Handle (k - methods - functions)

abbrev pub native_thing : Notes → ℕ → Thing
native_thing notes k = if nat_eq k 0 then things.Gate else thing_past_gate notes (k - 1)

-- a place of the image, which has 32 bits
abbrev pub image_place : ℕ → Option Meaning
image_place offset = if nat_lt offset (2 ^ 32) then Some (Place offset) else None

-- The objects of the script have their numbers behind the static ones, which lie in the image.
unfoldable pub meaning_of : Notes → Located → Option Meaning
meaning_of notes l =
    if nat_eq l.object 0 then Some (Past (native_thing notes (l.offset / area_step)) (l.offset % area_step))
    else if nat_eq l.object 1 then Some (Past things.Stack l.offset)
    else if nat_eq l.object 2 then image_place l.offset
    else Some (Past (things.Object (length notes.statics + (l.object - 3))) l.offset)

-- what a number is as an address, where the objects lie so: nothing if no object has the byte there
unfoldable pub meaning_at : Notes → List Range → ℕ → Option Meaning
meaning_at notes objects x = option_and_then (meaning_of notes) (located 0 objects x)

-- a number, and what it is as an address, where the objects lie so
abbrev pub held : Notes → List Range → ℕ → Change
held notes objects x = record { number = x; meaning = meaning_at notes objects x }
