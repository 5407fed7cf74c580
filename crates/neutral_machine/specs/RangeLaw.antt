-- For proofs: the laws of what the host places: under a valid placement each range that takes bytes begins above address 0,
-- as a machine's memory asks of all; and the stack of notes that a reader gives is within the limit. docs/HOST.md, "Memory".
use Rattle.std.specs.Prelude.{◌≡◌, ℕ, ◌+◌, ◌*◌, ◌^◌, ◌<◌, ◌≤◌, Some, length, slice_get}
use Rattle.ebc_width.specs.Ranges.{Range}
use Rattle.ebc_width.specs.Width.{IsWidth}
use Rattle.note_types.specs.Concrete.{AreDisjoint}
use Rattle.note_types.specs.Limits.{stack_limit}
use Rattle.note_types.specs.Records.{IsNotes}
use Rattle.note_types.specs.declared.notes.Notes.{Notes}
use Rattle.host_model.specs.Placements.{Placement, IsPlacement, placed_ranges, stack_bytes}
use Rattle.host_model.specs.Scripts.{IsScript}
use Rattle.host_model.specs.World.{World}

-- Where the script was read, an image takes bytes and the entry function is there, all that is placed after each number of
-- calls lies above address 0, within the width, and apart: the objects of a machine's memory lie so (`IsConcrete`). Nothing is
-- asked of the image's code.
pub record LiesAsMemory (w : ℕ) (world : World) (P : Placement) (entries : ℕ) : Type 0 where
  pub inside : (k : ℕ) (r : Range) → slice_get (placed_ranges w world P entries) k ≡ Some r → (1 ≤ r.base) × (r.base + r.size ≤ 2 ^ (8 * w))
  pub apart : (j k : ℕ) (r q : Range) → j < k → slice_get (placed_ranges w world P entries) j ≡ Some r
      → slice_get (placed_ranges w world P entries) k ≡ Some q → AreDisjoint r q

abbrev pub RangesLieAsMemory : Type 0
RangesLieAsMemory =
    (w : ℕ) (world : World) (P : Placement) → IsWidth w → IsScript world.notes world.script → 0 < world.image_size
    → world.notes.entry < length world.notes.function
    → IsPlacement w world P → (entries : ℕ) → LiesAsMemory w world P entries

-- The stack is within the limit of notes.
abbrev pub StackIsWithinLimit : Type 0
StackIsWithinLimit = (w : ℕ) (notes : Notes) → IsWidth w → IsNotes notes → stack_bytes w notes ≤ stack_limit
