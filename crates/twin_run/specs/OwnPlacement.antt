-- For proofs: the law that the placement which this project takes is valid. docs/HOST.md, "Memory".
use Rattle.std.specs.Prelude.{◌≡◌, ℕ, ◌^◌, ◌≤◌, length}
use Rattle.std.specs.List.{sum_by}
use Rattle.ebc_width.specs.Width.{IsWidth}
use Rattle.note_types.specs.Records.{IsNotes}
use Rattle.pe_image.specs.Images.{IsImage}
use Rattle.pe_image.specs.declared.image.Image.{Image}
use Rattle.host_model.specs.Objects.{placed_objects}
use Rattle.host_model.specs.Placements.{IsPlacement, own_placement}
use Rattle.host_model.specs.Scripts.{room_of}
use Rattle.host_model.specs.World.{World}

-- It is, at either width, of any image and notes that were read, checked or not, where all objects of the script take at most
-- 8 MiB so.
abbrev pub OwnPlacementIsValid : Type 0
OwnPlacementIsValid =
    (w : ℕ) (image : Image) (world : World) → IsWidth w → IsImage image → world.image_size ≡ image.size → IsNotes world.notes
    → sum_by (room_of world.notes) (placed_objects world.script (length world.script.call)) ≤ 2 ^ 23
    → IsPlacement w world (own_placement w world)
