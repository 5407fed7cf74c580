-- For proofs: what the laws of the host's steps ask of an image, met by one that keeps the rules on static objects and thunk
-- cells. docs/HOST.md, "Laws of its steps".
use Rattle.std.specs.Prelude.{◌≡◌, ℕ, ◌+◌, ◌≤◌, Some, slice_get}
use Rattle.ebc_width.specs.Width.{IsWidth}
use Rattle.host_laws.specs.StartGiven.{StaticsShow}
use Rattle.host_laws.specs.ThunkLoaded.{ThunkLoaded}
use Rattle.ebc_insn.specs.declared.Insn.{Insn}
use Rattle.instruction_laws.specs.Premises.{IsRunOf}
use Rattle.note_types.specs.declared.notes.FnNote.{FnNote}
use Rattle.note_types.specs.declared.notes.Thunk.{Thunk}
use Rattle.pe_image.specs.Mapped.{AreBytes, mapped}
use Rattle.pe_image.specs.declared.image.Image.{Image}
use Rattle.rules_image.specs.Images.{IsDecoded}
use Rattle.host_model.specs.Placements.{Placement, IsPlacement}
use Rattle.host_model.specs.World.{World}
use Rattle.neutral_machine.specs.NeutralImage.{instruction_at, static_cells}

-- Wherever the image is loaded, each thunk cell names its function.
abbrev pub ThunksAreLoaded : Type 0
ThunksAreLoaded =
    (image : Image) (world : World) (base : ℕ) → IsRunOf image world → AreBytes image → (i : ℕ) (t : Thunk)
    → slice_get world.notes.thunk i ≡ Some t → ThunkLoaded world (mapped image base) t

-- Under a valid placement the loaded bytes show what the cells of static objects hold.
abbrev pub StaticsAreShown : Type 0
StaticsAreShown =
    (w : ℕ) (image : Image) (world : World) (P : Placement) → IsWidth w → IsRunOf image world → AreBytes image → IsPlacement w world P
    → StaticsShow w world P (mapped image P.image) (static_cells world image)

-- An instruction that the neutral machine reads at a place, and that ends in a function, keeps the rule on decoding.
abbrev pub ReadIsDecoded : Type 0
ReadIsDecoded =
    (image : Image) (f : FnNote) (place : ℕ) (i : Insn) (size : ℕ) → AreBytes image → instruction_at image place ≡ Some (i, size)
    → place + size ≤ f.end
    → IsDecoded image f place i (place + size)
