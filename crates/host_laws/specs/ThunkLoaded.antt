-- For proofs: what the rule on thunk cells says of a cell that isn't made: its function is one that the firmware may enter,
-- the first that begins at its place among these, and the loaded bytes name it from where the cell is. docs/HOST.md,
-- "Steps".
use Rattle.std.specs.Prelude.{◌≡◌, ℕ, ◌+◌, ◌%◌, ◌^◌, Some, slice_get}
use Rattle.ebc_width.specs.Bytes.{little_endian}
use Rattle.ebc_width.specs.Width.{extended_at}
use Rattle.note_types.specs.declared.notes.FnNote.{FnNote}
use Rattle.note_types.specs.declared.notes.Thunk.{Thunk}
use Rattle.host_model.specs.HostSteps.{entered_at}
use Rattle.host_model.specs.World.{World}

pub record ThunkLoaded (world : World) (mapped : ℕ → ℕ) (t : Thunk) : Type 0 where
  pub note : FnNote
  pub there : slice_get world.notes.function t.function ≡ Some note
  pub found : entered_at world.notes note.place ≡ Some t.function
  pub names : (x : ℕ) → x ≡ little_endian mapped t.place 4 → (extended_at 4 x + t.place + 4) % 2 ^ 64 ≡ note.place
