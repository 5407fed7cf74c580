-- For proofs: laws of a state that stands for a configuration, which the laws of an instruction and of the host's steps
-- stand on. docs/SIMULATION.md, "What the laws say".
use Rattle.std.specs.Prelude.{◌≡◌, ◌≢◌, ◌⊎◌, ℕ, suc, ◌+◌, ◌≤◌, Some, None, slice_get}
use Rattle.ebc_width.specs.Bytes.{put}
use Rattle.ebc_width.specs.Width.{IsWidth}
use Rattle.note_types.specs.Cells.{cell_size}
use Rattle.note_types.specs.Concrete.{Concrete}
use Rattle.note_types.specs.declared.notes.Thunk.{Thunk}
use Rattle.note_types.specs.declared.shape.Field.{Field}
use Rattle.neutral_machine.specs.Config.{Config}
use Rattle.neutral_machine.specs.Layout.{total}
use Rattle.neutral_machine.specs.Memory.{memory_of, cell_field}
use Rattle.host_model.specs.Placements.{Placement, IsPlacement, stack_bytes, entry_address}
use Rattle.host_model.specs.Values.{CellPlace}
use Rattle.host_model.specs.World.{World}
use Rattle.neutral_machine.specs.Stands.{OwnLocalsAll, MachineStands, cell_address}
use Rattle.neutral_machine.specs.WorldFits.{WorldFits}

-- Two typed cells, of objects or of locals, share no byte at either width.
abbrev pub CellsApart : Type 0
CellsApart =
    (w : ℕ) (world : World) (P : Placement) (a : Config) (p q : CellPlace) (y z : Field) (x u : ℕ)
    → IsWidth w → IsPlacement w world P → WorldFits world → total w a.frames ≤ stack_bytes w world.notes → OwnLocalsAll world.notes a.frames
    → cell_field world.notes (memory_of world a) p ≡ Some y → cell_field world.notes (memory_of world a) q ≡ Some z → p ≢ q
    → cell_address w world P a p y ≡ Some x → cell_address w world P a q z ≡ Some u
    → (x + cell_size w y.cell ≤ u) ⊎ (u + cell_size w z.cell ≤ x)

-- The host makes a thunk: where its address is stored in the cell that is next, which alone may be left out before, the machine
-- stands with one thunk more.
abbrev pub ThunkMade : Type 0
ThunkMade =
    (w : ℕ) (world : World) (P : Placement) (mapped : ℕ → ℕ) (a : Config) (s : Concrete) (t : Thunk) (e : ℕ)
    → IsWidth w → IsPlacement w world P → WorldFits world → MachineStands w world P mapped (Some a.made) a s
    → total w a.frames ≤ stack_bytes w world.notes
    → slice_get world.notes.thunk a.made ≡ Some t → entry_address world.notes P t.function ≡ Some e
    → MachineStands w world P mapped None (record a { made = suc a.made }) (record s { byte = put s.byte (P.image + t.place) w e })
