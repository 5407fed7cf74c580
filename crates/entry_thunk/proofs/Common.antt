-- The names that several proofs of this crate cite, passed on from one place. Declares nothing.
pub use Rattle.std.proofs.Common.{◌≡◌, ℕ, ◌+◌, ◌%◌, ◌^◌, ◌<◌, ◌≤◌, true, false, ◌&&◌, List, length, drop, get_or, refl, sym, ap, ap₂, ◌∙◌}
pub use Rattle.std.proofs.Common.{arith, None, ◌-◌}
pub use Rattle.ebc_width.specs.Width.{cut_at}
pub use Rattle.note_types.specs.Concrete.{Concrete}
pub use Rattle.object_memory.specs.Memory.{Memory, ranges}
pub use Rattle.ebc_machine.specs.States.{KeepsObjects, concrete_of}
pub use Rattle.host_model.specs.Placements.{params_bytes}
pub use Rattle.entry_thunk.specs.Cells.{params_of, with_memory}
unfoldable pub use Rattle.ebc_width.specs.Ranges.{holds}
unfoldable pub use Rattle.note_types.specs.Concrete.{stored}
unfoldable pub use Rattle.host_model.specs.HostSteps.{with_slots, inside}
unfoldable pub use Rattle.entry_thunk.specs.Cells.{with_cells, slots_mapped}
