-- The names that several proofs of this crate cite, passed on from one place. Declares nothing.
pub use Rattle.std.proofs.Common.{◌≡◌, ℕ, ◌+◌, ◌%◌, ◌^◌, ◌<◌, ◌≤◌, true, List, length, take, get_or, sym, ap, subst, ◌∙◌, arith, None}
pub use Rattle.ebc_width.specs.Width.{distance_of}
pub use Rattle.pe_image.specs.declared.image.Section.{Section}
pub use Rattle.object_memory.specs.Memory.{IsMemory, ranges, with_bytes}
unfoldable pub use Rattle.ebc_width.specs.{Bytes.little_endian, Bytes.put, Ranges.holds}
unfoldable pub use Rattle.pe_image.specs.Mapped.{laid, moved}
unfoldable pub use Rattle.reloc_loader.specs.Loads.{within}
