-- The names that several proofs of this crate cite, passed on from one place. Declares nothing.
pub use Rattle.std.specs.Option.{option_map_or}
pub use Rattle.std.proofs.Common.{◌≡◌, ℕ, ◌+◌, ◌*◌, ◌<◌, ◌≤◌, Bool, true, false, List, length, refl, sym, ap, ◌∙◌, subst, Result, Ok, Err}
pub use Rattle.std.proofs.Common.{nat_eq, nat_le, eqb-true, suc, ◌-◌, ◌^◌, [], ◌∷◌, ◌++◌, get_or, arith, length-append, Option, Some, None}
pub use Rattle.std.proofs.Common.{All, IfSome, slice_get, zero}
pub use Rattle.ebc_base.specs.Steps.{◌>>=◌, passes}
pub use Rattle.option_rom.specs.{Conditions.Fault, Conditions.size_at, Fields.blocks, Fields.code_type, Fields.structure}
pub use Rattle.option_rom.specs.{Images.IsMarkedLast, Images.IsRomImage, Images.size_of, Images.IsRom, Roms.is_last}
pub use Rattle.option_rom.specs.declared.image.RomImage.{RomImage}
unfoldable pub use Rattle.option_rom.specs.{Conditions.checked, Conditions.header_checked, Files.wrapped, Images.image_at, Images.efi_at}
unfoldable pub use Rattle.option_rom.specs.{Roms.images_from, Roms.next_of, Roms.rom_of, Takes.range_of, Takes.taken, Takes.bytes_taken}
