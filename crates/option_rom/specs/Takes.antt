-- Meaning: which bytes of an option ROM are the EBC image that an image of the ROM carries. UEFI specification, "PCI Option
-- ROMs", EFI_PCI_EXPANSION_ROM_HEADER.
use Rattle.std.specs.Prelude.{ℕ, ◌+◌, ◌^◌, ◌<◌, ◌≤◌, Bool, false, ◌&&◌, List, IfSome, Result, Ok, nat_eq, slice_get, slice_range}
use Rattle.std.specs.Option.{option_map_or}
use Rattle.ebc_base.specs.Steps.{◌>>=◌, or_else, passes}
use Rattle.option_rom.specs.declared.fault.TakeFault.{TakeFault}
use Rattle.option_rom.specs.declared.fault.TakeFault.TheVariants as faults
use Rattle.option_rom.specs.declared.image.EfiPart.{EfiPart}
use Rattle.option_rom.specs.declared.image.RomImage.{RomImage}
use Rattle.option_rom.specs.Images.{end_of, size_of}

-- whether an image is one of EBC: its code type is EFI, and its machine EBC
abbrev pub is_ebc : RomImage → Bool
is_ebc r = nat_eq r.code_type 3 && option_map_or (λ (e : EfiPart). nat_eq e.machine 0x0EBC) r.efi false

-- whether its EFI image isn't compressed
abbrev pub is_plain : RomImage → Bool
is_plain r = option_map_or (λ (e : EfiPart). nat_eq e.compression 0) r.efi false

-- where its EFI image begins
abbrev pub begin_of : RomImage → ℕ
begin_of r = r.offset + option_map_or (λ (e : EfiPart). e.start) r.efi 0

-- the offsets of its EFI image's first byte and of its own end, or the first of two faults: it isn't one of EBC, its EFI image is
-- compressed
unfoldable pub range_of : RomImage → Result (ℕ × ℕ) TakeFault
range_of r = do
  _ ← passes (is_ebc r) faults.NotEbc
  _ ← passes (is_plain r) faults.Compressed
  Ok (begin_of r, end_of r)

-- the same of the image with this number, or the fault that no image has it
unfoldable pub taken : List RomImage → ℕ → Result (ℕ × ℕ) TakeFault
taken images number = or_else faults.Number (slice_get images number) >>= range_of

-- the bytes of the file there
unfoldable pub bytes_taken : List ℕ → List RomImage → ℕ → Result (List ℕ) TakeFault
bytes_taken file images number = taken images number >>= (λ range. Ok (slice_range file range.0 range.1))

-- An image lies below 16 MiB, and its EFI image begins in it or at its end.
pub record IsTakeable (r : RomImage) : Type 0 where
  pub below : r.offset < 2 ^ 24
  pub starts : IfSome r.efi (λ e. e.start ≤ size_of r)
