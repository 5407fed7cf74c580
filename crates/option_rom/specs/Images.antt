-- Meaning: Option ROMs: a file and the images in it, which follow each other from its beginning on. UEFI specification, "PCI
-- Option ROMs"; PCI Firmware Specification, "PCI Expansion ROM Contents".
use Rattle.std.specs.Prelude.{◌≡◌, ℕ, ◌+◌, ◌*◌, ◌<◌, ◌≤◌, ◌↔◌, List, length, All, IfSome, Some, None, codes, nat_eq, slice_get}
use Rattle.std.specs.Prelude.{slice_index_or, if◌then◌else◌}
use Rattle.std.specs.Int.{IsBitSet}
use Rattle.std.specs.List.{AllAdjacentBelow}
use Rattle.pe_image.specs.Fields.{bytes_at}
use Rattle.option_rom.specs.declared.image.EfiPart.{EfiPart}
use Rattle.option_rom.specs.declared.image.RomImage.{RomImage}
use Rattle.option_rom.specs.Fields.{blocks, code_type, compression, efi_signature, indicator, machine, mark, start, structure, subsystem}

-- ---- the record of an image: the fields of its bytes

-- what the header at an offset says of an EFI image
unfoldable pub efi_at : List ℕ → ℕ → EfiPart
efi_at file at =
    record {
      subsystem = subsystem file at;
      machine = machine file at;
      compression = compression file at;
      start = start file at;
    }

-- the image at an offset: what its header says of an EFI image is read where the code type is EFI
unfoldable pub image_at : List ℕ → ℕ → RomImage
image_at file at =
    let place = structure file at in
    record {
      offset = at;
      blocks = blocks file place;
      code_type = code_type file place;
      efi = if nat_eq (code_type file place) 3 then Some (efi_at file at) else None;
    }

-- how many bytes an image takes, and the offset behind them
abbrev pub size_of : RomImage → ℕ
size_of r = 512 * r.blocks

abbrev pub end_of : RomImage → ℕ
end_of r = r.offset + size_of r

-- ---- ROMs

-- A record has the fields of an image of the file: its header and its PCI data structure lie in the file and have their
-- marks; it has a block at least, and lies in the file; and if its code type is EFI, it is signed so, and its EFI image begins
-- in it or at its end.
pub record IsRomImage (file : List ℕ) (r : RomImage) : Type 0 where
  pub record_is : r ≡ image_at file r.offset
  pub header : r.offset + 26 ≤ length file
  pub marked : mark file r.offset ≡ 0xAA55
  pub placed : structure file r.offset + 24 ≤ length file
  pub pcir : bytes_at file (structure file r.offset) 4 ≡ codes "PCIR"
  pub some : 0 < r.blocks
  pub within : end_of r ≤ length file
  pub signed : r.code_type ≡ 3 → efi_signature file r.offset ≡ 0x0EF1
  pub starts : r.code_type ≡ 3 → start file r.offset ≤ size_of r

-- Its indicator marks an image as the last.
abbrev pub IsMarkedLast : List ℕ → RomImage → Type 0
IsMarkedLast file r = IsBitSet (indicator file (structure file r.offset)) 7

-- Images of the file: the first at its beginning, and each next one at the end of the one before.
pub record FollowEachOther (file : List ℕ) (images : List RomImage) : Type 0 where
  pub each : All (IsRomImage file) images
  pub first : IfSome (slice_get images 0) (λ r. r.offset ≡ 0)
  pub next : AllAdjacentBelow (λ r s. s.offset ≡ end_of r) images (length images)

-- The file is an option ROM with these images: exactly the last of them is marked so.
pub record IsRom (file : List ℕ) (images : List RomImage) : Type 0 where
  pub follow : FollowEachOther file images
  pub some : 0 < length images
  pub last : (i : ℕ) (d : RomImage) → i < length images → IsMarkedLast file (slice_index_or images i d) ↔ (i + 1 ≡ length images)
