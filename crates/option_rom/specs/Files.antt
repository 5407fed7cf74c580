-- Meaning: the option ROM of one EBC image, byte by byte (docs/ROMS.md, "What is written"). A number has its lowest byte
-- first, and what has no word here is zero.
use Rattle.std.specs.Prelude.{ℕ, ◌+◌, ◌-◌, ◌*◌, ◌/◌, List, ◌∷◌, ◌++◌, length, Some, codes}
use Rattle.std.specs.Int.{w16, w32, to_le_bytes}
use Rattle.pe_image.specs.Files.{zeros}
use Rattle.option_rom.specs.declared.image.RomImage.{RomImage}

-- how many bytes stand before the EBC image
abbrev pub front : ℕ
front = 56

-- the least number of blocks that hold these and n bytes
abbrev pub block_count : ℕ → ℕ
block_count n = (front + n + 511) / 512

-- the zeros behind the n bytes, up to the end of the last block
abbrev pub filling : ℕ → List ℕ
filling n = zeros (512 * block_count n - (front + n))

-- a file, and these zeros
abbrev pub padded : List ℕ → List ℕ
padded image = image ++ filling (length image)

-- UEFI specification, "PCI Option ROMs", EFI_PCI_EXPANSION_ROM_HEADER: Signature, InitializationSize, EfiSignature,
-- EfiSubsystem, EfiMachineType, EfiImageHeaderOffset, PcirOffset
unfoldable pub header_bytes : ℕ → ℕ → List ℕ
header_bytes count subsystem =
    to_le_bytes w16 0xAA55 ++ to_le_bytes w16 count ++ to_le_bytes w32 0x0EF1 ++ to_le_bytes w16 subsystem ++ to_le_bytes w16 0x0EBC
    ++ zeros 10 ++ to_le_bytes w16 front ++ to_le_bytes w16 28 ++ zeros 2

-- PCI Firmware Specification, "PCI Data Structure Format": Signature, Vendor Identification, Device Identification, PCI Data
-- Structure Length and Revision, Image Length, Code Type, Last Image Indicator
unfoldable pub structure_bytes : ℕ → ℕ → ℕ → List ℕ
structure_bytes count vendor device =
    codes "PCIR" ++ to_le_bytes w16 vendor ++ to_le_bytes w16 device ++ zeros 2 ++ to_le_bytes w16 28 ++ 3 ∷ zeros 3
    ++ to_le_bytes w16 count ++ zeros 2 ++ 3 ∷ 0x80 ∷ zeros 6

-- the ROM of an EBC image, for the device of a vendor
unfoldable pub rom_bytes : ℕ → ℕ → ℕ → List ℕ → List ℕ
rom_bytes vendor device subsystem image =
    let count = block_count (length image) in
    header_bytes count subsystem ++ structure_bytes count vendor device ++ image ++ filling (length image)

-- its only image
unfoldable pub wrapped : ℕ → ℕ → RomImage
wrapped subsystem n =
    record {
      offset = 0;
      blocks = block_count n;
      code_type = 3;
      efi = Some (record { subsystem = subsystem; machine = 0x0EBC; compression = 0; start = front });
    }
