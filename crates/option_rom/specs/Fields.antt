-- Meaning: the fields of an image in an option ROM: which stands at which offset. Numbers have their lowest byte first.
use Rattle.std.specs.Prelude.{ℕ, ◌+◌, List, slice_index}
use Rattle.pe_image.specs.Fields.{u16_at, u32_at}

-- ---- UEFI specification, "PCI Option ROMs", EFI_PCI_EXPANSION_ROM_HEADER: at the offset of the image

-- Signature, of every image
abbrev pub mark : List ℕ → ℕ → ℕ
mark file at = u16_at file at

-- EfiSignature
abbrev pub efi_signature : List ℕ → ℕ → ℕ
efi_signature file at = u32_at file (at + 4)

-- EfiSubsystem
abbrev pub subsystem : List ℕ → ℕ → ℕ
subsystem file at = u16_at file (at + 8)

-- EfiMachineType
abbrev pub machine : List ℕ → ℕ → ℕ
machine file at = u16_at file (at + 10)

-- CompressionType: 0 where the EFI image isn't compressed
abbrev pub compression : List ℕ → ℕ → ℕ
compression file at = u16_at file (at + 12)

-- EfiImageHeaderOffset: where the EFI image begins, counted from this offset
abbrev pub start : List ℕ → ℕ → ℕ
start file at = u16_at file (at + 22)

-- PcirOffset, of every image: the offset of its PCI data structure
abbrev pub structure : List ℕ → ℕ → ℕ
structure file at = at + u16_at file (at + 24)

-- ---- PCI Firmware Specification, "PCI Data Structure Format": at the offset of that structure

-- Image Length, in blocks of 512 bytes
abbrev pub blocks : List ℕ → ℕ → ℕ
blocks file place = u16_at file (place + 16)

-- Code Type: 3 is EFI
abbrev pub code_type : List ℕ → ℕ → ℕ
code_type file place = slice_index file (place + 20)

-- Last Image Indicator: bit 7 marks the last image
abbrev pub indicator : List ℕ → ℕ → ℕ
indicator file place = slice_index file (place + 21)
