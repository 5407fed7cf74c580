-- Meaning: when an image stands at an offset of a file: six conditions, in the order in which they count. Each has the fault
-- that it stands for, and an offset in the file at which it is told. The standards are those that specs/Fields names;
-- docs/ROMS.md has the same numbers.
use Rattle.std.specs.Prelude.{ℕ, ◌+◌, ◌*◌, Bool, not, ◌&&◌, ◌||◌, List, length, Result, codes, bytes_eq, nat_eq, nat_le, nat_lt}
use Rattle.ebc_base.specs.Steps.{◌>>=◌, passes}
use Rattle.pe_image.specs.Fields.{bytes_at}
use Rattle.option_rom.specs.declared.fault.RomFault.{RomFault}
use Rattle.option_rom.specs.declared.fault.RomFault.TheVariants as faults
use Rattle.option_rom.specs.Fields.{blocks, code_type, efi_signature, mark, start, structure}

-- a fault, and the offset at which it is told
abbrev pub Fault : Type 0
Fault = RomFault × ℕ

-- ---- 1 and 2: the header lies in the file, and has the mark of an expansion ROM

abbrev pub has_header : List ℕ → ℕ → Bool
has_header file at = nat_le (at + 26) (length file)

abbrev pub is_marked : List ℕ → ℕ → Bool
is_marked file at = nat_eq (mark file at) 0xAA55

-- ---- 3 and 4: so does the PCI data structure, as far as it is read, and begins with its own mark

abbrev pub has_structure : List ℕ → ℕ → Bool
has_structure file at = nat_le (structure file at + 24) (length file)

abbrev pub is_pcir : List ℕ → ℕ → Bool
is_pcir file at = bytes_eq (bytes_at file (structure file at) 4) (codes "PCIR")

unfoldable pub header_checked : List ℕ → ℕ → Result (Unit {0}) Fault
header_checked file at = do
  _ ← passes (has_header file at) (faults.Short, at)
  _ ← passes (is_marked file at) (faults.Mark, at)
  _ ← passes (has_structure file at) (faults.Short, at)
  passes (is_pcir file at) (faults.Pcir, structure file at)

-- ---- 5 and 6: the image has a block and ends in the file; and one of code type EFI is signed so, and has its EFI image
-- begin in it or at its end

abbrev pub size_at : List ℕ → ℕ → ℕ
size_at file at = 512 * blocks file (structure file at)

abbrev pub has_blocks : List ℕ → ℕ → Bool
has_blocks file at = nat_lt 0 (blocks file (structure file at)) && nat_le (at + size_at file at) (length file)

abbrev pub is_signed : List ℕ → ℕ → Bool
is_signed file at = nat_eq (efi_signature file at) 0x0EF1 && nat_le (start file at) (size_at file at)

abbrev pub is_other_or_signed : List ℕ → ℕ → Bool
is_other_or_signed file at = not (nat_eq (code_type file (structure file at)) 3) || is_signed file at

unfoldable pub length_checked : List ℕ → ℕ → Result (Unit {0}) Fault
length_checked file at = do
  _ ← passes (has_blocks file at) (faults.Length, structure file at + 16)
  passes (is_other_or_signed file at) (faults.Efi, at + 4)

-- ---- all

-- nothing where the six hold, and else the fault of the first that doesn't, with its offset
unfoldable pub checked : List ℕ → ℕ → Result (Unit {0}) Fault
checked file at = header_checked file at >>= (λ _. length_checked file at)
