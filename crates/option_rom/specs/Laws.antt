-- For proofs: what holds of all files and option ROMs, whatever is called.
use Rattle.std.specs.Prelude.{◌≡◌, ℕ, ◌↔◌, ◌≤◌, List, ◌++◌, length, Ok, Err}
use Rattle.pe_image.specs.declared.image.Image.{Image}
use Rattle.pe_image.specs.Files.{zeros}
use Rattle.pe_image.specs.Images.{image_of}
use Rattle.option_rom.specs.declared.fault.RomFault.{RomFault}
use Rattle.option_rom.specs.declared.image.RomImage.{RomImage}
use Rattle.option_rom.specs.Images.{IsRom}
use Rattle.option_rom.specs.Roms.{FailsFirst, rom_of}
use Rattle.option_rom.specs.Takes.{taken}

-- A file is read as images exactly where it is the option ROM of these.
abbrev pub RomsAreRead : Type 0
RomsAreRead = (file : List ℕ) (images : List RomImage) → (rom_of file ≡ Ok images) ↔ IsRom file images

-- A fault is told of a file exactly where it is the first.
abbrev pub FaultsAreFirst : Type 0
FaultsAreFirst = (file : List ℕ) (kind : RomFault) (offset : ℕ) → (rom_of file ≡ Err (kind, offset)) ↔ FailsFirst file kind offset

-- A file is the option ROM of one list of images at most.
abbrev pub ImagesAreOne : Type 0
ImagesAreOne = (file : List ℕ) (xs ys : List RomImage) → IsRom file xs → IsRom file ys → xs ≡ ys

-- What is taken out of an option ROM lies inside its file.
abbrev pub TakenIsInside : Type 0
TakenIsInside =
    (file : List ℕ) (images : List RomImage) (number begin end : ℕ) → IsRom file images → taken images number ≡ Ok (begin, end) →
    (begin ≤ end) × (end ≤ length file)

-- Zeros behind a file change nothing of the image that it is read as.
abbrev pub ZerosChangeNothing : Type 0
ZerosChangeNothing = (file : List ℕ) (n : ℕ) (image : Image) → image_of file ≡ Ok image → image_of (file ++ zeros n) ≡ Ok image
