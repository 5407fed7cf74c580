-- Meaning: what `rom list ROM` prints: a line for each image of the option ROM (docs/COMMANDS.md, "Printed lines").
use Rattle.std.specs.Prelude.{ℕ, suc, Bool, true, false, List, [], ◌∷◌, ◌++◌, length, Option, Some, None, codes, nat_eq, if◌then◌else◌}
use Rattle.std.specs.Fmt.{decimal}
use Rattle.asm_text.specs.Numbers.{hex_text}
use Rattle.option_rom.specs.declared.image.EfiPart.{EfiPart}
use Rattle.option_rom.specs.declared.image.RomImage.{RomImage}
use Rattle.printed_texts.specs.RunTexts.{place_text}

-- four hexadecimal digits
unfoldable pub machine_text : ℕ → List ℕ
machine_text machine = hex_text 4 machine

abbrev pub compression_text : ℕ → List ℕ
compression_text compression = if nat_eq compression 0 then codes "plain" else codes "packed"

-- what the header says of an EFI image, if the image is one
abbrev pub efi_text : Option EfiPart → List ℕ
efi_text None = []
efi_text (Some e) =
    codes " subsystem " ++ (decimal e.subsystem ++ (codes " machine "
    ++ (machine_text e.machine ++ (codes " " ++ compression_text e.compression))))

-- an image by its number, with what stands at the end of its line
abbrev pub rom_line : ℕ → RomImage → List ℕ → List ℕ
rom_line number r mark =
    codes "image " ++ (decimal number ++ (codes " at " ++ (place_text r.offset ++ (codes " blocks " ++ (decimal r.blocks
    ++ (codes " type " ++ (decimal r.code_type ++ (efi_text r.efi ++ (mark ++ codes "\n")))))))))

-- the mark of the last image
abbrev pub last_mark : Bool → List ℕ
last_mark true = codes " last"
last_mark false = []

-- the lines of images, numbered from a number on: the last one is marked
unfoldable pub rom_lines : ℕ → List RomImage → List ℕ
rom_lines number [] = []
rom_lines number (r ∷ rs) = rom_line number r (last_mark (nat_eq (length rs) 0)) ++ rom_lines (suc number) rs

-- the listing of an option ROM
abbrev pub rom_listing : List RomImage → List ℕ
rom_listing images = rom_lines 0 images
