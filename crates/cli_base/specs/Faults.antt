-- Meaning: the faults of an image, by their numbers and as they are printed: docs/COMMANDS.md, "Faults".
use Rattle.std.specs.Prelude.{ℕ, List, codes}
use Rattle.pe_image.specs.declared.fault.ImageFault.{ImageFault}
use Rattle.pe_image.specs.declared.fault.ImageFault.TheVariants as images

abbrev pub image_fault_number : ImageFault → ℕ
image_fault_number images.Short = 1
image_fault_number images.Mz = 2
image_fault_number images.Pe = 3
image_fault_number images.Machine = 4
image_fault_number images.Magic = 5
image_fault_number images.Section = 6
image_fault_number images.Overlap = 7
image_fault_number images.Align = 8
image_fault_number images.Reloc = 9
image_fault_number images.Entry = 10

abbrev pub image_fault_text : ImageFault → List ℕ
image_fault_text images.Short = codes "short"
image_fault_text images.Mz = codes "mz"
image_fault_text images.Pe = codes "pe"
image_fault_text images.Machine = codes "machine"
image_fault_text images.Magic = codes "magic"
image_fault_text images.Section = codes "section"
image_fault_text images.Overlap = codes "overlap"
image_fault_text images.Align = codes "align"
image_fault_text images.Reloc = codes "reloc"
image_fault_text images.Entry = codes "entry"
