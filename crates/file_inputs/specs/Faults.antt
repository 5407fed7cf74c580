-- Meaning: the faults of the files but images that a command reads, by their numbers and as they are printed: docs/COMMANDS.md,
-- "Faults".
use Rattle.std.specs.Prelude.{ℕ, List, codes}
use Rattle.std.specs.Fmt.{decimal}
use Rattle.asm_text.specs.declared.fault.AsmFault.{AsmFault}
use Rattle.asm_text.specs.declared.fault.AsmFault.TheVariants as asm
use Rattle.ebc_link.specs.Links.{Entry, Far, Fault, Size, Twice, Undefined}
use Rattle.ebc_link.specs.declared.plan.LinkPlan.{LinkPlan}
use Rattle.ebc_object.specs.declared.fault.ObjectFault.{ObjectFault}
use Rattle.ebc_object.specs.declared.fault.ObjectFault.TheVariants as objects
use Rattle.note_types.specs.declared.fault.TomlFault.{TomlFault}
use Rattle.note_types.specs.declared.fault.TomlFault.TheVariants as toml
use Rattle.option_rom.specs.declared.fault.RomFault.{RomFault}
use Rattle.option_rom.specs.declared.fault.RomFault.TheVariants as roms
use Rattle.option_rom.specs.declared.fault.TakeFault.{TakeFault}
use Rattle.option_rom.specs.declared.fault.TakeFault.TheVariants as takes

-- ---- notes

abbrev pub toml_fault_number : TomlFault → ℕ
toml_fault_number toml.NotToml = 1
toml_fault_number (toml.Missing path) = 2
toml_fault_number (toml.Kind path) = 3
toml_fault_number (toml.Name path) = 4
toml_fault_number (toml.Range path) = 5
toml_fault_number (toml.Twice path) = 6

abbrev pub toml_fault_text : TomlFault → List ℕ
toml_fault_text toml.NotToml = codes "nottoml"
toml_fault_text (toml.Missing path) = codes "missing"
toml_fault_text (toml.Kind path) = codes "kind"
toml_fault_text (toml.Name path) = codes "name"
toml_fault_text (toml.Range path) = codes "range"
toml_fault_text (toml.Twice path) = codes "twice"

-- the path of the key where the fault stands, and a dash where the text isn't TOML
abbrev pub key_path : TomlFault → List ℕ
key_path toml.NotToml = codes "-"
key_path (toml.Missing path) = path
key_path (toml.Kind path) = path
key_path (toml.Name path) = path
key_path (toml.Range path) = path
key_path (toml.Twice path) = path

-- ---- sources, whose faults have the numbers of `asm_fault_number` of asm_text

abbrev pub asm_fault_text : AsmFault → List ℕ
asm_fault_text asm.Word = codes "word"
asm_fault_text asm.Operand = codes "operand"
asm_fault_text asm.Number = codes "number"
asm_fault_text asm.Index = codes "index"
asm_fault_text asm.Label = codes "label"
asm_fault_text asm.Twice = codes "twice"
asm_fault_text asm.Far = codes "far"
asm_fault_text asm.Section = codes "section"

-- ---- objects, and what they are linked to

abbrev pub object_fault_number : ObjectFault → ℕ
object_fault_number objects.Short = 1
object_fault_number objects.Mark = 2
object_fault_number objects.Count = 3
object_fault_number objects.Range = 4
object_fault_number objects.Order = 5

abbrev pub object_fault_text : ObjectFault → List ℕ
object_fault_text objects.Short = codes "short"
object_fault_text objects.Mark = codes "mark"
object_fault_text objects.Count = codes "count"
object_fault_text objects.Range = codes "range"
object_fault_text objects.Order = codes "order"

abbrev pub link_fault_number : Fault → ℕ
link_fault_number (Undefined name) = 1
link_fault_number (Twice name) = 2
link_fault_number (Far place) = 3
link_fault_number Entry = 4
link_fault_number Size = 5

abbrev pub link_fault_text : Fault → List ℕ
link_fault_text (Undefined name) = codes "undefined"
link_fault_text (Twice name) = codes "twice"
link_fault_text (Far place) = codes "far"
link_fault_text Entry = codes "entry"
link_fault_text Size = codes "size"

-- the name that a link fault is about, which for the entry is the plan's, the place of a fixup, or a dash
abbrev pub link_detail : LinkPlan → Fault → List ℕ
link_detail plan (Undefined name) = name
link_detail plan (Twice name) = name
link_detail plan (Far place) = decimal place
link_detail plan Entry = plan.entry
link_detail plan Size = codes "-"

-- ---- option ROMs, and the images that are taken out of them

abbrev pub rom_fault_number : RomFault → ℕ
rom_fault_number roms.Short = 1
rom_fault_number roms.Mark = 2
rom_fault_number roms.Pcir = 3
rom_fault_number roms.Length = 4
rom_fault_number roms.Efi = 5

abbrev pub rom_fault_text : RomFault → List ℕ
rom_fault_text roms.Short = codes "short"
rom_fault_text roms.Mark = codes "mark"
rom_fault_text roms.Pcir = codes "pcir"
rom_fault_text roms.Length = codes "length"
rom_fault_text roms.Efi = codes "efi"

abbrev pub take_fault_number : TakeFault → ℕ
take_fault_number takes.Number = 6
take_fault_number takes.NotEbc = 7
take_fault_number takes.Compressed = 8

abbrev pub take_fault_text : TakeFault → List ℕ
take_fault_text takes.Number = codes "number"
take_fault_text takes.NotEbc = codes "notebc"
take_fault_text takes.Compressed = codes "compressed"
