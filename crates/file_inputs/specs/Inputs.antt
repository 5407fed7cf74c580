-- Meaning: the notes, sources, link plans, objects and option ROMs that files hold, or the reply to the first fault:
-- docs/COMMANDS.md, "The answer".
use Rattle.std.specs.Prelude.{ℕ, ◌+◌, ◌-◌, List, length, Result, slice_get}
use Rattle.std.specs.Option.{option_map_or}
use Rattle.std.specs.Fmt.{decimal}
use Rattle.asm_text.specs.Faults.{asm_fault_number}
use Rattle.asm_text.specs.declared.fault.AsmFault.{AsmFault}
use Rattle.ebc_asm.specs.Sources.{object_of}
use Rattle.ebc_link.specs.Links.{Fault, links}
use Rattle.ebc_link.specs.PlanTexts.{plan_of}
use Rattle.ebc_link.specs.declared.plan.LinkPlan.{LinkPlan}
use Rattle.ebc_object.specs.Readings.{object_of_file}
use Rattle.ebc_object.specs.declared.fault.ObjectFault.{ObjectFault}
use Rattle.ebc_object.specs.declared.object.Object.{Object}
use Rattle.ebc_outside.specs.Files.{Files}
use Rattle.note_types.specs.declared.fault.TomlFault.{TomlFault}
use Rattle.note_types.specs.declared.notes.Notes.{Notes}
use Rattle.option_rom.specs.declared.fault.RomFault.{RomFault}
use Rattle.option_rom.specs.declared.fault.TakeFault.{TakeFault}
use Rattle.option_rom.specs.declared.image.RomImage.{RomImage}
use Rattle.option_rom.specs.Images.{end_of}
use Rattle.option_rom.specs.Roms.{rom_of}
use Rattle.option_rom.specs.Takes.{bytes_taken}
use Rattle.pe_image.specs.declared.image.Image.{Image}
use Rattle.type_notes.specs.Notes.{notes_of}
use Rattle.cli_base.specs.declared.reply.Reply.{Reply}
use Rattle.file_inputs.specs.Faults.{asm_fault_text, toml_fault_number, toml_fault_text}
use Rattle.file_inputs.specs.Faults.{key_path, link_detail, link_fault_number, link_fault_text, object_fault_number, object_fault_text}
use Rattle.file_inputs.specs.Faults.{rom_fault_number, rom_fault_text, take_fault_number, take_fault_text}
use Rattle.cli_base.specs.Inputs.{bad_reply, image_limit, image_meaning, or_reply}
use Rattle.cli_base.specs.Readings.{FileReading, ◌>>=◌, done, file, told}

-- ---- limits

-- how many bytes a text of notes may have: 1 MiB
abbrev pub notes_limit : ℕ
notes_limit = 1048576

-- how many bytes a source may have: 1 MiB
abbrev pub source_limit : ℕ
source_limit = 1048576

-- how many bytes a link plan may have: 1 MiB
abbrev pub plan_limit : ℕ
plan_limit = 1048576

-- how many bytes the file of an object may have: 1 MiB
abbrev pub object_limit : ℕ
object_limit = 1048576

-- how many bytes an option ROM may have: 16 MiB
abbrev pub rom_limit : ℕ
rom_limit = 16777216

-- ---- faults

-- a text that stands for no notes, for no script under them or for no binds under the notes of two images; the fault is told by the path of
-- its key
abbrev pub bad_notes_reply : ℕ → List ℕ → TomlFault → Reply
bad_notes_reply word name fault = bad_reply word name (toml_fault_number fault) (toml_fault_text fault) (key_path fault)

-- a source that stands for no object; the fault is told by the number of its line
abbrev pub bad_source_reply : ℕ → List ℕ → AsmFault × ℕ → Reply
bad_source_reply word name (kind, line) = bad_reply word name (asm_fault_number kind) (asm_fault_text kind) (decimal line)

-- a text that stands for no link plan; the fault is told by the path of its key
abbrev pub bad_plan_reply : ℕ → List ℕ → TomlFault → Reply
bad_plan_reply word name fault = bad_reply word name (toml_fault_number fault) (toml_fault_text fault) (key_path fault)

-- a file that is no object; the fault is told by its offset
abbrev pub bad_object_reply : ℕ → List ℕ → ObjectFault × ℕ → Reply
bad_object_reply word name (kind, offset) = bad_reply word name (object_fault_number kind) (object_fault_text kind) (decimal offset)

-- a link plan by which objects aren't linked; the fault is told by what it is about
abbrev pub bad_link_reply : ℕ → List ℕ → LinkPlan → Fault → Reply
bad_link_reply word name plan fault = bad_reply word name (link_fault_number fault) (link_fault_text fault) (link_detail plan fault)

-- a file that is no option ROM; the fault is told by its offset
abbrev pub bad_rom_reply : ℕ → List ℕ → RomFault × ℕ → Reply
bad_rom_reply word name (kind, offset) = bad_reply word name (rom_fault_number kind) (rom_fault_text kind) (decimal offset)

-- where the image with this number begins, or the images end where none has it
abbrev pub taking_offset : List RomImage → ℕ → ℕ
taking_offset images number =
    option_map_or (λ (r : RomImage). r.offset) (slice_get images number)
    (option_map_or end_of (slice_get images (length images - 1)) 0)

-- an option ROM out of which no image with this number is taken; the fault is told by that offset
abbrev pub bad_taking_reply : ℕ → List ℕ → List RomImage → ℕ → TakeFault → Reply
bad_taking_reply word name images number kind =
    bad_reply word name (take_fault_number kind) (take_fault_text kind) (decimal (taking_offset images number))

-- ---- what files are read as

abbrev pub notes_meaning : ℕ → List ℕ → List ℕ → Result Notes Reply
notes_meaning word name text = or_reply (bad_notes_reply word name) (notes_of text)

abbrev pub source_meaning : ℕ → List ℕ → List ℕ → Result Object Reply
source_meaning word name text = or_reply (bad_source_reply word name) (object_of text)

abbrev pub plan_meaning : ℕ → List ℕ → List ℕ → Result LinkPlan Reply
plan_meaning word name text = or_reply (bad_plan_reply word name) (plan_of text)

abbrev pub object_meaning : ℕ → List ℕ → List ℕ → Result Object Reply
object_meaning word name bytes = or_reply (bad_object_reply word name) (object_of_file bytes)

-- the image that objects are linked to by a plan
abbrev pub link_meaning : ℕ → List ℕ → List Object → LinkPlan → Result Image Reply
link_meaning word name objects plan = or_reply (bad_link_reply word name plan) (links objects plan)

abbrev pub rom_meaning : ℕ → List ℕ → List ℕ → Result (List RomImage) Reply
rom_meaning word name bytes = or_reply (bad_rom_reply word name) (rom_of bytes)

-- the bytes that are taken out of an option ROM
abbrev pub taking_meaning : ℕ → List ℕ → List ℕ → List RomImage → ℕ → Result (List ℕ) Reply
taking_meaning word name rom images number = or_reply (bad_taking_reply word name images number) (bytes_taken rom images number)

-- what the file that a word names is read as, by its limit and its meaning
unfoldable pub input : {A : Type 0} → ℕ → (ℕ → List ℕ → List ℕ → Result A Reply) → ℕ → List ℕ → Files → FileReading A
input limit meaning word name files = do
  bytes ← file word name limit files
  told (meaning word name bytes)

-- what it is read as, and its bytes
unfoldable pub input_with_bytes : {A : Type 0} → ℕ → (ℕ → List ℕ → List ℕ → Result A Reply) → ℕ → List ℕ → Files → FileReading (A × List ℕ)
input_with_bytes limit meaning word name files = do
  bytes ← file word name limit files
  value ← told (meaning word name bytes)
  done (value, bytes)

-- an image and its notes, by a word and the next one: the image is read whole before the notes
unfoldable pub image_with_notes : ℕ → List ℕ → List ℕ → Files → FileReading (Image × Notes)
image_with_notes word image_name notes_name files = do
  image ← input image_limit image_meaning word image_name files
  notes ← input notes_limit notes_meaning (word + 1) notes_name files
  done (image, notes)
