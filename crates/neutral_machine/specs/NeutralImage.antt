-- For proofs: what the neutral machine takes from an image: the instruction at a place, with the place that its relocated
-- immediate names, and what the cells of static objects hold at first. docs/HOST.md, "Runs".
use Rattle.std.specs.Prelude.{ℕ, ◌+◌, ◌-◌, ◌*◌, Option, Some, None, Result, Ok, Err, nat_eq, if◌then◌else◌, slice_get}
use Rattle.std.specs.List.{list_any}
use Rattle.std.specs.Option.{option_map, option_map_or, option_and_then}
use Rattle.ebc_width.specs.Bytes.{little_endian, window}
use Rattle.ebc_decode.specs.Reading.{read}
use Rattle.ebc_decode.specs.declared.DecodeFault.{DecodeFault}
use Rattle.ebc_insn.specs.declared.Insn.{Insn}
use Rattle.neutral_machine.specs.Rows.{Site, static_at}
use Rattle.note_types.specs.Cells.{cell_size}
use Rattle.note_types.specs.Shapes.{start_at}
use Rattle.note_types.specs.declared.notes.Notes.{Notes}
use Rattle.note_types.specs.declared.notes.Static.{Static}
use Rattle.note_types.specs.declared.shape.Field.{Field}
use Rattle.pe_image.specs.declared.image.Image.{Image}
use Rattle.rules_image.specs.Images.{named_at, is_relocated}
use Rattle.host_model.specs.HostPlans.{field_at}
use Rattle.host_model.specs.Objects.{made_objects}
use Rattle.host_model.specs.Placements.{shape_bytes}
use Rattle.host_model.specs.Values.{Neutral, FieldOf, FieldOfLocals, Cells, number, null}
use Rattle.host_model.specs.World.{World}
use Rattle.pe_image.specs.Mapped.{image_byte, named_place}

-- ---- instructions

-- where an instruction of so many bytes stands, and the place that its relocated immediate names
abbrev pub site_at : Image → ℕ → ℕ → Site
site_at image place size =
    record { place = place; next = place + size; reloc = named_at image (place + size) (is_relocated image (place + size)) }

-- an instruction and its length, where the bytes begin with one
abbrev pub or_none : Result (Insn × ℕ) DecodeFault → Option (Insn × ℕ)
or_none (Ok found) = Some found
or_none (Err f) = None

-- the instruction at a place of an image, and its length
unfoldable pub instruction_at : Image → ℕ → Option (Insn × ℕ)
instruction_at image place = or_none (read (window (image_byte image) place (image.size - place)))

-- ---- static objects

-- the place of a field of an instance of a static object: at width 4, since a shape that isn't the same at both widths has zero
-- bytes alone
abbrev pub static_cell_place : Notes → Static → ℕ → Field → ℕ
static_cell_place notes s instance x = s.place + instance * shape_bytes 4 notes s.shape + start_at 4 x

-- the address of the static object that begins at a place, where there is one
abbrev pub static_address : Notes → ℕ → Neutral
static_address notes place = option_map_or (λ v. v) (static_at notes place) null

-- what a cell of so many bytes at a place of the image holds: the address of the static object that its relocated bytes name,
-- and else the number that the image has there
abbrev pub loaded_value : Notes → Image → ℕ → ℕ → Neutral
loaded_value notes image place size =
    if list_any (nat_eq place) image.relocs then static_address notes (named_place image place)
    else number (little_endian (image_byte image) place size)

-- what a field of an instance of a static object holds
abbrev pub static_value : Notes → Image → Static → ℕ → Field → Neutral
static_value notes image s instance x = loaded_value notes image (static_cell_place notes s instance x) (cell_size 4 x.cell)

-- what the cells of the static objects hold before a run
unfoldable pub static_cells : World → Image → Cells
static_cells world image (FieldOf k i f) =
    option_and_then (λ (s : Static). option_map (static_value world.notes image s i)
    (field_at world.notes (made_objects world.notes world.script 0) k i f))
    (slice_get world.notes.statics k)
static_cells world image (FieldOfLocals d f) = None
