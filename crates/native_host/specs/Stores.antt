-- For proofs: stores of values, where the address is a number. docs/HOST.md, "Steps", on the reply.
use Rattle.std.specs.Prelude.{ℕ, Bool, false, List}
use Rattle.std.specs.List.{list_all}
use Rattle.std.specs.Option.{option_map_or}
use Rattle.note_types.specs.Cells.{cell_size}
use Rattle.note_types.specs.Concrete.{Concrete, stored}
use Rattle.note_types.specs.declared.cell.Cell.{Cell}
use Rattle.note_types.specs.declared.notes.Notes.{Notes}
use Rattle.note_types.specs.declared.script.WriteValue.{WriteValue}
use Rattle.note_types.specs.declared.shape.Field.{Field}
use Rattle.note_types.specs.declared.value.Value.{Value}
use Rattle.ebc_width.specs.Ranges.{Range, holds}
use Rattle.host_model.specs.HostPlans.{field_at}
use Rattle.host_model.specs.HostSteps.{cell_address, written_number}
use Rattle.host_model.specs.declared.object.TypedObject.{TypedObject}
use Rattle.host_model.specs.Placements.{Placement}

-- the machine once the number of a value is stored in a cell at an address; nothing changes where the cell isn't mapped
abbrev pub after_number : ℕ → Notes → Placement → List TypedObject → Concrete → ℕ → Cell → Value → Concrete
after_number w notes P made s at cell value =
    option_map_or (λ t. t) (stored s at (cell_size w cell) (written_number w notes P made value)) s

-- a cell of an object that is there is mapped, where these objects lie in memory
abbrev pub is_mapped : ℕ → Notes → Placement → List TypedObject → List Range → WriteValue → Bool
is_mapped w notes P made objects v =
    option_map_or (λ (x : Field). holds objects (cell_address w notes P made v.object v.instance x) (cell_size w x.cell))
    (field_at notes made v.object v.instance v.field) false

-- all cells of these stores are
abbrev pub are_mapped : ℕ → Notes → Placement → List TypedObject → List Range → List WriteValue → Bool
are_mapped w notes P made objects vs = list_all (is_mapped w notes P made objects) vs
