-- For proofs: texts of 16-bit units, and the zero at their end: docs/FIRMWARE.md, "Warnings", `string`.
use Rattle.std.specs.Prelude.{ℕ, zero, suc, ◌+◌, Bool, true, false, not, ◌&&◌, nat_eq, nat_le, if◌then◌else◌, List, [], ◌∷◌}
use Rattle.std.specs.Prelude.{Option, None, Some, filter, slice_get, take}
use Rattle.std.specs.List.{list_any}
use Rattle.note_types.specs.declared.cell.Cell.{Cell}
use Rattle.note_types.specs.declared.cell.Cell.TheVariants as cell
use Rattle.note_types.specs.declared.items.Item.{Item}
use Rattle.note_types.specs.declared.items.Item.TheVariants.{Slot, Locals}
use Rattle.note_types.specs.declared.notes.Notes.{Notes}
use Rattle.note_types.specs.declared.notes.Static.{Static}
use Rattle.note_types.specs.declared.shape.Field.{Field}
use Rattle.note_types.specs.declared.shape.Shape.{Shape}
use Rattle.note_types.specs.declared.state.State.{State}
use Rattle.note_types.specs.declared.types.Ty.{Ty}
use Rattle.note_types.specs.declared.types.Ty.TheVariants.{Ptr}
use Rattle.pe_image.specs.Mapped.{image_byte}
use Rattle.pe_image.specs.declared.image.Image.{Image}
use Rattle.departures.specs.Calls.{argument_count}

-- ---- static texts

-- a number of 16 bits
abbrev pub is_unit : Cell → Bool
is_unit cell.I16 = true
is_unit c = false

-- one field alone, which is a unit
abbrev pub is_one_unit : List Field → Bool
is_one_unit [] = false
is_one_unit (x ∷ []) = is_unit x.cell
is_one_unit (x ∷ (y ∷ xs)) = false

-- the shape is one unit of 16 bits, as Char16 is
abbrev pub is_text_shape : Shape → Bool
is_text_shape s = nat_eq s.n 0 && (nat_eq s.c 2 && is_one_unit s.fields)

abbrev pub is_text_of : Option Shape → Bool
is_text_of None = false
is_text_of (Some s) = is_text_shape s

-- a static object of such units
abbrev pub is_text : Notes → Static → Bool
is_text notes x = is_text_of (slice_get notes.shape x.shape)

abbrev pub is_zero_unit : Image → ℕ → Bool
is_zero_unit image place = nat_eq (image_byte image place) 0 && nat_eq (image_byte image (place + 1)) 0

-- none of so many units from a place on is zero
unfoldable pub has_no_zero : Image → ℕ → ℕ → Bool
has_no_zero image place zero = true
has_no_zero image place (suc count) = not (is_zero_unit image place) && has_no_zero image (place + 2) count

-- a static text without a zero; no image has more than 4 MiB
abbrev pub is_unended : Image → Notes → Static → Bool
is_unended image notes x = is_text notes x && has_no_zero image x.place (if nat_le x.count 4194304 then x.count else 4194304)

abbrev pub unended_texts : Image → Notes → List Static
unended_texts image notes = filter (is_unended image notes) notes.statics

-- ---- texts as arguments

-- a value may be an address in the text: its type says that there are as many units as the text has
abbrev pub may_name : Ty → Static → Bool
may_name (Ptr s k n c null) x = nat_eq x.shape s && nat_eq x.count k
may_name t x = false

-- it may be one in one of these texts
abbrev pub may_name_any : List Static → Ty → Bool
may_name_any texts t = list_any (may_name t) texts

-- a slot may have such an address
abbrev pub is_text_item : List Static → Item → Bool
is_text_item texts (Slot kind t) = may_name_any texts t
is_text_item texts Locals = false

-- an argument of the native call at a place may be one
abbrev pub hands_text : List Static → Notes → ℕ → State → Bool
hands_text texts notes place s = list_any (is_text_item texts) (take (argument_count notes place) s.items)
