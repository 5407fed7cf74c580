-- Meaning: states and points as they are printed: docs/COMMANDS.md, "Printed lines"; docs/NOTES.md has the texts of registers and
-- items and the keys of a point.
use Rattle.std.specs.Prelude.{ℕ, Bool, false, not, ◌&&◌, nat_eq, nat_le, nat_lt, List, [], ◌∷◌, ◌++◌, codes, filter, map}
use Rattle.std.specs.Fmt.{decimal}
use Rattle.std.specs.List.{flat_map, join_by, range_with_len}
use Rattle.std.specs.Option.{option_map_or}
use Rattle.note_types.specs.Known.{local_fields}
use Rattle.note_types.specs.Records.{function_at}
use Rattle.note_types.specs.States.{type_of}
use Rattle.note_types.specs.declared.items.Item.{Item}
use Rattle.note_types.specs.declared.items.Item.TheVariants.{Slot, Locals}
use Rattle.note_types.specs.declared.notes.Notes.{Notes}
use Rattle.note_types.specs.declared.notes.Point.{Point}
use Rattle.note_types.specs.declared.shape.Field.{Field}
use Rattle.note_types.specs.declared.state.State.{State}
use Rattle.note_types.specs.declared.types.Ty.{Ty}
use Rattle.note_types.specs.declared.types.Ty.TheVariants as ty
use Rattle.note_texts.specs.SlotGrammar.{kind_text}
use Rattle.printed_texts.specs.PrintedTypes.{field_names, type_text}

-- ---- the parts of a state

-- the fields of the locals of the function that a place belongs to; none where it belongs to none
unfoldable pub fields_at : Notes → ℕ → List Field
fields_at notes place = option_map_or (local_fields notes) (function_at notes place) []

-- a register has the type that may be left out: R1 to R3 what they held at the entry, the others anything
abbrev pub is_left_out : ℕ → Ty → Bool
is_left_out r (ty.Saved x) = nat_eq x r && nat_le r 3
is_left_out r ty.Any = nat_lt 3 r
is_left_out r _ = false

-- REGISTER
abbrev pub register_type_text : Notes → List Field → State → ℕ → List ℕ
register_type_text notes fields s r = codes "R" ++ (decimal r ++ (codes " " ++ type_text notes fields (type_of s r)))

-- R1 to Rn, but those that are left out
unfoldable pub told_up_to : State → ℕ → List ℕ
told_up_to s n = filter (λ r. not (is_left_out r (type_of s r))) (range_with_len 1 n)

-- R1 to R7, but those that are left out
abbrev pub register_texts : Notes → List Field → State → List (List ℕ)
register_texts notes fields s = map (register_type_text notes fields s) (told_up_to s 7)

-- ITEM
abbrev pub item_text : Notes → List Field → Item → List ℕ
item_text notes fields (Slot kind t) = kind_text kind ++ (codes " " ++ type_text notes fields t)
item_text notes fields Locals = codes "locals"

-- the items of the stack from the top
abbrev pub item_texts : Notes → List Field → List Item → List (List ℕ)
item_texts notes fields items = map (item_text notes fields) items

-- ---- lists on a line

-- texts one after the other, `, ` between two
abbrev pub comma_list : List (List ℕ) → List ℕ
comma_list texts = join_by (λ t. t) (codes ", ") texts

-- a text in quotes
abbrev pub in_quotes : List ℕ → List ℕ
in_quotes text = codes "\"" ++ (text ++ codes "\"")

-- the list at a key of a table
abbrev pub array_line : List ℕ → List (List ℕ) → List ℕ
array_line key texts = key ++ (codes " = [" ++ (comma_list (map in_quotes texts) ++ codes "]\n"))

-- a word and the texts behind it; the word alone where there are none
abbrev pub item_line : List ℕ → List (List ℕ) → List ℕ
item_line word [] = word ++ codes "\n"
item_line word (t ∷ ts) = word ++ (codes " " ++ (comma_list (t ∷ ts) ++ codes "\n"))

-- ---- states

-- the lines of a state, whose fields are these
abbrev pub typing_state_lines : Notes → List Field → State → List ℕ
typing_state_lines notes fields s =
    item_line (codes "regs") (register_texts notes fields s)
    ++ (item_line (codes "stack") (item_texts notes fields s.items)
    ++ (item_line (codes "written") (field_names fields s.written)
    ++ (codes "made " ++ (decimal s.made ++ codes "\n"))))

-- the lines of a state at a place
abbrev pub state_text : Notes → ℕ → State → List ℕ
state_text notes place s = typing_state_lines notes (fields_at notes place) s

-- ---- points

-- the table of a point, whose fields are these
abbrev pub point_table : Notes → List Field → Point → List ℕ
point_table notes fields p =
    codes "[[point]]\nplace = " ++ (decimal p.place ++ (codes "\n"
    ++ (array_line (codes "regs") (register_texts notes fields p.state)
    ++ (array_line (codes "stack") (item_texts notes fields p.state.items)
    ++ (array_line (codes "written") (field_names fields p.state.written)
    ++ (codes "made = " ++ (decimal p.state.made ++ codes "\n")))))))

-- the table of a point
unfoldable pub point_text : Notes → Point → List ℕ
point_text notes p = point_table notes (fields_at notes p.place) p

-- the tables of points, one after the other
abbrev pub points_text : Notes → List Point → List ℕ
points_text notes points = flat_map (point_text notes) points
