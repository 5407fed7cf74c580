-- For proofs: points as the tables of notes have them, in TOML and as they are read, things of the notes and fields by their
-- names. docs/NOTES.md has the keys.
use Rattle.std.specs.Prelude.{ℕ, pos, List, [], ◌∷◌, codes, map}
use Rattle.toml.specs.Data.{integer, string, array, table, Items, no_items, item, Members, no_members, member}
use Rattle.note_types.specs.States.{type_of}
use Rattle.note_types.specs.declared.items.Item.{Item}
use Rattle.note_types.specs.declared.items.Item.TheVariants as item_of
use Rattle.note_types.specs.declared.notes.Notes.{Notes}
use Rattle.note_types.specs.declared.notes.Point.{Point}
use Rattle.note_types.specs.declared.shape.Field.{Field}
use Rattle.note_types.specs.declared.state.State.{State}
use Rattle.note_texts.specs.declared.slot.ItemText.{ItemText}
use Rattle.note_texts.specs.declared.slot.ItemText.TheVariants.{Slot, Locals}
use Rattle.note_texts.specs.declared.slot.RegisterText.{RegisterText}
use Rattle.note_draft.specs.declared.draft.PointDraft.{PointDraft}
use Rattle.printed_texts.specs.NamedTypes.{named_type}
use Rattle.printed_texts.specs.PrintedStates.{fields_at, item_texts, register_texts, told_up_to}
use Rattle.printed_texts.specs.PrintedTypes.{field_names}

-- ---- in TOML

-- texts as the items of an array
abbrev pub strings : List (List ℕ) → Items
strings [] = no_items
strings (t ∷ ts) = item (string t) (strings ts)

-- the table of a point of these numbers and texts, its keys in the order of their bytes
abbrev pub members_of : ℕ → ℕ → List (List ℕ) → List (List ℕ) → List (List ℕ) → Members
members_of place made regs stack written =
    member (codes "made") (integer (pos made)) (member (codes "place") (integer (pos place))
    (member (codes "regs") (array (strings regs)) (member (codes "stack") (array (strings stack))
    (member (codes "written") (array (strings written)) no_members))))

-- the table of a point, where the locals have these fields
abbrev pub members_in : Notes → List Field → Point → Members
members_in notes fields p =
    members_of p.place p.state.made (register_texts notes fields p.state) (item_texts notes fields p.state.items)
    (field_names fields p.state.written)

abbrev pub point_members : Notes → Point → Members
point_members notes p = members_in notes (fields_at notes p.place) p

-- tables as the items of an array
abbrev pub tables_of : {B : Type 0} → (B → Members) → List B → Items
tables_of ms [] = no_items
tables_of ms (x ∷ xs) = item (table (ms x)) (tables_of ms xs)

-- the document of points: the list `point`, where there are any
abbrev pub points_members : Notes → List Point → Members
points_members notes [] = no_members
points_members notes (p ∷ ps) = member (codes "point") (array (tables_of (point_members notes) (p ∷ ps))) no_members

-- ---- as they are read

-- a register
abbrev pub register_draft : Notes → List Field → State → ℕ → RegisterText
register_draft notes fields s r = record { register = r; ty = named_type notes fields (type_of s r) }

-- an item of the stack
abbrev pub item_draft : Notes → List Field → Item → ItemText
item_draft notes fields (item_of.Slot kind t) = Slot kind (named_type notes fields t)
item_draft notes fields item_of.Locals = Locals

-- a point, where the locals have these fields
abbrev pub draft_in : Notes → List Field → Point → PointDraft
draft_in notes fields p =
    record {
      place = p.place;
      regs = map (register_draft notes fields p.state) (told_up_to p.state 7);
      stack = map (item_draft notes fields) p.state.items;
      written = field_names fields p.state.written;
      made = p.state.made;
    }

abbrev pub point_draft : Notes → Point → PointDraft
point_draft notes p = draft_in notes (fields_at notes p.place) p
