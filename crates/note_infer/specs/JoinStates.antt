-- Meaning: what is known before an instruction where two ways meet: the join of two states, or a clash.
-- docs/crates/note_infer.md has the words.
use Rattle.std.specs.Prelude.{Bool, true, false, ◌&&◌, nat_eq, bit_and, List, [], ◌∷◌, Option, Some, None}
use Rattle.ebc_base.specs.Steps.{only_if}
use Rattle.note_types.specs.BelowTests.{same_kind}
use Rattle.note_types.specs.declared.items.Item.{Item}
use Rattle.note_types.specs.declared.items.Item.TheVariants.{Slot, Locals}
use Rattle.note_types.specs.declared.state.State.{State}
use Rattle.note_infer.specs.Join.{join_types}

-- two lists, joined place by place
unfoldable pub zipped : {A : Type 0} → (A → A → A) → List A → List A → List A
zipped f [] ys = []
zipped f (x ∷ xs) [] = []
zipped f (x ∷ xs) (y ∷ ys) = f x y ∷ zipped f xs ys

-- ---- items

-- two items agree in kind
abbrev pub item_agrees : Item → Item → Bool
item_agrees (Slot k a) (Slot l b) = same_kind k l
item_agrees Locals Locals = true
item_agrees _ _ = false

-- items agree in number and in kind
unfoldable pub items_agree : List Item → List Item → Bool
items_agree [] [] = true
items_agree (x ∷ xs) (y ∷ ys) = item_agrees x y && items_agree xs ys
items_agree _ _ = false

-- two items that agree: the join of their types
abbrev pub join_item : Item → Item → Item
join_item (Slot k a) (Slot l b) = Slot k (join_types a b)
join_item x y = x

-- ---- states

-- the items agree, and as many thunks are made: there is no clash
unfoldable pub agree : State → State → Bool
agree s t = items_agree s.items t.items && nat_eq s.made t.made

-- what two states have in common that agree: the joins of the types in registers and items, and the fields written in both;
-- no fact
unfoldable pub joined : State → State → State
joined s t = record {
  regs = zipped join_types s.regs t.regs;
  items = zipped join_item s.items t.items;
  written = bit_and s.written t.written;
  made = s.made;
  fact = None;
}

-- the join of two states, or None where they clash
abbrev pub join_states : State → State → Option State
join_states s t = only_if (agree s t) (joined s t)

-- a state without its fact
abbrev pub without_fact : State → State
without_fact s = record s { fact = None }

-- ---- several states

-- what has come to a leader, with another state joined in that is given to it; None where they clash
abbrev pub taken_in : Option State → State → Option State
taken_in None t = Some (without_fact t)
taken_in (Some s) t = join_states s t
