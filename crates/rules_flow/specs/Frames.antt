-- Meaning: the stack of a function: room, slots that are pushed and popped, locals that are made and dropped. docs/RULES.md,
-- "The stack", has the words.
use Rattle.std.specs.Prelude.{ℕ, ◌+◌, ◌-◌, ◌*◌, ◌^◌, Bool, true, not, ◌&&◌, nat_eq, nat_lt, nat_le, if◌then◌else◌, List, [], ◌∷◌, length}
use Rattle.std.specs.Prelude.{map, Option, Some, None, Ok, Err, pos, int_le, unsigned_abs, count_by, is_some}
use Rattle.std.specs.List.{list_any}
use Rattle.ebc_insn.specs.declared.Extra.{Extra}
use Rattle.ebc_insn.specs.declared.Operand.{Operand}
use Rattle.note_types.specs.BelowTests.{same_kind}
use Rattle.note_types.specs.States.{type_of}
use Rattle.note_types.specs.declared.cell.SlotKind.{SlotKind}
use Rattle.note_types.specs.declared.cell.SlotKind.TheVariants.{N, Q, D}
use Rattle.note_types.specs.declared.items.Item.{Item}
use Rattle.note_types.specs.declared.items.Item.TheVariants.{Slot, Locals}
use Rattle.note_types.specs.declared.notes.FnNote.{FnNote}
use Rattle.note_types.specs.declared.notes.Notes.{Notes}
use Rattle.note_types.specs.declared.notes.Pair.{Pair}
use Rattle.note_types.specs.declared.rule.RuleName.TheVariants as rule
use Rattle.note_types.specs.declared.state.State.{State}
use Rattle.note_types.specs.declared.types.Ty.{Ty}
use Rattle.note_types.specs.declared.types.Ty.TheVariants as ty
use Rattle.rules_base.specs.declared.access.Access.{Access}
use Rattle.rules_base.specs.declared.access.Access.TheVariants as access
use Rattle.rules_base.specs.declared.destination.Destination.{Destination}
use Rattle.rules_base.specs.declared.destination.Destination.TheVariants.{Register, Memory}
use Rattle.rules_base.specs.declared.operand.Distance.{Distance}
use Rattle.rules_base.specs.Access.{target_at}
use Rattle.rules_base.specs.Change.{changed}
use Rattle.rules_base.specs.Destinations.{put}
use Rattle.rules_base.specs.Kept.{kept_low, kept_natural}
use Rattle.rules_base.specs.Operands.{extra_distance, with_immediate}
use Rattle.rules_base.specs.Outcomes.{also, beside, gives_map, needs, OrRule}
use Rattle.rules_base.specs.Parts.{is_int_below}
use Rattle.rules_base.specs.Places.{locals_size, slot_size}
use Rattle.rules_base.specs.Values.{operand_value}
use Rattle.rules_flow.specs.declared.successors.Successors.{Successors}
use Rattle.rules_flow.specs.Successors.{falls}
use Rattle.ebc_base.specs.Steps.{◌>>=◌}
use Rattle.note_types.specs.Known.{is_locals, is_slot}

-- ---- room

-- what an item takes of the stack, where the locals take so much
abbrev pub item_size : Pair → Item → Pair
item_size locals (Slot kind t) = slot_size kind
item_size locals Locals = locals

abbrev pub plus : Pair → Pair → Pair
plus a b = record { n = a.n + b.n; c = a.c + b.c }

-- what items take
unfoldable pub items_size : Pair → List Item → Pair
items_size locals [] = record { n = 0; c = 0 }
items_size locals (x ∷ xs) = plus (item_size locals x) (items_size locals xs)

-- a size at a width
abbrev pub at : ℕ → Pair → ℕ
at w p = p.n * w + p.c

-- a size is within another one at both widths
abbrev pub is_within : Pair → Pair → Bool
is_within a b = nat_le (at 4 a) (at 4 b) && nat_le (at 8 a) (at 8 b)

-- one slot, or none
abbrev pub one_slot : Item → ℕ
one_slot item = if is_slot item then 1 else 0

-- a function has room for one more item: at most 64 slots, beside them the locals, and within what it needs
unfoldable pub has_room : Notes → FnNote → Item → List Item → Bool
has_room notes f item items =
    nat_lt (length items) 65
    && (nat_le (count_by is_slot items + one_slot item) 64
    && is_within (plus (item_size (locals_size notes f) item) (items_size (locals_size notes f) items)) f.need)

-- ---- slots pushed

-- how a push or a pop reaches memory, by the kind of its slot
abbrev pub slot_access : SlotKind → Access
slot_access N = access.Natural
slot_access Q = access.Form64
slot_access D = access.Dword

-- what a slot keeps of a value
abbrev pub slot_type : SlotKind → Ty → Ty
slot_type N t = kept_natural t
slot_type Q t = t
slot_type D t = kept_low 32 t

-- the state with one more item on top
abbrev pub with_item : State → Item → State
with_item s item = record s { items = item ∷ s.items }

-- PUSHn, PUSH64, PUSH32
unfoldable pub push_row : Notes → FnNote → State → SlotKind → Operand → Extra → OrRule Successors
push_row notes f s kind op extra = do
  v ← also (operand_value notes f s (slot_access kind) op extra) (needs rule.Stack (has_room notes f (Slot kind ty.Any) s.items))
  also (Ok (falls (with_item s (Slot kind (slot_type kind v.ty))))) (needs rule.Thunk v.made)

-- ---- slots popped

-- whether a value may be popped from a slot of its kind: what is sign-extended has to be below 2 ^ 31
abbrev pub is_popped : SlotKind → Ty → Bool
is_popped D t = is_int_below (2 ^ 31) t
is_popped _ t = true

-- the type in the top slot, which has to be of this kind
abbrev pub top_type : SlotKind → List Item → OrRule Ty
top_type kind (Slot k t ∷ items) = if same_kind kind k && is_popped kind t then Ok t else Err rule.Stack
top_type kind _ = Err rule.Stack

-- where a pop leaves the value: never through R0
abbrev pub pop_destination : Notes → FnNote → State → SlotKind → Operand → Extra → OrRule Destination
pop_destination notes f s kind op extra =
    if nat_eq op.reg 0 then Err rule.Stack
    else if op.indirect then gives_map Memory (target_at notes f s (slot_access kind) op.reg (extra_distance extra))
    else Ok (Register op.reg)

-- the value that a pop leaves: with its immediate, in a register
abbrev pub popped_type : Notes → Operand → Extra → Ty → Ty
popped_type notes op extra t = if op.indirect then t else with_immediate notes.shape t extra

-- the items below the top
abbrev pub below_top : List Item → List Item
below_top [] = []
below_top (x ∷ xs) = xs

abbrev pub without_top : State → State
without_top s = record s { items = below_top s.items }

-- POPn, POP64, POP32
unfoldable pub pop_row : Notes → FnNote → State → SlotKind → Operand → Extra → OrRule Successors
pop_row notes f s kind op extra = do
  p ← beside (top_type kind s.items) (pop_destination notes f s kind op extra)
  change ← put p.1 (popped_type notes op extra p.0)
  Ok (falls (changed (without_top s) change))

-- ---- locals made

-- the locals take exactly this much
abbrev pub is_size : Pair → ℕ → ℕ → Bool
is_size p n c = nat_eq p.n n && nat_eq p.c c

-- making the locals, which aren't there and take so much
abbrev pub make_row : Notes → FnNote → State → ℕ → ℕ → OrRule Successors
make_row notes f s n c =
    if is_some f.locals && (not (list_any is_locals s.items) && (is_size (locals_size notes f) n c && has_room notes f Locals s.items))
    then Ok (falls (with_item s Locals))
    else Err rule.Stack

-- ---- items dropped

-- the items that are left without those on top that take exactly so much
unfoldable pub left_after : Pair → List Item → ℕ → ℕ → Option (List Item)
left_after locals [] n c = if nat_eq n 0 && nat_eq c 0 then Some [] else None
left_after locals (x ∷ xs) n c =
    if nat_eq n 0 && nat_eq c 0 then Some (x ∷ xs)
    else if nat_le (item_size locals x).n n && nat_le (item_size locals x).c c
    then left_after locals xs (n - (item_size locals x).n) (c - (item_size locals x).c)
    else None

-- what is known of a value without the locals
abbrev pub forgotten : Ty → Ty
forgotten (ty.Local x) = ty.Any
forgotten (ty.Status g) = ty.Status 0
forgotten (ty.SignedStatus g) = ty.SignedStatus 0
forgotten t = t

-- what is known of a value, of an item and of the written fields, without the locals where they are lost
abbrev pub left_type : Bool → Ty → Ty
left_type lost t = if lost then forgotten t else t

abbrev pub left_item : Bool → Item → Item
left_item lost (Slot kind t) = Slot kind (left_type lost t)
left_item lost Locals = Locals

abbrev pub left_written : Bool → ℕ → ℕ
left_written lost written = if lost then 0 else written

-- what is known of the registers, without the locals where they are lost
abbrev pub left_registers : Bool → State → List Ty
left_registers lost s =
    left_type lost (type_of s 0) ∷ left_type lost (type_of s 1) ∷ left_type lost (type_of s 2) ∷ left_type lost (type_of s 3)
    ∷ left_type lost (type_of s 4) ∷ left_type lost (type_of s 5) ∷ left_type lost (type_of s 6) ∷ left_type lost (type_of s 7) ∷ []

-- the state with these items left, without the locals where they are lost
unfoldable pub with_left : State → Bool → List Item → State
with_left s lost items = record s {
  regs = left_registers lost s;
  items = map (left_item lost) items;
  written = left_written lost s.written;
}

-- the locals are among the first items and not among the others
abbrev pub loses : List Item → List Item → Bool
loses items left = list_any is_locals items && not (list_any is_locals left)

abbrev pub drop_to : State → Option (List Item) → OrRule Successors
drop_to s None = Err rule.Stack
drop_to s (Some items) = Ok (falls (with_left s (loses s.items items) items))

-- dropping items from the top that take exactly so much
abbrev pub drop_row : Notes → FnNote → State → ℕ → ℕ → OrRule Successors
drop_row notes f s n c = drop_to s (left_after (locals_size notes f) s.items n c)

-- MOVq R0, R0: down by the size of the locals makes them, and up drops items
unfoldable pub frame_row : Notes → FnNote → State → Distance → OrRule Successors
frame_row notes f s d =
    if int_le (pos 0) d.n && int_le (pos 0) d.c then drop_row notes f s (unsigned_abs d.n) (unsigned_abs d.c)
    else if int_le d.n (pos 0) && int_le d.c (pos 0) then make_row notes f s (unsigned_abs d.n) (unsigned_abs d.c)
    else Err rule.Stack
