-- For proofs: where the frames of a configuration lie on the stack at a width, and so where everything is that a value may
-- name. The stack goes down from its end; where a frame or a local lies depends on nothing above it in the list of frames.
-- docs/HOST.md, "The neutral machine".
use Rattle.std.specs.Prelude.{ℕ, ◌+◌, List, [], ◌∷◌, Option, None, nat_eq, if◌then◌else◌, slice_get}
use Rattle.std.specs.Option.{option_map}
use Rattle.note_types.specs.Shapes.{size_at, start_at}
use Rattle.host_model.specs.Values.{Anchor, ObjectOf, ThunkOf, LocalOf, Addresses, plus, minus}
use Rattle.neutral_machine.specs.Config.{StackItem, Pushed, LocalsOf, Frame, Function, Host, depth}
use Rattle.note_types.specs.declared.notes.Notes.{Notes}
use Rattle.host_model.specs.Placements.{Placement, slot_bytes, return_cell, stack_end, object_address, thunk_cell_address, method_address}
use Rattle.host_model.specs.Placements.{entry_address, handle_address}

-- the bytes of a stack item
abbrev pub item_size : ℕ → StackItem → ℕ
item_size w (Pushed kind v) = slot_bytes w kind
item_size w (LocalsOf s) = size_at w s

-- the bytes of stack items
abbrev pub height : ℕ → List StackItem → ℕ
height w [] = 0
height w (i ∷ is) = item_size w i + height w is

-- the bytes of frames, with a return cell below the items of each function frame and the parameters in each host frame
abbrev pub total : ℕ → List Frame → ℕ
total w [] = 0
total w (Function f ∷ fs) = height w f.items + (return_cell + total w fs)
total w (Host h ∷ fs) = height w h.params + total w fs

-- the address of the top of these frames, where the stack ends at an address: what R0 is
abbrev pub top_of : ℕ → ℕ → List Frame → ℕ
top_of w end fs = minus end (total w fs)

-- the address of a field of the locals among items that lie upon so many bytes of the stack
abbrev pub local_among : ℕ → ℕ → ℕ → List StackItem → ℕ → Option ℕ
local_among w end under [] f = None
local_among w end under (Pushed kind v ∷ is) f = local_among w end under is f
local_among w end under (LocalsOf s ∷ is) f =
    option_map (λ z. plus (minus end (size_at w s + (height w is + under))) (start_at w z)) (slice_get s.fields f)

-- the address of a field of the locals of the function frame at a depth
abbrev pub local_address : ℕ → ℕ → List Frame → ℕ → ℕ → Option ℕ
local_address w end [] d f = None
local_address w end (Function g ∷ fs) d f =
    if nat_eq d (depth fs) then local_among w end (return_cell + total w fs) g.items f else local_address w end fs d f
local_address w end (Host h ∷ fs) d f = local_address w end fs d f

-- the address of an anchor
abbrev pub anchor_address : ℕ → Notes → Placement → List Frame → Anchor → Option ℕ
anchor_address w notes P fs (ObjectOf k) = object_address notes P k
anchor_address w notes P fs (ThunkOf i) = thunk_cell_address notes P i
anchor_address w notes P fs (LocalOf d f) = local_address w (stack_end w notes P) fs d f

-- where everything is at a width, under a placement, while these frames stand
abbrev pub addresses : ℕ → Notes → Placement → List Frame → Addresses
addresses w notes P fs = record {
  anchor = anchor_address w notes P fs;
  handle = handle_address notes P;
  method = method_address notes P;
  entry = entry_address notes P;
}
