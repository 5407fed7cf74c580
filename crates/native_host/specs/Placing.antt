-- For proofs: objects of a script that a host can place next. docs/HOST.md, "Memory".
use Rattle.std.specs.Prelude.{◌≡◌, ℕ, ◌+◌, ◌^◌, ◌<◌, ◌≤◌, List, [], ◌∷◌, ◌++◌, length, map, ⊤}
use Rattle.std.specs.List.{sum_by}
use Rattle.object_memory.specs.Memory.{IsFull, Memory, next_base, padded, placed}
use Rattle.note_types.specs.Concrete.{Concrete}
use Rattle.note_types.specs.declared.notes.Notes.{Notes}
use Rattle.note_types.specs.declared.script.ScriptObject.{ScriptObject}
use Rattle.pe_image.specs.declared.image.Image.{Image}
use Rattle.host_model.specs.HostPlans.{filling}
use Rattle.host_model.specs.HostSteps.{after_stores, with_objects}
use Rattle.host_model.specs.Objects.{script_object}
use Rattle.host_model.specs.declared.object.TypedObject.{TypedObject}
use Rattle.host_model.specs.Placements.{Placement, area_bytes, object_at, object_bytes, stack_bytes}

-- An object of that number can be placed in a memory: it has bytes, there is room for them, and the next base is its own.
pub record IsNext (w : ℕ) (notes : Notes) (P : Placement) (number : ℕ) (m : Memory) (o : ScriptObject) : Type 0 where
  pub some : 1 ≤ object_bytes w notes (script_object o)
  pub below : object_bytes w notes (script_object o) < 2 ^ 32
  pub room : IsFull m (object_bytes w notes (script_object o)) → ⊥
  pub base : next_base w m ≡ object_at notes P number

-- So can these, one after the other, which are numbered from that number on.
abbrev pub AreComing : (w : ℕ) → Notes → Placement → (number : ℕ) → Memory → List ScriptObject → Type 0
AreComing w notes P number m [] = ⊤
AreComing w notes P number m (o ∷ os) =
    IsNext w notes P number m o × AreComing w notes P (number + 1) (placed w m (object_bytes w notes (script_object o))) os

-- the machine once these objects of a script are made, past those that are there, and filled; `slots` are of the call
abbrev pub with_made : ℕ → Notes → Placement → (made : List TypedObject) → List ScriptObject → (slots : List ℕ) → Concrete → Concrete
with_made w notes P made objects slots s =
    after_stores w notes P (made ++ map script_object objects) slots (filling notes (length made) objects)
    (with_objects w notes P (length made) (map script_object objects) s)

-- what an object of a script takes of memory, with its padding and gap, and what objects take
abbrev pub room_of : ℕ → Notes → ScriptObject → ℕ
room_of w notes o = padded (object_bytes w notes (script_object o))

abbrev pub room_at : ℕ → Notes → List ScriptObject → ℕ
room_at w notes objects = sum_by (room_of w notes) objects

-- what the native area, the stack and an image take
abbrev pub fixed_room : ℕ → Notes → Image → ℕ
fixed_room w notes image = padded (area_bytes notes) + padded (stack_bytes w notes) + padded image.size
