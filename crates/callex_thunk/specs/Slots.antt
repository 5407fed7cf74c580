-- For proofs: what a native call takes out of a machine's memory, and what of it stands in the frames of the region.
-- docs/HOST.md, "Steps", the call step.
use Rattle.std.specs.Prelude.{ℕ, List, [], ◌∷◌, ◌++◌, drop, length}
use Rattle.object_memory.specs.Memory.{Memory, ranges, byte_at}
use Rattle.frame_stack.specs.declared.Frame.{Frame}
use Rattle.note_types.specs.Concrete.{Concrete}

-- a memory as a state in numbers, of which loads see nothing else
abbrev pub memory_state : Memory → Concrete
memory_state m = record { registers = []; ip = 0; flags = 0; gate = 0; objects = ranges m; byte = byte_at m }

-- the frames with these numbers in the first slots of the top one
unfoldable pub with_arguments : List ℕ → List Frame → List Frame
with_arguments xs [] = []
with_arguments xs (f ∷ fs) = record f { slots = xs ++ drop (length xs) f.slots } ∷ fs
