-- The memory of objects in numbers: it loads, stores and shows the same bytes as the state.
use Rattle.std.proofs.Common.{◌≡◌, ℕ, Bool, true, false, cond, if◌then◌else◌, List, [], ◌∷◌, map, refl, sym, ap, ◌∙◌, Option, Some, None}
use Rattle.std.proofs.Math.Path.{fun_ext}
use Rattle.std.specs.List.{find}
use Rattle.std.specs.Option.{option_map}
use Rattle.ebc_width.specs.Bytes.{put}
use Rattle.ebc_width.specs.Ranges.{Range, covers, holds}
use Rattle.object_memory.specs.Memory as memory
use Rattle.object_memory.specs.Memory.{Object, Memory, IsMemory, range_of, ranges, has_byte}
use Rattle.object_memory.proofs.Laws.{byte_at-memory_after, rest_from-window}
use Rattle.note_types.specs.Concrete.{loaded, rest_of, rest_from}
use Rattle.ebc_machine.specs.declared.Machine.{Machine}
use Rattle.ebc_machine.specs.States.{concrete_of}

pub loaded-same : {w : ℕ} (c : Machine w) (m : Memory) (a k : ℕ) → memory.held_number m a k ≡ loaded (concrete_of c m) a k
unfolding memory.held_number loaded
loaded-same c m a k = refl

-- ---- stores

pub byte_limit-stored : (m : Memory) (a k v : ℕ) → (memory.memory_after m a k v).byte_limit ≡ m.byte_limit
unfolding memory.memory_after
byte_limit-stored m a k v = either (holds (ranges m) a k)
  where
    either : (held : Bool) → (if held then memory.with_bytes m (put (memory.byte_at m) a k v) else m).byte_limit ≡ m.byte_limit
    either true = refl
    either false = refl

pub object_limit-stored : (m : Memory) (a k v : ℕ) → (memory.memory_after m a k v).object_limit ≡ m.object_limit
unfolding memory.memory_after
object_limit-stored m a k v = either (holds (ranges m) a k)
  where
    either : (held : Bool) → (if held then memory.with_bytes m (put (memory.byte_at m) a k v) else m).object_limit ≡ m.object_limit
    either true = refl
    either false = refl

pub bytes-stored : (m : Memory) (a k v : ℕ) → holds (ranges m) a k ≡ true
    → memory.byte_at (memory.memory_after m a k v) ≡ put (memory.byte_at m) a k v
bytes-stored m a k v held = fun_ext (λ x. byte_at-memory_after m a k v x held)

-- ---- the rest of an object

found_range : (x : ℕ) (os : List Object) → option_map range_of (find (has_byte x) os) ≡ find (covers x 1) (map range_of os)
found_range x [] = refl
found_range x (o ∷ os) = chosen (has_byte x o) (find (has_byte x) os) (find (covers x 1) (map range_of os)) (found_range x os)
  where
    chosen : (here : Bool) (there : Option Object) (other : Option Range) → option_map range_of there ≡ other
        → option_map range_of (cond here (Some o) there) ≡ cond here (Some (range_of o)) other
    chosen true there other same = refl
    chosen false there other same = same

pub rest_from-same : {w : ℕ} (c : Machine w) (m : Memory) (x : ℕ) → IsMemory w m → memory.rest_from m x ≡ rest_from (concrete_of c m) x
unfolding rest_from memory.rest_from memory.object_at
rest_from-same {w} c m x is = either (memory.object_at m x) refl
  where
    either : (at : Option Object) → memory.object_at m x ≡ at → memory.rest_from m x ≡ option_map (rest_of (memory.byte_at m) x)
        (find (covers x 1) (ranges m))
    either None none =
        ap (option_map (λ (o : Object). _)) none
        ∙ ap (option_map (rest_of (memory.byte_at m) x)) (sym (ap (option_map range_of) none) ∙ found_range x m.objects)
    either (Some o) some =
        rest_from-window w m x o is some
        ∙ ap (option_map (rest_of (memory.byte_at m) x)) (sym (ap (option_map range_of) some) ∙ found_range x m.objects)
