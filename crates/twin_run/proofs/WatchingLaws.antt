-- What is seen of a run is what its runner holds.
use Rattle.twin_run.proofs.Common.{◌≡◌, ℕ, Bool, true, false, List, [], ◌∷◌, map, Option, Some, None, refl, sym, ap, ◌∙◌, subst, nat_eq}
use Rattle.twin_run.proofs.Common.{IfNone, Range, covers, Memory, Concrete, concrete_of, Machine, host_turn, is_due, call_under_way}
use Rattle.twin_run.proofs.Common.{NativeCall, RunState, World, IsRunner, Runner}
use Rattle.std.proofs.Common.{cond}
use Rattle.std.specs.{List.find, Option.option_map}
use Rattle.object_memory.specs.Memory.{Object, IsMemory, range_of, ranges, has_byte}
use Rattle.object_memory.proofs.Laws.{rest_from-window}
use Rattle.note_types.specs.Concrete.{rest_of, rest_from}
use Rattle.twin_run.specs.Watching.{is_hosts_turn}
use Rattle.object_memory.specs.Memory as memory

-- whose turn it is, by whether the run is at the gate, the call that is under way and whether a notification is due
pub turn_of : (world : World) (r : RunState) (b : Bool) (c : NativeCall ℕ) (d : Bool) → nat_eq r.machine.ip r.machine.gate ≡ b
    → call_under_way r.hosts ≡ c → is_due world.script r.script ≡ d → host_turn b c d ≡ is_hosts_turn world r
turn_of world r b c d gate call due = sym (λ i. host_turn (gate i) (call i) (due i))

-- the object that has a byte, by where it lies
found_range : (x : ℕ) (os : List Object) → option_map range_of (find (has_byte x) os) ≡ find (covers x 1) (map range_of os)
found_range x [] = refl
found_range x (o ∷ os) = chosen (has_byte x o) (find (has_byte x) os) (find (covers x 1) (map range_of os)) (found_range x os)
  where
    chosen : (here : Bool) (there : Option Object) (other : Option Range) → option_map range_of there ≡ other
        → option_map range_of (cond here (Some o) there) ≡ cond here (Some (range_of o)) other
    chosen true there other same = refl
    chosen false there other same = same

-- the bytes from an address on are the same in the memory of a machine and in its state
rest_there : {w : ℕ} (c : Machine w) (m : Memory) (x : ℕ) → IsMemory w m → memory.rest_from m x ≡ rest_from (concrete_of c m) x
unfolding rest_from memory.rest_from memory.object_at
rest_there {w} c m x is = either (memory.object_at m x) refl
  where
    either : (at : Option Object) → memory.object_at m x ≡ at → memory.rest_from m x ≡ option_map (rest_of (memory.byte_at m) x)
        (find (covers x 1) (ranges m))
    either None none =
        ap (option_map (λ (o : Object). _)) none
        ∙ ap (option_map (rest_of (memory.byte_at m) x)) (sym (ap (option_map range_of) none) ∙ found_range x m.objects)
    either (Some o) some =
        rest_from-window w m x o is some
        ∙ ap (option_map (rest_of (memory.byte_at m) x)) (sym (ap (option_map range_of) some) ∙ found_range x m.objects)

-- so what a runner's memory has there is what the run's state has
pub bytes_there : (w : ℕ) (world : World) (x : Runner w) (r : RunState) (a : ℕ) (o : Option (List ℕ)) → IsMemory w x.mem
    → IsRunner w world x r → memory.rest_from x.mem a ≡ o → rest_from r.machine a ≡ o
bytes_there w world x r a o memory run found =
    subst (λ (s : Concrete). rest_from s a ≡ o) run.at.machine (sym (rest_there x.machine x.mem a memory) ∙ found)

-- what follows where there is none
pub none-then : {A : Type 0} (o : Option A) {P Q : Type 0} → IfNone o P → (P → Q) → IfNone o Q
none-then None holds then = then holds
none-then (Some x) holds then = tt
