-- Laws of the start of a run: what the stores of the start leave, and what a runner is at before the first step.
use Rattle.twin_run.proofs.Common.{◌≡◌, ℕ, suc, ◌%◌, ◌^◌, ◌<◌, ◌≤◌, Bool, true, false, List, [], ◌∷◌, length, map, Some, None, refl, sym}
use Rattle.twin_run.proofs.Common.{ap, ◌∙◌, subst, arith, if◌then◌else◌, vec_capacity, option_map_or, put, holds, Memory, mapped, Image}
use Rattle.twin_run.proofs.Common.{Concrete, stored, Running, Notes, Script, Value, concrete_of, Machine, with_memory, function_params}
use Rattle.twin_run.proofs.Common.{entered, frame_for, inside, written_number, made_objects, Placement, code_at, own_placement, stack_end}
use Rattle.twin_run.proofs.Common.{script_start, RunState, run_after, run_of, world_of, World, TypedObject, IsHost, IsMemoryOf, IsServing}
use Rattle.twin_run.proofs.Common.{Host, IsAt, IsQuiet, IsRunner, hosts_of, Runner, length-map, IsNotes, IsScript}
use Rattle.std.proofs.{Math.Nat.mod-eq_of_lt, lemmas.Option.slice_get_within}
use Rattle.host_model.specs.{HostPlans.Store, HostSteps.after_store, HostSteps.after_stores, HostSteps.with_object, HostSteps.with_objects}
use Rattle.host_model.specs.{Placements.object_range, Start.bare_machine, Start.run_start, Start.start_machine}
use Rattle.native_host.specs.Hosts.{HasRoom, all_events}
use Rattle.native_host.proofs.{StartLaws.all_rest_events, EnterLaws.fits-length}
use Rattle.twin_run.proofs.{EnteringLaws.few_params, EnteringLaws.params_there, RoomLaws.first_events}

-- ---- what stores leave

-- registers, ip, flags and gate are as they were
record KeepsControl (s t : Concrete) : Type 0 where
  registers : t.registers ≡ s.registers
  ip : t.ip ≡ s.ip
  flags : t.flags ≡ s.flags
  gate : t.gate ≡ s.gate

then_keeps : (s t u : Concrete) → KeepsControl s t → KeepsControl t u → KeepsControl s u
then_keeps s t u a b = record {
  registers = b.registers ∙ a.registers;
  ip = b.ip ∙ a.ip;
  flags = b.flags ∙ a.flags;
  gate = b.gate ∙ a.gate;
}

stored_keeps : (s : Concrete) (a k v : ℕ) → KeepsControl s (option_map_or (λ (t : Concrete). t) (stored s a k v) s)
unfolding stored
stored_keeps s a k v = by (holds s.objects a k) where
  by : (b : Bool) → KeepsControl s (option_map_or (λ (t : Concrete). t) (if b then Some (record s { byte = put s.byte a k v }) else None) s)
  by true = record { registers = refl; ip = refl; flags = refl; gate = refl }
  by false = record { registers = refl; ip = refl; flags = refl; gate = refl }

stores_keep : (w : ℕ) (notes : Notes) (P : Placement) (made : List TypedObject) (slots : List ℕ) (vs : List Store) (s : Concrete)
    → KeepsControl s (after_stores w notes P made slots vs s)
unfolding after_stores
stores_keep w notes P made slots [] s = record { registers = refl; ip = refl; flags = refl; gate = refl }
stores_keep w notes P made slots (v ∷ vs) s =
    then_keeps s (after_store w notes P made slots s v) (after_stores w notes P made slots (v ∷ vs) s) (stored_keeps s _ _ _)
    (stores_keep w notes P made slots vs (after_store w notes P made slots s v))

objects_keep : (w : ℕ) (notes : Notes) (P : Placement) (first : ℕ) (os : List TypedObject) (s : Concrete)
    → KeepsControl s (with_objects w notes P first os s)
unfolding with_objects with_object
objects_keep w notes P first [] s = record { registers = refl; ip = refl; flags = refl; gate = refl }
objects_keep w notes P first (o ∷ os) s =
    then_keeps s (with_object s (object_range w notes P first o)) (with_objects w notes P first (o ∷ os) s)
    (record { registers = refl; ip = refl; flags = refl; gate = refl })
    (objects_keep w notes P (suc first) os (with_object s (object_range w notes P first o)))

start_keeps : (w : ℕ) (world : World) (P : Placement) (bytes : ℕ → ℕ)
    → KeepsControl (bare_machine w world P bytes) (start_machine w world P bytes)
unfolding start_machine
start_keeps w world P bytes =
    then_keeps (bare_machine w world P bytes) _ (start_machine w world P bytes) (objects_keep w world.notes P _ _ (bare_machine w world P
    bytes)) (stores_keep w world.notes P _ _ _ _)

-- ---- the machine

-- the machine before the entry function is entered, in the words of the code
pub begins : (w : ℕ) (world : World) (P : Placement) (bytes : ℕ → ℕ) (c : Machine w) (m : Memory) (end : ℕ)
    → with_memory (start_machine w world P bytes) m ≡ start_machine w world P bytes → end ≡ stack_end w world.notes P → end < 2 ^ 64
    → c.regs ≡ end ∷ 0 ∷ 0 ∷ 0 ∷ 0 ∷ 0 ∷ 0 ∷ 0 ∷ [] → c.ip ≡ P.native → c.flags ≡ 0 → c.gate ≡ P.native
    → concrete_of c m ≡ start_machine w world P bytes
unfolding bare_machine
begins w world P bytes c m end state top small regs ip flags gate =
    let keeps = start_keeps w world P bytes in
    let first : end ≡ stack_end w world.notes P % 2 ^ 64 = sym (mod-eq_of_lt small) ∙ ap (λ n. n % 2 ^ 64) top in
    let registers = regs ∙ (ap (λ n. n ∷ 0 ∷ 0 ∷ 0 ∷ 0 ∷ 0 ∷ 0 ∷ 0 ∷ []) first ∙ sym keeps.registers) in
    λ i. record {
      registers = registers i;
      ip = (ip ∙ sym keeps.ip) i;
      flags = (flags ∙ sym keeps.flags) i;
      gate = (gate ∙ sym keeps.gate) i;
      objects = (state i).objects;
      byte = (state i).byte;
    }

-- the run before its entry function is entered
abbrev pub outset : ℕ → World → Placement → (ℕ → ℕ) → RunState
outset w world P bytes = record {
  machine = start_machine w world P bytes;
  hosts = [];
  script = script_start;
  trace = [];
  ending = Running;
}

-- what the runner holds then is that
pub begun_at : (w : ℕ) (world : World) (bytes : ℕ → ℕ) (x : Runner w) → IsServing w world.notes world.script x.host
    → IsHost w world x.host → x.image_size ≡ world.image_size → IsMemoryOf w world (own_placement w world) 0 x.mem
    → concrete_of x.machine x.mem ≡ start_machine w world (own_placement w world) bytes → x.frames ≡ [] → x.asked ≡ None
    → x.host.entries ≡ 0 → x.host.notifications ≡ 0 → x.host.thunks ≡ 0 → x.host.trace.items ≡ [] → x.done ≡ 0 → x.ending ≡ Running
    → IsAt w world x (outset w world (own_placement w world) bytes)
begun_at w world bytes x serving host size memory machine frames asked entries notifications thunks trace done ending = record {
  serving = serving;
  size = host.size;
  image_size = size;
  memory = subst (λ n. IsMemoryOf w world (own_placement w world) n x.mem) (sym entries) memory;
  machine = machine;
  hosts = λ i. hosts_of (asked i) (frames i);
  tells = record { entries = sym entries; notifications = sym notifications; thunks = thunks; trace = sym trace };
  done = done;
  ending = ending;
}

-- ---- the run

-- once the entry function is entered, the run has begun
pub begun : (w : ℕ) (image : Image) (notes : Notes) (script : Script) (x : Runner w) (numbers : List ℕ)
    → IsAt w (world_of image notes script) x (entered false w (world_of image notes script) (own_placement w (world_of image notes script))
    (outset w (world_of image notes script) (own_placement w (world_of image notes script)) (mapped image (own_placement w (world_of image
    notes script)).image)) notes.entry numbers)
    → numbers ≡ map (written_number w notes (own_placement w (world_of image notes script)) (made_objects notes script 0)) script.args
    → IsQuiet script x → all_events script ≤ vec_capacity x.host.trace
    → IsRunner w (world_of image notes script) x (run_of w (world_of image notes script) (own_placement w (world_of image notes script))
    image 0)
unfolding run_after run_start
begun w image notes script x numbers at are quiet room =
    let world = world_of image notes script in
    let P = own_placement w world in
    let start = outset w world P (mapped image P.image) in
    let count = all_rest_events script in
    subst (λ (xs : List ℕ). IsRunner w world x (entered false w world P start notes.entry xs)) are
    (record {
      at = at;
      quiet = quiet;
      events = first_events script (vec_capacity x.host.trace) (start_machine w world P (mapped image P.image))
          (frame_for false (start_machine w world P (mapped image P.image)) notes.entry)
          (inside w (start_machine w world P (mapped image P.image)) (code_at notes P notes.entry) (function_params notes notes.entry)
          numbers)
          refl refl (omega (arith, count, room));
    })

-- ---- the entry function

-- it is one of the notes', and it gets a value for each of its parameters
pub entry_within : (notes : Notes) → IsNotes notes → notes.entry < length notes.function
entry_within notes is = slice_get_within notes.function notes.entry is.entry.0 is.entry.1

pub entry_args : (notes : Notes) (script : Script) → IsScript notes script → length script.args ≡ length (function_params notes notes.entry)
entry_args notes script is = fits-length (made_objects notes script 0) (function_params notes notes.entry) script.args is.args

pub few_args : (notes : Notes) (script : Script) → IsNotes notes → IsScript notes script → length script.args ≤ 16
few_args notes script is scripted =
    let f = is.entry.0 in
    let params = ap length (params_there notes notes.entry f is.entry.1) in
    let few = few_params notes notes.entry f is is.entry.1 in
    let count = entry_args notes script scripted in
    omega (arith, params, few, count)

-- the numbers of its arguments are as many as its parameters
pub numbers_count : (notes : Notes) (script : Script) (f : Value → ℕ) (xs items : List ℕ) → IsScript notes script → xs ≡ items
    → items ≡ map f script.args → length xs ≡ length (function_params notes notes.entry)
numbers_count notes script f xs items scripted same are =
    ap length same ∙ (ap length are ∙ (length-map f script.args ∙ entry_args notes script scripted))

-- there is room for all events
pub room_begins : (w : ℕ) (script : Script) (g h : Host w) → g ≡ h → HasRoom h (all_events script)
    → all_events script ≤ vec_capacity g.trace
room_begins w script g h same room =
    subst (λ (k : Host w). all_events script ≤ vec_capacity k.trace) (sym same) (omega (arith, room))
