-- Laws of entering functions: the machine inside one by the kinds of its parameters, and the runner there.
use Rattle.twin_run.proofs.Common.{◌≡◌, ℕ, ◌+◌, ◌^◌, ◌<◌, ◌≤◌, Bool, List, [], ◌∷◌, length, map, Option, Some, None, refl, sym, ap, ◌∙◌}
use Rattle.twin_run.proofs.Common.{subst, arith, slice_get, take, slice_set, option_map_or, Memory, Concrete, register, stored, SlotKind}
use Rattle.twin_run.proofs.Common.{Raised, FnNote, Notes, Param, KeepsObjects, concrete_of, Machine, Frame, saved_of, length-map, IsNotes}
use Rattle.twin_run.proofs.Common.{function_params, entered, frame_for, inside, Placement, code_at, own_placement, RunState, World}
use Rattle.twin_run.proofs.Common.{placement_of, IsAt, hosts_of, Runner}
use Rattle.std.specs.Option.{option_and_then}
use Rattle.ebc_width.specs.Width.{cut_at}
use Rattle.entry_thunk.specs.{Cells.params_of, Entering.OnRefused}
use Rattle.entry_thunk.specs.declared.EnterEnd.{EnterEnd}
use Rattle.host_model.specs.{HostSteps.with_slots, Placements.params_bytes, Placements.return_cell, Placements.slot_bytes, Values.minus}
use Rattle.twin_run.proofs.RunnerLaws.{ended_at, is_placed, memory_kept}
use Rattle.note_types.specs.declared.exception.Exception.TheVariants as raises
use Rattle.entry_thunk.specs.declared.EnterEnd.TheVariants as ends

-- ---- by the kinds of the parameters

abbrev kind_of : Param → SlotKind
kind_of p = p.kind

bytes_kinds : (w : ℕ) (ps : List Param) → params_bytes w (params_of (map kind_of ps)) ≡ params_bytes w ps
bytes_kinds w [] = refl
bytes_kinds w (p ∷ ps) = ap (λ n. slot_bytes w p.kind + n) (bytes_kinds w ps)

slots_kinds : (w a : ℕ) (ps : List Param) (xs : List ℕ) (s : Concrete)
    → with_slots w a (params_of (map kind_of ps)) xs s ≡ with_slots w a ps xs s
unfolding with_slots
slots_kinds w a [] xs s = refl
slots_kinds w a (p ∷ ps) [] s = refl
slots_kinds w a (p ∷ ps) (x ∷ xs) s =
    λ i. option_and_then (λ (t : Concrete). slots_kinds w (a + slot_bytes w p.kind) ps xs t i) (stored s (cut_at w a) (slot_bytes w p.kind)
    x)

-- the machine inside a function, by its parameters and where the cells begin
abbrev inside_by : ℕ → Concrete → (target : ℕ) → List Param → List ℕ → (top : ℕ) → Option Concrete
inside_by w s target ps xs top =
    option_and_then (λ (low : Concrete). option_and_then (λ (high : Concrete). with_slots w (top + return_cell) ps xs high)
    (stored low (cut_at w (top + 8)) 8 0))
    (stored (record s { registers = slice_set s.registers 0 top; ip = target; flags = 0 }) (cut_at w top) 8 s.gate)

inside_kinds : (w : ℕ) (s : Concrete) (target : ℕ) (ps : List Param) (xs : List ℕ)
    → inside w s target (params_of (map kind_of ps)) xs ≡ inside w s target ps xs
unfolding inside
inside_kinds w s target ps xs =
    ap (λ n. inside_by w s target (params_of (map kind_of ps)) xs (minus (register s 0) (return_cell + n))) (bytes_kinds w ps)
    ∙ (λ i. option_and_then (λ (low : Concrete). option_and_then (λ (high : Concrete). slots_kinds w (minus (register s 0) (return_cell
    + params_bytes w ps) + return_cell) ps xs high i) (stored low (cut_at w (minus (register s 0) (return_cell + params_bytes w ps) + 8)) 8
    0))
    (stored (record s {
      registers = slice_set s.registers 0 (minus (register s 0) (return_cell + params_bytes w ps));
      ip = target;
      flags =
          0;
    }) (cut_at w (minus (register s 0) (return_cell + params_bytes w ps))) 8 s.gate))

-- ---- the runner

-- where the code of a function of the notes is, and its parameters
pub params_there : (notes : Notes) (f : ℕ) (g : FnNote) → slice_get notes.function f ≡ Some g → function_params notes f ≡ g.params
params_there notes f g is = ap (λ o. option_map_or (λ (x : FnNote). x.params) o []) is

code_there : (notes : Notes) (P : Placement) (f : ℕ) (g : FnNote) → slice_get notes.function f ≡ Some g → code_at notes P f
    ≡ P.image + g.place
code_there notes P f g is = ap (λ o. P.image + option_map_or (λ (x : FnNote). x.place) o 0) is

-- the machine inside the function, in the words of the code
inside_there : (w : ℕ) (world : World) (x : Runner w) (r : RunState) (f : ℕ) (g : FnNote) (kinds : List SlotKind) (numbers : List ℕ)
    → IsAt w world x r → slice_get world.notes.function f ≡ Some g → kinds ≡ map kind_of g.params
    → inside w r.machine (code_at world.notes (own_placement w world) f) (function_params world.notes f) numbers
    ≡ inside w (concrete_of x.machine x.mem) ((placement_of x.host.places).image + g.place) (params_of kinds) numbers
inside_there w world x r f g kinds numbers at is are =
    let base = ap (λ (P : Placement). P.image + g.place) (is_placed w world x.host at.serving at.size) in
    (λ i. inside w (sym at.machine i) (code_there world.notes (own_placement w world) f g is i) (params_there world.notes f g is i) numbers)
    ∙ (sym (inside_kinds w (concrete_of x.machine x.mem) ((own_placement w world).image + g.place) g.params numbers)
    ∙ (λ i. inside w (concrete_of x.machine x.mem) (sym base i) (params_of (sym are i)) numbers))

abbrev entered_by : Bool → RunState → ℕ → Option Concrete → RunState
entered_by notified r f o = option_map_or (λ (s : Concrete). record r { machine = s; hosts = frame_for notified r.machine f ∷ r.hosts }) o
    (record r { ending = Raised raises.StackFault })

-- the function is entered
pub entered_at : (w : ℕ) (world : World) (x : Runner w) (r : RunState) (notified : Bool) (f : ℕ) (g : FnNote) (kinds : List SlotKind)
    (numbers : List ℕ) (c : Machine w) (m : Memory) (fs : List Frame) → IsAt w world x r → x.asked ≡ None
    → slice_get world.notes.function f ≡ Some g → kinds ≡ map kind_of g.params
    → inside w (concrete_of x.machine x.mem) ((placement_of x.host.places).image + g.place) (params_of kinds) numbers
    ≡ Some (concrete_of c m)
    → map saved_of fs ≡ frame_for notified (concrete_of x.machine x.mem) f ∷ map saved_of x.frames → KeepsObjects x.mem m
    → IsAt w world (record x { machine = c; mem = m; frames = fs }) (entered notified w world (own_placement w world) r f numbers)
entered_at w world x r notified f g kinds numbers c m fs at unasked is are done frames keeps =
    let there = inside_there w world x r f g kinds numbers at is are ∙ done in
    let below = sym (ap (λ a. hosts_of a x.frames) unasked) ∙ at.hosts in
    subst (λ (s : RunState). IsAt w world (record x { machine = c; mem = m; frames = fs }) s) (sym (ap (entered_by notified r f) there))
    (record {
      serving = at.serving;
      size = at.size;
      image_size = at.image_size;
      memory = memory_kept w world (own_placement w world) x.host.entries x.mem m at.memory keeps;
      machine = refl;
      hosts = ap (λ a. hosts_of a fs) unasked ∙ (frames ∙ (λ i. frame_for notified (at.machine i) f ∷ below i));
      tells = record {
        entries = at.tells.entries;
        notifications = at.tells.notifications;
        thunks = at.tells.thunks;
        trace = at.tells.trace;
      };
      done = at.done;
      ending = at.ending;
    })

-- the cells below R0 aren't mapped
pub refused_at : (w : ℕ) (world : World) (x : Runner w) (r : RunState) (notified : Bool) (f : ℕ) (g : FnNote) (kinds : List SlotKind)
    (numbers : List ℕ) → IsAt w world x r → slice_get world.notes.function f ≡ Some g → kinds ≡ map kind_of g.params
    → inside w (concrete_of x.machine x.mem) ((placement_of x.host.places).image + g.place) (params_of kinds) numbers ≡ None
    → IsAt w world (record x { ending = Raised raises.StackFault }) (entered notified w world (own_placement w world) r f numbers)
refused_at w world x r notified f g kinds numbers at is are none =
    let there = inside_there w world x r f g kinds numbers at is are ∙ none in
    subst (λ (s : RunState). IsAt w world (record x { ending = Raised raises.StackFault }) s) (sym (ap (entered_by notified r f) there))
    (ended_at w world x r (Raised raises.StackFault) at)

-- ---- what entering needs

-- the kinds that the code has are those of the parameters
pub kinds_are : (g : FnNote) (ps : List Param) (kinds : List SlotKind) (n : ℕ) → ps ≡ g.params → n ≡ length g.params
    → take (length ps) kinds ≡ map kind_of ps → take n kinds ≡ map kind_of g.params
kinds_are g ps kinds n same count are =
    ap (λ k. take k kinds) (count ∙ ap length (sym same)) ∙ (are ∙ ap (map kind_of) same)

pub few_params : (notes : Notes) (f : ℕ) (g : FnNote) → IsNotes notes → slice_get notes.function f ≡ Some g → length g.params ≤ 16
few_params notes f g is there = (is.functions f g there).few

-- What is asked of the kinds, the numbers and the function.
pub record CanEnter (f : ℕ) (kinds : List SlotKind) (numbers : List ℕ) : Type 0 where
  pub each : length kinds ≡ length numbers
  pub few : length kinds ≤ 16
  pub small : f < 2 ^ 31

pub can_enter : (notes : Notes) (f : ℕ) (g : FnNote) (kinds : List SlotKind) (numbers : List ℕ) → IsNotes notes
    → slice_get notes.function f ≡ Some g → f < length notes.function → kinds ≡ map kind_of g.params
    → length numbers ≡ length (function_params notes f) → CanEnter f kinds numbers
can_enter notes f g kinds numbers is there within are each =
    let count : length kinds ≡ length g.params = ap length are ∙ length-map kind_of g.params in
    let params = ap length (params_there notes f g there) in
    let few = few_params notes f g is there in
    let functions = is.few.functions in
    record {
      each = count ∙ (sym params ∙ sym each);
      few = omega (arith, count, few);
      small = omega (arith, functions, within);
    }

-- where entering is refused
pub refused_facts : (e : EnterEnd) (A : Type 0) → (e ≡ ends.Done → ⊥) → OnRefused e A → A
refused_facts ends.Done A over facts = absurd (over refl)
refused_facts ends.TooDeep A over facts = facts
refused_facts ends.StackFault A over facts = facts
