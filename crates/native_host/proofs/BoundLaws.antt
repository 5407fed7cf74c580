-- Laws of bound calls: how many arguments a call has, what its frames are, and which argument is refused.
use Rattle.native_host.proofs.Common.{◌≡◌, ℕ, suc, ◌≤◌, Bool, true, false, if◌then◌else◌, nat_eq, List, [], ◌∷◌, length, map, drop, Option}
use Rattle.native_host.proofs.Common.{Some, None, refl, sym, ap, ◌∙◌, subst, arith, option_map_or, drop_all, Memory, with_mark, Frame}
use Rattle.native_host.proofs.Common.{register, Notes, Param, WantParam, Seen, saved_of, memory_state, with_arguments, NO_ENTRY, Asks}
use Rattle.native_host.proofs.Common.{NoSite, signature_method, signature_params, site_of, asking_at, asking_by, objects_at, slots_of}
use Rattle.native_host.proofs.Common.{with_call, Placement, method_at, NativeCall, NoCall, arguments_read, RunState, World, TypedObject}
use Rattle.native_host.proofs.Common.{parameter_refused, bound_step}
use Rattle.note_types.specs.declared.ending.Ending.TheVariants.{Running}
use Rattle.host_model.specs.Progress.{script_start}
use Rattle.native_host.specs.Bound.{OnCalled}
use Rattle.native_host.specs.declared.bound.BoundStep.{BoundStep}
use Rattle.native_host.proofs.{AskingLaws.slots-count, CallLaws.with_call-arguments, CallLaws.with_call-twice, TopLaws.marked-none}

-- ---- a state in which a call is asked for

-- a world with notes, and a state with a memory and a number in R0: nothing else of them counts
abbrev pub asking_world : Notes → World
asking_world notes = record {
  notes = notes;
  script = record { version = 1; args = []; object = []; call = []; notify = [] };
  image_size = 0;
}

abbrev pub asking_state : Memory → ℕ → RunState
asking_state m slots = record {
  machine = record (memory_state m) { registers = slots ∷ [] };
  hosts = [];
  script = script_start;
  trace = [];
  ending = Running;
}

-- ---- the frames

-- the frames with arguments are the same to whatever is under way above the top one
pub hosts-asked : (fs gs : List Frame) (xs : List ℕ) (call : NativeCall ℕ) → gs ≡ with_arguments xs fs
    → with_call call (map saved_of gs) ≡ with_call call (map saved_of fs)
hosts-asked fs gs xs call is = ap (λ hs. with_call call (map saved_of hs)) is ∙ with_call-arguments fs xs call

-- no call is under way any more
pub hosts-answered : (fs gs : List Frame) (call : NativeCall ℕ) → gs ≡ with_mark NO_ENTRY 0 0 fs
    → map saved_of gs ≡ with_call NoCall (with_call call (map saved_of fs))
hosts-answered fs gs call is =
    ap (map saved_of) is ∙ (marked-none fs ∙ sym (with_call-twice (map saved_of fs) NoCall call))

-- ---- arguments that are refused

none-left : (made : List TypedObject) (k : ℕ) (ps : List Param) → parameter_refused made k ps [] ≡ None
unfolding parameter_refused
none-left made k [] = refl
none-left made k (p ∷ ps) = refl

-- none is, past the last one
pub parameters-end : (made : List TypedObject) (ps : List Param) (xs : List Seen) (k : ℕ) → length xs ≤ k
    → parameter_refused made k (drop k ps) (drop k xs) ≡ None
parameters-end made ps xs k past = ap (parameter_refused made k (drop k ps)) (drop_all k xs past) ∙ none-left made k (drop k ps)

-- ---- how many arguments there are

read-count : (w : ℕ) (notes : Notes) (P : Placement) (made : List TypedObject) (byte : ℕ → ℕ) (ps : List WantParam) (xs : List ℕ)
    → length xs ≡ length ps → length (arguments_read w notes P made byte ps xs) ≡ length ps
unfolding arguments_read
read-count w notes P made byte [] [] same = refl
read-count w notes P made byte [] (x ∷ xs) same = refl
read-count w notes P made byte (p ∷ ps) [] same = absurd (omega arith)
read-count w notes P made byte (p ∷ ps) (x ∷ xs) same = ap suc (read-count w notes P made byte ps xs (omega arith))

-- as many as the signature has parameters
module _ (w : ℕ) (world : World) (P : Placement) (r : RunState) (place target : ℕ) where
  abbrev Counted : BoundStep → Type 0
  Counted s = OnCalled s (λ signature args. length args ≡ length (signature_params world.notes signature))

  by-slots : (g : ℕ) (slots : Option (List ℕ)) → slots_of w world r g ≡ slots
      → Counted (bound_step place (asking_by w world P r target g slots))
  by-slots g None are = tt
  by-slots g (Some xs) are = go (nat_eq target (method_at P (signature_method world.notes g)))
    where
      args : List Seen
      args = arguments_read w world.notes P (objects_at world r) r.machine.byte (signature_params world.notes g) xs

      go : (b : Bool) → Counted (bound_step place (Asks g (if b then None else Some target) args))
      go true = read-count w world.notes P (objects_at world r) r.machine.byte (signature_params world.notes g) xs
          (slots-count w r.machine (register r.machine 0) (signature_params world.notes g) xs are)
      go false = tt

  by-site : (site : Option ℕ)
      → Counted (bound_step place (option_map_or (λ g. asking_by w world P r target g (slots_of w world r g)) site NoSite))
  by-site None = tt
  by-site (Some g) = by-slots g (slots_of w world r g) refl

  pub called-count : (notes : Notes) (s : BoundStep) → world.notes ≡ notes → s ≡ bound_step place (asking_at w world P r place target)
      → OnCalled s (λ signature args. length args ≡ length (signature_params notes signature))
  unfolding asking_at
  called-count notes s same is =
      subst (λ (n : Notes). OnCalled s (λ signature args. length args ≡ length (signature_params n signature))) same
      (subst Counted (sym is) (by-site (site_of world.notes place)))
