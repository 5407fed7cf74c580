-- The driver of docs/NOTES.md with its names and its point: its notes meet the conditions on notes.
use Rattle.twin_run.proofs.Common.{◌≡◌, ℕ, zero, suc, ◌-◌, ◌*◌, ◌^◌, ◌<◌, ◌≤◌, Bool, true, false, List, [], ◌∷◌, length, get_or, slice_get}
use Rattle.twin_run.proofs.Common.{Some, None, refl, sym, pos, codes, nat_le, nat_lt, arith, inl, IfSome, AllByRecursion, sum_by, none-some}
use Rattle.twin_run.proofs.Common.{leb-true, ltb-true, true≢false, IsState, SlotKind, State, Ty, IsNotes, function_at, FnNote, Notes, Param}
use Rattle.twin_run.proofs.Common.{Notify, Field, Shape, World, locate_call, register_call, each_item}
use Rattle.std.specs.{Int.bit_at, List.Sorted.IsStrictlyIncreasing}
use Rattle.std.proofs.lemmas.Nat.Bits.{bit_at-pow_other}
use Rattle.note_types.specs.Records.{CanBeEntered, HasNameLength, IsFieldNote, IsFunctionNote, IsParamNote, IsPointNote, IsResultNote}
use Rattle.note_types.specs.Records.{IsShapeNote, IsSignatureNote, IsSiteNote, IsThunkNote, IsWantNote, code_size, frame_size}
use Rattle.note_types.specs.{Known.AreFields, Known.IsKnown, Known.IsKnownCell, Known.local_fields, States.type_of, Limits.code_limit}
use Rattle.note_types.specs.{Limits.point_limit, Limits.stack_limit, Passing.IsHandedBack, Passing.IsHandedIn, Passing.IsReturned}
use Rattle.note_types.specs.declared.{items.Item.TheVariants.Locals, items.Item.TheVariants.Slot, notes.Signature.Signature}
use Rattle.note_types.proofs.TypeLaws.{no_fields}
use Rattle.neutral_machine.proofs.Driver.{driver_notes, driver_notified}
use Rattle.note_types.specs.declared.cell.Cell.TheVariants as cell
use Rattle.note_types.specs.declared.types.Ty.TheVariants as ty
use Rattle.note_types.specs.declared.value.Value.TheVariants as value

-- ---- what notes have to meet, by tests

pub at_most : (a b : ℕ) → nat_le a b ≡ true → a ≤ b
at_most a b e = leb-true a b e

pub below : (a b : ℕ) → nat_lt a b ≡ true → a < b
below a b e = ltb-true a b e

pub name_length : (name : List ℕ) → nat_le 1 (length name) ≡ true → nat_le (length name) 63 ≡ true → HasNameLength name
name_length name l m = (leb-true 1 (length name) l, leb-true (length name) 63 m)

pub status : (notes : Notes) (f : FnNote) → IsKnown notes f (ty.Status 0)
status notes f = record { bounded = below 0 (2 ^ 64) refl; names = no_fields notes f }

-- a pointer to one thing of the first shape
pub table : (notes : Notes) (f : FnNote) → nat_lt 0 (length notes.shape) ≡ true → IsKnown notes f (ty.Ptr 0 1 (pos 0) (pos 0) false)
table notes f some = record {
  bounded = (
    at_most 1 1 refl,
    (at_most 0 0 refl, at_most 0 (2 ^ 20) refl),
    at_most 0 (2 ^ 20) refl,
    below 1 (2 ^ 64) refl,
    below 0 (2 ^ 32) refl,
  );
  names = below 0 (length notes.shape) some;
}

pub field_note : (notes : Notes) (x : Field) → nat_le 1 (length x.name) ≡ true → nat_le (length x.name) 63 ≡ true
    → nat_lt x.n (2 ^ 32) ≡ true → nat_lt x.c (2 ^ 32) ≡ true → IsKnownCell notes x.cell → IsFieldNote notes x
field_note notes x some short units bytes known = record {
  name = name_length x.name some short;
  units = below x.n (2 ^ 32) units;
  bytes = below x.c (2 ^ 32) bytes;
  cell = known;
}

pub shape_note : (notes : Notes) (s : Shape) → nat_le 1 (length s.name) ≡ true → nat_le (length s.name) 63 ≡ true
    → nat_lt s.n (2 ^ 32) ≡ true → nat_lt s.c (2 ^ 32) ≡ true → nat_le (length s.fields) 256 ≡ true
    → AllByRecursion (IsFieldNote notes) s.fields → IsShapeNote notes s
shape_note notes s some short units bytes few fields = record {
  name = name_length s.name some short;
  units = below s.n (2 ^ 32) units;
  bytes = below s.c (2 ^ 32) bytes;
  few = at_most (length s.fields) 256 few;
  fields = each_item (IsFieldNote notes) s.fields fields;
}

pub enterable : (f : FnNote) → AllByRecursion (λ (p : Param). IsHandedIn p.ty) f.params → IsHandedBack f.result
    → nat_le (9 * frame_size f) stack_limit ≡ true → CanBeEntered f
enterable f takes gives fits = record {
  takes = each_item (λ (p : Param). IsHandedIn p.ty) f.params takes;
  gives = gives;
  stack = at_most (9 * frame_size f) stack_limit fits;
}

pub function_note : (notes : Notes) (f : FnNote) → nat_le 1 (length f.name) ≡ true → nat_le (length f.name) 63 ≡ true
    → nat_lt f.place (2 ^ 22) ≡ true → nat_le f.end (2 ^ 22) ≡ true → nat_lt f.level (2 ^ 64) ≡ true → nat_lt f.need.n (2 ^ 64) ≡ true
    → nat_lt f.need.c (2 ^ 64) ≡ true → nat_le (length (local_fields notes f)) 64 ≡ true → nat_le (length f.params) 16 ≡ true
    → IfSome f.locals (λ s. s < length notes.shape) → AllByRecursion (IsParamNote notes f) f.params → IsKnown notes f f.result
    → IsReturned f.result → (f.enter ≡ true → CanBeEntered f) → IsFunctionNote notes f
function_note notes f some short place last level units bytes fields few locals params result returned entered = record {
  name = name_length f.name some short;
  place = below f.place (2 ^ 22) place;
  «end» = at_most f.end (2 ^ 22) last;
  level = below f.level (2 ^ 64) level;
  need = (below f.need.n (2 ^ 64) units, below f.need.c (2 ^ 64) bytes);
  locals = locals;
  fields = at_most (length (local_fields notes f)) 64 fields;
  few = at_most (length f.params) 16 few;
  params = each_item (IsParamNote notes f) f.params params;
  result = result;
  returned = returned;
  entered = entered;
}

pub signature_note : (notes : Notes) (g : Signature) → nat_le 1 (length g.name) ≡ true → nat_le (length g.name) 63 ≡ true
    → nat_lt g.method (length notes.methods) ≡ true → nat_le (length g.params) 16 ≡ true → AllByRecursion (IsWantNote notes) g.params
    → IfSome g.result (IsResultNote notes) → IsSignatureNote notes g
signature_note notes g some short method few params result = record {
  name = name_length g.name some short;
  method = below g.method (length notes.methods) method;
  few = at_most (length g.params) 16 few;
  params = each_item (IsWantNote notes) g.params params;
  result = result;
}

-- ---- the notes with names

-- fields and shapes with names, one for each
abbrev named_fields : List (List ℕ) → List Field → List Field
named_fields (n ∷ ns) (x ∷ xs) = record x { name = n } ∷ named_fields ns xs
named_fields _ _ = []

abbrev named_shapes : List (List ℕ × List (List ℕ)) → List Shape → List Shape
named_shapes (n ∷ ns) (s ∷ ss) = record s { name = n.0; fields = named_fields n.1 s.fields } ∷ named_shapes ns ss
named_shapes _ _ = []

-- functions and signatures with names
abbrev named_functions : List (List ℕ) → List FnNote → List FnNote
named_functions (n ∷ ns) (f ∷ fs) = record f { name = n } ∷ named_functions ns fs
named_functions _ _ = []

abbrev named_signatures : List (List ℕ) → List Signature → List Signature
named_signatures (n ∷ ns) (g ∷ gs) = record g { name = n } ∷ named_signatures ns gs
named_signatures _ _ = []

-- the state at the one point: R7 has the status of Locate, whose success grants the local `p`, and the locals lie on the stack
abbrev after_locate : State
after_locate = record {
  regs = ty.Any ∷ ty.Saved 1 ∷ ty.Saved 2 ∷ ty.Saved 3 ∷ ty.Any ∷ ty.Any ∷ ty.Any ∷ ty.Status 1 ∷ [];
  items = Locals ∷ [];
  written = 0;
  made = 1;
  fact = None;
}

-- the second function is entered with 7 once two instructions are done
abbrev pub ticking : Notify
ticking = record { at = 2; function = 1; args = value.Int 7 ∷ [] }

-- the driver with its script, which has a notification
abbrev pub driver_named : World
driver_named = record (driver_notified 2 (locate_call ∷ register_call ∷ []) (ticking ∷ [])) {
  notes = record driver_notes {
    shape = named_shapes ((codes "Sys", codes "loc" ∷ codes "reg" ∷ []) ∷ (codes "Blk", codes "count" ∷ codes "next" ∷ []) ∷
        (codes "L", codes "p" ∷ []) ∷ []) driver_notes.shape;
    function = named_functions (codes "main" ∷ codes "tick" ∷ []) driver_notes.function;
    signature = named_signatures (codes "locate" ∷ codes "register" ∷ []) driver_notes.signature;
    methods = codes "Locate" ∷ codes "Register" ∷ [];
    point = record { place = 0x103E; state = after_locate } ∷ [];
  };
}

abbrev notes : Notes
notes = driver_named.notes

handle : (f : FnNote) → IsKnown notes f ty.Handle
handle f = record { bounded = tt; names = tt }

word : (f : FnNote) → IsKnown notes f (ty.Int 0 (2 ^ 32 - 1) 1)
word f = record {
  bounded = (at_most 0 (2 ^ 32 - 1) refl, below (2 ^ 32 - 1) (2 ^ 64) refl, at_most 1 1 refl, below 1 (2 ^ 64) refl);
  names = tt;
}

-- ---- shapes

method_cell : (m : ℕ) → nat_lt m (2 ^ 32) ≡ true → nat_lt m 2 ≡ true → IsKnownCell notes (cell.Method m)
method_cell m l k = record { bounded = below m (2 ^ 32) l; names = below m 2 k }

block_cell : (may : Bool) → IsKnownCell notes (cell.Ptr 1 1 may)
block_cell may = record { bounded = (below 1 (2 ^ 32) refl, at_most 1 1 refl, below 1 (2 ^ 64) refl); names = below 1 3 refl }

shapes : AllByRecursion (IsShapeNote notes) notes.shape
shapes = (
  shape_note notes _ refl refl refl refl refl (
    field_note notes _ refl refl refl refl (method_cell 0 refl refl),
    (field_note notes _ refl refl refl refl (method_cell 1 refl refl), tt),
  ),
  (
    shape_note notes _ refl refl refl refl refl (
      field_note notes _ refl refl refl refl (record { bounded = tt; names = tt }),
      (field_note notes _ refl refl refl refl (block_cell true), tt),
    ),
    (
      shape_note notes _ refl refl refl refl refl (field_note notes _ refl refl refl refl (block_cell false), tt),
      tt,
    ),
  ),
)

-- ---- functions

-- what stands for a function that isn't there
abbrev pub no_function : FnNote
no_function = record {
  name = [];
  place = 0;
  «end» = 0;
  level = 0;
  need = record { n = 0; c = 0 };
  locals = None;
  params = [];
  result = ty.Any;
  enter = false;
}

abbrev pub main : FnNote
main = get_or notes.function 0 no_function

abbrev pub tick : FnNote
tick = get_or notes.function 1 no_function

main_enterable : CanBeEntered main
main_enterable = enterable main (tt, ((refl, refl), tt)) tt refl

tick_enterable : CanBeEntered tick
tick_enterable = enterable tick (below (2 ^ 32 - 1) (2 ^ 32) refl, tt) tt refl

main_note : IsFunctionNote notes main
unfolding local_fields
main_note = function_note notes main refl refl refl refl refl refl refl refl refl (below 2 3 refl) (
  record { kind = tt; known = handle main; kept = λ e. tt; passed = tt },
  (
    record { kind = tt; known = table notes main refl; kept = λ e. (refl, refl); passed = tt },
    tt,
  ),
) (status notes main) refl (λ e. absurd (true≢false (sym e)))

tick_note : IsFunctionNote notes tick
unfolding local_fields
tick_note = function_note notes tick refl refl refl refl refl refl refl refl refl tt (
  record { kind = tt; known = word tick; kept = λ e. below (2 ^ 32 - 1) (2 ^ 32) refl; passed = tt },
  tt,
) (status notes tick) refl (λ e. tick_enterable)

-- ---- the point

any : (f : FnNote) → IsKnown notes f ty.Any
any f = record { bounded = tt; names = tt }

-- the set of bit 0 has field 0 alone
one_local : AreFields notes main 1
unfolding local_fields
one_local zero h = below 0 1 refl
one_local (suc x) h = let z : bit_at (2 ^ 0) (suc x) ≡ 0 = bit_at-pow_other 0 (suc x) (λ e. omega (arith, e)) in
    absurd (omega (arith, h, z))

registers : (r : ℕ) → IsKnown notes main (type_of after_locate r)
registers zero = any main
registers (suc zero) = record { bounded = (at_most 1 1 refl, at_most 1 3 refl); names = tt }
registers (suc (suc zero)) = record { bounded = (at_most 1 2 refl, at_most 2 3 refl); names = tt }
registers (suc (suc (suc zero))) = record { bounded = (at_most 1 3 refl, at_most 3 3 refl); names = tt }
registers (suc (suc (suc (suc zero)))) = any main
registers (suc (suc (suc (suc (suc zero))))) = any main
registers (suc (suc (suc (suc (suc (suc zero)))))) = any main
registers (suc (suc (suc (suc (suc (suc (suc zero))))))) = record { bounded = below 1 (2 ^ 64) refl; names = one_local }
registers (suc (suc (suc (suc (suc (suc (suc (suc r)))))))) = any main

no_slot : (k : ℕ) (kind : SlotKind) (t : Ty) → slice_get (Locals ∷ []) k ≡ Some (Slot kind t) → ⊥
no_slot zero kind t e = cc e
no_slot (suc k) kind t e = none-some (Slot kind t) e

point_state : IsState notes main after_locate
point_state = record {
  eight = refl;
  unused = refl;
  registers = registers;
  slots = λ k kind t e. absurd (no_slot k kind t e);
  few = at_most 0 64 refl;
  once = at_most 1 1 refl;
  there = λ k e. refl;
  fact = λ x e. absurd (none-some x e);
}

point_note : IsPointNote notes (record { place = 0x103E; state = after_locate })
unfolding function_at
point_note = record {
  place = below 0x103E (2 ^ 22) refl;
  owner = main;
  there = refl;
  state = point_state;
  written = no_fields notes main;
  set = below 0 (2 ^ 64) refl;
  made = below 1 (2 ^ 32) refl;
  fact = refl;
}

-- ---- signatures

signatures : AllByRecursion (IsSignatureNote notes) notes.signature
signatures = (
  signature_note notes _ refl refl refl refl (record { kind = tt; known = block_cell false; kept = λ e. tt }, tt)
      (record { given = refl; known = status notes }),
  (
    signature_note notes _ refl refl refl refl (record { kind = tt; known = tt; kept = λ e. tt }, tt)
        (record { given = refl; known = status notes }),
    tt,
  ),
)

-- ---- all

pub two_ascend : (a b : ℕ) → a < b → IsStrictlyIncreasing (a ∷ b ∷ [])
two_ascend a b l zero m = l
two_ascend a b l (suc k) m = absurd (omega (arith, m))

pub driver_notes_meet : IsNotes notes
driver_notes_meet = record {
  version = inl refl;
  few = record {
    shapes = at_most 3 1024 refl;
    statics = below 0 (2 ^ 32) refl;
    thunks = below 1 (2 ^ 32) refl;
    functions = at_most 2 4096 refl;
    points = at_most 1 (point_limit 1) refl;
    signatures = below 2 (2 ^ 32) refl;
    sites = below 2 (2 ^ 32) refl;
    methods = at_most 2 1024 refl;
  };
  entry = (main, refl, main_enterable);
  shapes = each_item (IsShapeNote notes) notes.shape shapes;
  statics = λ k x g. absurd (none-some x g);
  thunks = each_item (IsThunkNote notes) notes.thunk (record { place = below 0x2000 (2 ^ 22) refl; function = below 1 2 refl }, tt);
  functions = each_item (IsFunctionNote notes) notes.function (main_note, (tick_note, tt));
  points = each_item (IsPointNote notes) notes.point (point_note, tt);
  signatures = each_item (IsSignatureNote notes) notes.signature signatures;
  sites = each_item (IsSiteNote notes) notes.site (
    record { place = below 0x1014 (2 ^ 22) refl; signature = below 0 2 refl },
    (record { place = below 0x1032 (2 ^ 22) refl; signature = below 1 2 refl }, tt),
  );
  methods = each_item HasNameLength notes.methods (name_length (codes "Locate") refl refl, (name_length (codes "Register") refl refl, tt));
  ascends = record {
    functions = two_ascend 0x1000 0x1044 (below 0x1000 0x1044 refl);
    points = λ k l. absurd (omega (arith, l));
    sites = two_ascend 0x1014 0x1032 (below 0x1014 0x1032 refl);
  };
  code = at_most (sum_by code_size notes.function) (code_limit 1) refl;
}
