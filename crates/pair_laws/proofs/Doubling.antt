-- The pair of the rows of `pair_laws` with names: its notes meet the conditions on notes, its scripts are as the reader of scripts
-- gives them, and its bind agrees.
use Rattle.pair_laws.proofs.Common.{◌≡◌, ℕ, zero, suc, ◌+◌, ◌^◌, ◌<◌, ◌≤◌, true, false, [], ◌∷◌, length, get_or, slice_get, Some, None}
use Rattle.pair_laws.proofs.Common.{refl, sym, ap, subst, arith, inl, map, nat_lt, ◌∙◌, leb-true, ltb-true, true≢false}
use Rattle.pair_laws.proofs.Common.{none-some, same_Some, made_objects, fits, is_below, IsShape, FnNote, Notes}
use Rattle.pair_laws.proofs.Common.{Signature, Notify, Script, Field, AllAgree, bind_agrees, Both, PairWorld, Bind, Image, each_item}
use Rattle.std.proofs.Common.{take, codes}
use Rattle.std.specs.List.{sum_by, Sorted.IsStrictlyIncreasing}
use Rattle.host_model.specs.Scripts.{HasNotifications, IsCellOf, IsObjectOf, IsScript, IsWritten, all_made, have_room, is_given, is_needed}
use Rattle.host_model.specs.{Objects.placed_objects, Objects.shape_of, ScriptValues.fits_each}
use Rattle.pair_laws.proofs.Programs.{images_with, pair_with}
use Rattle.note_types.specs.Records.{HasNameLength, IsFunctionNote, IsNotes, IsShapeNote}
use Rattle.note_types.specs.Records.{IsSignatureNote, IsSiteNote, code_size}
use Rattle.note_types.specs.{BelowTests.same_type, Known.IsKnown, Known.local_fields, Limits.code_limit, Limits.point_limit}
use Rattle.note_types.specs.declared.{script.CellValue.CellValue, script.ScriptObject.ScriptObject, shape.Shape.Shape}
use Rattle.twin_run.proofs.DriverNotes.{at_most, below, enterable, field_note, function_note, name_length, shape_note, signature_note}
use Rattle.twin_run.proofs.DriverNotes.{no_function, status, table, two_ascend}
use Rattle.note_types.specs.declared.cell.Cell.TheVariants as cell
use Rattle.note_types.specs.declared.types.Ty.TheVariants as ty
use Rattle.note_types.specs.declared.value.Value.TheVariants as value

-- ---- the pair with names

abbrev no_signature : Signature
no_signature = record { name = []; method = 0; params = []; result = None }

abbrev bare : PairWorld
bare = pair_with []

abbrev pub a_main : FnNote
a_main = record (get_or bare.a.notes.function 0 no_function) { name = codes "main" }

abbrev pub b_main : FnNote
b_main = record (get_or bare.b.notes.function 0 no_function) { name = codes "main" }

abbrev pub double : FnNote
double = record (get_or bare.b.notes.function 1 no_function) { name = codes "double" }

abbrev pub double_field : Field
double_field = record { name = codes "double"; n = 0; c = 0; cell = cell.Method 0 }

abbrev pub system : Shape
system = record { name = codes "Sys"; n = 1; c = 0; fields = double_field ∷ [] }

abbrev by_double : Signature
by_double = record (get_or bare.a.notes.signature 0 no_signature) { name = codes "double" }

abbrev pub a_notes : Notes
a_notes = record bare.a.notes {
  shape = system ∷ [];
  function = a_main ∷ [];
  signature = by_double ∷ [];
  methods = codes "Double" ∷ [];
}

abbrev pub b_notes : Notes
b_notes = record bare.b.notes { function = b_main ∷ double ∷ [] }

abbrev pub doubling : PairWorld
doubling = record bare { a = record bare.a { notes = a_notes }; b = record bare.b { notes = b_notes } }

abbrev pub doubling_images : Both Image
doubling_images = images_with []

-- ---- numbers and types

number : (notes : Notes) (f : FnNote) (most : ℕ) → nat_lt most (2 ^ 64) ≡ true → IsKnown notes f (ty.Int 0 most 1)
number notes f most l = record {
  bounded = (omega arith, below most (2 ^ 64) l, at_most 1 1 refl, below 1 (2 ^ 64) refl);
  names = tt;
}

-- ---- notes of A

a_main_note : IsFunctionNote a_notes a_main
unfolding local_fields
a_main_note = function_note a_notes a_main refl refl refl refl refl refl refl refl refl tt (
  record { kind = tt; known = table a_notes a_main refl; kept = λ e. (refl, refl); passed = tt },
  tt,
) (number a_notes a_main 2000 refl) tt (λ e. absurd (true≢false (sym e)))

system_note : IsShapeNote a_notes system
system_note = shape_note a_notes system refl refl refl refl refl (
  field_note a_notes double_field refl refl refl refl (record { bounded = below 0 (2 ^ 32) refl; names = below 0 1 refl }),
  tt,
)

by_double_note : IsSignatureNote a_notes by_double
by_double_note = signature_note a_notes by_double refl refl refl refl (
  record { kind = tt; known = (at_most 0 1000 refl, below 1000 (2 ^ 64) refl); kept = λ e. below 1000 (2 ^ 32) refl },
  tt,
) (record { given = below 2000 (2 ^ 32) refl; known = λ f. number a_notes f 2000 refl })

pub a_notes_meet : IsNotes a_notes
a_notes_meet = record {
  version = inl refl;
  few = record {
    shapes = at_most 1 1024 refl;
    statics = below 0 (2 ^ 32) refl;
    thunks = below 0 (2 ^ 32) refl;
    functions = at_most 1 4096 refl;
    points = at_most 0 (point_limit 1) refl;
    signatures = below 1 (2 ^ 32) refl;
    sites = below 1 (2 ^ 32) refl;
    methods = at_most 1 1024 refl;
  };
  entry = (a_main, refl, enterable a_main ((refl, refl), tt) (below 2000 (2 ^ 32) refl) refl);
  shapes = each_item (IsShapeNote a_notes) a_notes.shape (system_note, tt);
  statics = λ k x g. absurd (none-some x g);
  thunks = λ k x g. absurd (none-some x g);
  functions = each_item (IsFunctionNote a_notes) a_notes.function (a_main_note, tt);
  points = λ k x g. absurd (none-some x g);
  signatures = each_item (IsSignatureNote a_notes) a_notes.signature (by_double_note, tt);
  sites = each_item (IsSiteNote a_notes) a_notes.site (record { place = below 0x100A (2 ^ 22) refl; signature = below 0 1 refl }, tt);
  methods = each_item HasNameLength a_notes.methods (name_length (codes "Double") refl refl, tt);
  ascends = record {
    functions = λ k l. absurd (omega (arith, l));
    points = λ k l. absurd (omega (arith, l));
    sites = λ k l. absurd (omega (arith, l));
  };
  code = at_most (sum_by code_size a_notes.function) (code_limit 1) refl;
}

-- ---- notes of B

b_main_note : IsFunctionNote b_notes b_main
unfolding local_fields
b_main_note = function_note b_notes b_main refl refl refl refl refl refl refl refl refl tt tt (status b_notes b_main) refl
    (λ e. absurd (true≢false (sym e)))

double_note : IsFunctionNote b_notes double
unfolding local_fields
double_note = function_note b_notes double refl refl refl refl refl refl refl refl refl tt (
  record { kind = tt; known = number b_notes double 1000 refl; kept = λ e. below 1000 (2 ^ 32) refl; passed = tt },
  tt,
) (number b_notes double 2000 refl) tt (λ e. enterable double (below 1000 (2 ^ 32) refl, tt) (below 2000 (2 ^ 32) refl) refl)

pub b_notes_meet : IsNotes b_notes
b_notes_meet = record {
  version = inl refl;
  few = record {
    shapes = at_most 0 1024 refl;
    statics = below 0 (2 ^ 32) refl;
    thunks = below 0 (2 ^ 32) refl;
    functions = at_most 2 4096 refl;
    points = at_most 0 (point_limit 1) refl;
    signatures = below 0 (2 ^ 32) refl;
    sites = below 0 (2 ^ 32) refl;
    methods = at_most 0 1024 refl;
  };
  entry = (b_main, refl, enterable b_main tt tt refl);
  shapes = λ k x g. absurd (none-some x g);
  statics = λ k x g. absurd (none-some x g);
  thunks = λ k x g. absurd (none-some x g);
  functions = each_item (IsFunctionNote b_notes) b_notes.function (b_main_note, (double_note, tt));
  points = λ k x g. absurd (none-some x g);
  signatures = λ k x g. absurd (none-some x g);
  sites = λ k x g. absurd (none-some x g);
  methods = λ k x g. absurd (none-some x g);
  ascends = record {
    functions = two_ascend 0x1000 0x1006 (below 0x1000 0x1006 refl);
    points = λ k l. absurd (omega (arith, l));
    sites = λ k l. absurd (omega (arith, l));
  };
  code = at_most (sum_by code_size b_notes.function) (code_limit 1) refl;
}

-- ---- scripts

no_notifications : (notes : Notes) (script : Script) → script.notify ≡ [] → HasNotifications notes script
no_notifications notes script e = record {
  each = λ k n g. absurd (none-some n (sym (ap (λ xs. slice_get xs k) e) ∙ g));
  none = λ v. e;
  few = subst (λ xs. length xs ≤ 16384) (sym e) (leb-true 0 16384 refl);
  ascend = subst (λ xs. IsStrictlyIncreasing (map (λ (n : Notify). n.at) xs)) (sym e) (λ k l. absurd (omega (arith, l)));
}

abbrev a_script : Script
a_script = doubling.a.script

abbrev b_script : Script
b_script = doubling.b.script

abbrev method_cell : CellValue
method_cell = record { instance = 0; field = 0; value = value.Method 0 }

abbrev table_object : ScriptObject
table_object = record { shape = 0; count = 1; cells = method_cell ∷ [] }

table_given : (i f : ℕ) (x : Field) → i < 1 → slice_get (shape_of a_notes 0).fields f ≡ Some x → is_needed x.cell ≡ true
    → is_given table_object.cells i f ≡ true
table_given zero zero x l g n = refl
table_given zero (suc f) x l g n = absurd (none-some x g)
table_given (suc i) f x l g n = absurd (omega (arith, l))

table_is : IsShape system → IsObjectOf a_notes (all_made a_notes a_script) 0 table_object
unfolding fits
table_is formed = record {
  known = ltb-true 0 1 refl;
  shape = formed;
  count = (leb-true 1 1 refl, ltb-true 1 (2 ^ 64) refl);
  cells = each_item (IsCellOf a_notes (all_made a_notes a_script) table_object) table_object.cells (
    record { instance = ltb-true 0 1 refl; field = double_field; there = refl; written = ltb-true 0 1 refl; value = refl },
    tt,
  );
  given = table_given;
  earlier = λ k c p i g e. each_item (λ (x : CellValue). x.value ≡ value.Ptr p i → p ≤ 0) table_object.cells
      (λ s. absurd (cc s), tt) k c g e;
}

pub a_script_meets : IsShape system → IsScript a_notes a_script
unfolding made_objects placed_objects fits fits_each
a_script_meets formed = record {
  version = inl refl;
  written = each_item (IsWritten a_notes) a_script.args ((ltb-true 0 (2 ^ 64) refl, ltb-true 0 (2 ^ 64) refl), tt);
  args = refl;
  objects = objects;
  calls = λ i c g. absurd (none-some c g);
  room = room;
  notify = no_notifications a_notes a_script refl;
}
  where
    objects : (k : ℕ) (o : ScriptObject) → slice_get a_script.object k ≡ Some o
        → IsObjectOf a_notes (all_made a_notes a_script) (length a_notes.statics + k) o
    objects zero o g = subst (IsObjectOf a_notes (all_made a_notes a_script) 0) (same_Some table_object o g) (table_is formed)
    objects (suc k) o g = absurd (none-some o g)

    room : (k : ℕ) (o : ScriptObject) → slice_get a_script.object k ≡ Some o → have_room a_notes (take (k + 1) a_script.object) ≡ true
    room zero o g = refl
    room (suc k) o g = absurd (none-some o g)

pub b_script_meets : IsScript b_notes b_script
unfolding made_objects placed_objects fits fits_each
b_script_meets = record {
  version = inl refl;
  written = λ k v g. absurd (none-some v g);
  args = refl;
  objects = λ k o g. absurd (none-some o g);
  calls = λ i c g. absurd (none-some c g);
  room = λ k o g. absurd (none-some o g);
  notify = no_notifications b_notes b_script refl;
}

-- ---- the bind

pub doubling_agrees : AllAgree a_notes b_notes doubling.binds
unfolding bind_agrees is_below same_type
doubling_agrees = each_item (λ (x : Bind). bind_agrees a_notes b_notes x ≡ true) doubling.binds (refl, tt)
