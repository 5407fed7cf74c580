-- A script that was read gives what the laws of the host's steps and of a run's start ask of it.
use Rattle.host_laws.proofs.Common.{◌≡◌, ℕ, suc, ◌+◌, ◌-◌, ◌<◌, ◌≤◌, true, List, [], ◌∷◌, ◌++◌, map, take, length, Some, refl, ap, ◌∙◌}
use Rattle.host_laws.proofs.Common.{subst, arith, slice_get, lt-ltb, slice_get-map, slice_get_within, AllByRecursion, flat_map, option_map}
use Rattle.host_laws.proofs.Common.{option_map_or, FnNote, Notes, OutValue, ScriptCall, ScriptObject, WriteValue, Field, Value, Config}
use Rattle.host_laws.proofs.Common.{InObject, Store, field_at, function_params, total, TypedObject, made_objects, placed_objects}
use Rattle.host_laws.proofs.Common.{script_object, static_object, fits_each, Cells, FieldOf, World, IsValue, length-map}
use Rattle.host_laws.proofs.Common.{slice_get-append_left, slice_get-append_right, CanEnter, StoreNames, CallGiven, StoreGiven}
use Rattle.host_laws.proofs.Common.{start_config}
use Rattle.note_types.specs.Records.{Each}
use Rattle.note_types.specs.declared.{script.CellValue.CellValue, script.Script.Script}
use Rattle.host_model.specs.{HostPlans.cell_store, HostPlans.field_of, Objects.objects_of, Scripts.IsCallOf, Scripts.IsScript}
use Rattle.host_model.specs.Scripts.{IsWritten}
use Rattle.neutral_machine.proofs.ScriptObjects.{each_append, each_flat, each_take}
use Rattle.neutral_machine.proofs.{Ranges.most_above, Filling.all_filling, Filling.all_flat}
use Rattle.host_laws.specs.ScriptLaw.{CallsAreGiven, ObjectsAreGiven, StartIsGiven}
use Rattle.host_laws.proofs.{Growing.made_more, Plans.as_many}
use Rattle.note_types.specs.declared.value.Value.TheVariants as value

-- ---- lists

all_each : {A : Type 0} (P : A → Type 0) (xs : List A) → Each P xs → AllByRecursion P xs
all_each P [] h = tt
all_each P (x ∷ xs) h = (h 0 x refl, all_each P xs (λ k y e. h (suc k) y e))

map_at : {A B : Type 0} (f : A → B) (xs : List A) (k : ℕ) (x : A) → slice_get xs k ≡ Some x → slice_get (map f xs) k ≡ Some (f x)
map_at f xs k x e = slice_get-map f xs k ∙ ap (option_map f) e

-- ---- stores

one_cell : (P : Store → Type 0) (notes : Notes) (n : ℕ) (o : ScriptObject) (c : CellValue) (x : Field)
    → field_of notes o.shape c.field ≡ Some x
    → P (record { target = InObject n c.instance c.field; cell = x.cell; value = c.value }) → AllByRecursion P (cell_store notes n o c)
one_cell P notes n o c x there h = rw there (h, tt)

field_there : (notes : Notes) (made : List TypedObject) (n i f : ℕ) (o : ScriptObject) (x : Field)
    → slice_get made n ≡ Some (script_object o) → i < o.count
    → field_of notes o.shape f ≡ Some x → field_at notes made n i f ≡ Some x
unfolding field_at
field_there notes made n i f o x at within there = rw (at, lt-ltb i o.count within) there

is_value : (notes : Notes) (v : Value) → IsWritten notes v → IsValue notes v
is_value notes (value.Size n c) h = tt
is_value notes (value.Ptr o i) h = tt
is_value notes value.Null h = tt
is_value notes value.Any h = tt
is_value notes value.Out h = absurd h
is_value notes (value.Wild x) h = absurd h
is_value notes t h = h

-- ---- calls

-- the objects that a call makes have their numbers once it is accepted
made_there : (notes : Notes) (script : Script) (n : ℕ) (c : ScriptCall) (j : ℕ) (o : ScriptObject) → slice_get script.call n ≡ Some c
    → slice_get c.make j ≡ Some o
    → slice_get (made_objects notes script (n + 1)) (length (made_objects notes script n) + j) ≡ Some (script_object o)
made_there notes script n c j o at there =
    let world : World = record { notes = notes; script = script; image_size = 0 } in
    let before = made_objects notes script n in
    let back : length before + j - length before ≡ j = omega arith in
    ap (λ z. slice_get z (length before + j)) (made_more world n c at)
    ∙ slice_get-append_right before (map script_object c.make) (length before + j) (omega arith)
    ∙ ap (slice_get (map script_object c.make)) back
    ∙ map_at script_object c.make j o there

store_given : (notes : Notes) (made : List TypedObject) (n : ℕ) (o : ScriptObject) (c : CellValue) (x : Field)
    → slice_get made n ≡ Some (script_object o) → c.instance < o.count
    → field_of notes o.shape c.field ≡ Some x → IsWritten notes c.value
    → StoreGiven notes made (record { target = InObject n c.instance c.field; cell = x.cell; value = c.value })
store_given notes made n o c x at within there h =
    record { target = (x, field_there notes made n c.instance c.field o x at within there, refl); value = is_value notes c.value h }

call_given : (notes : Notes) (script : Script) (n : ℕ) (c : ScriptCall) → slice_get script.call n ≡ Some c → IsCallOf notes script n c
    → CallGiven notes script n c
call_given notes script n c at h =
    let made = made_objects notes script (n + 1) in
    let first = length (made_objects notes script n) in
    record {
      made = all_filling (StoreGiven notes made) notes first c.make (λ j o there.
          all_flat (StoreGiven notes made) (cell_store notes (first + j) o) o.cells (λ k q e.
          let d = (h.make j o there).cells k q e in
          one_cell (StoreGiven notes made) notes (first + j) o q d.field d.there
          (store_given notes made (first + j) o q d.field (made_there notes script n c j o at there) d.instance d.there d.written)));
      callbacks = λ j b e. all_each (IsValue notes) b.values (λ k v g. is_value notes v ((h.enter j b e).values k v g));
      outs = all_each (λ (o : OutValue). IsValue notes o.value) c.out (λ k o e. is_value notes o.value (h.out k o e).written);
      writes = all_each (λ (v : WriteValue). IsValue notes v.value) c.write (λ k v e. is_value notes v.value (h.write k v e).written);
      result = is_value notes c.result h.result;
    }

pub calls_are_given : CallsAreGiven
calls_are_given notes script h = record {
  calls = λ n c at. call_given notes script n c at (h.calls n c at);
  notified = λ n x at. all_each (IsValue notes) x.args (λ k v e. is_value notes v ((h.notify.each n x at).args k v e));
}

-- ---- the start

start_there : (notes : Notes) (script : Script) (k : ℕ) (o : ScriptObject) → slice_get script.object k ≡ Some o
    → slice_get (made_objects notes script 0) (length notes.statics + k) ≡ Some (script_object o)
unfolding made_objects placed_objects
start_there notes script k o at =
    let statics = map static_object notes.statics in
    let many : length statics ≡ length notes.statics = length-map static_object notes.statics in
    let back : length notes.statics + k - length statics ≡ k = omega (arith, many) in
    slice_get-append_right statics (map script_object (script.object ++ [])) (length notes.statics + k) (omega (arith, many))
    ∙ ap (slice_get (map script_object (script.object ++ []))) back
    ∙ map_at script_object (script.object ++ []) k o (slice_get-append_left script.object [] k (slice_get_within script.object k o at) ∙ at)

store_named : (world : World) (statics : Cells) (n : ℕ) (o : ScriptObject) (c : CellValue) (x : Field)
    → slice_get (made_objects world.notes world.script 0) n ≡ Some (script_object o)
    → c.instance < o.count → field_of world.notes o.shape c.field ≡ Some x → IsWritten world.notes c.value
    → StoreNames world (start_config world statics) [] (record { target = InObject n c.instance c.field; cell = x.cell; value = c.value })
unfolding field_at
store_named world statics n o c x at within there h =
    record {
      place = FieldOf n c.instance c.field;
      there = refl;
      field = x;
      is_field = field_there world.notes (made_objects world.notes world.script 0) n c.instance c.field o x at within there;
      cell = refl;
      value = is_value world.notes c.value h;
    }

can_enter : (w : ℕ) (world : World) (f : FnNote) → slice_get world.notes.function world.notes.entry ≡ Some f
    → IsScript world.notes world.script
    → (a : Config) → a.frames ≡ [] → CanEnter w world a world.notes.entry world.script.args
can_enter w world f there h a none =
    let params : function_params world.notes world.notes.entry ≡ f.params = ap (λ o. option_map_or (λ (g : FnNote). g.params) o []) there in
    let fit : fits_each (made_objects world.notes world.script 0) f.params world.script.args ≡ true =
    subst (λ ps. fits_each (made_objects world.notes world.script 0) ps world.script.args ≡ true) params h.args in
    let empty : total w a.frames ≡ 0 = ap (total w) none in
    let most = most_above w world.notes.entry 0 world.notes.entry world.notes.function f (omega arith) there in
    record {
      note = f;
      there = there;
      as_many = as_many (made_objects world.notes world.script 0) f.params world.script.args fit;
      fit = all_each (IsValue world.notes) world.script.args (λ k v e. is_value world.notes v (h.written k v e));
      room = omega (arith, empty, most);
    }

pub start_is_given : StartIsGiven
start_is_given w world statics notes h =
    let P = StoreNames world (start_config world statics) [] in
    let first = length world.notes.statics in
    record {
      cells = all_filling P world.notes first world.script.object (λ k o at.
          all_flat P (cell_store world.notes (first + k) o) o.cells (λ j c e.
          let d = (h.objects k o at).cells j c e in
          one_cell P world.notes (first + k) o c d.field d.there
          (store_named world statics (first + k) o c d.field
          (start_there world.notes world.script k o at) d.instance d.there d.written)));
      entry = can_enter w world notes.entry.0 notes.entry.1 h;
    }

-- ---- objects

pub objects_are_given : ObjectsAreGiven
unfolding placed_objects
objects_are_given notes script h n =
    let P : ScriptObject → Type 0 = λ o. (o.shape < length notes.shape) × (1 ≤ o.count) in
    each_append P script.object (flat_map objects_of (take n script.call))
    (λ k o e. let d = h.objects k o e in (d.known, d.count.0))
    (each_flat P objects_of (take n script.call)
    (each_take (λ c. Each P (objects_of c)) n script.call (λ i c at j o e. let d = (h.calls i c at).make j o e in (d.known, d.count.0))))
