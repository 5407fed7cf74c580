-- The typed object of a number is one of the notes, one of the script or one that a call makes.
use Rattle.std.proofs.Common.{◌≡◌, ℕ, ◌-◌, ◌<◌, ◌≤◌, List, length, get_or, map, Option, Some}
use Rattle.std.proofs.Common.{refl, sym, ap, ◌∙◌, subst, slice_get, arith}
use Rattle.std.specs.List.{flat_map}
use Rattle.std.specs.Option.{option_map}
use Rattle.std.proofs.lemmas.Option.{slice_get-map, slice_get_read}
use Rattle.ebc_base.proofs.Lists.{length-map, slice_get-append_right, slice_get-front}
use Rattle.note_types.specs.declared.notes.Notes.{Notes}
use Rattle.note_types.specs.declared.notes.Static.{Static}
use Rattle.note_types.specs.declared.script.Script.{Script}
use Rattle.note_types.specs.declared.script.ScriptObject.{ScriptObject}
use Rattle.host_model.specs.Objects.{made_objects, objects_of, placed_objects, script_object, static_object}
use Rattle.host_model.specs.declared.object.TypedObject.{TypedObject}
use Rattle.native_host.proofs.StartLaws.{all_placed}

pub read-from : {X : Type 0} (xs ys : List X) (k : ℕ) (x : X) → xs ≡ ys → k < length xs → x ≡ get_or xs k x → slice_get ys k ≡ Some x
read-from xs ys k x same less is = subst (λ zs. slice_get zs k ≡ Some x) same (slice_get_read xs (length xs) k x refl less is)

-- ---- of the script

pub from-script : (script : Script) (xs : List ScriptObject) (k : ℕ) (o : ScriptObject) → xs ≡ script.object → k < length xs
    → o ≡ get_or xs k o → Some (script_object o) ≡ option_map script_object (slice_get (placed_objects script (length script.call)) k)
from-script script xs k o same less is =
    sym (ap (option_map script_object) (ap (λ os. slice_get os k) (all_placed script)
    ∙ slice_get-front script.object (flat_map objects_of script.call) k o (read-from xs script.object k o same less is)))

pub from-calls : (script : Script) (xs : List ScriptObject) (k : ℕ) (found : Option TypedObject) → xs ≡ script.object → length xs ≤ k
    → found ≡ option_map script_object (slice_get (flat_map objects_of script.call) (k - length xs))
    → found ≡ option_map script_object (slice_get (placed_objects script (length script.call)) k)
from-calls script xs k found same past is =
    is ∙ ap (option_map script_object)
    (ap (λ (os : List ScriptObject). slice_get (flat_map objects_of script.call) (k - length os)) same
    ∙ (sym (slice_get-append_right script.object (flat_map objects_of script.call) k
    (subst (λ (os : List ScriptObject). length os ≤ k) same past))
    ∙ ap (λ os. slice_get os k) (sym (all_placed script))))

-- ---- of the notes and the script

pub from-statics : (notes : Notes) (script : Script) (n : ℕ) (xs : List Static) (k : ℕ) (t : Static) → xs ≡ notes.statics → k < length xs
    → t ≡ get_or xs k t → Some (static_object t) ≡ slice_get (made_objects notes script n) k
unfolding made_objects
from-statics notes script n xs k t same less is =
    sym (slice_get-front (map static_object notes.statics) (map script_object (placed_objects script n)) k (static_object t)
    (slice_get-map static_object notes.statics k ∙ ap (option_map static_object) (read-from xs notes.statics k t same less is)))

pub past-statics : (notes : Notes) (script : Script) (n : ℕ) (xs : List Static) (k : ℕ) (found : Option TypedObject) → xs ≡ notes.statics
    → length xs ≤ k → found ≡ option_map script_object (slice_get (placed_objects script n) (k - length xs))
    → found ≡ slice_get (made_objects notes script n) k
unfolding made_objects
past-statics notes script n xs k found same past is =
    let count : length (map static_object notes.statics) ≡ length xs =
    length-map static_object notes.statics ∙ ap (λ (ts : List Static). length ts) (sym same) in
    is ∙ (sym (slice_get-map script_object (placed_objects script n) (k - length xs))
    ∙ (ap (λ m. slice_get (map script_object (placed_objects script n)) (k - m)) (sym count)
    ∙ sym (slice_get-append_right (map static_object notes.statics) (map script_object (placed_objects script n)) k
    (omega (arith, past, count)))))
