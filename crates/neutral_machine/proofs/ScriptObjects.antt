-- The objects of a script that was read take bytes.
use Rattle.neutral_machine.proofs.Common.{◌≡◌, ℕ, zero, suc, ◌-◌, ◌<◌, ◌≤◌, List, [], ◌∷◌, ◌++◌, take, length, Some, refl, sym, ◌∙◌}
use Rattle.neutral_machine.proofs.Common.{slice_get, ⊎_elim, cases_lt, none-some, mul-pos, flat_map, slice_get-append_left}
use Rattle.neutral_machine.proofs.Common.{slice_get-append_right, IsWidth, Each, IsShape, Notes, Script, ScriptObject, placed_objects}
use Rattle.neutral_machine.proofs.Common.{script_object, shape_of, object_bytes, IsScript}
use Rattle.host_model.specs.Objects.{objects_of}
use Rattle.neutral_machine.proofs.Locals.{fits_at}

-- what holds of each item of two lists holds of each of both
pub each_append : {A : Type 0} (P : A → Type 0) (xs ys : List A) → Each P xs → Each P ys → Each P (xs ++ ys)
each_append P xs ys h g k x e = ⊎_elim
    (λ l. h k x (sym (slice_get-append_left xs ys k l) ∙ e))
    (λ l. g (k - length xs) x (sym (slice_get-append_right xs ys k l) ∙ e))
    (cases_lt k (length xs))

pub each_flat : {A B : Type 0} (P : B → Type 0) (f : A → List B) (xs : List A) → Each (λ x. Each P (f x)) xs → Each P (flat_map f xs)
each_flat P f [] h k x e = absurd (none-some x e)
each_flat P f (y ∷ ys) h k x e = each_append P (f y) (flat_map f ys) (h 0 y refl) (each_flat P f ys (λ j z g. h (suc j) z g)) k x e

pub each_take : {A : Type 0} (P : A → Type 0) (n : ℕ) (xs : List A) → Each P xs → Each P (take n xs)
each_take P zero xs h k x e = absurd (none-some x e)
each_take P (suc n) [] h k x e = absurd (none-some x e)
each_take P (suc n) (y ∷ ys) h zero x e = h 0 x e
each_take P (suc n) (y ∷ ys) h (suc k) x e = each_take P n ys (λ j z g. h (suc j) z g) k x e

-- it has instances of a well-formed shape
abbrev HasBytes : Notes → ScriptObject → Type 0
HasBytes notes o = IsShape (shape_of notes o.shape) × (1 ≤ o.count)

instances : (notes : Notes) (script : Script) (n : ℕ) → IsScript notes script → Each (HasBytes notes) (placed_objects script n)
unfolding placed_objects
instances notes script n ok =
    each_append (HasBytes notes) script.object _ (λ k o e. let i = ok.objects k o e in (i.shape, i.count.0))
    (each_flat (HasBytes notes) objects_of (take n script.call)
    (each_take (λ c. Each (HasBytes notes) (objects_of c)) n script.call
    (λ i c e k o g. let m = (ok.calls i c e).make k o g in (m.shape, m.count.0))))

pub object_takes_bytes : (w : ℕ) (notes : Notes) (script : Script) → IsWidth w → IsScript notes script → (n k : ℕ) (o : ScriptObject)
    → slice_get (placed_objects script n) k ≡ Some o → 0 < object_bytes w notes (script_object o)
object_takes_bytes w notes script h ok n k o e =
    let i = instances notes script n ok k o e in mul-pos i.1 (fits_at w (shape_of notes o.shape) h i.0).positive
