-- The stores of what objects hold at first.
use Rattle.neutral_machine.proofs.Common.{◌≡◌, ℕ, suc, ◌+◌, List, [], ◌∷◌, Some, refl, subst, arith, slice_get, flat_map, Each, Notes}
use Rattle.neutral_machine.proofs.Common.{ScriptObject, filling}
use Rattle.std.specs.List.{AllByRecursion, enumerate_from}
use Rattle.host_model.specs.HostPlans.{Store, object_stores}
use Rattle.ebc_base.proofs.Lists.{all_append}

pub all_flat : {A B : Type 0} (P : B → Type 0) (f : A → List B) (xs : List A) → Each (λ x. AllByRecursion P (f x)) xs
    → AllByRecursion P (flat_map f xs)
all_flat P f [] h = tt
all_flat P f (x ∷ xs) h = all_append P (f x) (flat_map f xs) (h 0 x refl) (all_flat P f xs (λ k y e. h (suc k) y e))

-- the stores of what objects hold at first, object by object
pub all_filling : (P : Store → Type 0) (notes : Notes) (first : ℕ) (objects : List ScriptObject)
    → ((k : ℕ) (o : ScriptObject) → slice_get objects k ≡ Some o → AllByRecursion P (object_stores notes (first + k, o)))
    → AllByRecursion P (filling notes first objects)
unfolding filling
all_filling P notes first [] h = tt
all_filling P notes first (o ∷ os) h =
    let here : first + 0 ≡ first = omega arith in
    all_append P (object_stores notes (first, o)) (flat_map (object_stores notes) (enumerate_from (first + 1) os))
    (subst (λ n. AllByRecursion P (object_stores notes (n, o))) here (h 0 o refl))
    (all_filling P notes (first + 1) os (λ k q e.
    let next : first + suc k ≡ first + 1 + k = omega arith in
    subst (λ n. AllByRecursion P (object_stores notes (n, q))) next (h (suc k) q e)))
