-- What holds of the value that a step gives, from what holds of those that the steps before it give.
use Rattle.std.proofs.Common.{◌≡◌, Bool, true, false, Option, None, Some, Result, Ok, Err, if◌then◌else◌, refl, subst}
use Rattle.std.specs.Prelude.{IfSome, IfOk, option_and_then, option_map}
use Rattle.ebc_base.specs.Steps.{passes, ◌>>=◌}

-- ---- values that may be missing

pub some_then : {A B : Type 0} (P : A → Type 0) (Q : B → Type 0) (o : Option A) (f : A → Option B) → IfSome o P
    → ((x : A) → P x → IfSome (f x) Q) → IfSome (option_and_then f o) Q
some_then P Q None f h g = tt
some_then P Q (Some x) f h g = g x h

pub some_map : {A B : Type 0} (P : A → Type 0) (Q : B → Type 0) (o : Option A) (f : A → B) → IfSome o P → ((x : A) → P x → Q (f x))
    → IfSome (option_map f o) Q
some_map P Q None f h g = tt
some_map P Q (Some x) f h g = g x h

pub some_if : {A : Type 0} (P : A → Type 0) (b : Bool) (x : A) → (b ≡ true → P x) → IfSome (if b then Some x else None) P
some_if P true x h = h refl
some_if P false x h = tt

-- ---- values and faults

pub ok_if : {A E : Type 0} (P : A → Type 0) (b : Bool) (x : A) (e : E) → (b ≡ true → P x) → IfOk (if b then Ok x else Err e) P
ok_if P true x e h = h refl
ok_if P false x e h = tt

-- where a test passes
pub ok_passes : {E : Type 0} (b : Bool) (e : E) → IfOk (passes b e) (λ _. b ≡ true)
ok_passes true e = refl
ok_passes false e = tt

-- of the value that was given
pub ok_given : {A E : Type 0} (P : A → Type 0) (a : Result A E) (x : A) → a ≡ Ok x → IfOk a P → P x
ok_given P (Ok y) x e h = let same : y ≡ x = cc in subst P same h
ok_given P (Err r) x e h = absurd cc
