-- What holds of a value that is given, through the steps of which each may fail.
use Rattle.std.proofs.Common.{◌≡◌, Option, Some, None, refl, Result, Ok, Err, Bool, true, false, if◌then◌else◌}
use Rattle.std.specs.Option.{option_map}
use Rattle.std.proofs.lemmas.Option.{same_Some}
use Rattle.std.specs.Prelude.{IfOk, IfSome}
use Rattle.ebc_base.specs.Steps.{◌>>=◌, or_else}

pub some_of_map : {A B : Type 0} (f : A → B) (o : Option A) (y : B) → option_map f o ≡ Some y → (x : A) × (o ≡ Some x) × (f x ≡ y)
some_of_map f None y e = absurd (cc)
some_of_map f (Some x) y e = (x, refl, same_Some (f x) y e)

pub ok_then : {A B E : Type 0} (P : A → Type 0) (Q : B → Type 0) (a : Result A E) (f : A → Result B E) → IfOk a P
    → ((x : A) → P x → IfOk (f x) Q) → IfOk (a >>= f) Q
ok_then P Q (Ok x) f h g = g x h
ok_then P Q (Err e) f h g = tt

-- the same where nothing is said of the value before
pub ok_next : {A B E : Type 0} (Q : B → Type 0) (a : Result A E) (f : A → Result B E) → ((x : A) → IfOk (f x) Q) → IfOk (a >>= f) Q
ok_next Q (Ok x) f g = g x
ok_next Q (Err e) f g = tt

-- a choice of two
pub some_choice : {A : Type 0} (P : A → Type 0) (b : Bool) (o q : Option A) → IfSome o P → IfSome q P → IfSome (if b then o else q) P
some_choice P true o q h g = h
some_choice P false o q h g = g

-- a value of which nothing is said
pub some_any : {A : Type 0} (o : Option A) → IfSome o (λ _. Unit {0})
some_any None = tt
some_any (Some x) = tt

pub ok_some : {A E : Type 0} (P : A → Type 0) (e : E) (o : Option A) → IfSome o P → IfOk (or_else e o) P
ok_some P e None h = tt
ok_some P e (Some x) h = h

pub ok_weaken : {A E : Type 0} (P Q : A → Type 0) (a : Result A E) → IfOk a P → ((x : A) → P x → Q x) → IfOk a Q
ok_weaken P Q (Ok x) h g = g x h
ok_weaken P Q (Err e) h g = tt
