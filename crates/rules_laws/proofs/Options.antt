-- Rows that may not apply: what holds of each value that one gives.
use Rattle.rules_laws.proofs.Common.{◌≡◌, Bool, true, false, Option, None, Some, if◌then◌else◌, refl, IfSome, IfOk, Result, Ok, Err}
use Rattle.rules_laws.proofs.Common.{RuleName, also, beside, gives_map, needs, and_then, or_else, ◌>>=◌}
use Rattle.std.specs.Option.{option_or}
use Rattle.ebc_base.specs.Steps.{only_if}

pub some_then : {A B : Type 0} (P : A → Type 0) (Q : B → Type 0) (o : Option A) (f : A → Option B) → IfSome o P
    → ((x : A) → P x → IfSome (f x) Q) → IfSome (and_then o f) Q
some_then P Q None f h g = tt
some_then P Q (Some x) f h g = g x h

pub some_else : {A : Type 0} (P : A → Type 0) (a b : Option A) → IfSome a P → IfSome b P → IfSome (option_or a b) P
some_else P None b h g = g
some_else P (Some x) b h g = h

pub some_if : {A : Type 0} (P : A → Type 0) (b : Bool) (x : A) → (b ≡ true → P x) → IfSome (only_if b x) P
some_if P true x h = h refl
some_if P false x h = tt

pub some_is : {A : Type 0} (o : Option A) → IfSome o (λ x. o ≡ Some x)
some_is None = tt
some_is (Some x) = refl

-- ---- values and rules that fail

pub ok_then : {A B : Type 0} (P : A → Type 0) (Q : B → Type 0) (a : Result A RuleName) (f : A → Result B RuleName) → IfOk a P
    → ((x : A) → P x → IfOk (f x) Q) → IfOk (a >>= f) Q
ok_then P Q (Ok x) f h g = g x h
ok_then P Q (Err r) f h g = tt

pub ok_some : {A : Type 0} (P : A → Type 0) (r : RuleName) (o : Option A) → IfSome o P → IfOk (or_else r o) P
ok_some P r None h = tt
ok_some P r (Some x) h = h

pub ok_beside : {A B : Type 0} (P : A → Type 0) (Q : B → Type 0) (a : Result A RuleName) (b : Result B RuleName) → IfOk a P → IfOk b Q
    → IfOk (beside a b) (λ p. P p.0 × Q p.1)
ok_beside P Q (Ok x) (Ok y) h g = (h, g)
ok_beside P Q (Ok x) (Err q) h g = tt
ok_beside P Q (Err r) (Ok y) h g = tt
ok_beside P Q (Err r) (Err q) h g = tt

pub ok_also : {A : Type 0} (P : A → Type 0) (a : Result A RuleName) (q : Option RuleName) → IfOk a P → IfOk (also a q) P
ok_also P (Ok x) None h = h
ok_also P (Ok x) (Some q) h = tt
ok_also P (Err r) None h = tt
ok_also P (Err r) (Some q) h = tt

pub ok_map : {A B : Type 0} (P : A → Type 0) (Q : B → Type 0) (f : A → B) (a : Result A RuleName) → IfOk a P → ((x : A) → P x → Q (f x))
    → IfOk (gives_map f a) Q
ok_map P Q f (Ok x) h g = g x h
ok_map P Q f (Err r) h g = tt

pub ok_choice : {A : Type 0} (P : A → Type 0) (b : Bool) (a q : Result A RuleName) → IfOk a P → IfOk q P → IfOk (if b then a else q) P
ok_choice P true a q h g = h
ok_choice P false a q h g = g

pub ok_anything : {A : Type 0} (a : Result A RuleName) → IfOk a (λ _. Unit {0})
ok_anything (Ok x) = tt
ok_anything (Err r) = tt

-- a value with a condition beside it, which holds
pub ok_needs : {A : Type 0} (P : A → Type 0) (a : Result A RuleName) (r : RuleName) (b : Bool) → IfOk a P
    → IfOk (also a (needs r b)) (λ x. P x × (b ≡ true))
ok_needs P (Ok x) r true h = (h, refl)
ok_needs P (Ok x) r false h = tt
ok_needs P (Err q) r true h = tt
ok_needs P (Err q) r false h = tt
