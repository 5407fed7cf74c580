-- Meaning: what is done in steps of which each may fail: the first failure is the whole's.
use Rattle.std.specs.Prelude.{Bool, true, false, Option, Some, None, Result, Ok, Err, if◌then◌else◌}

-- first one thing, and then, unless it fails, the next, of its value
infixl 10 ◌>>=◌
abbrev pub ◌>>=◌ : {A B E : Type 0} → Result A E → (A → Result B E) → Result B E
(Ok x) >>= f = f x
(Err e) >>= f = Err e

-- a value that may be missing, or the failure in its place
abbrev pub or_else : {A E : Type 0} → E → Option A → Result A E
or_else e None = Err e
or_else e (Some x) = Ok x

-- nothing where a test holds, and otherwise the failure
abbrev pub passes : {E : Type 0} → Bool → E → Result (Unit {0}) E
passes true e = Ok tt
passes false e = Err e

-- a value, where a test holds
abbrev pub only_if : {A : Type 0} → Bool → A → Option A
only_if b x = if b then Some x else None
