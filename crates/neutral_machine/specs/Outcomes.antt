-- For proofs: what the neutral machine gives: a result, an exception that the machine raises at both widths, or nothing,
-- where it is stuck. docs/HOST.md, "The neutral machine".
use Rattle.std.specs.Prelude.{Bool, if◌then◌else◌, Option, Some, None}
use Rattle.note_types.specs.declared.exception.Exception.{Exception}

pub data Outcome (A : Type 0) : Type 0 where
  Gives : A → Outcome A
  Raises : Exception → Outcome A
  Stuck : Outcome A

-- first one thing, and then what its value asks for
infixl 10 ◌>>=◌
abbrev pub ◌>>=◌ : {A B : Type 0} → Outcome A → (A → Outcome B) → Outcome B
(Gives x) >>= f = f x
(Raises e) >>= f = Raises e
Stuck >>= f = Stuck

-- a value, or stuck where there is none
abbrev pub or_stuck : {A : Type 0} → Option A → Outcome A
or_stuck None = Stuck
or_stuck (Some x) = Gives x

-- go on, or be stuck
abbrev pub unless_stuck : {A : Type 0} → Bool → Outcome A → Outcome A
unless_stuck b o = if b then o else Stuck
