-- Meaning: Reading files one after the other: the names that are asked for, and what comes of it.
use Rattle.std.specs.Prelude.{◌≡◌, ℕ, List, [], ◌∷◌, ◌++◌, length, Option, Some, None, Result, Ok, Err, nat_lt, if◌then◌else◌}
use Rattle.std.specs.FinMap.{get}
use Rattle.ebc_outside.specs.Files.{Files}
use Rattle.ebc_outside.specs.Counts.{Rose}
use Rattle.cli_base.specs.declared.outcome.Outcome.{Outcome}
use Rattle.cli_base.specs.declared.outcome.Outcome.TheVariants.{TooLarge, Missing}
use Rattle.cli_base.specs.declared.reply.Reply.{Reply}
use Rattle.cli_base.specs.declared.reply.End.{End}
use Rattle.cli_base.specs.declared.reply.End.TheVariants as ends
use Rattle.cli_base.specs.Outcomes.{IsCommandAnswer}
use Rattle.cli_base.specs.Outputs.{prints, written_name}
use Rattle.cli_base.specs.Texts.{missing_line, large_line}

-- the names in their order, and the value, or the reply at which the reading stops
pub record FileReading (A : Type 0) : Type 0 where
  pub asked : List (List ℕ)
  pub value : Result A Reply

abbrev pub done : {A : Type 0} → A → FileReading A
done x = record { asked = []; value = Ok x }

-- a reading that asks for nothing, and goes on or stops
abbrev pub told : {A : Type 0} → Result A Reply → FileReading A
told value = record { asked = []; value = value }

abbrev pub go_on : {A B : Type 0} → List (List ℕ) → Result A Reply → (A → FileReading B) → FileReading B
go_on asked (Ok x) f = record { asked = asked ++ (f x).asked; value = (f x).value }
go_on asked (Err reply) f = record { asked = asked; value = Err reply }

infixl 10 ◌>>=◌
abbrev pub ◌>>=◌ : {A B : Type 0} → FileReading A → (A → FileReading B) → FileReading B
run >>= f = go_on run.asked run.value f

abbrev pub missing_reply : ℕ → List ℕ → Reply
missing_reply word name = prints (Missing word) (missing_line name)

abbrev pub large_reply : ℕ → List ℕ → Reply
large_reply word name = prints (TooLarge word) (large_line name)

-- a file that is there, with at most so many bytes
abbrev pub measured : ℕ → List ℕ → ℕ → Option (List ℕ) → Result (List ℕ) Reply
measured word name limit None = Err (missing_reply word name)
measured word name limit (Some bytes) = if nat_lt limit (length bytes) then Err (large_reply word name) else Ok bytes

-- the file that a word names
unfoldable pub file : ℕ → List ℕ → ℕ → Files → FileReading (List ℕ)
file word name limit files = record { asked = name ∷ []; value = measured word name limit (get files name) }

-- the names asked now are those before and a first part of all
pub record AsksPart (before all now : List (List ℕ)) : Type 0 where
  pub first : List (List ℕ)
  pub others : List (List ℕ)
  pub whole : all ≡ first ++ others
  pub asked : now ≡ before ++ first

-- the value, or the reply at which it stopped, is the run's, and all its names were asked for; where a read
-- failed or memory ran out, a first part of them
abbrev pub Follows : {A : Type 0} → List (List ℕ) → List (List ℕ) → Result A End → FileReading A → Type 0
Follows before now (Ok x) run = (run.value ≡ Ok x) × (now ≡ before ++ run.asked)
Follows before now (Err (ends.Stop reply)) run = (run.value ≡ Err reply) × (now ≡ before ++ run.asked)
Follows before now (Err end) run = AsksPart before run.asked now

-- where the files aren't told, Missing comes only where the count of failed reads rose
abbrev pub MissingHasCause : Option Files → ℕ → ℕ → Outcome → Type 0
MissingHasCause None before now (Missing word) = Rose before now
MissingHasCause files before now outcome = Unit {0}

-- the answer of a command at which a reading stops, from which file it comes aside
pub record CommandAnswer (files : Option Files) (before now : ℕ) (reply : Reply) : Type 0 where
  pub command : IsCommandAnswer reply.outcome
  pub output : written_name reply.output ≡ None
  pub missing : MissingHasCause files before now reply.outcome

-- a fact of the reply at which a reading stopped
abbrev pub IfStop : {A : Type 0} → Result A End → (Reply → Type 0) → Type 0
IfStop (Err (ends.Stop reply)) P = P reply
IfStop result P = Unit {0}
