-- Meaning: what a read, a write or a put may answer, and what the answer leaves. This project defines it:
-- docs/OUTSIDE.md.
use Rattle.std.specs.Prelude.{◌≡◌, ℕ, ◌+◌, zero, List, [], ◌∷◌, ◌++◌, take, Option, Some, None, Result, Ok, Err, Vec}
use Rattle.std.specs.declared.alloc.Global.{Global}
use Rattle.std.specs.declared.io.ErrorKind.{ErrorKind}
use Rattle.std.specs.declared.io.ErrorKind.TheVariants as kinds
use Rattle.ebc_outside.specs.declared.ends.ReadEnd.{ReadEnd}
use Rattle.ebc_outside.specs.declared.ends.ReadEnd.TheVariants as ends
use Rattle.ebc_outside.specs.declared.ends.WriteEnd.{WriteEnd}
use Rattle.ebc_outside.specs.declared.ends.WriteEnd.TheVariants as write_ends
use Rattle.ebc_outside.specs.declared.ends.SinkEnd.{SinkEnd}
use Rattle.ebc_outside.specs.declared.ends.SinkEnd.TheVariants as sink_ends
use Rattle.ebc_outside.specs.Counts.{one_more}

-- a file gives its first bytes, up to one past the limit, and Missing comes only where there is no file
abbrev pub AnswersFile : Option (List ℕ) → ℕ → Result (Vec ℕ Global) ReadEnd → Type 0
AnswersFile (Some file) limit (Ok bytes) = bytes.items ≡ take (limit + 1) file
AnswersFile None limit (Ok bytes) = ⊥
AnswersFile (Some file) limit (Err ends.Missing) = ⊥
AnswersFile _ limit (Err _) = Unit {0}

-- the names that were asked for: this one too, unless memory ran out
abbrev pub asked_after : List ℕ → Result (Vec ℕ Global) ReadEnd → List (List ℕ) → List (List ℕ)
asked_after name (Err ends.NoMemory) asked = asked
asked_after name _ asked = asked ++ name ∷ []

-- the count of failed reads after a read in memory: only a fault counts
abbrev pub read_faults_after : Result (Vec ℕ Global) ReadEnd → ℕ → ℕ
read_faults_after (Err ends.Fault) faults = one_more faults
read_faults_after _ faults = faults

-- the count of failed writes after a write: only a fault counts
abbrev pub write_faults_after : Result (Unit {0}) WriteEnd → ℕ → ℕ
write_faults_after (Err write_ends.Fault) faults = one_more faults
write_faults_after _ faults = faults

-- the count of failed puts after a put: only a fault counts
abbrev pub put_faults_after : Result (Unit {0}) SinkEnd → ℕ → ℕ
put_faults_after (Err sink_ends.Fault) faults = one_more faults
put_faults_after _ faults = faults

-- the count of failed reads after a read of the system's files: a fault counts, and a name not found
abbrev pub host_faults_after : Result (Vec ℕ Global) ReadEnd → ℕ → ℕ
host_faults_after (Err ends.Fault) faults = one_more faults
host_faults_after (Err ends.Missing) faults = one_more faults
host_faults_after _ faults = faults

-- how a read ends that met an error of this kind
abbrev pub read_end_of : ErrorKind → ReadEnd
read_end_of kinds.OutOfMemory = ends.NoMemory
read_end_of _ = ends.Fault

-- how a read ends whose file could not be opened
abbrev pub open_end_of : ErrorKind → ReadEnd
open_end_of kinds.NotFound = ends.Missing
open_end_of kind = read_end_of kind

-- how a write ends that met an error of this kind before it made or emptied a file
abbrev pub create_end_of : ErrorKind → WriteEnd
create_end_of kinds.OutOfMemory = write_ends.NoMemory
create_end_of _ = write_ends.Fault

-- how a put ends that met an error after so many bytes
abbrev pub put_end_of : ℕ → ErrorKind → SinkEnd
put_end_of zero kinds.OutOfMemory = sink_ends.NoMemory
put_end_of _ _ = sink_ends.Fault
