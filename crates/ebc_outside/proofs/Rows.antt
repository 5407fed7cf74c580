-- Rows that the definitions of specs/ must give.
use Rattle.std.proofs.Common.{◌≡◌, ℕ, ◌-◌, ◌^◌, true, false, [], ◌∷◌, Some, None, Err, codes, refl, arith}
use Rattle.ebc_outside.specs.declared.ends.ReadEnd.TheVariants as ends
use Rattle.ebc_outside.specs.declared.ends.SinkEnd.TheVariants as sink_ends
use Rattle.ebc_outside.specs.Counts.{Rose, next_call, is_listed}
use Rattle.ebc_outside.specs.Files.{AppendsPart}
use Rattle.ebc_outside.specs.Answers.{AnswersFile, asked_after, read_faults_after, host_faults_after, put_faults_after}

-- a count rose where it is greater, or stands at its last value
risen : Rose 3 4
risen = omega arith

not_risen : ¬ Rose 3 3
not_risen h = absurd (omega arith)

risen_at_last : Rose (2 ^ 64 - 1) (2 ^ 64 - 1)
risen_at_last = omega arith

-- calls are counted from 1, up to the last value
first_call : next_call 0 ≡ 1
first_call = refl

last_call : next_call (2 ^ 64 - 1) ≡ 2 ^ 64 - 1
last_call = refl

listed : is_listed 5 (2 ∷ 5 ∷ []) ≡ true
listed = refl

not_listed : is_listed 3 (2 ∷ 5 ∷ []) ≡ false
not_listed = refl

-- with an empty list no call is to fail
none_listed : (number : ℕ) → is_listed number [] ≡ false
none_listed number = refl

-- a file that is there is not missing, and one that is not there gives no bytes
not_missing : ¬ AnswersFile (Some (codes "a")) 8 (Err ends.Missing)
not_missing h = h

missing : AnswersFile None 8 (Err ends.Missing)
missing = tt

-- a name counts as asked but for want of memory
asked_missing : asked_after (codes "b") (Err ends.Missing) (codes "a" ∷ []) ≡ codes "a" ∷ codes "b" ∷ []
asked_missing = refl

not_asked : asked_after (codes "b") (Err ends.NoMemory) (codes "a" ∷ []) ≡ codes "a" ∷ []
not_asked = refl

-- what counts as a fault
missing_in_memory : read_faults_after (Err ends.Missing) 7 ≡ 7
missing_in_memory = refl

missing_of_system : host_faults_after (Err ends.Missing) 7 ≡ 8
missing_of_system = refl

refused_memory : host_faults_after (Err ends.NoMemory) 7 ≡ 7
refused_memory = refl

failed_put : put_faults_after (Err sink_ends.Fault) 0 ≡ 1
failed_put = refl

-- a part of the bytes is a first part
first_part : AppendsPart (codes "xyz") (Some (codes "a")) (Some (codes "axy"))
first_part = (2, refl)
