-- For proofs: what a reader of files promises, whatever it reads.
use Rattle.std.specs.Prelude.{◌≡◌, ℕ, ◌≤◌, List, Option, Result, IfSome, IsErrOf}
use Rattle.ebc_outside.specs.Counts.{Rose}
use Rattle.ebc_outside.specs.Files.{Files}
use Rattle.cli_base.specs.declared.reply.End.{End}
use Rattle.cli_base.specs.declared.reply.End.TheVariants as ends
use Rattle.cli_base.specs.Readings.{CommandAnswer, FileReading, Follows, IfStop}

-- A folder is seen by four functions, as it was before and as it is now. Where it tells its files, what was asked for and what came of it
-- are those of the reading; a stop is the answer of a command; a failed read was counted, and no other where the files are told; no file
-- has changed, nor the count of failed writes.
pub record Reads {S A : Type 0} (contents : S → Option Files) (asked : S → List (List ℕ)) (read_faults write_faults : S → ℕ)
    (before now : S) (result : Result A End) (reading : Files → FileReading A) : Type 0 where
  pub follows : IfSome (contents before) (λ files. Follows (asked before) (asked now) result (reading files))
  pub stop : IfStop result (CommandAnswer (contents before) (read_faults before) (read_faults now))
  pub fault : IsErrOf result ends.ReadFault → Rose (read_faults before) (read_faults now)
  pub uncounted : IfSome (contents before) (λ _. ¬ IsErrOf result ends.ReadFault → read_faults now ≡ read_faults before)
  pub count : read_faults before ≤ read_faults now
  pub same_files : contents now ≡ contents before
  pub same_writes : write_faults now ≡ write_faults before
