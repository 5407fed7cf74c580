-- Meaning: the outcomes of the program, as its exit status: docs/COMMANDS.md, "Exit status".
use Rattle.std.specs.Prelude.{ℕ}
use Rattle.cli_base.specs.declared.outcome.Outcome.{Outcome}
use Rattle.cli_base.specs.declared.outcome.Outcome.TheVariants.{Done, Refused, BadWords, BadInput, ReadFault, WriteFault, NoMemory}
use Rattle.cli_base.specs.declared.outcome.Outcome.TheVariants.{TooLarge, Differ}
use Rattle.cli_base.specs.declared.outcome.Outcome.TheVariants.{Missing}

-- the exit status that each outcome has
abbrev pub exit_status : Outcome → ℕ
exit_status Done = 0
exit_status (Refused place rule) = 1
exit_status BadWords = 2
exit_status (BadInput word fault) = 3
exit_status ReadFault = 4
exit_status WriteFault = 5
exit_status NoMemory = 6
exit_status (TooLarge word) = 7
exit_status (Differ step) = 8
exit_status (Missing word) = 9

-- an answer of the work, which is neither a failure of the outside nor want of memory
abbrev pub IsAnswer : Outcome → Type 0
IsAnswer ReadFault = ⊥
IsAnswer WriteFault = ⊥
IsAnswer NoMemory = ⊥
IsAnswer outcome = Unit {0}

-- an outcome before which all was read: no read failed, and memory didn't run out
abbrev pub ReadsAll : Outcome → Type 0
ReadsAll ReadFault = ⊥
ReadsAll NoMemory = ⊥
ReadsAll outcome = Unit {0}

-- an answer to words that are a command
abbrev pub IsCommandAnswer : Outcome → Type 0
IsCommandAnswer BadWords = ⊥
IsCommandAnswer ReadFault = ⊥
IsCommandAnswer WriteFault = ⊥
IsCommandAnswer NoMemory = ⊥
IsCommandAnswer outcome = Unit {0}

-- an answer to words that are a command whose files were read
abbrev pub IsWorkAnswer : Outcome → Type 0
IsWorkAnswer Done = Unit {0}
IsWorkAnswer (Refused place rule) = Unit {0}
IsWorkAnswer (Differ step) = Unit {0}
IsWorkAnswer (TooLarge word) = Unit {0}
IsWorkAnswer outcome = ⊥

-- an answer that a file isn't of its form
abbrev pub IsBadInput : Outcome → Type 0
IsBadInput (BadInput word fault) = Unit {0}
IsBadInput outcome = ⊥
