-- Meaning: what an answer prints or writes, and what it leaves: docs/COMMANDS.md, "The answer".
use Rattle.std.specs.Prelude.{◌≡◌, ℕ, List, [], ◌++◌, Option, Some, None, option_map}
use Rattle.std.specs.FinMap.{insert}
use Rattle.ebc_outside.specs.Files.{Files, SameOtherFiles}
use Rattle.cli_base.specs.declared.outcome.Outcome.{Outcome}
use Rattle.cli_base.specs.declared.reply.Output.{Output}
use Rattle.cli_base.specs.declared.reply.Output.TheVariants.{Text, File}
use Rattle.cli_base.specs.declared.reply.Reply.{Reply}

-- an answer that prints a text
abbrev pub prints : Outcome → List ℕ → Reply
prints outcome text = record { outcome = outcome; output = Text text }

-- an answer that writes a file
abbrev pub writes : Outcome → List ℕ → List ℕ → Reply
writes outcome name bytes = record { outcome = outcome; output = File name bytes }

-- the text that is printed
abbrev pub text_of : Output → List ℕ
text_of (Text text) = text
text_of (File name bytes) = []

-- the name under which a file is written, if one is
abbrev pub written_name : Output → Option (List ℕ)
written_name (Text text) = None
written_name (File name bytes) = Some name

-- the files that are left
abbrev pub files_left : Output → Files → Files
files_left (Text text) files = files
files_left (File name bytes) files = insert files name bytes

-- what is printed once a text is put
abbrev pub printed : List ℕ → Option (List ℕ) → Option (List ℕ)
printed text written = option_map (λ before. before ++ text) written

-- the same files, but for what stands under a name, if there is one
abbrev pub SameBut : Option (List ℕ) → Option Files → Option Files → Type 0
SameBut None old new = new ≡ old
SameBut (Some name) old new = SameOtherFiles name old new
