-- For proofs: what a reader of the files of a command promises; what is known of work that was read, and what is promised of the reply
-- to it; what is known of the answer that is then put or written; and what the steps of the check of bytes tell.
use Rattle.std.specs.Prelude.{⊤, ◌≡◌, ◌↔◌, ◌⊎◌, ℕ, ◌≤◌, List, ◌++◌, length, Option, Some, None, Result, Ok, Err, IfOk}
use Rattle.ebc_base.specs.declared.memory.NoMemory.{NoMemory}
use Rattle.ebc_object.specs.Objects.{IsObject}
use Rattle.ebc_outside.specs.Files.{Files}
use Rattle.host_model.specs.Scripts.{IsScript}
use Rattle.note_types.specs.Records.{IsNotes}
use Rattle.note_types.specs.declared.notes.Notes.{Notes}
use Rattle.note_types.specs.declared.rule.RuleName.{RuleName}
use Rattle.pair_model.specs.Binds.{AllAgree}
use Rattle.pair_model.specs.declared.bind.Bind.{Bind}
use Rattle.pe_image.specs.Images.{image_of}
use Rattle.pe_image.specs.Linked.{IsLinked}
use Rattle.pe_image.specs.declared.image.Image.{Image}
use Rattle.plain_check.specs.declared.verdict.Verdict.{Verdict}
use Rattle.plain_check.specs.declared.verdict.Verdict.TheVariants as verdicts
use Rattle.width_checker.specs.Typed.{Typed}
use Rattle.width_checker.specs.Verdicts.{IsRefused}
use Rattle.cli_base.specs.declared.outcome.Outcome.{Outcome}
use Rattle.cli_base.specs.declared.outcome.Outcome.TheVariants as outcomes
use Rattle.cli_base.specs.declared.reply.End.{End}
use Rattle.cli_base.specs.declared.reply.End.TheVariants as ends
use Rattle.cli_base.specs.declared.reply.Reply.{Reply}
use Rattle.cli_base.specs.Inputs.{IsReadImage, image_limit}
use Rattle.cli_base.specs.Outcomes.{IsAnswer, IsWorkAnswer}
use Rattle.cli_base.specs.Outputs.{written_name}
use Rattle.cli_base.specs.Readings.{AsksPart, FileReading, MissingHasCause}
use Rattle.file_inputs.specs.Reads.{Reads}
use Rattle.ebc_cli.specs.declared.checking.Checked.{Checked}
use Rattle.ebc_cli.specs.declared.checking.Checked.TheVariants as checked
use Rattle.ebc_cli.specs.declared.command.Command.{Command}
use Rattle.ebc_cli.specs.declared.command.Command.TheVariants as commands
use Rattle.ebc_cli.specs.declared.pairing.ReadDriver.{ReadDriver}
use Rattle.ebc_cli.specs.declared.sampling.BuiltSample.{BuiltSample}
use Rattle.ebc_cli.specs.declared.work.Work.{Work}
use Rattle.ebc_cli.specs.declared.work.Work.TheVariants as works
use Rattle.ebc_cli.specs.Checks.{IsToldAs}
use Rattle.ebc_cli.specs.Commands.{command_of, output_of}
use Rattle.ebc_cli.specs.Works.{IsReplyOf, IsReplyTo, plain_code_limit}

-- ---- what was read

-- a driver of a pair: its image, its notes and its script under them
pub record IsReadDriver (d : ReadDriver) : Type 0 where
  pub image : IsReadImage d.image
  pub notes : IsNotes d.notes
  pub script : IsScript d.notes d.script

-- what was read for a pair: both drivers, and binds that agree with the notes of both
pub record IsReadPair (a b : ReadDriver) (binds : List Bind) : Type 0 where
  pub a_read : IsReadDriver a
  pub b_read : IsReadDriver b
  pub agree : AllAgree a.notes b.notes binds

-- what was built can be checked and run
abbrev pub IsBuilt : BuiltSample → Type 0
IsBuilt x = IsReadImage x.image × IsNotes x.notes × IsScript x.notes x.script

-- code that was read is within its limit, what was read as an image is one, what was read as notes are notes, what was read as a script
-- is one under them, and so are those of a sample and of a pair, what a source stands for is an object, what objects are linked to is in
-- the linker's layout, and the file that goes into an option ROM is within the limit of images
abbrev pub CanBeDone : Work → Type 0
CanBeDone (works.CheckCode code) = length code ≤ plain_code_limit
CanBeDone (works.CheckImage image notes) = IsReadImage image × IsNotes notes
CanBeDone (works.ListImage image) = IsReadImage image
CanBeDone (works.WriteObject name object) = IsObject object
CanBeDone (works.WriteImage name image) = IsLinked image
CanBeDone (works.Run width image notes script steps) = IsReadImage image × IsNotes notes × IsScript notes script
CanBeDone (works.Twin image notes script steps) = IsReadImage image × IsNotes notes × IsScript notes script
CanBeDone (works.Pair a b binds steps) = IsReadPair a b binds
CanBeDone (works.Sample sample) = IsBuilt sample
CanBeDone (works.WriteRom name vendor device subsystem image) = length image ≤ image_limit
CanBeDone (works.ListRom images) = Unit {0}
CanBeDone (works.WriteTaken name bytes) = Unit {0}
CanBeDone (works.InferPoints name image notes) = IsReadImage image × IsNotes notes

-- the name under which a file is to be written, if one is
abbrev pub output_name : Work → Option (List ℕ)
output_name (works.WriteObject name object) = Some name
output_name (works.WriteImage name image) = Some name
output_name (works.WriteRom name vendor device subsystem image) = Some name
output_name (works.WriteTaken name bytes) = Some name
output_name work = None

-- ---- commands and work

-- what is read is work that can be done, and that writes a file under this name, if it writes one
pub record ReadsWork {S : Type 0} (contents : S → Option Files) (asked : S → List (List ℕ)) (read_faults write_faults : S → ℕ)
    (before now : S) (result : Result Work End) (reading : Files → FileReading Work) (output : Option (List ℕ)) : Type 0 where
  pub reads : Reads contents asked read_faults write_faults before now result reading
  pub work : IfOk result CanBeDone
  pub name : IfOk result (λ work. output_name work ≡ output)

-- what is made of work is a reply to it, an answer of work, and a file under its name, if it writes one
pub record RepliesTo (work : Work) (result : Result Reply NoMemory) : Type 0 where
  pub reply : IfOk result (IsReplyTo work)
  pub answer : IfOk result (λ r. IsWorkAnswer r.outcome)
  pub output : IfOk result (λ r. written_name r.output ≡ output_name work)

-- the commands that run images
abbrev pub IsRunCommand : Command → Type 0
IsRunCommand (commands.Run width image notes script steps) = ⊤
IsRunCommand (commands.Twin image notes script steps) = ⊤
IsRunCommand (commands.Pair a b binds steps) = ⊤
IsRunCommand (commands.Sample functions) = ⊤
IsRunCommand command = ⊥

-- the commands on option ROMs
abbrev pub IsRomCommand : Command → Type 0
IsRomCommand (commands.WrapRom vendor device image rom) = ⊤
IsRomCommand (commands.ListRom rom) = ⊤
IsRomCommand (commands.TakeRom rom number image) = ⊤
IsRomCommand command = ⊥

-- ---- the answer

-- the reply is one to what came of the reading, and all names were asked for; work that was read can be done
pub record IsDecided (before now : List (List ℕ)) (run : FileReading Work) (reply : Reply) : Type 0 where
  pub answer : IsReplyOf run.value reply
  pub asked : now ≡ before ++ run.asked
  pub able : IfOk run.value CanBeDone

-- a reply that was decided is so; where a read failed or memory ran out, a first part of the names was asked for
abbrev pub Decides : List (List ℕ) → List (List ℕ) → Result Reply Outcome → FileReading Work → Type 0
Decides before now (Ok reply) run = IsDecided before now run reply
Decides before now (Err outcome) run = AsksPart before run.asked now

-- the causes of an answer that the files don't decide: it is BadWords exactly where the words are no command; where the files
-- aren't told it is Missing only where the count of failed reads rose; and it writes no file but the one that the words name
pub record AnswersWords (words : List (List ℕ)) (files : Option Files) (before now : ℕ) (reply : Reply) : Type 0 where
  pub answer : IsAnswer reply.outcome
  pub bad_words : reply.outcome ≡ outcomes.BadWords ↔ command_of words ≡ None
  pub missing : MissingHasCause files before now reply.outcome
  pub output : (written_name reply.output ≡ None) ⊎ (written_name reply.output ≡ output_of (command_of words))

-- ---- the check of bytes

-- what a verdict tells
abbrev pub checked_of : Verdict → Checked
checked_of verdicts.Neutral = checked.Neutral
checked_of (verdicts.Refused place rule) = checked.Refused place rule

-- what is told is a verdict on an image under notes
pub record TellsCheck (image : Image) (notes : Notes) (x : Checked) : Type 0 where
  pub verdict : Verdict
  pub neutral : verdict ≡ verdicts.Neutral ↔ Typed image notes
  pub refused : (place : ℕ) (rule : RuleName) → verdict ≡ verdicts.Refused place rule ↔ IsRefused image notes place rule
  pub told : x ≡ checked_of verdict

-- what is told of an image under a text is told exactly, whichever bytes stand for the image
abbrev pub TellsUnder : Image → List ℕ → Checked → Type 0
TellsUnder image text x = (bytes : List ℕ) → image_of bytes ≡ Ok image → (wanted : Checked) → x ≡ wanted ↔ IsToldAs bytes text wanted
