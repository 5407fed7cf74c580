-- Meaning: the work that words ask for once their files are read, and the replies to it, of which one writes a file:
-- docs/COMMANDS.md, "The answer".
use Rattle.std.specs.Prelude.{◌≡◌, ◌↔◌, ℕ, List, Option, Some, None, Result, Ok, Err}
use Rattle.ebc_object.specs.Files.{object_bytes}
use Rattle.ebc_outside.specs.Files.{Files}
use Rattle.note_types.specs.declared.rule.RuleName.{RuleName}
use Rattle.option_rom.specs.Files.{rom_bytes}
use Rattle.pe_image.specs.Files.{file_of}
use Rattle.ebc_disasm.specs.Listings.{listing_of}
use Rattle.plain_check.specs.declared.verdict.Verdict.{Verdict}
use Rattle.plain_check.specs.declared.verdict.Verdict.TheVariants as verdicts
use Rattle.plain_check.specs.PlainRules as plain
use Rattle.width_checker.specs.Typed.{Typed}
use Rattle.width_checker.specs.Verdicts.{IsRefused}
use Rattle.cli_base.specs.declared.outcome.Outcome.TheVariants as outcomes
use Rattle.ebc_cli.specs.declared.command.Command.{Command}
use Rattle.ebc_cli.specs.declared.command.Command.TheVariants as commands
use Rattle.ebc_cli.specs.declared.command.DriverFiles.{DriverFiles}
use Rattle.cli_base.specs.declared.reply.Reply.{Reply}
use Rattle.ebc_cli.specs.declared.work.Work.{Work}
use Rattle.ebc_cli.specs.declared.work.Work.TheVariants as works
use Rattle.ebc_cli.specs.declared.width.Width.{Width}
use Rattle.ebc_cli.specs.Commands.{command_of}
use Rattle.file_inputs.specs.Inputs.{image_with_notes, input, input_with_bytes, source_limit}
use Rattle.cli_base.specs.Inputs.{image_limit, image_meaning}
use Rattle.file_inputs.specs.Inputs.{source_meaning}
use Rattle.ebc_cli.specs.Inputs.{number_meaning, pair_step_limit, rom_number_limit, sample_limit, step_limit}
use Rattle.file_inputs.specs.Inputs.{rom_limit, rom_meaning}
use Rattle.file_inputs.specs.Inputs.{taking_meaning}
use Rattle.ebc_cli.specs.Inferrings.{TellsInferred}
use Rattle.file_inputs.specs.Linkings.{linked_image}
use Rattle.cli_base.specs.Outputs.{prints, writes}
use Rattle.cli_base.specs.Readings.{FileReading, done, ◌>>=◌, file, told}
use Rattle.ebc_cli.specs.Numbers.{address_bytes}
use Rattle.ebc_cli.specs.Pairings.{pair_files, TellsPair}
use Rattle.ebc_cli.specs.RomTexts.{rom_listing}
use Rattle.ebc_cli.specs.Runnings.{run_files, TellsRun, TellsTwin}
use Rattle.ebc_cli.specs.Samplings.{TellsSample, sample_of}
use Rattle.ebc_cli.specs.Texts.{neutral_line, usage_line}
use Rattle.printed_texts.specs.Refusals.{refused_line}

-- how many bytes plain code may have: 256 KiB
abbrev pub plain_code_limit : ℕ
plain_code_limit = 262144

abbrev pub usage_reply : Reply
usage_reply = prints outcomes.BadWords usage_line

-- ---- what is read

-- `check CODE`
unfoldable pub code_check : List ℕ → Files → FileReading Work
code_check name files = do
  code ← file 1 name plain_code_limit files
  done (works.CheckCode code)

-- `check IMAGE NOTES`
unfoldable pub image_check : List ℕ → List ℕ → Files → FileReading Work
image_check image_name notes_name files = do
  read ← image_with_notes 1 image_name notes_name files
  done (works.CheckImage read.0 read.1)

-- `list IMAGE`
unfoldable pub image_listing : List ℕ → Files → FileReading Work
image_listing name files = do
  image ← input image_limit image_meaning 1 name files
  done (works.ListImage image)

-- `asm SRC OBJ`
unfoldable pub assembly : List ℕ → List ℕ → Files → FileReading Work
assembly source_name object_name files = do
  object ← input source_limit source_meaning 1 source_name files
  done (works.WriteObject object_name object)

-- `link PLAN IMAGE`
unfoldable pub linking : List ℕ → List ℕ → Files → FileReading Work
linking plan_name image_name files = do
  image ← linked_image 1 plan_name files
  done (works.WriteImage image_name image)

-- `run WIDTH IMAGE NOTES SCRIPT STEPS`: the number comes before the files
unfoldable pub running : Width → List ℕ → List ℕ → List ℕ → List ℕ → Files → FileReading Work
running width image_name notes_name script_name digits files = do
  steps ← told (number_meaning step_limit 5 digits)
  read ← run_files 2 image_name notes_name script_name files
  done (works.Run width read.0 read.1 read.2 steps)

-- `twin IMAGE NOTES SCRIPT STEPS`, and so here
unfoldable pub twinning : List ℕ → List ℕ → List ℕ → List ℕ → Files → FileReading Work
twinning image_name notes_name script_name digits files = do
  steps ← told (number_meaning step_limit 4 digits)
  read ← run_files 1 image_name notes_name script_name files
  done (works.Twin read.0 read.1 read.2 steps)

-- `pair IMAGE NOTES SCRIPT IMAGE2 NOTES2 SCRIPT2 BINDS STEPS`, and so here
unfoldable pub pairing : (a b : DriverFiles) → List ℕ → List ℕ → Files → FileReading Work
pairing a b binds_name digits files = do
  steps ← told (number_meaning pair_step_limit 8 digits)
  read ← pair_files a b binds_name files
  done (works.Pair read.0 read.1 read.2 steps)

-- `sample N`: the texts of the sample are no files
unfoldable pub sampling : List ℕ → FileReading Work
sampling digits = do
  functions ← told (number_meaning sample_limit 1 digits)
  sample ← told (sample_of digits functions)
  done (works.Sample sample)

-- `rom wrap VENDOR DEVICE IMAGE ROM`: the subsystem is that of the image
unfoldable pub rom_wrapping : ℕ → ℕ → List ℕ → List ℕ → Files → FileReading Work
rom_wrapping vendor device image_name rom_name files = do
  read ← input_with_bytes image_limit image_meaning 4 image_name files
  done (works.WriteRom rom_name vendor device read.0.subsystem read.1)

-- `rom list ROM`
unfoldable pub rom_images : List ℕ → Files → FileReading Work
rom_images name files = do
  images ← input rom_limit rom_meaning 2 name files
  done (works.ListRom images)

-- `rom take ROM NUMBER IMAGE`, once the number is known
unfoldable pub rom_taking_of : List ℕ → ℕ → List ℕ → Files → FileReading Work
rom_taking_of rom_name number image_name files = do
  read ← input_with_bytes rom_limit rom_meaning 2 rom_name files
  bytes ← told (taking_meaning 2 rom_name read.1 read.0 number)
  done (works.WriteTaken image_name bytes)

-- `rom take ROM NUMBER IMAGE`: the number comes before the file
unfoldable pub rom_taking : List ℕ → List ℕ → List ℕ → Files → FileReading Work
rom_taking rom_name digits image_name files = do
  number ← told (number_meaning rom_number_limit 3 digits)
  rom_taking_of rom_name number image_name files

-- `infer IMAGE NOTES`
unfoldable pub inference : List ℕ → List ℕ → Files → FileReading Work
inference image_name notes_name files = do
  read ← image_with_notes 1 image_name notes_name files
  done (works.InferPoints image_name read.0 read.1)

abbrev pub work_for : Option Command → Files → FileReading Work
work_for None files = told (Err usage_reply)
work_for (Some (commands.CheckCode code)) files = code_check code files
work_for (Some (commands.CheckImage image notes)) files = image_check image notes files
work_for (Some (commands.ListImage image)) files = image_listing image files
work_for (Some (commands.Assemble source object)) files = assembly source object files
work_for (Some (commands.Link plan image)) files = linking plan image files
work_for (Some (commands.Run width image notes script steps)) files = running width image notes script steps files
work_for (Some (commands.Twin image notes script steps)) files = twinning image notes script steps files
work_for (Some (commands.Pair a b binds steps)) files = pairing a b binds steps files
work_for (Some (commands.Sample functions)) files = sampling functions
work_for (Some (commands.WrapRom vendor device image rom)) files = rom_wrapping vendor device image rom files
work_for (Some (commands.ListRom rom)) files = rom_images rom files
work_for (Some (commands.TakeRom rom number image)) files = rom_taking rom number image files
work_for (Some (commands.InferPoints image notes)) files = inference image notes files

-- the files that the words ask for, and the work, or the reply at which the reading stops
unfoldable pub work_of : List (List ℕ) → Files → FileReading Work
work_of words files = work_for (command_of words) files

-- ---- what is replied

abbrev pub verdict_reply : Verdict → Reply
verdict_reply verdicts.Neutral = prints outcomes.Done neutral_line
verdict_reply (verdicts.Refused place rule) = prints (outcomes.Refused place rule) (refused_line place rule)

-- the text of a listing is printed as it is
abbrev pub listing_reply : List ℕ → Reply
listing_reply text = prints outcomes.Done text

-- a file is written, and nothing is printed
abbrev pub file_reply : List ℕ → List ℕ → Reply
file_reply name bytes = writes outcomes.Done name bytes

-- the reply tells a verdict: neutral exactly where the one holds, and refused at a place by a rule exactly where the other holds of them
pub record TellsVerdict (Holds : Type 0) (Fails : ℕ → RuleName → Type 0) (reply : Reply) : Type 0 where
  pub verdict : Verdict
  pub neutral : verdict ≡ verdicts.Neutral ↔ Holds
  pub refused : (place : ℕ) (rule : RuleName) → verdict ≡ verdicts.Refused place rule ↔ Fails place rule
  pub told : reply ≡ verdict_reply verdict

-- the replies to work, one row a command
abbrev pub IsReplyTo : Work → Reply → Type 0
IsReplyTo (works.CheckCode code) reply = TellsVerdict (plain.IsNeutral code) (plain.IsRefused code) reply
IsReplyTo (works.CheckImage image notes) reply = TellsVerdict (Typed image notes) (IsRefused image notes) reply
IsReplyTo (works.ListImage image) reply = reply ≡ listing_reply (listing_of image)
IsReplyTo (works.WriteObject name object) reply = reply ≡ file_reply name (object_bytes object)
IsReplyTo (works.WriteImage name image) reply = reply ≡ file_reply name (file_of image)
IsReplyTo (works.Run width image notes script steps) reply = TellsRun (address_bytes width) image notes script steps reply
IsReplyTo (works.Twin image notes script steps) reply = TellsTwin image notes script steps reply
IsReplyTo (works.Pair a b binds steps) reply = TellsPair a b binds steps reply
IsReplyTo (works.Sample sample) reply = TellsSample sample reply
IsReplyTo (works.WriteRom name vendor device subsystem image) reply = reply ≡ file_reply name (rom_bytes vendor device subsystem image)
IsReplyTo (works.ListRom images) reply = reply ≡ listing_reply (rom_listing images)
IsReplyTo (works.WriteTaken name bytes) reply = reply ≡ file_reply name bytes
IsReplyTo (works.InferPoints name image notes) reply = TellsInferred name image notes reply

-- a reading that went through is replied to as its work, and else by the reply at which it stopped
abbrev pub IsReplyOf : Result Work Reply → Reply → Type 0
IsReplyOf (Ok work) reply = IsReplyTo work reply
IsReplyOf (Err stopped) reply = reply ≡ stopped
