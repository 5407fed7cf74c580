-- Meaning: the answer of the program to its words, over the files of a folder: docs/COMMANDS.md, "The answer".
use Rattle.std.specs.Prelude.{◌≡◌, ℕ, ◌≤◌, List, [], ◌++◌, Option, Some, Result, Ok, Err}
use Rattle.std.specs.Fmt.{decimal}
use Rattle.bind_texts.specs.BindTexts.{binds_of}
use Rattle.ebc_disasm.specs.Listings.{listing_of}
use Rattle.ebc_outside.specs.Files.{Files, AppendsPart}
use Rattle.host_model.specs.Placements.{Placement, IsPlacement}
use Rattle.host_model.specs.Runs.{world_of}
use Rattle.note_infer.specs.Inferred.{IsInferred}
use Rattle.note_infer.specs.declared.inferred.Inferred.TheVariants.{Many, Points}
use Rattle.note_types.specs.declared.notes.Notes.{Notes}
use Rattle.note_types.specs.declared.script.Script.{Script}
use Rattle.pair_laws.specs.SamePairs.{ArePlaced, SamePairAfter}
use Rattle.pair_model.specs.Pairs.{Both}
use Rattle.pair_model.specs.declared.bind.Bind.{Bind}
use Rattle.pe_image.specs.declared.image.Image.{Image}
use Rattle.pe_image.specs.Images.{image_of}
use Rattle.protocol_script.specs.Scripts.{script_of}
use Rattle.twin_run.specs.Headline.{AreSameAfter}
use Rattle.type_notes.specs.Notes.{notes_of}
use Rattle.cli_base.specs.declared.outcome.Outcome.{Outcome}
use Rattle.cli_base.specs.declared.outcome.Outcome.TheVariants as outcomes
use Rattle.cli_base.specs.declared.reply.Reply.{Reply}
use Rattle.cli_base.specs.Inputs.{image_limit}
use Rattle.cli_base.specs.Outputs.{SameBut, files_left, printed, text_of, written_name}
use Rattle.file_inputs.specs.Held.{HasFile}
use Rattle.ebc_cli.specs.declared.command.Command.TheVariants.{CheckCode, CheckImage, InferPoints, Pair, Twin}
use Rattle.ebc_cli.specs.declared.command.DriverFiles.{DriverFiles}
use Rattle.ebc_cli.specs.declared.pairing.ReadDriver.{ReadDriver}
use Rattle.ebc_cli.specs.declared.work.Work.{Work}
use Rattle.ebc_cli.specs.declared.work.Work.TheVariants as works
use Rattle.ebc_cli.specs.Commands.{command_of}
use Rattle.ebc_cli.specs.Inputs.{binds_limit, pair_step_limit, script_limit, step_limit}
use Rattle.file_inputs.specs.Inputs.{notes_limit}
use Rattle.ebc_cli.specs.Pairings.{images_of, pair_world_of, with_script}
use Rattle.ebc_cli.specs.Works.{IsReplyOf, plain_code_limit, work_of}

-- a reply is an answer to the words
abbrev pub IsAnswerOf : List (List ℕ) → Files → Reply → Type 0
IsAnswerOf words files reply = IsReplyOf (work_of words files).value reply

-- the outcome is that of an answer to the words, its text was printed, and the files are those that it leaves
pub record Answers (words : List (List ℕ)) (files : Files) (outcome : Outcome) (before now : Option (List ℕ))
    (left : Option Files) : Type 0 where
  pub reply : Reply
  pub answer : IsAnswerOf words files reply
  pub same : outcome ≡ reply.outcome
  pub text : now ≡ printed (text_of reply.output) before
  pub files_are : left ≡ Some (files_left reply.output files)

-- a first part of the text of an answer to the words was printed, and no file changed but the one that it writes, if any
pub record LeavesPart (words : List (List ℕ)) (files : Files) (before now : Option (List ℕ)) (left : Option Files) : Type 0 where
  pub reply : Reply
  pub answer : IsAnswerOf words files reply
  pub part : AppendsPart (text_of reply.output) before now
  pub others : SameBut (written_name reply.output) (Some files) left

-- ---- why an answer comes

-- the outcomes of what isn't done: a file isn't there, a number or a file is past its limit, or a file isn't of its form
abbrev pub IsStop : Outcome → Type 0
IsStop (outcomes.Missing word) = Unit {0}
IsStop (outcomes.TooLarge word) = Unit {0}
IsStop (outcomes.BadInput word fault) = Unit {0}
IsStop outcome = ⊥

-- The reading of what the words name stops with this outcome; or it went through for `infer`, and the image, which is the word 1, has more
-- leaders than notes may have points.
abbrev pub StopsWith : Result Work Reply → Outcome → Type 0
StopsWith (Err reply) outcome = outcome ≡ reply.outcome
StopsWith (Ok (works.InferPoints name image notes)) outcome =
    (leaders : ℕ) × IsInferred image notes (Many leaders) × (outcome ≡ outcomes.TooLarge 1)
StopsWith (Ok work) outcome = ⊥

-- the outcomes of work whose files were read: `check` and `infer` alone refuse, `twin` and `pair` alone tell runs that differ, and `infer`
-- alone may still find an image too large
abbrev pub IsOutcomeOfWork : Outcome → Work → Type 0
IsOutcomeOfWork outcomes.Done work = Unit {0}
IsOutcomeOfWork (outcomes.Refused place rule) (works.CheckCode code) = Unit {0}
IsOutcomeOfWork (outcomes.Refused place rule) (works.CheckImage image notes) = Unit {0}
IsOutcomeOfWork (outcomes.Refused place rule) (works.InferPoints name image notes) = Unit {0}
IsOutcomeOfWork (outcomes.Differ step) (works.Twin image notes script steps) = Unit {0}
IsOutcomeOfWork (outcomes.Differ step) (works.Pair a b binds steps) = Unit {0}
IsOutcomeOfWork (outcomes.TooLarge word) (works.InferPoints name image notes) = Unit {0}
IsOutcomeOfWork outcome work = ⊥

-- the answer to work has no text: it writes a file, the listing of the image is empty, or the image needs no points
abbrev pub HasNoText : Work → Type 0
HasNoText (works.ListImage image) = listing_of image ≡ []
HasNoText (works.WriteObject name object) = Unit {0}
HasNoText (works.WriteImage name image) = Unit {0}
HasNoText (works.WriteRom name vendor device subsystem image) = Unit {0}
HasNoText (works.WriteTaken name bytes) = Unit {0}
HasNoText (works.InferPoints name image notes) = IsInferred image notes (Points [])
HasNoText work = ⊥

-- the last line that was printed is this one
abbrev pub EndsWith : List ℕ → (before now : Option (List ℕ)) → Type 0
EndsWith line before now = (text : List ℕ) × (now ≡ printed (text ++ line) before)

-- ---- what the words name

-- the words are `check CODE`, and the folder has a file within its limit of this code
pub record ChecksCode (words : List (List ℕ)) (files : Files) (code : List ℕ) : Type 0 where
  pub name : List ℕ
  pub command : command_of words ≡ Some (CheckCode name)
  pub code_file : HasFile files name plain_code_limit code

-- the words are `check IMAGE NOTES`, and the folder has files within their limits that stand for this image and these notes
pub record ChecksImage (words : List (List ℕ)) (files : Files) (image : Image) (notes : Notes) : Type 0 where
  pub image_name : List ℕ
  pub notes_name : List ℕ
  pub bytes : List ℕ
  pub text : List ℕ
  pub command : command_of words ≡ Some (CheckImage image_name notes_name)
  pub image_file : HasFile files image_name image_limit bytes
  pub notes_file : HasFile files notes_name notes_limit text
  pub image_is : image_of bytes ≡ Ok image
  pub notes_are : notes_of text ≡ Ok notes

-- the words are `infer IMAGE NOTES`, where the image has this name, and so here
pub record InfersPoints (words : List (List ℕ)) (files : Files) (name : List ℕ) (image : Image) (notes : Notes) : Type 0 where
  pub notes_name : List ℕ
  pub bytes : List ℕ
  pub text : List ℕ
  pub command : command_of words ≡ Some (InferPoints name notes_name)
  pub image_file : HasFile files name image_limit bytes
  pub notes_file : HasFile files notes_name notes_limit text
  pub image_is : image_of bytes ≡ Ok image
  pub notes_are : notes_of text ≡ Ok notes

-- the folder has files of these names, within their limits, that stand for this image, these notes and this script under them
pub record HasRunFiles (files : Files) (image_name notes_name script_name : List ℕ) (image : Image) (notes : Notes)
    (script : Script) : Type 0 where
  pub bytes : List ℕ
  pub text : List ℕ
  pub script_text : List ℕ
  pub image_file : HasFile files image_name image_limit bytes
  pub notes_file : HasFile files notes_name notes_limit text
  pub script_file : HasFile files script_name script_limit script_text
  pub image_is : image_of bytes ≡ Ok image
  pub notes_are : notes_of text ≡ Ok notes
  pub script_is : script_of notes script_text ≡ Ok script

-- the words are `twin IMAGE NOTES SCRIPT STEPS` with this number of steps, which is at most 10,000,000, and the folder has files that stand
-- for this image, these notes and this script
pub record TwinsImage (words : List (List ℕ)) (files : Files) (image : Image) (notes : Notes) (script : Script) (steps : ℕ) : Type 0 where
  pub image_name : List ℕ
  pub notes_name : List ℕ
  pub script_name : List ℕ
  pub command : command_of words ≡ Some (Twin image_name notes_name script_name (decimal steps))
  pub within : steps ≤ step_limit
  pub has_files : HasRunFiles files image_name notes_name script_name image notes script

-- the folder has files of these names, within their limits, that stand for a driver of a pair: its script has no notifications
pub record HasDriver (files : Files) (names : DriverFiles) (driver : ReadDriver) : Type 0 where
  pub has_files : HasRunFiles files names.image names.notes names.script driver.image driver.notes driver.script
  pub unnotified : driver.script.notify ≡ []

-- the words are `pair IMAGE NOTES SCRIPT IMAGE2 NOTES2 SCRIPT2 BINDS STEPS` with this number of steps, which is at most 100,000, and the
-- folder has files that stand for both drivers, and a text of binds within its limit that stands for these binds under the notes of both
pub record PairsImages (words : List (List ℕ)) (files : Files) (a b : ReadDriver) (binds : List Bind) (steps : ℕ) : Type 0 where
  pub a_names : DriverFiles
  pub b_names : DriverFiles
  pub binds_name : List ℕ
  pub text : List ℕ
  pub command : command_of words ≡ Some (Pair a_names b_names binds_name (decimal steps))
  pub within : steps ≤ pair_step_limit
  pub has_a : HasDriver files a_names a
  pub has_b : HasDriver files b_names b
  pub binds_file : HasFile files binds_name binds_limit text
  pub binds_are : binds_of a.notes b.notes text ≡ Ok binds

-- ---- what `neutral` means

-- The image is the same at both widths: for every text that stands for a script under the notes, all valid placements and every number
-- of steps, the runs at 4 and at 8 bytes an address are the same, have the same cells, and have raised nothing but a division by zero.
abbrev pub SameForScripts : Image → Notes → Type 0
SameForScripts image notes =
    (text : List ℕ) (script : Script) (P Q : Placement) (k : ℕ) → script_of notes text ≡ Ok script
    → IsPlacement 4 (world_of image notes script) P → IsPlacement 8 (world_of image notes script) Q
    → AreSameAfter (world_of image notes script) image P Q k

-- A pair is the same at both widths: for all texts that stand for scripts under the notes of the two, all valid placements and every number
-- of steps, the runs at 4 and at 8 bytes an address are the same, have the same cells while they go on, and have raised nothing but a
-- division by zero.
abbrev pub SamePairForScripts : (a b : ReadDriver) → List Bind → Type 0
SamePairForScripts a b binds =
    (a_text b_text : List ℕ) (x y : Script) (P Q : Both Placement) (k : ℕ) → script_of a.notes a_text ≡ Ok x
    → script_of b.notes b_text ≡ Ok y
    → ArePlaced 4 (pair_world_of (with_script a x) (with_script b y) binds) P
    → ArePlaced 8 (pair_world_of (with_script a x) (with_script b y) binds) Q
    → SamePairAfter (images_of a b) (pair_world_of (with_script a x) (with_script b y) binds) P Q k
