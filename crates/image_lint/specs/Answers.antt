-- For proofs: the answer to the words of `ebc_lint`. docs/FIRMWARE.md, "Warnings".
use Rattle.std.specs.Prelude.{◌≡◌, ◌↔◌, ℕ, Bool, true, false, List, [], ◌∷◌, ◌++◌, Option, None, Result, Ok, Err, if◌then◌else◌}
use Rattle.ebc_outside.specs.Files.{AppendsPart, Files}
use Rattle.image_warnings.specs.Warned.{AreWarnings}
use Rattle.image_warnings.specs.declared.warning.Warning.{Warning}
use Rattle.note_types.specs.declared.notes.Notes.{Notes}
use Rattle.note_types.specs.declared.rule.RuleName.{RuleName}
use Rattle.pe_image.specs.declared.image.Image.{Image}
use Rattle.printed_texts.specs.Refusals.{refused_line}
use Rattle.width_checker.specs.Typed.{Typed}
use Rattle.width_checker.specs.Verdicts.{IsRefused}
use Rattle.cli_base.specs.declared.outcome.Outcome.{Outcome}
use Rattle.cli_base.specs.declared.outcome.Outcome.TheVariants as outcomes
use Rattle.cli_base.specs.declared.reply.Reply.{Reply}
use Rattle.cli_base.specs.Outcomes.{IsAnswer, exit_status}
use Rattle.cli_base.specs.Outputs.{printed, prints, text_of, written_name}
use Rattle.cli_base.specs.Readings.{AsksPart, FileReading, MissingHasCause}
use Rattle.image_lint.specs.Requests.{files_named}
use Rattle.image_lint.specs.Texts.{warning_lines}
use Rattle.image_lint.specs.declared.answer.Answer.{Answer}

-- ---- what is replied

-- a reply to an image and its notes: the refusal, or the warnings of a typed image
pub data TellsLint (image : Image) (notes : Notes) (reply : Reply) : Type 0 where
  refused : (place : ℕ) (rule : RuleName) → IsRefused image notes place rule
      → reply ≡ prints (outcomes.Refused place rule) (refused_line place rule) → TellsLint image notes reply
  typed : Typed image notes → (warnings : List Warning) → AreWarnings image notes warnings
      → reply ≡ prints outcomes.Done (warning_lines warnings) → TellsLint image notes reply

-- a reading that went through is replied to so, and else by the reply at which it stopped
abbrev pub IsReplyOf : Result (Image × Notes) Reply → Reply → Type 0
IsReplyOf (Ok read) reply = TellsLint read.0 read.1 reply
IsReplyOf (Err stopped) reply = reply ≡ stopped

-- whether a text has something
abbrev pub is_some_text : List ℕ → Bool
is_some_text [] = false
is_some_text (c ∷ text) = true

-- whether a reply has a warning: it is done, and prints
abbrev pub warns : Outcome → List ℕ → Bool
warns outcomes.Done text = is_some_text text
warns outcome text = false

-- whether a call that ends so printed a warning, where its reply has one
abbrev pub warned_with : Outcome → Bool → Bool
warned_with outcomes.Done warned = warned
warned_with outcome warned = false

-- ---- what is answered

-- some reply of a reading has the outcome and the warnings, and its text was printed
pub record Answers (run : FileReading (Image × Notes)) (answer : Answer) (before now : Option (List ℕ)) : Type 0 where
  pub reply : Reply
  pub is_reply : IsReplyOf run.value reply
  pub same : answer.outcome ≡ reply.outcome
  pub warned : answer.warned ≡ warns reply.outcome (text_of reply.output)
  pub text : now ≡ printed (text_of reply.output) before

-- a first part of the text of some reply of a reading was printed
pub record LeavesPart (run : FileReading (Image × Notes)) (before now : Option (List ℕ)) : Type 0 where
  pub reply : Reply
  pub is_reply : IsReplyOf run.value reply
  pub part : AppendsPart (text_of reply.output) before now

-- the exit status: 1 of an answer with a warning, and else that of the outcome
abbrev pub lint_status : Answer → ℕ
lint_status answer = if answer.warned then 1 else exit_status answer.outcome

-- ---- what the steps promise

-- the reply is one of the reading, and all names were asked for
pub record IsDecided (before now : List (List ℕ)) (run : FileReading (Image × Notes)) (reply : Reply) : Type 0 where
  pub is_reply : IsReplyOf run.value reply
  pub asked : now ≡ before ++ run.asked

-- a reply that was decided is so; where a read failed or memory ran out, a first part of the names was asked for
abbrev pub Decides : List (List ℕ) → List (List ℕ) → Result Reply Outcome → FileReading (Image × Notes) → Type 0
Decides before now (Ok reply) run = IsDecided before now run reply
Decides before now (Err outcome) run = AsksPart before run.asked now

-- The causes of an answer that the files don't decide: it is BadWords exactly where the words name no files, and where the files aren't
-- told it is Missing only where the count of failed reads rose. It prints.
pub record AnswersWords (words : List (List ℕ)) (files : Option Files) (before now : ℕ) (reply : Reply) : Type 0 where
  pub answer : IsAnswer reply.outcome
  pub bad_words : reply.outcome ≡ outcomes.BadWords ↔ files_named words ≡ None
  pub missing : MissingHasCause files before now reply.outcome
  pub output : written_name reply.output ≡ None
