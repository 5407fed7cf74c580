-- For proofs: the answer to the words of `ebc_notes`. docs/LABELS.md, "What is answered".
use Rattle.std.specs.Prelude.{◌≡◌, ◌↔◌, ◌≤◌, ℕ, List, [], ◌++◌, length, Option, None, Result, Ok, Err, All, string_bytes}
use Rattle.ebc_link.specs.declared.plan.LinkPlan.{LinkPlan}
use Rattle.ebc_object.specs.Objects.{IsObject}
use Rattle.ebc_object.specs.declared.object.Object.{Object}
use Rattle.ebc_outside.specs.Files.{AppendsPart, Files}
use Rattle.label_places.specs.Labels.{labels_of}
use Rattle.label_places.specs.Sought.{place_by}
use Rattle.label_places.specs.declared.label.Label.{Label}
use Rattle.note_completion.specs.Causes.{FaultHasCause, LargeHasCause, RefusedHasCause}
use Rattle.note_completion.specs.Completions.{Completes, TellsFirstFlaw, label_faults}
use Rattle.note_completion.specs.declared.completion.Completion.{Completion}
use Rattle.note_completion.specs.declared.completion.Completion.TheVariants as completions
use Rattle.pe_image.specs.Images.{IsImage}
use Rattle.pe_image.specs.declared.image.Image.{Image}
use Rattle.printed_texts.specs.Refusals.{refused_line}
use Rattle.cli_base.specs.declared.outcome.Outcome.{Outcome}
use Rattle.cli_base.specs.declared.outcome.Outcome.TheVariants as outcomes
use Rattle.cli_base.specs.declared.reply.Reply.{Reply}
use Rattle.cli_base.specs.Inputs.{bad_reply}
use Rattle.cli_base.specs.Outcomes.{IsAnswer}
use Rattle.cli_base.specs.Outputs.{printed, prints, text_of, written_name}
use Rattle.cli_base.specs.Readings.{AsksPart, FileReading, MissingHasCause, large_reply}
use Rattle.file_inputs.specs.Faults.{key_path, toml_fault_number, toml_fault_text}
use Rattle.label_notes.specs.Maps.{IsMap}
use Rattle.label_notes.specs.Requests.{files_named, request_of}
use Rattle.label_notes.specs.declared.request.Request.{Request}
use Rattle.label_notes.specs.declared.request.Request.TheVariants as requests

-- ---- what is replied

-- the reply that tells what comes of the text of this name, with more behind the path of a fault, or behind the line of a refusal
abbrev pub completion_reply : List ℕ → List ℕ → Completion → Reply
completion_reply name more (completions.Whole text) = prints outcomes.Done (string_bytes text)
completion_reply name more (completions.Fault flaw) =
    bad_reply 1 name (toml_fault_number flaw.fault) (toml_fault_text flaw.fault) (key_path flaw.fault ++ more)
completion_reply name more (completions.Refused place rule state) = prints (outcomes.Refused place rule) (refused_line place rule ++ more)
completion_reply name more completions.Large = large_reply 1 name

-- A reply tells what comes of a text: complete notes, where it prints such; and the first fault of a label, where the text has one. A
-- refusal, `large` and a fault each have their cause.
pub record TellsNotes (objects : List (List ℕ)) (labels : List Label) (image : Image) (name text : List ℕ) (reply : Reply) : Type 0 where
  pub completion : Completion
  pub more : List ℕ
  pub whole : Completes image (place_by objects labels) text completion
  pub first : TellsFirstFlaw (label_faults objects labels text) completion
  pub refused : RefusedHasCause image (place_by objects labels) text completion
  pub large : LargeHasCause image (place_by objects labels) text completion
  pub faulty : FaultHasCause image (place_by objects labels) (label_faults objects labels text) text completion
  pub told : reply ≡ completion_reply name more completion

-- A reply prints labels by their places.
pub record ShowsLabels (objects : List (List ℕ)) (labels : List Label) (reply : Reply) : Type 0 where
  pub text : List ℕ
  pub map : IsMap objects labels text
  pub told : reply ≡ prints outcomes.Done text

-- the replies to what is asked
abbrev pub IsReplyTo : Request → Reply → Type 0
IsReplyTo (requests.Map plan objects) reply = ShowsLabels plan.objects (labels_of objects) reply
IsReplyTo (requests.Notes plan objects image name text) reply = TellsNotes plan.objects (labels_of objects) image name text reply

-- a reading that went through is replied to as what is asked, and else by the reply at which it stopped
abbrev pub IsReplyOf : Result Request Reply → Reply → Type 0
IsReplyOf (Ok request) reply = IsReplyTo request reply
IsReplyOf (Err stopped) reply = reply ≡ stopped

-- ---- what is answered

-- some reply of a reading has the outcome, and its text was printed
pub record Answers (run : FileReading Request) (outcome : Outcome) (before now : Option (List ℕ)) : Type 0 where
  pub reply : Reply
  pub answer : IsReplyOf run.value reply
  pub same : outcome ≡ reply.outcome
  pub text : now ≡ printed (text_of reply.output) before

-- a first part of the text of some reply of a reading was printed
pub record LeavesPart (run : FileReading Request) (before now : Option (List ℕ)) : Type 0 where
  pub reply : Reply
  pub answer : IsReplyOf run.value reply
  pub part : AppendsPart (text_of reply.output) before now

-- The words ask for a map, and the plan's objects have no label.
pub record AsksNoLabels (words : List (List ℕ)) (files : Files) : Type 0 where
  pub plan : LinkPlan
  pub objects : List Object
  pub asked : (request_of words files).value ≡ Ok (requests.Map plan objects)
  pub none : labels_of objects ≡ []

-- ---- what the steps promise

-- what was read can be replied to: the objects are such, no more than a plan names, and what they are linked to is an image
abbrev pub CanBeReplied : Request → Type 0
CanBeReplied (requests.Map plan objects) = All IsObject objects × (length objects ≤ 256)
CanBeReplied (requests.Notes plan objects image name text) = All IsObject objects × (length objects ≤ 256) × IsImage image

-- the outcomes of what is asked, once the files are read
abbrev pub IsRequestAnswer : Outcome → Type 0
IsRequestAnswer outcomes.Done = Unit {0}
IsRequestAnswer (outcomes.Refused place rule) = Unit {0}
IsRequestAnswer (outcomes.BadInput word fault) = Unit {0}
IsRequestAnswer (outcomes.TooLarge word) = Unit {0}
IsRequestAnswer outcome = ⊥

-- the reply is one of the reading, and all names were asked for
pub record IsDecided (before now : List (List ℕ)) (run : FileReading Request) (reply : Reply) : Type 0 where
  pub answer : IsReplyOf run.value reply
  pub asked : now ≡ before ++ run.asked

-- a reply that was decided is so; where a read failed or memory ran out, a first part of the names was asked for
abbrev pub Decides : List (List ℕ) → List (List ℕ) → Result Reply Outcome → FileReading Request → Type 0
Decides before now (Ok reply) run = IsDecided before now run reply
Decides before now (Err outcome) run = AsksPart before run.asked now

-- The causes of an answer that the files don't decide: it is BadWords exactly where the words name no files, and where the files aren't
-- told it is Missing only where the count of failed reads rose. It prints.
pub record AnswersWords (words : List (List ℕ)) (files : Option Files) (before now : ℕ) (reply : Reply) : Type 0 where
  pub answer : IsAnswer reply.outcome
  pub bad_words : reply.outcome ≡ outcomes.BadWords ↔ files_named words ≡ None
  pub missing : MissingHasCause files before now reply.outcome
  pub output : written_name reply.output ≡ None
