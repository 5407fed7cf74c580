-- Meaning: what `run` and `twin` read, file by file, and what they reply: docs/COMMANDS.md, "The answer".
use Rattle.std.specs.Prelude.{◌≡◌, ℕ, ◌+◌, List, Option, Some, None}
use Rattle.ebc_outside.specs.Files.{Files}
use Rattle.host_model.specs.Runs.{world_of}
use Rattle.note_types.specs.declared.notes.Notes.{Notes}
use Rattle.note_types.specs.declared.script.Script.{Script}
use Rattle.pe_image.specs.declared.image.Image.{Image}
use Rattle.printed_texts.specs.RunTexts.{run_text, twin_text}
use Rattle.twin_run.specs.Differs.{DifferAt}
use Rattle.twin_run.specs.Reported.{IsReport}
use Rattle.twin_run.specs.declared.reports.RunReport.{RunReport}
use Rattle.twin_run.specs.declared.reports.TwinReport.{TwinReport}
use Rattle.cli_base.specs.declared.outcome.Outcome.{Outcome}
use Rattle.cli_base.specs.declared.outcome.Outcome.TheVariants.{Done, Differ}
use Rattle.cli_base.specs.declared.reply.Reply.{Reply}
use Rattle.cli_base.specs.Inputs.{image_limit, image_meaning}
use Rattle.cli_base.specs.Outputs.{prints}
use Rattle.cli_base.specs.Readings.{FileReading, done, ◌>>=◌}
use Rattle.ebc_cli.specs.Inputs.{script_limit, script_meaning}
use Rattle.file_inputs.specs.Inputs.{input, notes_limit, notes_meaning}

-- the image, the notes and the script under them that the words from this one on name, each read whole before the next
unfoldable pub run_files : ℕ → List ℕ → List ℕ → List ℕ → Files → FileReading (Image × Notes × Script)
run_files word image_name notes_name script_name files = do
  image ← input image_limit image_meaning word image_name files
  notes ← input notes_limit notes_meaning (word + 1) notes_name files
  script ← input script_limit (script_meaning notes) (word + 2) script_name files
  done (image, notes, script)

-- ---- what is replied

abbrev pub report_text : Notes → RunReport → List ℕ
report_text notes x = run_text notes x.events.items x.steps x.spot x.ending

-- the reply tells the run at a width, up to a number of steps
pub record TellsRun (w : ℕ) (image : Image) (notes : Notes) (script : Script) (steps : ℕ) (reply : Reply) : Type 0 where
  pub report : RunReport
  pub shown : IsReport w image (world_of image notes script) steps report
  pub told : reply ≡ prints Done (report_text notes report)

-- what the runs at both widths show, each up to a number of steps, and the least after which they aren't the same, if there is one
pub record IsTwinReport (image : Image) (notes : Notes) (script : Script) (steps : ℕ) (x : TwinReport) : Type 0 where
  pub at4 : IsReport 4 image (world_of image notes script) steps x.at4
  pub at8 : IsReport 8 image (world_of image notes script) steps x.at8
  pub differ : DifferAt image (world_of image notes script) steps x.differ

abbrev pub twin_report_text : Notes → TwinReport → List ℕ
twin_report_text notes x = twin_text (report_text notes x.at4) (report_text notes x.at8) x.differ

-- how a run at both widths ends: done where the two are the same after each number of steps
abbrev pub twin_outcome : Option ℕ → Outcome
twin_outcome None = Done
twin_outcome (Some step) = Differ step

-- the reply tells the runs at both widths
pub record TellsTwin (image : Image) (notes : Notes) (script : Script) (steps : ℕ) (reply : Reply) : Type 0 where
  pub report : TwinReport
  pub shown : IsTwinReport image notes script steps report
  pub told : reply ≡ prints (twin_outcome report.differ) (twin_report_text notes report)
