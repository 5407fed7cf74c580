-- Meaning: what `pair` reads, file by file, and what it replies: docs/COMMANDS.md, "The answer".
use Rattle.std.specs.Prelude.{◌≡◌, ℕ, ◌+◌, List, length, nat_eq, codes, Result}
use Rattle.ebc_base.specs.Steps.{passes}
use Rattle.ebc_outside.specs.Files.{Files}
use Rattle.host_model.specs.Runs.{world_of}
use Rattle.note_types.specs.declared.fault.TomlFault.{TomlFault}
use Rattle.note_types.specs.declared.fault.TomlFault.TheVariants.{Range}
use Rattle.note_types.specs.declared.notes.Notes.{Notes}
use Rattle.note_types.specs.declared.script.Script.{Script}
use Rattle.pair_host.specs.PairDiffers.{PairsDifferAt}
use Rattle.pair_host.specs.PairReported.{IsPairReport}
use Rattle.pair_host.specs.declared.reports.PairReport.{PairReport}
use Rattle.pair_host.specs.declared.reports.PairRun.{PairRun}
use Rattle.pair_model.specs.Pairs.{Both, PairWorld}
use Rattle.pair_model.specs.declared.bind.Bind.{Bind}
use Rattle.pe_image.specs.declared.image.Image.{Image}
use Rattle.printed_texts.specs.PairTexts.{pair_run_text}
use Rattle.printed_texts.specs.RunTexts.{twin_text}
use Rattle.cli_base.specs.declared.reply.Reply.{Reply}
use Rattle.cli_base.specs.Outputs.{prints}
use Rattle.cli_base.specs.Readings.{FileReading, done, ◌>>=◌, told}
use Rattle.ebc_cli.specs.declared.command.DriverFiles.{DriverFiles}
use Rattle.ebc_cli.specs.declared.pairing.ReadDriver.{ReadDriver}
use Rattle.ebc_cli.specs.Inputs.{binds_limit, binds_meaning}
use Rattle.file_inputs.specs.Inputs.{bad_notes_reply, input}
use Rattle.ebc_cli.specs.Runnings.{run_files, twin_outcome}

-- ---- what is read

-- the fault of a script of a pair that has notifications
abbrev pub notify_fault : TomlFault
notify_fault = Range (codes "notify")

-- a script of a pair has none
unfoldable pub unnotified : ℕ → List ℕ → Script → Result (Unit {0}) Reply
unnotified word name script = passes (nat_eq (length script.notify) 0) (bad_notes_reply word name notify_fault)

-- the image, the notes and the script under them of a driver, which the words from this one on name; the script has no notifications
unfoldable pub driver_files : ℕ → DriverFiles → Files → FileReading ReadDriver
driver_files word names files = do
  read ← run_files word names.image names.notes names.script files
  _ ← told (unnotified (word + 2) names.script read.2)
  done (record { image = read.0; notes = read.1; script = read.2 })

-- image A and what is read with it, image B and what is read with it, and the binds under the notes of both
unfoldable pub pair_files : (a b : DriverFiles) → List ℕ → Files → FileReading (ReadDriver × ReadDriver × List Bind)
pair_files a_names b_names binds_name files = do
  a ← driver_files 1 a_names files
  b ← driver_files 4 b_names files
  binds ← input binds_limit (binds_meaning a.notes b.notes) 7 binds_name files
  done (a, b, binds)

-- ---- what is replied

abbrev pub images_of : (a b : ReadDriver) → Both Image
images_of a b = record { a = a.image; b = b.image }

-- what a run of the pair is about
abbrev pub pair_world_of : (a b : ReadDriver) → List Bind → PairWorld
pair_world_of a b binds = record {
  a = world_of a.image a.notes a.script;
  b = world_of b.image b.notes b.script;
  binds = binds;
}

-- a driver with another script
abbrev pub with_script : ReadDriver → Script → ReadDriver
with_script d script = record d { script = script }

-- what the runs of a pair at both widths show, each up to a number of steps, and the least after which they aren't the same, if there is
-- one
pub record IsPairTwinReport (a b : ReadDriver) (binds : List Bind) (steps : ℕ) (x : PairReport) : Type 0 where
  pub at4 : IsPairReport 4 (images_of a b) (pair_world_of a b binds) steps x.at4
  pub at8 : IsPairReport 8 (images_of a b) (pair_world_of a b binds) steps x.at8
  pub differ : PairsDifferAt (images_of a b) (pair_world_of a b binds) steps x.differ

abbrev pub pair_report_text : (a b : Notes) → PairRun → List ℕ
pair_report_text a b x = pair_run_text a b x.events.items x.steps x.spot x.ending

abbrev pub pair_twin_text : (a b : Notes) → PairReport → List ℕ
pair_twin_text a b x = twin_text (pair_report_text a b x.at4) (pair_report_text a b x.at8) x.differ

-- the reply tells the runs of the pair at both widths
pub record TellsPair (a b : ReadDriver) (binds : List Bind) (steps : ℕ) (reply : Reply) : Type 0 where
  pub report : PairReport
  pub shown : IsPairTwinReport a b binds steps report
  pub told : reply ≡ prints (twin_outcome report.differ) (pair_twin_text a.notes b.notes report)
