-- Meaning: what a sample comes to, whose texts the program makes itself, and what is replied: docs/COMMANDS.md, "Samples".
use Rattle.std.specs.Prelude.{◌≡◌, ℕ, List, [], ◌∷◌, length, Result, Ok}
use Rattle.ebc_base.specs.Steps.{◌>>=◌}
use Rattle.pe_image.specs.declared.image.Image.{Image}
use Rattle.plain_check.specs.declared.verdict.Verdict.{Verdict}
use Rattle.printed_texts.specs.RunTexts.{differ_line}
use Rattle.printed_texts.specs.Samples.{ending_number, notes_text, sample_line, sample_plan, script_text, source_text}
use Rattle.twin_run.specs.declared.reports.TwinReport.{TwinReport}
use Rattle.width_checker.specs.Verdicts.{IsVerdict}
use Rattle.cli_base.specs.declared.outcome.Outcome.TheVariants.{Done}
use Rattle.cli_base.specs.declared.reply.Reply.{Reply}
use Rattle.cli_base.specs.Outputs.{prints}
use Rattle.ebc_cli.specs.declared.sampling.BuiltSample.{BuiltSample}
use Rattle.ebc_cli.specs.Inputs.{script_meaning, step_limit}
use Rattle.file_inputs.specs.Inputs.{link_meaning, notes_meaning, source_meaning}
use Rattle.ebc_cli.specs.Runnings.{IsTwinReport}
use Rattle.ebc_cli.specs.Texts.{verdict_text}

-- ---- what a sample comes to

-- how many bytes of code the source of a sample of n functions has, and the image that its object is linked to by the plan; a fault is
-- told of the word N, by its digits
unfoldable pub sample_image : List ℕ → ℕ → Result (ℕ × Image) Reply
sample_image digits n = do
  object ← source_meaning 1 digits (source_text n)
  image ← link_meaning 1 digits (object ∷ []) sample_plan
  Ok (length object.code, image)

-- and the notes and the script that its other texts stand for
unfoldable pub sample_of : List ℕ → ℕ → Result BuiltSample Reply
sample_of digits n = do
  built ← sample_image digits n
  notes ← notes_meaning 1 digits (notes_text n)
  script ← script_meaning notes 1 digits script_text
  Ok (record { functions = n; code = built.0; image = built.1; notes = notes; script = script })

-- ---- what is replied

-- the line of a sample, of the verdict on its image and the report of its runs
abbrev pub built_line : BuiltSample → Verdict → TwinReport → List ℕ
built_line x verdict report =
    sample_line x.functions x.code (ending_number report.at4.ending) report.at4.steps (verdict_text verdict) (differ_line report.differ)

-- the reply tells the verdict on the image under the notes and the runs at both widths, up to the greatest number of steps
pub record TellsSample (x : BuiltSample) (reply : Reply) : Type 0 where
  pub verdict : Verdict
  pub report : TwinReport
  pub checked : IsVerdict x.image x.notes verdict
  pub shown : IsTwinReport x.image x.notes x.script step_limit report
  pub told : reply ≡ prints Done (built_line x verdict report)
