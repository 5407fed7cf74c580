-- For proofs: what is printed of the steps of an image's runs at both widths. docs/TRACE.md, "Both widths".
use Rattle.std.specs.Prelude.{◌≡◌, ℕ, ◌+◌, ◌-◌, List, ◌++◌, Option, Some, None, max, min}
use Rattle.std.specs.List.{flat_map, range_with_len}
use Rattle.host_model.specs.World.{World}
use Rattle.note_types.specs.declared.notes.Notes.{Notes}
use Rattle.pe_image.specs.declared.image.Image.{Image}
use Rattle.printed_texts.specs.RunTexts.{differ_line, end_line}
use Rattle.run_trace.specs.Following.{IsAfter}
use Rattle.run_trace.specs.Traces.{lines_of, state_after}
use Rattle.run_trace.specs.declared.telling.Program.{Program}
use Rattle.side_by_side.specs.SideBySide.{side_by_side}
use Rattle.twin_run.specs.Differs.{DifferAt}
use Rattle.twin_run.specs.Reported.{IsReport}
use Rattle.twin_run.specs.declared.reports.RunReport.{RunReport}
use Rattle.twin_trace.specs.declared.runs.BothRuns.{BothRuns}

-- ---- what is printed

-- the lines of the step of that number at width 32 beside those at width 64
unfoldable pub step_beside : Image → World → ℕ → List ℕ
step_beside image world number = side_by_side (lines_of 4 image world number) (lines_of 8 image world number)

-- the lines of all steps behind the first so many, up to the last of that number
abbrev pub steps_beside : Image → World → (passed last : ℕ) → List ℕ
steps_beside image world passed last = flat_map (step_beside image world) (range_with_len (passed + 1) (last - passed))

-- the last step that is told, of runs that first differ after so many steps, or never: the one that parts them
abbrev pub last_told : ℕ → (differ : Option ℕ) → ℕ
last_told last None = last
last_told last (Some k) = max 1 k

-- the lines of the steps that are told: behind the line that says so stands the step that parts the runs, and in front of it at least
-- the step before
unfoldable pub told_steps : Image → World → (first last : ℕ) → (differ : Option ℕ) → List ℕ
told_steps image world first last None = steps_beside image world (first - 1) last
told_steps image world first last (Some k) =
    steps_beside image world (min (first - 1) (last - 2)) (last - 1) ++ (differ_line (Some k) ++ steps_beside image world (last - 1) last)

-- the lines of the state at width 32 beside those at width 64
unfoldable pub states_beside : Image → World → ℕ → List ℕ
states_beside image world taken = side_by_side (state_after 4 image world taken) (state_after 8 image world taken)

-- the lines of the steps that are told, and those of the states after the last one
abbrev pub both_told_lines : Image → World → (first last : ℕ) → (differ : Option ℕ) → List ℕ
both_told_lines image world first last differ = told_steps image world first last differ ++ states_beside image world last

-- the last line of a report
abbrev pub last_line : Notes → RunReport → List ℕ
last_line notes report = end_line notes report.steps report.spot report.ending

-- ---- texts

-- A text has the last lines of what both runs report up to a last step behind an old text.
pub record HasEnds (image : Image) (world : World) (last : ℕ) (old new : List ℕ) : Type 0 where
  pub at4 : RunReport
  pub at8 : RunReport
  pub reports4 : IsReport 4 image world last at4
  pub reports8 : IsReport 8 image world last at8
  pub lines : new ≡ old ++ side_by_side (last_line world.notes at4) (last_line world.notes at8)

-- A text is that of both runs from a first step to a last one.
pub record IsBothText (image : Image) (world : World) (first last : ℕ) (text : List ℕ) : Type 0 where
  pub differ : Option ℕ
  pub parts : DifferAt image world last differ
  pub ends : HasEnds image world (last_told last differ) (both_told_lines image world first (last_told last differ) differ) text

-- ---- runs on their way

-- Both runs are where those at their widths are after so many steps.
pub record AreBothAfter (p : Program) (taken : ℕ) (x : BothRuns) : Type 0 where
  pub at4 : IsAfter 4 p taken x.at4
  pub at8 : IsAfter 8 p taken x.at8
