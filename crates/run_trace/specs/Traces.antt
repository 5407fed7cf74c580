-- For proofs: what is printed of the steps of a run. docs/TRACE.md.
use Rattle.std.specs.Prelude.{◌≡◌, ℕ, ◌+◌, ◌-◌, List, ◌++◌, drop, length}
use Rattle.std.specs.List.{flat_map, range_with_len}
use Rattle.host_model.specs.RunState.{RunState}
use Rattle.host_model.specs.World.{World}
use Rattle.pe_image.specs.declared.image.Image.{Image}
use Rattle.step_texts.specs.StateTexts.{holdings_text}
use Rattle.step_texts.specs.StepTexts.{step_text}
use Rattle.twin_run.specs.OnItsWay.{IsOnItsWay}
use Rattle.twin_run.specs.Reported.{own_run}
use Rattle.run_trace.specs.Calls.{open_calls, while_running}
use Rattle.run_trace.specs.Changes.{changed_lines}
use Rattle.run_trace.specs.Pointed.{pointed_lines}
use Rattle.run_trace.specs.States.{holdings_of, opened_lines}
use Rattle.run_trace.specs.Steps.{step_of}
use Rattle.run_trace.specs.declared.calls.InnerCall.{InnerCall}
use Rattle.run_trace.specs.declared.traced.TracedRun.{TracedRun}

-- the lines of the step of that number, from the state r to the state s, with the events that it added, and what the arguments of a
-- native call among these point to
unfoldable pub step_lines : ℕ → World → ℕ → RunState → RunState → List ℕ
step_lines w world number r s =
    let added = drop (length r.trace) s.trace in
    step_text world.notes (step_of w world number r s) added ++ pointed_lines w world s.machine added

-- the lines of the step of that number of a run, from 1: none where it ended before
unfoldable pub lines_of : ℕ → Image → World → ℕ → List ℕ
lines_of w image world number =
    let r = own_run w image world (number - 1) in
    while_running r.ending (step_lines w world number r (own_run w image world number))

-- the lines of the steps of a run that have these numbers, from the first to the last
abbrev pub told_lines : ℕ → Image → World → (first last : ℕ) → List ℕ
told_lines w image world first last = flat_map (lines_of w image world) (range_with_len first (last + 1 - first))

-- the lines of a state s of a run that began in the state r, where these CALLs are open: what the machine holds, what is open, and
-- what has changed
unfoldable pub state_lines : World → List InnerCall → (r s : RunState) → List ℕ
state_lines world calls r s =
    holdings_text world.notes (holdings_of world.notes s)
    ++ (opened_lines world.notes world.script calls s ++ changed_lines world.notes r s)

-- the lines of the state of a run after so many steps
abbrev pub state_after : ℕ → Image → World → ℕ → List ℕ
state_after w image world taken =
    state_lines world (open_calls w image world taken) (own_run w image world 0) (own_run w image world taken)

-- the lines of these steps of a run, and of the state after the last one
abbrev pub trace_lines : ℕ → Image → World → (first last : ℕ) → List ℕ
trace_lines w image world first last = told_lines w image world first last ++ state_after w image world last

-- A run that is followed has taken so many steps, and what is printed has behind an old text the lines of those from the first on.
pub record IsTold (w : ℕ) (image : Image) (world : World) (first limit taken : ℕ) (x : TracedRun w) (old new : List ℕ) : Type 0 where
  pub way : IsOnItsWay w image world limit taken x.runner
  pub calls : x.calls.items ≡ open_calls w image world taken
  pub text : new ≡ old ++ told_lines w image world first taken
