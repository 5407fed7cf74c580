-- For proofs: what a run holds between two steps: docs/TRACE.md, "The state at the end".
use Rattle.std.specs.Prelude.{ℕ, List, [], ◌∷◌, ◌++◌, Option, Some, None, length, map, nat_eq, option_map, reverse, slice_get, slice_index}
use Rattle.std.specs.List.{filter, flat_map, range_with_len}
use Rattle.ebc_width.specs.Ranges.{Range}
use Rattle.callex_thunk.specs.HostFrames.{saved_of}
use Rattle.frame_stack.specs.declared.Frame.{Frame}
use Rattle.host_model.specs.Progress.{Accepted, Asked, NativeCall, NoCall}
use Rattle.host_model.specs.RunState.{RunState, SavedFrame}
use Rattle.note_types.specs.declared.notes.Notes.{Notes}
use Rattle.note_types.specs.declared.script.Script.{Script}
use Rattle.note_types.specs.declared.script.ScriptCall.{ScriptCall}
use Rattle.step_texts.specs.StateTexts.{back_line, call_line, function_line}
use Rattle.step_texts.specs.declared.state.Holdings.{Holdings}
use Rattle.step_texts.specs.declared.state.OpenCall.{OpenCall}
use Rattle.step_texts.specs.declared.state.OpenCall.TheVariants as calls
use Rattle.step_texts.specs.declared.state.OpenFunction.{OpenFunction}
use Rattle.step_texts.specs.declared.step.Change.{Change}
use Rattle.twin_run.specs.Watching.{has_c}
use Rattle.twin_run.specs.declared.runner.AskedCall.{AskedCall}
use Rattle.run_trace.specs.Addresses.{held}
use Rattle.run_trace.specs.declared.calls.InnerCall.{InnerCall}

-- ---- the machine

-- what R0 to R7 hold
abbrev pub registers_held : Notes → List Range → List ℕ → List (Option Change)
registers_held notes objects registers = map (λ r. Some (held notes objects (slice_index registers r))) (range_with_len 0 8)

-- what the machine of a state holds
unfoldable pub holdings_of : Notes → RunState → Holdings
holdings_of notes s = record {
  registers = registers_held notes s.machine.objects s.machine.registers;
  ip = held notes s.machine.objects s.machine.ip;
  has_c = has_c s.machine;
}

-- ---- what is open

-- the call of the script of that number, from 0, with its signature
abbrev pub accepted_of : Script → ℕ → OpenCall
accepted_of script entry = calls.Accepted entry (option_map (λ (c : ScriptCall). c.signature) (slice_get script.call entry))

-- the native call that is under way above a frame
abbrev pub under_way : Script → NativeCall ℕ → Option OpenCall
under_way script NoCall = None
under_way script (Asked place target) = Some (calls.Asked place)
under_way script (Accepted entry callbacks slots) = Some (accepted_of script entry)

-- a frame as the state has it, where a native call is asked for above it or not
abbrev pub saved_with : Option AskedCall → Frame → SavedFrame
saved_with None f = saved_of f
saved_with (Some a) f = record (saved_of f) { call = Asked a.place a.target }

-- the function of a frame: the run goes on at the address that the frame has kept once it has returned
abbrev pub open_of : Notes → List Range → SavedFrame → OpenFunction
open_of notes objects f = record { function = f.func; notified = f.notified; back = held notes objects f.ip }

-- the lines of the CALLs that were done while so many functions of the host were open, the last one first
unfoldable pub back_lines : Notes → List Range → List InnerCall → ℕ → List ℕ
back_lines notes objects calls depth =
    flat_map (λ (c : InnerCall). back_line notes (held notes objects c.back)) (filter (λ c. nat_eq c.entered depth) (reverse calls))

-- the lines of a frame, which with those below it is one of so many: of the native call above it, of the CALLs in its function, and of
-- the function
unfoldable pub frame_lines : Notes → Script → List Range → List InnerCall → ℕ → SavedFrame → List ℕ
frame_lines notes script objects calls depth f =
    call_line notes (under_way script f.call) ++ (back_lines notes objects calls depth ++ function_line notes (open_of notes objects f))

-- those of frames, the last one first
unfoldable pub frames_lines : Notes → Script → List Range → List InnerCall → List SavedFrame → List ℕ
frames_lines notes script objects calls [] = []
frames_lines notes script objects calls (f ∷ fs) =
    frame_lines notes script objects calls (length (f ∷ fs)) f ++ frames_lines notes script objects calls fs

-- what the host entered and the image called, and hasn't returned
abbrev pub opened_lines : Notes → Script → List InnerCall → RunState → List ℕ
opened_lines notes script calls s = frames_lines notes script s.machine.objects calls s.hosts
