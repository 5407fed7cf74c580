-- For proofs: what entering a function keeps, and what holds of its ends. docs/HOST.md, "The start" and "The state".
use Rattle.std.specs.Prelude.{ℕ, ◌^◌, List, nat_le, replicate, slice_set, ⊤, if◌then◌else◌}
use Rattle.frame_stack.specs.declared.Frame.{Frame}
use Rattle.ebc_machine.specs.declared.Machine.{Machine}
use Rattle.note_types.specs.Concrete.{Concrete}
use Rattle.host_model.specs.HostSteps.{as_before, outside}
use Rattle.host_model.specs.RunState.{SavedFrame}
use Rattle.callex_thunk.specs.declared.TheConstants.{NO_ENTRY}
use Rattle.entry_thunk.specs.declared.EnterEnd.{EnterEnd}
use Rattle.entry_thunk.specs.declared.EnterEnd.TheVariants as ends

-- the frame that keeps what a machine holds, with no native call above it
unfoldable pub frame_of : {w : ℕ} → Machine w → ℕ → Frame
frame_of m func = record {
  regs = m.regs;
  ip = m.ip;
  flags = m.flags;
  entry = NO_ENTRY;
  callback = 0;
  func = func;
  count = 0;
  slots =
      replicate 16 0;
}

-- the machine once a frame is left: one of a notification gives R7 back too
abbrev pub once_left : Concrete → SavedFrame → Concrete
once_left s f = if f.notified then as_before s f else outside s f

-- the registers then, where R7 was this
abbrev pub registers_left : Frame → ℕ → List ℕ
registers_left f r7 = if nat_le (2 ^ 31) f.func then f.regs else slice_set f.regs 7 r7

-- where the function is entered
abbrev pub OnDone : EnterEnd → Type 0 → Type 0
OnDone ends.Done P = P
OnDone _ P = ⊤

-- where it isn't
abbrev pub OnRefused : EnterEnd → Type 0 → Type 0
OnRefused ends.Done P = ⊤
OnRefused _ P = P
