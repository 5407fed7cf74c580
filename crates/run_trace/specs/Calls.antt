-- For proofs: the CALLs of an image that haven't returned: docs/TRACE.md, "The state at the end".
use Rattle.std.specs.Prelude.{ℕ, ◌+◌, ◌-◌, ◌%◌, ◌^◌, Bool, false, not, List, [], ◌∷◌, length, nat_le, Option, Some, None}
use Rattle.std.specs.Prelude.{Result, Ok, Err, if◌then◌else◌, slice_index}
use Rattle.std.specs.List.{flat_map, list_all, range_with_len}
use Rattle.std.specs.Option.{option_map}
use Rattle.ebc_insn.specs.declared.Insn.{Insn}
use Rattle.ebc_insn.specs.declared.Insn.TheVariants as insns
use Rattle.ebc_machine.specs.Fetch.{fetched}
use Rattle.host_model.specs.RunState.{RunState}
use Rattle.host_model.specs.World.{World}
use Rattle.note_types.specs.declared.ending.Ending.{Ending}
use Rattle.note_types.specs.declared.ending.Ending.TheVariants.{Running}
use Rattle.note_types.specs.declared.exception.Exception.{Exception}
use Rattle.pe_image.specs.declared.image.Image.{Image}
use Rattle.twin_run.specs.Reported.{own_run}
use Rattle.twin_run.specs.Watching.{is_hosts_turn}
use Rattle.run_trace.specs.declared.calls.InnerCall.{InnerCall}

-- ---- a step

-- whether an instruction is a CALL to the image: UEFI specification, chapter "EFI Byte Code Virtual Machine", section "CALL"
abbrev pub is_call : Insn → Bool
is_call (insns.Call far native relative op extra) = not native
is_call _ = false

-- the length of the instruction that was found, if it is such a CALL
abbrev pub call_length : Result (Insn × ℕ) Exception → Option ℕ
call_length (Ok found) = if is_call found.0 then Some found.1 else None
call_length (Err e) = None

-- the address behind the next instruction, where that is such a CALL
unfoldable pub next_back : World → RunState → Option ℕ
next_back world r =
    if is_hosts_turn world r then None else option_map (λ n. (r.machine.ip + n) % 2 ^ 64) (call_length (fetched r.machine))

-- what a run has where it goes on
abbrev pub while_running : {A : Type 0} → Ending → List A → List A
while_running Running xs = xs
while_running _ xs = []

-- R0
abbrev pub stack_top : RunState → ℕ
stack_top s = slice_index s.machine.registers 0

-- the CALL that returns to an address and was the last step of a run, which then is in the state s
abbrev pub call_of : RunState → Option ℕ → List InnerCall
call_of s None = []
call_of s (Some back) = while_running s.ending (record { entered = length s.hosts; stack = stack_top s; back = back } ∷ [])

-- ---- along a run

-- whether the top of a stack lies nowhere above where step i has put it, from there on to the state after k steps
abbrev pub stays_below : (top : ℕ → ℕ) → (i k : ℕ) → Bool
stays_below top i k = list_all (λ j. nat_le (top j) (top i)) (range_with_len i (k + 1 - i))

-- what step i has put there, if it still lies there after k steps
unfoldable pub still_open : {A : Type 0} → (top : ℕ → ℕ) → (put : ℕ → List A) → (k i : ℕ) → List A
still_open top put k i = if stays_below top i k then put i else []

-- what steps have put there and still lies there after k of them, the first one first
unfoldable pub all_open : {A : Type 0} → (top : ℕ → ℕ) → (put : ℕ → List A) → ℕ → List A
all_open top put k = flat_map (still_open top put k) (range_with_len 1 k)

module _ (w : ℕ) (image : Image) (world : World) where
  -- where R0 lies after so many steps
  abbrev pub top_after : ℕ → ℕ
  top_after k = stack_top (own_run w image world k)

  -- the CALL that was step i
  abbrev pub call_at : ℕ → List InnerCall
  call_at i = call_of (own_run w image world i) (next_back world (own_run w image world (i - 1)))

  -- those that haven't returned after so many steps: RET takes what they put on the stack, so that R0 lies above it
  abbrev pub open_calls : ℕ → List InnerCall
  open_calls k = all_open top_after call_at k
