-- For proofs: calls, and the stack beneath them: docs/FIRMWARE.md, "Warnings", `far`, `odd` and `frame`.
use Rattle.std.specs.Prelude.{ℕ, ◌%◌, Bool, true, false, not, ◌&&◌, nat_eq, nat_le, Option, None, Some, length, slice_get}
use Rattle.ebc_insn.specs.declared.Insn.{Insn}
use Rattle.ebc_insn.specs.declared.Insn.TheVariants.{Call}
use Rattle.note_types.specs.declared.notes.FnNote.{FnNote}
use Rattle.note_types.specs.declared.notes.Notes.{Notes}
use Rattle.note_types.specs.declared.notes.Signature.{Signature}
use Rattle.note_types.specs.declared.state.State.{State}
use Rattle.rules_base.specs.Parts.{and_then}
use Rattle.rules_base.specs.Places.{locals_size}
use Rattle.rules_flow.specs.Calls.{site_at}
use Rattle.rules_flow.specs.Frames.{items_size}

-- a native call
abbrev pub calls_native : Insn → Bool
calls_native (Call far true rel op extra) = true
calls_native i = false

-- a call of byte code
abbrev pub calls_function : Insn → Bool
calls_function (Call far false rel op extra) = true
calls_function i = false

-- a relative CALL64
abbrev pub calls_far : Insn → Bool
calls_far (Call true native true op extra) = true
calls_far i = false

-- the signature by which the native call at a place is made
unfoldable pub signature_at : Notes → ℕ → Option Signature
signature_at notes place = and_then (site_at notes.site place) (λ x. slice_get notes.signature x.signature)

-- how many arguments it has
abbrev pub count_of : Option Signature → ℕ
count_of None = 0
count_of (Some x) = length x.params

abbrev pub argument_count : Notes → ℕ → ℕ
argument_count notes place = count_of (signature_at notes place)

-- what the slots and the locals of a function take of the stack beside natural units, in bytes
abbrev pub stack_bytes : Notes → FnNote → State → ℕ
stack_bytes notes f s = (items_size (locals_size notes f) s.items).c

-- they take an odd number of bytes: natural units are even at both widths
abbrev pub is_odd : Notes → FnNote → State → Bool
is_odd notes f s = not (nat_eq (stack_bytes notes f s % 2) 0)

-- a native call at the place has nine or more arguments, and they take no multiple of eight bytes at width 8
abbrev pub is_many_apart : Notes → FnNote → ℕ → State → Bool
is_many_apart notes f place s = nat_le 9 (argument_count notes place) && not (nat_eq (stack_bytes notes f s % 8) 0)
