-- For proofs: the bytes that an instruction stores, by its form. UEFI specification, chapter "EFI Byte Code Virtual Machine",
-- section "EBC Instruction Set"; in words in docs/MACHINE.md, "Moves", "The stack" and "Flow". The width w is how many bytes
-- an address has, and `registers` is what R0 to R7 hold before the instruction.
use Rattle.std.specs.Prelude.{ℕ, ◌+◌, ◌-◌, ◌%◌, ◌^◌, false, List, Option, Some, None, nat_eq, if◌then◌else◌, slice_index, slice_set}
use Rattle.ebc_width.specs.Width.{cut_at}
use Rattle.ebc_insn.specs.declared.Insn.{Insn}
use Rattle.ebc_insn.specs.declared.Insn.TheVariants as insns
use Rattle.ebc_machine.specs.Operands.{form_bytes, plain, size_bytes, with_extra, with_index}
use Rattle.ebc_machine.specs.declared.operand.Side.{Side}
use Rattle.run_trace.specs.declared.stores.StoreRange.{StoreRange}

-- the k bytes of an operand that is in memory
abbrev pub operand_bytes : ℕ → List ℕ → ℕ → Side → Option StoreRange
operand_bytes w registers k o =
    if o.indirect then Some (record { address = cut_at w ((slice_index registers o.reg + o.offset) % 2 ^ 64); size = k }) else None

-- the k bytes that are put on top of the stack
abbrev pub pushed_bytes : ℕ → List ℕ → ℕ → Option StoreRange
pushed_bytes w registers k = Some (record { address = cut_at w ((slice_index registers 0 + (2 ^ 64 - k)) % 2 ^ 64); size = k })

-- the k bytes of an operand of POP that is in memory: its address counts from R0 as it is with these bytes taken off the stack
abbrev pub popped_bytes : ℕ → List ℕ → ℕ → Side → Option StoreRange
popped_bytes w registers k o = operand_bytes w (slice_set registers 0 ((slice_index registers 0 + k) % 2 ^ 64)) k o

-- the thunk cell that BREAK 5 has filled in
abbrev pub thunk_bytes : ℕ → List ℕ → ℕ → Option StoreRange
thunk_bytes w registers code = if nat_eq code 5 then Some (record { address = slice_index registers 7; size = w }) else None

-- the bytes that an instruction stores; all forms that aren't named here store none
unfoldable pub stored_by : ℕ → List ℕ → Insn → Option StoreRange
stored_by w registers (insns.Break code) = thunk_bytes w registers code
stored_by w registers (insns.Call far false relative op extra) = pushed_bytes w registers 16
stored_by w registers (insns.Arith op wide left right extra) = operand_bytes w registers (form_bytes wide) (plain left)
stored_by w registers (insns.Move size bits left right lidx ridx) = operand_bytes w registers (size_bytes w size) (with_index w left lidx)
stored_by w registers (insns.MoveSigned bits left right lidx extra) = operand_bytes w registers w (with_index w left lidx)
stored_by w registers (insns.MoveImm size bits left lidx imm) = operand_bytes w registers (size_bytes w size) (with_index w left lidx)
stored_by w registers (insns.MoveImmNatural bits left lidx idx) = operand_bytes w registers w (with_index w left lidx)
stored_by w registers (insns.MoveRelative bits left lidx imm) = operand_bytes w registers w (with_index w left lidx)
stored_by w registers (insns.Push wide op extra) = pushed_bytes w registers (form_bytes wide)
stored_by w registers (insns.Pop wide op extra) = popped_bytes w registers (form_bytes wide) (with_extra w op extra)
stored_by w registers (insns.PushNatural op extra) = pushed_bytes w registers w
stored_by w registers (insns.PopNatural op extra) = popped_bytes w registers w (with_extra w op extra)
stored_by w registers _ = None
