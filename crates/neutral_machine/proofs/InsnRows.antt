-- Rows of the neutral machine and of the machine at both widths, one or more for each form of instruction, computed by the
-- definitions on the program of proofs/RowWorld. A slip in a row shows here at once.
use Rattle.neutral_machine.proofs.Common.{◌≡◌, ℕ, ◌+◌, ◌*◌, ◌-◌, ◌^◌, List, if◌then◌else◌, false, true, [], ◌∷◌, Option, Some, None, refl}
use Rattle.neutral_machine.proofs.Common.{pos, negsuc, Ok, Err, Bool, Insn, Index, Operand, Concrete, register, loaded, N, Q, D, Exception}
use Rattle.neutral_machine.proofs.Common.{Spot, Place, Gate, Config, StackItem, Pushed, LocalsOf, Frame, Function, Gives, Raises, Stuck}
use Rattle.neutral_machine.proofs.Common.{Neutral, Num, At, Entry, Error, SignedError, Junk, ObjectOf, ThunkOf, LocalOf, CellPlace, FieldOf}
use Rattle.neutral_machine.proofs.Common.{FieldOfLocals, number, null, NeutralEnd}
use Rattle.ebc_machine.specs.Results.{Row}
use Rattle.ebc_machine.specs.declared.StepEnd.{StepEnd}
use Rattle.neutral_machine.specs.Rows.{NeutralRow, Native, MakeThunk}
use Rattle.neutral_machine.proofs.RowWorld.{row_world, row_config, config_with, machine_with, machine_at_4, machine_at_8, own_locals}
use Rattle.neutral_machine.proofs.Computing.{runs_compute}
use Rattle.ebc_insn.specs.declared.ArithOp.TheVariants as ops
use Rattle.ebc_insn.specs.declared.CmpOp.TheVariants as cmps
use Rattle.ebc_insn.specs.declared.Cond.TheVariants as conds
use Rattle.ebc_insn.specs.declared.Extra.TheVariants as extras
use Rattle.ebc_insn.specs.declared.Insn.TheVariants as insns
use Rattle.ebc_insn.specs.declared.Size.TheVariants as sizes
use Rattle.ebc_machine.specs.Step as machine
use Rattle.ebc_machine.specs.declared.StepEnd.TheVariants as ends
use Rattle.note_types.specs.declared.exception.Exception.TheVariants as raises
use Rattle.neutral_machine.specs.Rows as rows

-- ---- operands

-- a register, the memory there, and an index forth or back
abbrev direct : ℕ → Operand
direct r = record { reg = r; indirect = false }

abbrev there : ℕ → Operand
there r = record { reg = r; indirect = true }

abbrev forth : ℕ → ℕ → Index
forth n c = record { neg = false; tag = 1; units = n; bytes = c }

abbrev back : ℕ → ℕ → Index
back n c = record { neg = true; tag = 1; units = n; bytes = c }

-- ---- what an instruction at place 4 leaves

-- by the neutral machine, where the next instruction is at place 8, and by the machine at either width
abbrev neutral_does : Config → Option ℕ → Insn → NeutralRow
neutral_does a reloc i = rows.executed row_world a (record { place = 4; next = 8; reloc = reloc }) i

abbrev machine_does : ℕ → Concrete → Insn → Row
machine_does w s i = machine.executed w s 0x20008 i

-- a value in a register or a cell, the items of the function on top, C, the spot and the end
abbrev value_in : ℕ → NeutralRow → Option Neutral
value_in r (Gives (e, b)) = Some (b.registers r)
value_in r _ = None

abbrev cell_in : CellPlace → NeutralRow → Option Neutral
cell_in p (Gives (e, b)) = b.cells p
cell_in p _ = None

abbrev items_of : List Frame → Option (List StackItem)
items_of (Function f ∷ fs) = Some f.items
items_of _ = None

abbrev items_in : NeutralRow → Option (List StackItem)
items_in (Gives (e, b)) = items_of b.frames
items_in _ = None

abbrev c_in : NeutralRow → Option Bool
c_in (Gives (e, b)) = Some b.c
c_in _ = None

abbrev spot_in : NeutralRow → Option Spot
spot_in (Gives (e, b)) = Some b.spot
spot_in _ = None

abbrev end_in : NeutralRow → Option NeutralEnd
end_in (Gives (e, b)) = Some e
end_in _ = None

-- the number in a register, in k bytes at an address, ip, the flags and the end
abbrev number_in : ℕ → Row → Option ℕ
number_in r (Ok (e, t)) = Some (register t r)
number_in r (Err f) = None

abbrev bytes_in : (a k : ℕ) → Row → Option ℕ
bytes_in a k (Ok (e, t)) = loaded t a k
bytes_in a k (Err f) = None

abbrev ip_in : Row → Option ℕ
ip_in (Ok (e, t)) = Some t.ip
ip_in (Err f) = None

abbrev flags_in : Row → Option ℕ
flags_in (Ok (e, t)) = Some t.flags
flags_in (Err f) = None

abbrev stop_in : Row → Option StepEnd
stop_in (Ok (e, t)) = Some e
stop_in (Err f) = None

-- ---- what a row says: of the neutral machine, and of the machine at 4 and at 8 bytes an address

-- an instruction leaves this value in a register
abbrev RegisterRowOf : Config → (at_4 at_8 : Concrete) → Insn → Option ℕ → ℕ → Neutral → (x y : ℕ) → Type 0
RegisterRowOf a s t i reloc r v x y =
    (value_in r (neutral_does a reloc i) ≡ Some v) × (number_in r (machine_does 4 s i) ≡ Some x)
    × (number_in r (machine_does 8 t i) ≡ Some y)

abbrev RegisterRow : Insn → Option ℕ → ℕ → Neutral → (x y : ℕ) → Type 0
RegisterRow i reloc r v x y = RegisterRowOf row_config machine_at_4 machine_at_8 i reloc r v x y

-- it leaves this value in a cell of k bytes, which is at these addresses
abbrev CellRow : Insn → CellPlace → Neutral → (k a b x y : ℕ) → Type 0
CellRow i p v k a b x y =
    (cell_in p (neutral_does row_config None i) ≡ Some v) × (bytes_in a k (machine_does 4 machine_at_4 i) ≡ Some x)
    × (bytes_in b k (machine_does 8 machine_at_8 i) ≡ Some y)

-- it sets or clears C
abbrev flag : Bool → ℕ
flag c = if c then 1 else 0

abbrev FlagRow : Insn → Bool → Type 0
FlagRow i c =
    (c_in (neutral_does row_config None i) ≡ Some c) × (flags_in (machine_does 4 machine_at_4 i) ≡ Some (flag c))
    × (flags_in (machine_does 8 machine_at_8 i) ≡ Some (flag c))

-- it raises
abbrev RaisesRow : Config → (at_4 at_8 : Concrete) → Insn → Exception → Type 0
RaisesRow a s t i e = (neutral_does a None i ≡ Raises e) × (machine_does 4 s i ≡ Err e) × (machine_does 8 t i ≡ Err e)

-- it goes to a place, or to the gate
abbrev GoesRow : Config → (at_4 at_8 : Concrete) → Insn → Option ℕ → Spot → ℕ → Type 0
GoesRow a s t i reloc p x = (spot_in (neutral_does a reloc i) ≡ Some p) × (ip_in (machine_does 4 s i) ≡ Some x)
    × (ip_in (machine_does 8 t i) ≡ Some x)

-- it leaves these items, and R0 at these addresses
abbrev ItemsRow : Config → (at_4 at_8 : Concrete) → Insn → List StackItem → (a b : ℕ) → Type 0
ItemsRow c s t i items a b = (items_in (neutral_does c None i) ≡ Some items) × (number_in 0 (machine_does 4 s i) ≡ Some a)
    × (number_in 0 (machine_does 8 t i) ≡ Some b)

-- the same, with k bytes on top
abbrev StackRow : Config → (at_4 at_8 : Concrete) → Insn → List StackItem → (a b k x y : ℕ) → Type 0
StackRow c s t i items a b k x y =
    (items_in (neutral_does c None i) ≡ Some items)
    × (number_in 0 (machine_does 4 s i) ≡ Some a) × (number_in 0 (machine_does 8 t i) ≡ Some b)
    × (bytes_in a k (machine_does 4 s i) ≡ Some x) × (bytes_in b k (machine_does 8 t i) ≡ Some y)

-- it takes a slot off the stack, into R4
abbrev PopRow : Config → (at_4 at_8 : Concrete) → Insn → Neutral → (x y a b : ℕ) → Type 0
PopRow c s t i v x y a b =
    (value_in 4 (neutral_does c None i) ≡ Some v) × (number_in 4 (machine_does 4 s i) ≡ Some x)
    × (number_in 4 (machine_does 8 t i) ≡ Some y)
    × (items_in (neutral_does c None i) ≡ Some []) × (number_in 0 (machine_does 4 s i) ≡ Some a)
    × (number_in 0 (machine_does 8 t i) ≡ Some b)

-- it leaves a return cell
abbrev ReturnRow : Insn → (a b to : ℕ) → Type 0
ReturnRow i a b to =
    (bytes_in a 8 (machine_does 4 machine_at_4 i) ≡ Some to) × (bytes_in (a + 8) 8 (machine_does 4 machine_at_4 i) ≡ Some 0)
    × (bytes_in b 8 (machine_does 8 machine_at_8 i) ≡ Some to) × (bytes_in (b + 8) 8 (machine_does 8 machine_at_8 i) ≡ Some 0)

-- it ends so
abbrev EndRow : Insn → NeutralEnd → StepEnd → Type 0
EndRow i e f =
    (end_in (neutral_does row_config None i) ≡ Some e) × (stop_in (machine_does 4 machine_at_4 i) ≡ Some f)
    × (stop_in (machine_does 8 machine_at_8 i) ≡ Some f)

-- ---- arithmetic and comparisons

-- ADD64 R1, R2: a natural unit and 4 bytes past the static object
add : RegisterRow (insns.Arith ops.Add true (direct 1) (direct 2) extras.Nothing) None 1 (At (ObjectOf 0) 1 4) 0x20048 0x2004C
unfolding runs_compute
add = (refl, refl, refl)

-- DIV64 R4, @R1(+1, 0), which holds 0: the same exception
divide : RaisesRow row_config machine_at_4 machine_at_8 (insns.Arith ops.Div false (direct 4) (there 1)
    (extras.Idx (forth 1 0))) raises.DivideError
unfolding runs_compute
divide = (refl, refl, refl)

-- CMP64eq R3, R3: an error is itself
compare : FlagRow (insns.Compare cmps.Eq true 3 (direct 3) extras.Nothing) true
unfolding runs_compute
compare = (refl, refl, refl)

-- CMP64eq R1, R5: the starts of two objects
compare_objects : FlagRow (insns.Compare cmps.Eq true 1 (direct 5) extras.Nothing) false
unfolding runs_compute
compare_objects = (refl, refl, refl)

-- CMP64ulte R1, R5: which object lies below isn't known
compare_order : neutral_does row_config None (insns.Compare cmps.Ulte true 1 (direct 5) extras.Nothing) ≡ Stuck
unfolding runs_compute
compare_order = refl

-- CMPI64wlte R4, 7
compare_imm : FlagRow (insns.CompareImm cmps.Lte true (direct 4) None false (pos 7)) true
unfolding runs_compute
compare_imm = (refl, refl, refl)

-- ---- moves

-- MOVd R4, @R1(+2, +8): the second field of the second instance
load : RegisterRow (insns.Move sizes.Dword 16 (direct 4) (there 1) None (Some (forth 2 8))) None 4 (number 11) 11 11
unfolding runs_compute
load = (refl, refl, refl)

-- MOVqq R4, @R5: the relocated pointer in a static object
load_pointer : RegisterRow (insns.Move sizes.Qword 64 (direct 4) (there 5) None None) None 4 (At (ObjectOf 0) 0 0) 0x20040 0x20040
unfolding runs_compute
load_pointer = (refl, refl, refl)

-- MOVd R4, @R1(0, +8): where an address has 4 bytes only, a field begins there
load_between : neutral_does row_config None (insns.Move sizes.Dword 16 (direct 4) (there 1) None (Some (forth 0 8))) ≡ Stuck
unfolding runs_compute
load_between = refl

-- MOVd @R1(+1, 0), R4
store : CellRow (insns.Move sizes.Dword 16 (there 1) (direct 4) (Some (forth 1 0)) None) (FieldOf 0 0 1) (number 7) 4 0x20044 0x20048 7 7
unfolding runs_compute
store = (refl, refl, refl)

-- MOVnw @R1, R4: a field of natural size
store_natural : CellRow (insns.Move sizes.Natural 16 (there 1) (direct 4) None None) (FieldOf 0 0 0) (number 7) 4 0x20040 0x20040 7 7
unfolding runs_compute
store_natural = (refl, refl, refl)

-- MOVnw @R1, R2: a natural unit doesn't fit a field of numbers
store_unfit : neutral_does row_config None (insns.Move sizes.Natural 16 (there 1) (direct 2) None None) ≡ Stuck
unfolding runs_compute
store_unfit = refl

-- MOVb R4, R2 leaves junk of a pair that isn't the same at both widths
cut : RegisterRow (insns.Move sizes.Byte 16 (direct 4) (direct 2) None None) None 4 (Junk) 8 12
unfolding runs_compute
cut = (refl, refl, refl)

-- MOVsnw R4, R3: an error with its sign
signed : RegisterRow (insns.MoveSigned 16 (direct 4) (direct 3) None extras.Nothing) None 4
    (SignedError 5) 0xFFFFFFFF80000005 0x8000000000000005
unfolding runs_compute
signed = (refl, refl, refl)

-- MOVIww R4, -1
immediate : RegisterRow (insns.MoveImm sizes.Word 16 (direct 4) None (negsuc 0)) None 4 (number 0xFFFF) 0xFFFF 0xFFFF
unfolding runs_compute
immediate = (refl, refl, refl)

-- MOVIqq R4 of the address of the second static object, which a relocation names
immediate_address : RegisterRow (insns.MoveImm sizes.Qword 64 (direct 4) None (pos 0x20060)) (Some 0x60) 4
    (At (ObjectOf 1) 0 0) 0x20060 0x20060
unfolding runs_compute
immediate_address = (refl, refl, refl)

-- the same of the thunk cell
immediate_thunk : RegisterRow (insns.MoveImm sizes.Qword 64 (direct 4) None (pos 0x20068)) (Some 0x68) 4
    (At (ThunkOf 0) 0 0) 0x20068 0x20068
unfolding runs_compute
immediate_thunk = (refl, refl, refl)

-- MOVInw R4, (-1, -4)
immediate_natural : RegisterRow (insns.MoveImmNatural 16 (direct 4) None (back 1 4)) None 4 (Num (2 ^ 64 - 1) (2 ^ 64 - 4)) (2 ^ 64 - 8)
    (2 ^ 64 - 12)
unfolding runs_compute
immediate_natural = (refl, refl, refl)

-- MOVRELw R4, 0x38: the first static object lies so far past the next instruction
relative : RegisterRow (insns.MoveRelative 16 (direct 4) None (pos 0x38)) None 4 (At (ObjectOf 0) 0 0) 0x20040 0x20040
unfolding runs_compute
relative = (refl, refl, refl)

-- LOADSP
load_special : neutral_does row_config None (insns.LoadSpecial 4) ≡ Stuck
unfolding runs_compute
load_special = refl

-- STORESP R4, FLAGS
flags : RegisterRow (insns.StoreSpecial 4 0) None 4 (number 0) 0 0
unfolding runs_compute
flags = (refl, refl, refl)

-- STORESP R4, IP: junk
ip : RegisterRow (insns.StoreSpecial 4 1) None 4 (Junk) 0x20008 0x20008
unfolding runs_compute
ip = (refl, refl, refl)

-- ---- the stack

-- PUSH64 R4
push : StackRow row_config machine_at_4 machine_at_8 (insns.Push true (direct 4) extras.Nothing)
    (Pushed Q (number 7) ∷ Pushed Q (number 13) ∷ []) 0x101FC 0x10220 8 7 7
unfolding runs_compute
push = (refl, refl, refl, refl, refl)

-- PUSH32 R4
push_dword : StackRow row_config machine_at_4 machine_at_8 (insns.Push false (direct 4) extras.Nothing)
    (Pushed D (number 7) ∷ Pushed Q (number 13) ∷ []) 0x10200 0x10224 4 7 7
unfolding runs_compute
push_dword = (refl, refl, refl, refl, refl)

-- PUSHn R2
push_natural : StackRow row_config machine_at_4 machine_at_8 (insns.PushNatural (direct 2) extras.Nothing)
    (Pushed N (Num 1 4) ∷ Pushed Q (number 13) ∷ []) 0x10200 0x10220 4 8 12
unfolding runs_compute
push_natural = (refl, refl, refl, refl, refl)

-- POP64 R4
pop : PopRow row_config machine_at_4 machine_at_8 (insns.Pop true (direct 4) extras.Nothing) (number 13) 13 13 0x1020C 0x10230
unfolding runs_compute
pop = (refl, refl, refl, refl, refl, refl)

-- POP32 R4: with its sign
pop_dword : PopRow (config_with (Pushed D (number 0xFFFFFFFE) ∷ [])) (machine_with 4 0x10208 4 0xFFFFFFFE)
    (machine_with 8 0x1022C 4 0xFFFFFFFE) (insns.Pop false (direct 4) extras.Nothing) (number (2 ^ 64 - 2)) (2 ^ 64 - 2)
    (2 ^ 64 - 2) 0x1020C 0x10230
unfolding runs_compute
pop_dword = (refl, refl, refl, refl, refl, refl)

-- POPn R4: an error
pop_natural : PopRow (config_with (Pushed N (Error 5) ∷ [])) (machine_with 4 0x10208 4 0x80000005)
    (machine_with 8 0x10228 8 0x8000000000000005) (insns.PopNatural (direct 4) extras.Nothing)
    (Error 5) 0x80000005 0x8000000000000005 0x1020C 0x10230
unfolding runs_compute
pop_natural = (refl, refl, refl, refl, refl, refl)

-- POPn of a slot of 64 bits
pop_other : neutral_does row_config None (insns.PopNatural (direct 4) extras.Nothing) ≡ Stuck
unfolding runs_compute
pop_other = refl

-- MOVqq R0, R0(0, +8): the slot is dropped
drop : ItemsRow row_config machine_at_4 machine_at_8 (insns.Move sizes.Qword 64 (direct 0) (direct 0) None
    (Some (forth 0 8))) [] 0x1020C 0x10230
unfolding runs_compute
drop = (refl, refl, refl)

-- MOVqq R0, R0(0, +4): half of it isn't
drop_half : neutral_does row_config None (insns.Move sizes.Qword 64 (direct 0) (direct 0) None (Some (forth 0 4))) ≡ Stuck
unfolding runs_compute
drop_half = refl

-- MOVqq R0, R0(-1, -4): the locals are made
make_locals : ItemsRow row_config machine_at_4 machine_at_8 (insns.Move sizes.Qword 64 (direct 0) (direct 0) None (Some (back 1 4)))
    (LocalsOf own_locals ∷ Pushed Q (number 13) ∷ []) 0x101FC 0x1021C
unfolding runs_compute
make_locals = (refl, refl, refl)

-- and none of them is written
make_unwritten : cell_in (FieldOfLocals 0 1) (neutral_does row_config None
    (insns.Move sizes.Qword 64 (direct 0) (direct 0) None (Some (back 1 4)))) ≡ None
unfolding runs_compute
make_unwritten = refl

-- MOVd R4, @R0(+1, 0): the second local
local : RegisterRowOf (config_with (LocalsOf own_locals ∷ [])) (machine_with 4 0x10204 8 (21 * 2 ^ 32))
    (machine_with 8 0x10224 12 (21 * 2 ^ 64)) (insns.Move sizes.Dword 16 (direct 4) (there 0) None (Some (forth 1 0))) None 4
    (number 21) 21 21
unfolding runs_compute
local = (refl, refl, refl)

-- MOVqq R4, R0(+1, 0): its address
local_address : RegisterRowOf (config_with (LocalsOf own_locals ∷ [])) (machine_with 4 0x10204 8 (21 * 2 ^ 32))
    (machine_with 8 0x10224 12 (21 * 2 ^ 64)) (insns.Move sizes.Qword 64 (direct 4) (direct 0) None (Some (forth 1 0))) None 4
    (At (LocalOf 0 1) 0 0) 0x10208 0x1022C
unfolding runs_compute
local_address = (refl, refl, refl)

-- MOVqq R0, R0(+1, +4): with the locals their addresses go
drop_locals : value_in 4 (neutral_does (record (config_with (LocalsOf own_locals ∷ [])) { registers = λ r. At (LocalOf 0 1) 0 0 }) None
    (insns.Move sizes.Qword 64 (direct 0) (direct 0) None (Some (forth 1 4)))) ≡ Some Junk
unfolding runs_compute
drop_locals = refl

-- ---- flow

-- JMP32 R0(4), relative to the next instruction
jump : GoesRow row_config machine_at_4 machine_at_8 (insns.Jump conds.Always false true (direct 0) (extras.Imm (pos 4))) None
    (Place 12) 0x2000C
unfolding runs_compute
jump = (refl, refl, refl)

-- JMP64 of a relocated address
jump_far : GoesRow row_config machine_at_4 machine_at_8 (insns.Jump conds.Always true false (direct 0) (extras.Imm (pos 0x20010)))
    (Some 0x10) (Place 0x10) 0x20010
unfolding runs_compute
jump_far = (refl, refl, refl)

-- JMP32cs R0(4), where C is clear
jump_not : GoesRow row_config machine_at_4 machine_at_8 (insns.Jump conds.Set false true (direct 0) (extras.Imm (pos 4))) None
    (Place 8) 0x20008
unfolding runs_compute
jump_not = (refl, refl, refl)

-- JMP32 R0(3), relative: to an odd place
jump_odd : RaisesRow row_config machine_at_4 machine_at_8 (insns.Jump conds.Always false true (direct 0)
    (extras.Imm (pos 3))) raises.AlignmentCheck
unfolding runs_compute
jump_odd = (refl, refl, refl)

-- JMP32 R4: to a number that isn't known as a place
jump_absolute : neutral_does row_config None (insns.Jump conds.Always false false (direct 4) extras.Nothing) ≡ Stuck
unfolding runs_compute
jump_absolute = refl

-- JMP8 2
jump8 : GoesRow row_config machine_at_4 machine_at_8 (insns.Jump8 conds.Always (pos 2)) None (Place 12) 0x2000C
unfolding runs_compute
jump8 = (refl, refl, refl)

-- CALL32 R0(0x18), relative: function 1
call : GoesRow row_config machine_at_4 machine_at_8 (insns.Call false false true (direct 0) (extras.Imm (pos 0x18))) None
    (Place 0x20) 0x20020
unfolding runs_compute
call = (refl, refl, refl)

-- it has no items yet, and a return cell below the slot
call_items : ItemsRow row_config machine_at_4 machine_at_8 (insns.Call false false true (direct 0)
    (extras.Imm (pos 0x18))) [] 0x101F4 0x10218
unfolding runs_compute
call_items = (refl, refl, refl)

-- its return cell holds the next address and 0
call_return : ReturnRow (insns.Call false false true (direct 0) (extras.Imm (pos 0x18))) 0x101F4 0x10218 0x20008
unfolding runs_compute
call_return = (refl, refl, refl, refl)

-- without a slot of 64 bits for its parameter
call_kind : neutral_does (config_with (Pushed N (number 13) ∷ [])) None
    (insns.Call false false true (direct 0) (extras.Imm (pos 0x18))) ≡ Stuck
unfolding runs_compute
call_kind = refl

-- CALLEX R6
call_native : EndRow (insns.Call false true false (direct 6) extras.Nothing) (Native (Entry 1)) (ends.Native 0x1030)
unfolding runs_compute
call_native = (refl, refl, refl)

-- RET from the function that the host entered
return_gate : GoesRow (config_with []) (machine_with 4 0x1020C 0 0) (machine_with 8 0x10230 0 0) insns.Ret None Gate 0x1000
unfolding runs_compute
return_gate = (refl, refl, refl)

-- RET from one that another function called
return_caller : spot_in (neutral_does (record row_config {
  frames = Function (record { func = 1; ret = 0xC; saved = λ r. null; items = [] }) ∷ row_config.frames;
}) None insns.Ret) ≡ Some (Place 0xC)
unfolding runs_compute
return_caller = refl

-- RET with an item on the stack
return_items : neutral_does row_config None (insns.Ret) ≡ Stuck
unfolding runs_compute
return_items = refl

-- BREAK 1: the version in R7
version : RegisterRow (insns.Break 1) None 7 (number 0x10000) 0x10000 0x10000
unfolding runs_compute
version = (refl, refl, refl)

-- BREAK 3
breakpoint : RaisesRow row_config machine_at_4 machine_at_8 (insns.Break 3) raises.Breakpoint
unfolding runs_compute
breakpoint = (refl, refl, refl)

-- BREAK 4 goes on
break_on : GoesRow row_config machine_at_4 machine_at_8 (insns.Break 4) None (Place 8) 0x20008
unfolding runs_compute
break_on = (refl, refl, refl)

-- BREAK 5 at the thunk cell that is next
make_thunk : EndRow (insns.Break 5) (MakeThunk 0) (ends.MakeThunk 0x20068)
unfolding runs_compute
make_thunk = (refl, refl, refl)

-- BREAK 5 at one that is made already
make_other : neutral_does (record row_config { made = 1 }) None (insns.Break 5) ≡ Stuck
unfolding runs_compute
make_other = refl

-- BREAK 7
bad_break : RaisesRow row_config machine_at_4 machine_at_8 (insns.Break 7) raises.BadBreak
unfolding runs_compute
bad_break = (refl, refl, refl)
