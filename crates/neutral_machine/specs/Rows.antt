-- For proofs: what each form of instruction does on neutral values: a row for each, in the same parts as the machine's rows.
-- UEFI specification, chapter "EFI Byte Code Virtual Machine", section "EBC Instruction Set"; in words in
-- docs/SIMULATION.md, "The neutral machine's rows".
use Rattle.std.specs.Prelude.{ℕ, ◌+◌, ◌-◌, ◌%◌, Bool, true, false, not, ◌&&◌, ◌||◌, List, [], ◌∷◌, map, Option, Some, None, nat_eq, nat_le}
use Rattle.std.specs.Prelude.{nat_lt, if◌then◌else◌, slice_get, ℤ, pos, ◌*ℤ◌, is_some, is_none}
use Rattle.std.specs.List.{position}
use Rattle.std.specs.Option.{option_map, option_map_or, option_or}
use Rattle.ebc_insn.specs.declared.Insn.TheVariants as insns
use Rattle.ebc_insn.specs.declared.Cond.TheVariants as conds
use Rattle.ebc_insn.specs.declared.Size.TheVariants as sizes
use Rattle.note_types.specs.declared.exception.Exception.TheVariants as raises
use Rattle.ebc_width.specs.Width.{wrap64}
use Rattle.natural_index.specs.Index.{pair_of}
use Rattle.natural_index.specs.declared.Index.{Index}
use Rattle.ebc_insn.specs.declared.Insn.{Insn}
use Rattle.ebc_insn.specs.declared.Operand.{Operand}
use Rattle.ebc_insn.specs.declared.Cond.{Cond}
use Rattle.ebc_insn.specs.declared.ArithOp.{ArithOp}
use Rattle.ebc_insn.specs.declared.CmpOp.{CmpOp}
use Rattle.ebc_insn.specs.declared.Size.{Size}
use Rattle.note_types.specs.BelowTests.{same_kind}
use Rattle.note_types.specs.declared.cell.SlotKind.{SlotKind}
use Rattle.note_types.specs.declared.cell.SlotKind.TheVariants.{N, Q, D}
use Rattle.note_types.specs.declared.notes.FnNote.{FnNote}
use Rattle.note_types.specs.declared.notes.Notes.{Notes}
use Rattle.note_types.specs.declared.notes.Param.{Param}
use Rattle.note_types.specs.declared.notes.Static.{Static}
use Rattle.note_types.specs.declared.notes.Thunk.{Thunk}
use Rattle.note_types.specs.declared.shape.Shape.{Shape}
use Rattle.note_types.specs.declared.spot.Spot.TheVariants.{Place, Gate}
use Rattle.host_model.specs.Values.{ObjectOf, ThunkOf, LocalOf, Neutral, At, Junk, CellPlace, FieldOf, FieldOfLocals, Cells, number, null}
use Rattle.host_model.specs.Values.{pair, plain, word}
use Rattle.neutral_machine.specs.Config.{StackItem, Pushed, LocalsOf, Registers, FunctionFrame, Frame, Function, Host, Config, depth}
use Rattle.neutral_machine.specs.Config.{locals_among}
use Rattle.host_model.specs.Progress.{NativeCall, NoCall, Asked, Accepted}
use Rattle.host_model.specs.World.{World, frame_locals}
use Rattle.neutral_machine.specs.Memory.{memory_of}
use Rattle.neutral_machine.specs.Outcomes.{Outcome, Gives, Raises, Stuck, ◌>>=◌, or_stuck, unless_stuck}
use Rattle.neutral_machine.specs.Operations.{combined, compared_as, kept_natural, extended, sign_extended}
use Rattle.neutral_machine.specs.NeutralHost.{next_thunk}
use Rattle.neutral_machine.specs.Locations.{Access, Move, Form, Signed, kept, item_units, item_bytes}
use Rattle.neutral_machine.specs.Operands.{NeutralSide, plainly, indexed, beside_extra, moved_by, value, direct_value, loaded_by}
use Rattle.neutral_machine.specs.Operands.{with_register, written}

-- ---- results

-- How an instruction ends: it goes on, it calls a native method, or it makes a thunk for a cell.
pub data NeutralEnd : Type 0 where
  Next : NeutralEnd
  Native : (target : Neutral) → NeutralEnd
  MakeThunk : (thunk : ℕ) → NeutralEnd

abbrev pub NeutralRow : Type 0
NeutralRow = Outcome (NeutralEnd × Config)

-- Where an instruction stands, and what its immediate names: its place, the place after it, and the place that a relocated
-- immediate is.
pub record Site : Type 0 where
  pub place : ℕ
  pub next : ℕ
  pub reloc : Option ℕ

-- control is at a place of the image
abbrev pub at_place : World → Config → ℕ → Outcome Config
at_place world a p = if nat_lt p world.image_size then Gives (record a { spot = Place p }) else Stuck

unfoldable pub goes : World → Config → ℕ → NeutralRow
goes world a p = do
  b ← at_place world a p
  Gives (Next, b)

-- ---- data

unfoldable pub arith_row : World → Config → ℕ → ArithOp → Bool → NeutralSide → NeutralSide → NeutralRow
arith_row world a next op wide left right = do
  u ← value world a (Form wide) right
  v ← value world a (Form wide) left
  z ← combined op wide v u
  b ← written world a (Form wide) left z
  goes world b next

-- the configuration with C set or clear
abbrev pub with_c : Config → Bool → Config
with_c a c = record a { c = c }

unfoldable pub compare_row : World → Config → ℕ → CmpOp → Bool → ℕ → NeutralSide → NeutralRow
compare_row world a next op wide left right = do
  u ← value world a (Form wide) right
  c ← or_stuck (compared_as world.notes (memory_of world a).objects op wide (direct_value world a left None) u)
  goes world (with_c a c) next

unfoldable pub compare_imm_row : World → Config → ℕ → CmpOp → Bool → NeutralSide → ℤ → NeutralRow
compare_imm_row world a next op wide left imm = do
  v ← value world a (Form wide) left
  c ← or_stuck (compared_as world.notes (memory_of world a).objects op wide v (number (wrap64 imm)))
  goes world (with_c a c) next

-- ---- moves

-- whether an operand is R0 itself
abbrev pub is_stack_pointer : NeutralSide → Bool
is_stack_pointer o = not o.indirect && nat_eq o.reg 0

-- a value without the locals of the frame at a depth
abbrev pub without_local : ℕ → Neutral → Neutral
without_local d (At (LocalOf e f) n c) = if nat_eq e d then Junk else At (LocalOf e f) n c
without_local d v = v

abbrev pub item_without : ℕ → StackItem → StackItem
item_without d (Pushed kind v) = Pushed kind (without_local d v)
item_without d (LocalsOf s) = LocalsOf s

abbrev pub registers_without : ℕ → Registers → Registers
registers_without d regs r = without_local d (regs r)

abbrev pub call_without : ℕ → NativeCall Neutral → NativeCall Neutral
call_without d NoCall = NoCall
call_without d (Asked p v) = Asked p (without_local d v)
call_without d (Accepted e n vs) = Accepted e n (map (without_local d) vs)

abbrev pub frame_without : ℕ → Frame → Frame
frame_without d (Function f) = Function (record f { saved = registers_without d f.saved; items = map (item_without d) f.items })
frame_without d (Host h) = Host (record h {
  saved = registers_without d h.saved;
  params = map (item_without d) h.params;
  call = call_without d h.call;
})

abbrev pub cells_without : ℕ → Cells → Cells
cells_without d cells p = option_map (without_local d) (cells p)

-- the configuration without the locals of the frame at a depth, whose frames are already without them
abbrev pub config_without : ℕ → Config → Config
config_without d a = record a {
  registers = registers_without d a.registers;
  cells = cells_without d a.cells;
  frames = map (frame_without d) a.frames;
}

-- what is left of items, and whether the locals went
pub record Dropped : Type 0 where
  pub items : List StackItem
  pub locals : Bool

abbrev pub is_locals : StackItem → Bool
is_locals (Pushed kind v) = false
is_locals (LocalsOf s) = true

abbrev pub with_one : Bool → Option Dropped → Option Dropped
with_one b None = None
with_one b (Some d) = Some (record { items = d.items; locals = b || d.locals })

-- the items without those from the top whose sizes sum to exactly a pair
abbrev pub dropped : ℕ → ℕ → List StackItem → Option Dropped
dropped n c [] = if nat_eq n 0 && nat_eq c 0 then Some (record { items = []; locals = false }) else None
dropped n c (i ∷ is) =
    if nat_eq n 0 && nat_eq c 0 then Some (record { items = i ∷ is; locals = false })
    else if nat_le (item_units i) n && nat_le (item_bytes i) c then
    with_one (is_locals i) (dropped (n - item_units i) (c - item_bytes i) is)
    else None

-- the configuration with other items in the function frame on top
abbrev pub with_items : Config → FunctionFrame → List StackItem → List Frame → Config
with_items a f is fs = record a { frames = Function (record f { items = is }) ∷ fs }

abbrev pub after_drop : Config → FunctionFrame → List Frame → Option Dropped → Outcome Config
after_drop a f fs None = Stuck
after_drop a f fs (Some d) = if d.locals then Gives (config_without (depth fs) (with_items a f d.items fs))
    else Gives (with_items a f d.items fs)

-- the function's locals upon its items, where they aren't there and a pair is their size
abbrev pub has_size : ℕ → ℕ → Shape → Bool
has_size n c s = nat_eq s.n n && nat_eq s.c c

-- the cells with no local field of the frame at a depth written
abbrev pub is_local_of : ℕ → CellPlace → Bool
is_local_of d (FieldOf k i f) = false
is_local_of d (FieldOfLocals e f) = nat_eq e d

abbrev pub cells_before : ℕ → Cells → Cells
cells_before d cells p = if is_local_of d p then None else cells p

abbrev pub made_locals : Config → FunctionFrame → List Frame → Shape → Config
made_locals a f fs s = record (with_items a f (LocalsOf s ∷ f.items) fs) { cells = cells_before (depth fs) a.cells }

abbrev pub after_make : Config → FunctionFrame → List Frame → ℕ → ℕ → Option Shape → Outcome Config
after_make a f fs n c None = Stuck
after_make a f fs n c (Some s) =
    if has_size n c s && is_none (locals_among f.items) then Gives (made_locals a f fs s) else Stuck

-- R0 moved by a pair: locals are made where it is negative, items are dropped where it isn't
abbrev pub adjusted : World → Config → List Frame → Bool → ℕ → ℕ → Outcome Config
adjusted world a [] neg n c = Stuck
adjusted world a (Host h ∷ fs) neg n c = Stuck
adjusted world a (Function f ∷ fs) neg n c =
    if neg && not (nat_eq n 0 && nat_eq c 0) then after_make a f fs n c (frame_locals world.notes f.func)
    else after_drop a f fs (dropped n c f.items)

abbrev pub adjusted_by : World → Config → Option Index → Outcome Config
adjusted_by world a None = adjusted world a a.frames false 0 0
adjusted_by world a (Some i) = adjusted world a a.frames i.neg i.units i.bytes

abbrev pub is_qword_size : Size → Bool
is_qword_size sizes.Qword = true
is_qword_size _ = false

-- MOVq R0, R0(n, c)
unfoldable pub stack_row : World → Config → ℕ → Size → Operand → Option Index → Option Index → NeutralRow
stack_row world a next size right lidx ridx =
    unless_stuck (is_qword_size size && (is_none lidx && (not right.indirect && nat_eq right.reg 0))) (do
      b ← adjusted_by world a ridx
      goes world b next)

unfoldable pub move_row : World → Config → ℕ → Size → NeutralSide → NeutralSide → NeutralRow
move_row world a next size left right = do
  v ← value world a (Move size) right
  b ← written world a (Move size) left (kept world.notes (memory_of world a).objects (Move size) v)
  goes world b next

unfoldable pub move_signed_row : World → Config → ℕ → NeutralSide → NeutralSide → NeutralRow
move_signed_row world a next left right = do
  v ← value world a Signed right
  b ← written world a Signed left (sign_extended v)
  goes world b next

-- the address of a place: that of the static object or of the thunk cell that begins there, or junk
abbrev pub static_at : Notes → ℕ → Option Neutral
static_at notes p = option_map (λ k. At (ObjectOf k) 0 0) (position (λ (s : Static). nat_eq s.place p) notes.statics)

abbrev pub thunk_at : Notes → ℕ → Option Neutral
thunk_at notes p = option_map (λ i. At (ThunkOf i) 0 0) (position (λ (t : Thunk). nat_eq t.place p) notes.thunk)

unfoldable pub address_of_place : Notes → ℕ → Neutral
address_of_place notes p = option_map_or (λ v. v) (option_or (static_at notes p) (thunk_at notes p)) Junk

-- what an immediate is: the address of the place that it names, or the number
abbrev pub immediate : Notes → Option ℕ → ℤ → Neutral
immediate notes (Some p) imm = address_of_place notes p
immediate notes None imm = number (wrap64 imm)

unfoldable pub move_imm_row : World → Config → Site → Size → NeutralSide → ℤ → NeutralRow
move_imm_row world a here size left imm = do
  b ← written world a (Move size) left (kept world.notes (memory_of world a).objects (Move size) (immediate world.notes here.reloc imm))
  goes world b here.next

unfoldable pub move_imm_natural_row : World → Config → ℕ → NeutralSide → Index → NeutralRow
move_imm_natural_row world a next left idx = do
  b ← written world a (Move sizes.Natural) left (pair (pair_of idx).0 (pair_of idx).1)
  goes world b next

unfoldable pub move_relative_row : World → Config → ℕ → NeutralSide → ℤ → NeutralRow
move_relative_row world a next left imm = do
  b ← written world a (Move sizes.Natural) left (address_of_place world.notes (word (next + wrap64 imm)))
  goes world b next

-- the flags as a number: C alone
abbrev pub flags_of : Bool → ℕ
flags_of c = if c then 1 else 0

unfoldable pub store_special_row : World → Config → ℕ → ℕ → ℕ → NeutralRow
store_special_row world a next to special = do
  b ← with_register a to (if nat_eq special 0 then number (flags_of a.c) else Junk)
  goes world b next

-- ---- the stack

-- the configuration with an item upon those of the function on top
abbrev pub pushed : Config → List Frame → StackItem → Outcome Config
pushed a [] i = Stuck
pushed a (Host h ∷ fs) i = Stuck
pushed a (Function f ∷ fs) i = Gives (with_items a f (i ∷ f.items) fs)

abbrev pub form_kind : Bool → SlotKind
form_kind true = Q
form_kind false = D

unfoldable pub push_row : World → Config → ℕ → Bool → NeutralSide → NeutralRow
push_row world a next wide op = do
  v ← value world a (Form wide) op
  b ← pushed a a.frames (Pushed (form_kind wide) (kept world.notes (memory_of world a).objects (Form wide) v))
  goes world b next

unfoldable pub push_natural_row : World → Config → ℕ → NeutralSide → NeutralRow
push_natural_row world a next op = do
  v ← value world a (Move sizes.Natural) op
  b ← pushed a a.frames (Pushed N (kept_natural world.notes (memory_of world a).objects v))
  goes world b next

-- a value taken off the stack, and the configuration without it
abbrev pub taken_from : Config → FunctionFrame → SlotKind → List StackItem → List Frame → Outcome (Neutral × Config)
taken_from a f kind [] fs = Stuck
taken_from a f kind (LocalsOf s ∷ is) fs = Stuck
taken_from a f kind (Pushed k v ∷ is) fs = if same_kind k kind then Gives (v, with_items a f is fs) else Stuck

abbrev pub taken : Config → SlotKind → List Frame → Outcome (Neutral × Config)
taken a kind [] = Stuck
taken a kind (Host h ∷ fs) = Stuck
taken a kind (Function f ∷ fs) = taken_from a f kind f.items fs

-- where POP leaves a value
unfoldable pub popped : World → Config → Access → NeutralSide → Neutral → Outcome Config
popped world a access op v = if op.indirect then written world a access op v else with_register a op.reg (moved_by v op.beside)

-- the value that POP32 or POP64 makes of a slot
abbrev pub of_slot : Bool → Neutral → Neutral
of_slot true v = v
of_slot false v = extended v

unfoldable pub pop_row : World → Config → ℕ → Bool → NeutralSide → NeutralRow
pop_row world a next wide op = do
  t ← taken a (form_kind wide) a.frames
  b ← popped world t.1 (Form wide) op (of_slot wide t.0)
  goes world b next

unfoldable pub pop_natural_row : World → Config → ℕ → NeutralSide → NeutralRow
pop_natural_row world a next op = do
  t ← taken a N a.frames
  b ← popped world t.1 (Move sizes.Natural) op (kept_natural world.notes (memory_of world a).objects t.0)
  goes world b next

-- ---- flow

abbrev pub is_taken : Cond → Bool → Bool
is_taken conds.Always c = true
is_taken conds.Set c = c
is_taken conds.Clear c = not c

-- an even place
abbrev pub aligned : ℕ → Outcome ℕ
aligned p = if nat_eq (p % 2) 0 then Gives p else Raises raises.AlignmentCheck

-- a register of a jump or a call, where R0 counts as 0
abbrev pub base_at : Config → ℕ → Neutral
base_at a r = if nat_eq r 0 then null else a.registers r

-- the place past another one by a number
abbrev pub past : ℕ → Option ℕ → Outcome ℕ
past next None = Stuck
past next (Some x) = Gives (word (next + x))

-- the place that a relocated immediate names, where it stands alone
abbrev pub named_place : Bool → Option ℕ → Outcome ℕ
named_place alone None = Stuck
named_place alone (Some p) = if alone then Gives p else Stuck

-- the place that a jump or a call goes to: past the next instruction by a plain number, or the one that is named
unfoldable pub target_at : Config → Site → Bool → NeutralSide → Outcome ℕ
target_at a here relative op =
    if op.indirect then Stuck
    else if relative then past here.next (plain (moved_by (base_at a op.reg) op.beside))
    else named_place (nat_eq op.reg 0 && is_some op.beside) here.reloc

unfoldable pub jump_row : World → Config → Site → Cond → Bool → NeutralSide → NeutralRow
jump_row world a here cond relative op =
    if is_taken cond a.c then (do
      p ← target_at a here relative op
      to ← aligned p
      goes world a to)
    else goes world a here.next

unfoldable pub jump8_row : World → Config → ℕ → Cond → ℤ → NeutralRow
jump8_row world a next cond words =
    if is_taken cond a.c then (do
      to ← aligned (word (next + wrap64 (words *ℤ pos 2)))
      goes world a to)
    else goes world a next

-- the function whose code begins at a place
abbrev pub function_at : Notes → ℕ → Option ℕ
function_at notes p = position (λ (f : FnNote). nat_eq f.place p) notes.function

-- whether the top items are slots of the parameters' kinds
abbrev pub have_kinds : List Param → List StackItem → Bool
have_kinds [] is = true
have_kinds (p ∷ ps) [] = false
have_kinds (p ∷ ps) (LocalsOf s ∷ is) = false
have_kinds (p ∷ ps) (Pushed kind v ∷ is) = same_kind kind p.kind && have_kinds ps is

abbrev pub params_match : Option FnNote → List StackItem → Bool
params_match None is = false
params_match (Some f) is = have_kinds f.params is

-- the configuration within a function, which goes back to a place
abbrev pub inside : Config → ℕ → ℕ → Config
inside a func ret = record a { frames = Function (record { func = func; ret = ret; saved = a.registers; items = [] }) ∷ a.frames }

abbrev pub called_from : World → Config → ℕ → List Frame → ℕ → Outcome Config
called_from world a next [] g = Stuck
called_from world a next (Host h ∷ fs) g = Stuck
called_from world a next (Function f ∷ fs) g =
    if params_match (slice_get world.notes.function g) f.items && nat_lt next world.image_size then Gives (inside a g next) else Stuck

unfoldable pub called : World → Config → ℕ → ℕ → Outcome Config
called world a next p = do
  g ← or_stuck (function_at world.notes p)
  called_from world a next a.frames g

unfoldable pub call_row : World → Config → Site → Bool → NeutralSide → NeutralRow
call_row world a here relative op = do
  p ← target_at a here relative op
  to ← aligned p
  b ← called world a here.next to
  goes world b to

-- the target of a native call: a value of natural size
abbrev pub native_target : World → Config → NeutralSide → Outcome Neutral
native_target world a op =
    if op.indirect then (if nat_eq op.reg 0 then Stuck else loaded_by world a (Move sizes.Natural) op.reg op.beside)
    else Gives (kept_natural world.notes (memory_of world a).objects (moved_by (base_at a op.reg) op.beside))

unfoldable pub call_native_row : World → Config → ℕ → Bool → NeutralSide → NeutralRow
call_native_row world a next relative op =
    if relative then Stuck else (do
      v ← native_target world a op
      b ← at_place world a next
      Gives (Native v, b))

-- back to the caller, or to the gate where the host entered the function
abbrev pub returned_to : World → Config → FunctionFrame → List Frame → NeutralRow
returned_to world a f [] = Stuck
returned_to world a f (Function g ∷ fs) = do
  to ← aligned f.ret
  goes world (record a { frames = Function g ∷ fs }) to
returned_to world a f (Host h ∷ fs) = Gives (Next, record a { spot = Gate; frames = Host h ∷ fs })

abbrev pub returned_from : World → Config → FunctionFrame → List StackItem → List Frame → NeutralRow
returned_from world a f [] fs = returned_to world a f fs
returned_from world a f (i ∷ is) fs = Stuck

unfoldable pub return_row : World → Config → List Frame → NeutralRow
return_row world a [] = Stuck
return_row world a (Host h ∷ fs) = Stuck
return_row world a (Function f ∷ fs) = returned_from world a f f.items fs

unfoldable pub break_row : World → Config → ℕ → ℕ → NeutralRow
break_row world a next code =
    if nat_eq code 1 then (do
      b ← with_register a 7 (number 0x10000)
      goes world b next)
    else if nat_eq code 3 then Raises raises.Breakpoint
    else if nat_eq code 5 then (do
      i ← or_stuck (next_thunk a (a.registers 7))
      b ← at_place world a next
      Gives (MakeThunk i, b))
    else if nat_eq code 4 then goes world a next
    else if nat_eq code 6 then goes world a next
    else Raises raises.BadBreak

-- ---- all of them

-- MOVE, where R0 itself is operand 1 or where it isn't
abbrev pub move_or_stack : World → Config → ℕ → Size → Operand → Operand → Option Index → Option Index → NeutralRow
move_or_stack world a next size left right lidx ridx =
    if is_stack_pointer (plainly left) then stack_row world a next size right lidx ridx
    else move_row world a next size (indexed left lidx) (indexed right ridx)

-- what an instruction does
unfoldable pub executed : World → Config → Site → Insn → NeutralRow
executed world a here (insns.Break code) = break_row world a here.next code
executed world a here (insns.Jump cond far relative op extra) = jump_row world a here cond relative (beside_extra op extra)
executed world a here (insns.Jump8 cond words) = jump8_row world a here.next cond words
executed world a here (insns.Call far false relative op extra) = call_row world a here relative (beside_extra op extra)
executed world a here (insns.Call far true relative op extra) = call_native_row world a here.next relative (beside_extra op extra)
executed world a here insns.Ret = return_row world a a.frames
executed world a here (insns.Compare op wide left right extra) = compare_row world a here.next op wide left (beside_extra right extra)
executed world a here (insns.CompareImm op wide left idx long imm) = compare_imm_row world a here.next op wide (indexed left idx) imm
executed world a here (insns.Arith op wide left right extra) = arith_row world a here.next op wide (plainly left) (beside_extra right extra)
executed world a here (insns.Move size bits left right lidx ridx) = move_or_stack world a here.next size left right lidx ridx
executed world a here (insns.MoveSigned bits left right lidx extra) =
    move_signed_row world a here.next (indexed left lidx) (beside_extra right extra)
executed world a here (insns.MoveImm size bits left lidx imm) = move_imm_row world a here size (indexed left lidx) imm
executed world a here (insns.MoveImmNatural bits left lidx idx) = move_imm_natural_row world a here.next (indexed left lidx) idx
executed world a here (insns.MoveRelative bits left lidx imm) = move_relative_row world a here.next (indexed left lidx) imm
executed world a here (insns.LoadSpecial from) = Stuck
executed world a here (insns.StoreSpecial to special) = store_special_row world a here.next to special
executed world a here (insns.Push wide op extra) = push_row world a here.next wide (beside_extra op extra)
executed world a here (insns.Pop wide op extra) = pop_row world a here.next wide (beside_extra op extra)
executed world a here (insns.PushNatural op extra) = push_natural_row world a here.next (beside_extra op extra)
executed world a here (insns.PopNatural op extra) = pop_natural_row world a here.next (beside_extra op extra)
