-- An instruction of the machine changes no byte but those that it is said to store.
use Rattle.std.proofs.Common.{◌≡◌, ℕ, suc, ◌+◌, ◌-◌, ◌*◌, ◌%◌, ◌^◌, ◌<◌, ◌≤◌, ◌⊎◌, inl, inr, Bool, true, false, if◌then◌else◌}
use Rattle.std.proofs.Common.{⊎_elim, List, [], ◌∷◌, length, Option, Some, None, Ok, refl, sym, ap, ◌∙◌, subst, arith, ℤ, pos, ◌*ℤ◌}
use Rattle.std.specs.Prelude.{⊤, IfOk, nat_eq, slice_get, slice_index, slice_set}
use Rattle.std.proofs.lemmas.Bool.{cond_both, true≢false}
use Rattle.std.proofs.lemmas.Option.{same_Some}
use Rattle.ebc_base.specs.Steps.{◌>>=◌}
use Rattle.ebc_base.proofs.Given.{ok_next, ok_then}
use Rattle.std.specs.List.{list_any}
use Rattle.std.proofs.lemmas.Bool.{or_cases}
use Rattle.ebc_width.specs.Bytes.{put}
use Rattle.ebc_width.specs.Ranges.{Range, covers, holds}
use Rattle.ebc_width.proofs.Laws.{by_width}
use Rattle.ebc_width.proofs.RangeLaws.{covers-bounds}
use Rattle.ebc_width.specs.Width.{IsWidth, cut_at, extended_at, wrap64}
use Rattle.ebc_width.proofs.ByteLaws.{put-apart}
use Rattle.natural_index.specs.declared.Index.{Index}
use Rattle.ebc_insn.specs.declared.ArithOp.{ArithOp}
use Rattle.ebc_insn.specs.declared.CmpOp.{CmpOp}
use Rattle.ebc_insn.specs.declared.Cond.{Cond}
use Rattle.ebc_insn.specs.declared.Insn.{Insn}
use Rattle.ebc_insn.specs.declared.Insn.TheVariants as insns
use Rattle.ebc_insn.specs.declared.Size.{Size}
use Rattle.machine_alu.specs.Alu.{computed}
use Rattle.note_types.specs.Concrete.{Concrete, IsConcrete, stored, with_register, at_ip, with_flags}
use Rattle.note_types.specs.declared.exception.Exception.{Exception}
use Rattle.note_types.specs.declared.exception.Exception.TheVariants as raises
use Rattle.ebc_machine.specs.declared.operand.Side.{Side}
use Rattle.ebc_machine.specs.declared.StepEnd.{StepEnd}
use Rattle.ebc_machine.specs.declared.StepEnd.TheVariants as ends
use Rattle.ebc_machine.specs.Results.{Written, Row, or_divide_error, goes}
use Rattle.ebc_machine.specs.Operands.{form_bytes, size_bytes, low_bytes, index_offset, address, sum_at, loaded_at, stored_at, value}
use Rattle.ebc_machine.specs.Operands.{written}
use Rattle.ebc_machine.specs.Operands.{plain, with_extra, with_index}
use Rattle.ebc_machine.specs.Data.{arith_row, compare_row, compare_imm_row}
use Rattle.ebc_machine.specs.Moves.{move_row, move_signed_row, move_imm_row, move_imm_natural_row, move_relative_row, load_special_row}
use Rattle.ebc_machine.specs.Moves.{store_special_row}
use Rattle.ebc_machine.specs.Stack.{stack_fault, raised_by, lowered_by, pushed, popped, popped_number, push_row, pop_row}
use Rattle.ebc_machine.specs.Flow.{is_taken, aligned, target_at, called, jump_row, jump8_row, call_row, call_native_row, return_row}
use Rattle.ebc_machine.specs.Flow.{break_row}
use Rattle.ebc_machine.specs.Step.{executed}
use Rattle.ebc_machine.proofs.ValueLaws.{held_or}
use Rattle.run_trace.specs.Stores.{operand_bytes, pushed_bytes, popped_bytes, stored_by, thunk_bytes}
use Rattle.run_trace.specs.StoreLaws.{IsOutside}
use Rattle.run_trace.specs.declared.stores.StoreRange.{StoreRange}

-- Where an instruction asks the host for a thunk, these are the bytes of its cell, and it has changed none.
abbrev pub AsksWithin : ℕ → Concrete → Option StoreRange → StepEnd → Concrete → Type 0
AsksWithin w s range (ends.MakeThunk cell) t = (range ≡ Some (record { address = cell; size = w })) × (t.byte ≡ s.byte)
AsksWithin w s range _ t = ⊤

-- An instruction that is done has left each byte outside these as it was. A thunk that it asks for has them as its cell.
pub record StoresWithin (w : ℕ) (s : Concrete) (range : Option StoreRange) (end : StepEnd) (t : Concrete) : Type 0 where
  pub others : (x : ℕ) → IsOutside x range → t.byte x ≡ s.byte x
  pub thunk : AsksWithin w s range end t

-- Each byte outside a range is as it was.
abbrev pub KeepsOthers : Concrete → Option StoreRange → Concrete → Type 0
KeepsOthers s range t = (x : ℕ) → IsOutside x range → t.byte x ≡ s.byte x

-- a row that ends so
abbrev pub RowWithin : ℕ → Concrete → Option StoreRange → Row → Type 0
RowWithin w s range row = IfOk row (λ done. StoresWithin w s range done.0 done.1)

-- ---- a store

-- What a store leaves: the objects and the registers, and each byte outside these, which one object holds.
pub record IsStored (s : Concrete) (a k : ℕ) (t : Concrete) : Type 0 where
  pub objects : t.objects ≡ s.objects
  pub registers : t.registers ≡ s.registers
  pub held : holds s.objects a k ≡ true
  pub others : KeepsOthers s (Some (record { address = a; size = k })) t

pub is-stored : (s : Concrete) (a k v : ℕ) (t : Concrete) → stored s a k v ≡ Some t → IsStored s a k t
unfolding stored
is-stored s a k v t same = either (holds s.objects a k) refl same
  where
    either : (held : Bool) → holds s.objects a k ≡ held → (if held then Some (record s { byte = put s.byte a k v }) else None) ≡ Some t
        → IsStored s a k t
    either true held e =
        let after = sym (same_Some _ _ e) in
        record {
          objects = ap (λ (u : Concrete). u.objects) after;
          registers = ap (λ (u : Concrete). u.registers) after;
          held = held;
          others = λ x outside. ap (λ (u : Concrete). u.byte x) after ∙ put-apart s.byte a k v x outside;
        }
    either false held e = absurd (cc)

stored_at-keeps : (w : ℕ) (s : Concrete) (e : Exception) (k r offset v : ℕ)
    → IfOk (stored_at w s e k r offset v) (KeepsOthers s (Some (record { address = address w s r offset; size = k })))
unfolding stored_at
stored_at-keeps w s e k r offset v =
    held_or (KeepsOthers s (Some (record { address = address w s r offset; size = k }))) e (stored s (address w s r offset) k v)
    (λ t same. (is-stored s (address w s r offset) k v t same).others)

-- what a write to an operand leaves, where it may go to memory
operand-keeps : (w : ℕ) (s : Concrete) (e : Exception) (k : ℕ) (o : Side) (v direct : ℕ)
    → IfOk (if o.indirect then stored_at w s e k o.reg o.offset v else Ok (with_register s o.reg direct))
    (KeepsOthers s (operand_bytes w s.registers k o))
unfolding address sum_at with_register
operand-keeps w s e k o v direct = either o.indirect
  where
    either : (b : Bool) → IfOk (if b then stored_at w s e k o.reg o.offset v else Ok (with_register s o.reg direct))
        (KeepsOthers s (if b then Some (record { address = cut_at w ((slice_index s.registers o.reg + o.offset) % 2 ^ 64); size = k })
        else None))
    either true = stored_at-keeps w s e k o.reg o.offset v
    either false = λ x outside. refl

written-keeps : (w : ℕ) (s : Concrete) (k : ℕ) (o : Side) (v : ℕ)
    → IfOk (written w s k o v) (KeepsOthers s (operand_bytes w s.registers k o))
unfolding written
written-keeps w s k o v = operand-keeps w s raises.MemoryFault k o v v

-- ---- the stack

some-register : (w : ℕ) (s : Concrete) → IsConcrete w s → 0 < length s.registers
some-register w s is = let eight = is.eight in omega (arith, eight)

-- what R0 holds once it is set
top-there : (registers : List ℕ) (v : ℕ) → 0 < length registers → v < 2 ^ 64
    → (slice_index (slice_set registers 0 v) 0 + 0) % 2 ^ 64 ≡ v
top-there [] v some below = absurd (omega (arith, some))
top-there (x ∷ xs) v some below = omega (arith, below)

pushed-keeps : (w : ℕ) (s : Concrete) (e : Exception) (k n v : ℕ) → 0 < length s.registers
    → IfOk (stored_at w (lowered_by s n) e k 0 0 v)
    (KeepsOthers s (Some (record { address = cut_at w ((slice_index s.registers 0 + (2 ^ 64 - n)) % 2 ^ 64); size = k })))
unfolding lowered_by with_register address sum_at
pushed-keeps w s e k n v some =
    let top = (slice_index s.registers 0 + (2 ^ 64 - n)) % 2 ^ 64 in
    subst (λ a. IfOk (stored_at w (lowered_by s n) e k 0 0 v) (KeepsOthers s (Some (record { address = cut_at w a; size = k }))))
    (top-there s.registers top some (omega arith)) (stored_at-keeps w (lowered_by s n) e k 0 0 v)

-- what objects hold lies where objects lie
held-inside : (ranges : List Range) (a n top : ℕ)
    → ((k : ℕ) (r : Range) → slice_get ranges k ≡ Some r → (1 ≤ r.base) × (r.base + r.size ≤ top))
    → holds ranges a n ≡ true → (1 ≤ a) × (a + n ≤ top)
unfolding holds
held-inside [] a n top inside held = absurd (true≢false (sym held))
held-inside (r ∷ ranges) a n top inside held =
    ⊎_elim
    (λ here.
    let bounds = covers-bounds r a n here in
    let lies = inside 0 r refl in
    (omega (arith, bounds.0, lies.0), omega (arith, bounds.1, lies.1)))
    (λ there. held-inside ranges a n top (λ k q. inside (suc k) q) there)
    (or_cases (covers a n r) (list_any (covers a n) ranges) held)

-- the eight bytes above those on top of the stack follow these, where neither are past the last address or at the first
cell-above : (w top : ℕ) → IsWidth w → top < 2 ^ 64 → cut_at w top + 8 ≤ 2 ^ (8 * w) → 1 ≤ cut_at w ((top + 8) % 2 ^ 64)
    → cut_at w ((top + 8) % 2 ^ 64) ≡ cut_at w top + 8
cell-above w top width =
    by_width (λ v. top < 2 ^ 64 → cut_at v top + 8 ≤ 2 ^ (8 * v) → 1 ≤ cut_at v ((top + 8) % 2 ^ 64)
    → cut_at v ((top + 8) % 2 ^ 64) ≡ cut_at v top + 8) w width
    (λ below fits some. omega (arith, below, fits, some)) (λ below fits some. omega (arith, below, fits, some))

-- what R0 holds once it is set, and so many bytes more
above-top : (registers : List ℕ) (v n : ℕ) → 0 < length registers
    → (slice_index (slice_set registers 0 v) 0 + n) % 2 ^ 64 ≡ (v + n) % 2 ^ 64
above-top [] v n some = absurd (omega (arith, some))
above-top (x ∷ xs) v n some = refl

-- the two cells that CALL stores are one after the other
both-cells : (w : ℕ) (s low t : Concrete) → IsConcrete w s → IsStored (lowered_by s 16) (address w (lowered_by s 16) 0 0) 8 low
    → IsStored low (address w low 0 8) 8 t → KeepsOthers s (pushed_bytes w s.registers 16) t
unfolding lowered_by with_register address sum_at
both-cells w s low t is first second =
    let top = (slice_index s.registers 0 + (2 ^ 64 - 16)) % 2 ^ 64 in
    let some = some-register w s is in
    let at : (slice_index (slice_set s.registers 0 top) 0 + 0) % 2 ^ 64 ≡ top = top-there s.registers top some (omega arith) in
    let here : cut_at w ((slice_index (slice_set s.registers 0 top) 0 + 0) % 2 ^ 64) ≡ cut_at w top = ap (cut_at w) at in
    let there : cut_at w ((slice_index low.registers 0 + 8) % 2 ^ 64) ≡ cut_at w ((top + 8) % 2 ^ 64)
    = ap (λ rs. cut_at w ((slice_index rs 0 + 8) % 2 ^ 64)) first.registers ∙ ap (cut_at w) (above-top s.registers top 8 some) in
    let low_lies = held-inside s.objects _ 8 (2 ^ (8 * w)) is.inside first.held in
    let high = cut_at w ((slice_index low.registers 0 + 8) % 2 ^ 64) in
    let high_lies = held-inside s.objects high 8 (2 ^ (8 * w)) is.inside
    (subst (λ (os : List Range). holds os high 8 ≡ true) first.objects second.held) in
    let next = cell-above w top is.width (omega arith) (subst (λ a. a + 8 ≤ 2 ^ (8 * w)) here low_lies.1)
    (subst (λ a. 1 ≤ a) there high_lies.0) in
    λ x outside.
    second.others x (subst (λ a. (x < a) ⊎ (a + 8 ≤ x)) (sym (there ∙ next)) (past x (cut_at w top) outside))
    ∙ first.others x (subst (λ a. (x < a) ⊎ (a + 8 ≤ x)) (sym here) (before x (cut_at w top) outside))
  where
    past : (x a : ℕ) → (x < a) ⊎ (a + 16 ≤ x) → (x < a + 8) ⊎ (a + 8 + 8 ≤ x)
    past x a (inl l) = inl (omega (arith, l))
    past x a (inr l) = inr (omega (arith, l))

    before : (x a : ℕ) → (x < a) ⊎ (a + 16 ≤ x) → (x < a) ⊎ (a + 8 ≤ x)
    before x a (inl l) = inl l
    before x a (inr l) = inr (omega (arith, l))

-- what CALL stores on top of the stack
called-keeps : (w : ℕ) (s : Concrete) (next : ℕ) → IsConcrete w s → IfOk (called w s next) (KeepsOthers s (pushed_bytes w s.registers 16))
unfolding called stored_at
called-keeps w s next is =
    ok_then (λ low. IsStored (lowered_by s 16) (address w (lowered_by s 16) 0 0) 8 low) (KeepsOthers s (pushed_bytes w s.registers 16))
    (stored_at w (lowered_by s 16) raises.StackFault 8 0 0 next) _
    (held_or _ raises.StackFault (stored (lowered_by s 16) (address w (lowered_by s 16) 0 0) 8 next)
    (λ low same. is-stored (lowered_by s 16) (address w (lowered_by s 16) 0 0) 8 next low same))
    (λ low first. held_or _ raises.StackFault (stored low (address w low 0 8) 8 0)
    (λ t same. both-cells w s low t is first (is-stored low (address w low 0 8) 8 0 t same)))

-- ---- rows that store nothing

goes-within : (w : ℕ) (s t : Concrete) (range : Option StoreRange) (to : ℕ) → KeepsOthers s range t → RowWithin w s range (goes t to)
unfolding goes at_ip
goes-within w s t range to keeps = record { others = keeps; thunk = tt }

-- control goes on from a state with the same bytes
stays-within : (w : ℕ) (s t : Concrete) (range : Option StoreRange) (to : ℕ) → t.byte ≡ s.byte → RowWithin w s range (goes t to)
stays-within w s t range to same = goes-within w s t range to (λ x outside. ap (λ b. b x) same)

then-next : (w : ℕ) (s : Concrete) (range : Option StoreRange) (after : Written) (next : ℕ) → IfOk after (KeepsOthers s range)
    → RowWithin w s range (after >>= (λ t. goes t next))
then-next w s range after next kept =
    ok_then (KeepsOthers s range) (λ done. StoresWithin w s range done.0 done.1) after (λ t. goes t next) kept
    (λ t keeps. goes-within w s t range next keeps)

aligned-within : (w : ℕ) (s t : Concrete) (range : Option StoreRange) (target : ℕ) → t.byte ≡ s.byte
    → RowWithin w s range (aligned target >>= (λ to. goes t to))
aligned-within w s t range target same =
    ok_next (λ done. StoresWithin w s range done.0 done.1) (aligned target) (λ to. goes t to) (λ to. stays-within w s t range to same)

-- ---- the rows

module _ (w : ℕ) (s : Concrete) (next : ℕ) where
  abbrev Within : Option StoreRange → Row → Type 0
  Within range row = RowWithin w s range row

  arith-within : (op : ArithOp) (wide : Bool) (left right : Side)
      → Within (operand_bytes w s.registers (form_bytes wide) left) (arith_row w s next op wide left right)
  unfolding arith_row
  arith-within op wide left right =
      ok_next _ (value w s raises.MemoryFault (form_bytes wide) right) _
      (λ b. ok_next _ (value w s raises.MemoryFault (form_bytes wide) left) _
      (λ a. ok_next _ (or_divide_error (computed op wide a b)) _
      (λ v. then-next w s _ (written w s (form_bytes wide) left v) next (written-keeps w s (form_bytes wide) left v))))

  compare-within : (op : CmpOp) (wide : Bool) (left : ℕ) (right : Side) (range : Option StoreRange)
      → Within range (compare_row w s next op wide left right)
  unfolding compare_row with_flags
  compare-within op wide left right range =
      ok_next _ (value w s raises.MemoryFault (form_bytes wide) right) _ (λ b. stays-within w s _ range next refl)

  compare_imm-within : (op : CmpOp) (wide : Bool) (left : Side) (imm : ℤ) (range : Option StoreRange)
      → Within range (compare_imm_row w s next op wide left imm)
  unfolding compare_imm_row with_flags
  compare_imm-within op wide left imm range =
      ok_next _ (value w s raises.MemoryFault (form_bytes wide) left) _ (λ a. stays-within w s _ range next refl)

  move-within : (size : Size) (left right : Side)
      → Within (operand_bytes w s.registers (size_bytes w size) left) (move_row w s next size left right)
  unfolding move_row
  move-within size left right =
      ok_next _ (value w s raises.MemoryFault (size_bytes w size) right) _
      (λ v. then-next w s _ (written w s (size_bytes w size) left (low_bytes (size_bytes w size) v)) next
      (written-keeps w s (size_bytes w size) left (low_bytes (size_bytes w size) v)))

  move_signed-within : (left right : Side) → Within (operand_bytes w s.registers w left) (move_signed_row w s next left right)
  unfolding move_signed_row
  move_signed-within left right =
      ok_next _ (value w s raises.MemoryFault w right) _
      (λ v. then-next w s _ (written w s w left (extended_at w v)) next (written-keeps w s w left (extended_at w v)))

  move_imm-within : (size : Size) (left : Side) (imm : ℤ)
      → Within (operand_bytes w s.registers (size_bytes w size) left) (move_imm_row w s next size left imm)
  unfolding move_imm_row
  move_imm-within size left imm =
      then-next w s _ (written w s (size_bytes w size) left (low_bytes (size_bytes w size) (wrap64 imm))) next
      (written-keeps w s (size_bytes w size) left (low_bytes (size_bytes w size) (wrap64 imm)))

  move_imm_natural-within : (left : Side) (idx : Index)
      → Within (operand_bytes w s.registers w left) (move_imm_natural_row w s next left idx)
  unfolding move_imm_natural_row
  move_imm_natural-within left idx =
      then-next w s _ (written w s w left (index_offset w idx)) next (written-keeps w s w left (index_offset w idx))

  move_relative-within : (left : Side) (imm : ℤ) → Within (operand_bytes w s.registers w left) (move_relative_row w s next left imm)
  unfolding move_relative_row
  move_relative-within left imm =
      then-next w s _ (written w s w left ((next + wrap64 imm) % 2 ^ 64)) next (written-keeps w s w left ((next + wrap64 imm) % 2 ^ 64))

  load_special-within : (from : ℕ) (range : Option StoreRange) → Within range (load_special_row s next from)
  unfolding load_special_row with_flags
  load_special-within from range = stays-within w s _ range next refl

  store_special-within : (to special : ℕ) (range : Option StoreRange) → Within range (store_special_row s next to special)
  unfolding store_special_row with_register
  store_special-within to special range = stays-within w s _ range next refl

  -- ---- the stack

  push-within : (k : ℕ) (op : Side) → 0 < length s.registers → Within (pushed_bytes w s.registers k) (push_row w s next k op)
  unfolding push_row pushed
  push-within k op some =
      ok_next _ (value w s (stack_fault op.reg) k op) _
      (λ v. then-next w s _ (pushed w s k v) next (pushed-keeps w s raises.StackFault k k v some))

  pop-within : (k : ℕ) (signed : Bool) (op : Side) → Within (popped_bytes w s.registers k op) (pop_row w s next k signed op)
  unfolding pop_row popped raised_by with_register
  pop-within k signed op =
      ok_next _ (loaded_at w s raises.StackFault k 0 0) _
      (λ v. then-next w s _ (popped w (raised_by s k) k op (popped_number signed k v)) next
      (operand-keeps w (raised_by s k) (stack_fault op.reg) k op (popped_number signed k v)
      ((popped_number signed k v + op.offset) % 2 ^ 64)))

  -- ---- control

  jump-within : (cond : Cond) (relative : Bool) (op : Side) (range : Option StoreRange) → Within range (jump_row w s next cond relative op)
  unfolding jump_row
  jump-within cond relative op range =
      cond_both (is_taken cond s.flags) _ (goes s next) (Within range)
      (λ taken. ok_next _ (target_at w s next relative op) _ (λ t. aligned-within w s s range t refl))
      (λ passed. stays-within w s s range next refl)

  jump8-within : (cond : Cond) (words : ℤ) (range : Option StoreRange) → Within range (jump8_row s next cond words)
  unfolding jump8_row
  jump8-within cond words range =
      cond_both (is_taken cond s.flags) _ (goes s next) (Within range)
      (λ taken. aligned-within w s s range ((next + wrap64 (words *ℤ pos 2)) % 2 ^ 64) refl)
      (λ passed. stays-within w s s range next refl)

  call_native-within : (relative : Bool) (op : Side) (range : Option StoreRange) → Within range (call_native_row w s next relative op)
  unfolding call_native_row at_ip
  call_native-within relative op range =
      ok_next _ (target_at w s next relative op) _ (λ t. record { others = λ x outside. refl; thunk = tt })

  return-within : (range : Option StoreRange) → Within range (return_row w s)
  unfolding return_row raised_by with_register
  return-within range =
      ok_next _ (loaded_at w s raises.StackFault 8 0 0) _ (λ t. aligned-within w s (raised_by s 16) range t refl)

  break-within : (code : ℕ) → Within (thunk_bytes w s.registers code) (break_row s next code)
  unfolding break_row with_register at_ip
  break-within code =
      let range = thunk_bytes w s.registers code in
      cond_both (nat_eq code 1) _ _ (Within range) (λ one. stays-within w s _ range next refl)
      (λ e1. cond_both (nat_eq code 3) _ _ (Within range) (λ three. tt)
      (λ e3. cond_both (nat_eq code 5) _ _ (Within range)
      (λ five. record {
        others = λ x outside. refl;
        thunk = (ap (λ b. if b then Some (record { address = slice_index s.registers 7; size = w }) else None) five, refl);
      })
      (λ e5. cond_both (nat_eq code 4) _ _ (Within range) (λ four. stays-within w s s range next refl)
      (λ e4. cond_both (nat_eq code 6) _ _ (Within range) (λ six. stays-within w s s range next refl) (λ e6. tt)))))

  call-within : (relative : Bool) (op : Side) → IsConcrete w s → Within (pushed_bytes w s.registers 16) (call_row w s next relative op)
  unfolding call_row
  call-within relative op is =
      ok_next _ (target_at w s next relative op) _
      (λ t. ok_next _ (aligned t) _
      (λ to. then-next w s _ (called w s next) to (called-keeps w s next is)))

pub executed-within : (w : ℕ) (s : Concrete) (next : ℕ) (i : Insn) → IsConcrete w s
    → RowWithin w s (stored_by w s.registers i) (executed w s next i)
unfolding executed stored_by
executed-within w s next (insns.Break code) is = break-within w s next code
executed-within w s next (insns.Jump cond far relative op extra) is = jump-within w s next cond relative (with_extra w op extra) None
executed-within w s next (insns.Jump8 cond words) is = jump8-within w s next cond words None
executed-within w s next (insns.Call far false relative op extra) is = call-within w s next relative (with_extra w op extra) is
executed-within w s next (insns.Call far true relative op extra) is = call_native-within w s next relative (with_extra w op extra) None
executed-within w s next insns.Ret is = return-within w s next None
executed-within w s next (insns.Compare op wide left right extra) is =
    compare-within w s next op wide left (with_extra w right extra) None
executed-within w s next (insns.CompareImm op wide left idx long imm) is =
    compare_imm-within w s next op wide (with_index w left idx) imm None
executed-within w s next (insns.Arith op wide left right extra) is = arith-within w s next op wide (plain left) (with_extra w right extra)
executed-within w s next (insns.Move size bits left right lidx ridx) is =
    move-within w s next size (with_index w left lidx) (with_index w right ridx)
executed-within w s next (insns.MoveSigned bits left right lidx extra) is =
    move_signed-within w s next (with_index w left lidx) (with_extra w right extra)
executed-within w s next (insns.MoveImm size bits left lidx imm) is = move_imm-within w s next size (with_index w left lidx) imm
executed-within w s next (insns.MoveImmNatural bits left lidx idx) is = move_imm_natural-within w s next (with_index w left lidx) idx
executed-within w s next (insns.MoveRelative bits left lidx imm) is = move_relative-within w s next (with_index w left lidx) imm
executed-within w s next (insns.LoadSpecial from) is = load_special-within w s next from None
executed-within w s next (insns.StoreSpecial to special) is = store_special-within w s next to special None
executed-within w s next (insns.Push wide op extra) is =
    push-within w s next (form_bytes wide) (with_extra w op extra) (some-register w s is)
executed-within w s next (insns.Pop wide op extra) is = pop-within w s next (form_bytes wide) true (with_extra w op extra)
executed-within w s next (insns.PushNatural op extra) is = push-within w s next w (with_extra w op extra) (some-register w s is)
executed-within w s next (insns.PopNatural op extra) is = pop-within w s next w false (with_extra w op extra)
