-- The rows keep what is said of written fields and made thunks.
use Rattle.rules_laws.proofs.Common.{◌≡◌, ℕ, ◌+◌, ◌<◌, ◌≤◌, Bool, true, false, not, ◌&&◌, nat_lt, nat_eq, List, length, Option, None, Some}
use Rattle.rules_laws.proofs.Common.{if◌then◌else◌, refl, arith, ℤ, pos, IfOk, Ok, Err, is_none, int_le, unsigned_abs, and_parts, eqb-true}
use Rattle.rules_laws.proofs.Common.{false≢true, ltb-true, Index, or_else, CmpOp, Cond, Always, Set, Clear, Extra, Insn, Operand, Size}
use Rattle.rules_laws.proofs.Common.{Qword, IsKnown, IsState, local_fields, IsNotes, type_of, SlotKind, N, Item, Slot, Locals, FnNote}
use Rattle.rules_laws.proofs.Common.{Notes, Signature, Fact, State, Ty, params_known, takes, target_at, changed, with_fact, with_store}
use Rattle.rules_laws.proofs.Common.{with_type, destination, put, extra_distance, index_distance, nowhere, also, beside, needs, wrap64}
use Rattle.rules_laws.proofs.Common.{constant, locals_size, place_at, form_access, operand_value, register_type, Access, Loaded, immediate}
use Rattle.rules_laws.proofs.Common.{Change, Destination, Register, Memory, Here, Distance, Place, after_data, arith_row, compare_imm_row}
use Rattle.rules_laws.proofs.Common.{compare_row, data_change, data_row, fact_of, flag, held, left_operand, left_value, move_access}
use Rattle.rules_laws.proofs.Common.{move_imm_row, move_index_row, move_relative_row, move_row, move_signed_row, store_special_row}
use Rattle.rules_laws.proofs.Common.{all_lent_out, break_row, call_fails, call_native_row, call_row, call_to, called, callee_at}
use Rattle.rules_laws.proofs.Common.{callee_method, is_next_thunk, may_return, native_call, native_called, return_row, signature_at}
use Rattle.rules_laws.proofs.Common.{with_thunk, after_flow, flow_row, frame_move, plain_row, slot_kind, unrelocated, drop_to, frame_row}
use Rattle.rules_laws.proofs.Common.{has_room, left_after, loses, pop_destination, pop_row, popped_type, push_row, slot_access, slot_type}
use Rattle.rules_laws.proofs.Common.{top_type, with_item, with_left, without_top, jump8_row, jump_row, jump_to, jumps, point_at, relative}
use Rattle.rules_laws.proofs.Common.{target_of, narrow, narrowed_if, ends, falls, Successors}
use Rattle.rules_base.specs.Access.{stores, target_place}
use Rattle.rules_data.specs.{Compares.compares, Data.plain_row as plain_data}
use Rattle.rules_data.specs.declared.rows.Held.{Held}
use Rattle.rules_flow.specs.{Calls.written_after, Narrowing.granted, Narrowing.is_signed_success, Narrowing.is_success}
use Rattle.rules_laws.proofs.LocalFields.{AreLocal, all_lent_out-local, no_local, one_local, union}
use Rattle.rules_laws.proofs.Options.{ok_also, ok_anything, ok_beside, ok_choice, ok_map, ok_some, ok_then}
use Rattle.rules_laws.proofs.PlacesKeep.{ParamsKnown, PlaceKnown, place_at-known}
use Rattle.rules_laws.specs.Fields.{DataKeepsFields, FlowKeepsFields, HasFields, HaveFields}
use Rattle.ebc_insn.specs.declared.Insn.TheVariants as insn
use Rattle.note_types.specs.declared.rule.RuleName.TheVariants as rule
use Rattle.note_types.specs.declared.types.Ty.TheVariants as ty
use Rattle.rules_base.specs.declared.access.Access.TheVariants as access
use Rattle.rules_base.specs.declared.change.Change.TheVariants as change
use Rattle.rules_base.specs.declared.place.Place.TheVariants as place

module _ (notes : Notes) (f : FnNote) where
  choice : (b : Bool) (g : ℕ) → AreLocal notes f g → AreLocal notes f (if b then g else 0)
  choice true g h = h
  choice false g h = no_local notes f

  -- ---- states

  abbrev Has : State → Type 0
  Has s = HasFields notes f s

  has_set : (s : State) → Has s → AreLocal notes f s.written
  has_set s h = record { below = h.set; fields = h.written }

  abbrev AreKept : Successors → Type 0
  AreKept x = HaveFields notes f x

  -- ---- narrowing

  granted_local : (op : CmpOp) (taken : Bool) (t : Ty) (k : ℕ) → IsKnown notes f t → AreLocal notes f (granted op taken t k)
  granted_local op taken (ty.Status g) k h = choice (is_success op taken k) g (record { below = h.bounded; fields = h.names })
  granted_local op taken (ty.SignedStatus g) k h = choice (is_signed_success op taken k) g (record { below = h.bounded; fields = h.names })
  granted_local op taken _ k h = no_local notes f

  narrow_has : (s : State) (taken : Bool) → IsState notes f s → Has s → Has (narrow s taken)
  unfolding narrow
  narrow_has s taken h g = by_fact s.fact
    where
      by_fact : (o : Option Fact) → Has (narrowed_if s o taken)
      by_fact None = g
      by_fact (Some x) =
          let q = union notes f s.written _ (has_set s g) (granted_local x.op taken (type_of s x.reg) x.k (h.registers x.reg)) in
          record { written = q.fields; set = q.below; made = g.made }

  -- ---- stores

  abbrev FieldFits : Option ℕ → Type 0
  FieldFits None = Unit {0}
  FieldFits (Some x) = (x < 64) × (x < length (local_fields notes f))

  abbrev DestinationFits : Destination → Type 0
  DestinationFits (Register r) = Unit {0}
  DestinationFits (Memory t) = FieldFits t.field

  abbrev ChangeFits : Change → Type 0
  ChangeFits (change.Written r t) = Unit {0}
  ChangeFits (change.Stored field) = FieldFits field
  ChangeFits (change.Compared fact) = Unit {0}

  target_place-fits : (a : Access) (p : Place) → PlaceKnown notes f p → IfOk (target_place a p) (λ t. FieldFits t.field)
  target_place-fits a (place.Object cell null) h = ok_choice (λ t. FieldFits t.field) (stores a cell) _ _
      (ok_choice (λ t. FieldFits t.field) null _ _ tt tt) tt
  target_place-fits a (place.Local x cell) h = ok_choice (λ t. FieldFits t.field) (stores a cell) _ _ (h.0, h.1) tt
  target_place-fits a (place.Parameter kind t) h = tt
  target_place-fits a (place.ThunkCell i) h = tt

  module _ (n : IsNotes notes) (params : ParamsKnown notes f f.params) where
    target_at-fits : (s : State) (a : Access) (r : ℕ) (d : Distance) → IsState notes f s
        → IfOk (target_at notes f s a r d) (λ t. FieldFits t.field)
    unfolding target_at
    target_at-fits s a r d h =
        ok_then (PlaceKnown notes f) (λ t. FieldFits t.field) (or_else rule.Address (place_at notes f s r d)) (target_place a)
        (ok_some (PlaceKnown notes f) rule.Address (place_at notes f s r d) (place_at-known notes f s r d n params (h.registers r)))
        (target_place-fits a)

    destination_fits : (s : State) (a : Access) (op : Operand) (d : Distance) → IsState notes f s
        → IfOk (destination notes f s a op d) DestinationFits
    unfolding destination
    destination_fits s a op d h =
        ok_choice DestinationFits op.indirect _ _ (ok_map (λ t. FieldFits t.field) DestinationFits Memory (target_at notes f s a op.reg d)
        (target_at-fits s a op.reg d h) (λ x q. q))
        (ok_choice DestinationFits (nat_eq op.reg 0) _ _ tt tt)

    put_fits : (to : Destination) (t : Ty) → DestinationFits to → IfOk (put to t) ChangeFits
    put_fits (Register r) t h = tt
    put_fits (Memory x) t h = ok_choice ChangeFits (takes x.cell t) _ _ h tt

    changed_has : (s : State) (x : Change) → Has s → ChangeFits x → Has (changed s x)
    unfolding changed with_store with_type with_fact
    changed_has s (change.Written r t) h g = record { written = h.written; set = h.set; made = h.made }
    changed_has s (change.Stored None) h g = h
    changed_has s (change.Stored (Some x)) h g =
        let q = union notes f s.written _ (has_set s h) (one_local notes f x g.0 g.1 (nat_lt x 64)) in
        record { written = q.fields; set = q.below; made = h.made }
    changed_has s (change.Compared fact) h g = record { written = h.written; set = h.set; made = h.made }

    -- ---- instructions on data

    flag_fits : (fact : Option Fact) (holds : Bool) → IfOk (flag fact holds) ChangeFits
    flag_fits fact holds = ok_choice ChangeFits holds (Ok (change.Compared fact)) (Err rule.Compare) tt tt

    plain_data-fits : (here : Here) (s : State) (i : Insn) → IsState notes f s → IfOk (plain_data notes f here s i) ChangeFits
    unfolding compare_row compare_imm_row arith_row left_operand move_row move_signed_row move_index_row move_relative_row store_special_row
    plain_data-fits here s (insn.Compare op wide left right extra) h =
        ok_then (λ (_ : Ty × Loaded). Unit {0}) ChangeFits (beside (register_type s left)
        (operand_value notes f s (form_access wide) right extra)) _
        (ok_anything (beside (register_type s left) (operand_value notes f s (form_access wide) right extra)))
        (λ p _. flag_fits None (compares op wide p.0 p.1.ty))
    plain_data-fits here s (insn.CompareImm op wide left idx long imm) h =
        ok_then (λ (_ : Ty). Unit {0}) ChangeFits (left_value notes f s (form_access wide) left (index_distance idx)) _
        (ok_anything (left_value notes f s (form_access wide) left (index_distance idx)))
        (λ t _. flag_fits (fact_of op wide left imm) (compares op wide t (constant (wrap64 imm))))
    plain_data-fits here s (insn.Arith op wide left right extra) h =
        ok_then (λ (p : Held × Loaded). DestinationFits p.0.to × Unit {0}) ChangeFits _ _
        (ok_beside (λ (p : Held). DestinationFits p.to) (λ (_ : Loaded). Unit {0}) _ _
        (ok_map (λ (p : Ty × Destination). Unit {0} × DestinationFits p.1) (λ (p : Held). DestinationFits p.to) held _
        (ok_beside (λ (_ : Ty). Unit {0}) DestinationFits (left_value notes f s (form_access wide) left nowhere)
        (destination notes f s (form_access wide) left nowhere) (ok_anything _) (destination_fits s (form_access wide) left nowhere h))
        (λ p q. q.1))
        (ok_anything _))
        (λ (p : Held × Loaded) q. ok_also ChangeFits _ _ (put_fits p.0.to _ q.0))
    plain_data-fits here s (insn.Move size bits left right lidx ridx) h =
        ok_then (λ (p : Destination × Loaded). DestinationFits p.0 × Unit {0}) ChangeFits _ _
        (ok_beside DestinationFits (λ (_ : Loaded). Unit {0}) _ _ (destination_fits s (move_access size) left (index_distance lidx) h)
        (ok_anything _))
        (λ p q. ok_also ChangeFits _ _ (put_fits p.0 _ q.0))
    plain_data-fits here s (insn.MoveSigned bits left right lidx extra) h =
        ok_then (λ (p : Destination × Loaded). DestinationFits p.0 × Unit {0}) ChangeFits _ _
        (ok_beside DestinationFits (λ (_ : Loaded). Unit {0}) _ _ (destination_fits s access.Signed left (index_distance lidx) h)
        (ok_anything _))
        (λ p q. put_fits p.0 _ q.0)
    plain_data-fits here s (insn.MoveImmNatural bits left lidx idx) h =
        ok_then DestinationFits ChangeFits _ _ (destination_fits s access.Natural left (index_distance lidx) h) (λ to q. put_fits to _ q)
    plain_data-fits here s (insn.MoveRelative bits left lidx imm) h = ok_choice ChangeFits left.indirect _ _ tt
        (ok_choice ChangeFits (nat_eq left.reg 0) _ _ tt tt)
    plain_data-fits here s (insn.StoreSpecial to special) h = ok_choice ChangeFits (nat_eq to 0) _ _ tt tt
    plain_data-fits here s _ h = tt

    data_row-fits : (here : Here) (s : State) (i : Insn) → IsState notes f s → IfOk (data_row notes f here s i) ChangeFits
    unfolding move_imm_row
    data_row-fits here s (insn.MoveImm size bits left lidx imm) h =
        ok_then (λ (p : Ty × Destination). Unit {0} × DestinationFits p.1) ChangeFits
        (beside (immediate notes here.reloc size bits left.indirect imm)
        (destination notes f s (move_access size) left (index_distance lidx))) _
        (ok_beside (λ (_ : Ty). Unit {0}) DestinationFits (immediate notes here.reloc size bits left.indirect imm)
        (destination notes f s (move_access size) left (index_distance lidx))
        (ok_anything (immediate notes here.reloc size bits left.indirect imm))
        (destination_fits s (move_access size) left (index_distance lidx) h))
        (λ p q. put_fits p.1 p.0 q.1)
    data_row-fits here s i h = ok_choice ChangeFits (is_none here.reloc) _ _ (plain_data-fits here s i h) tt

    -- ---- instructions of control and of the stack

    fall_kept : (s : State) → Has s → AreKept (falls s)
    fall_kept s h = (h, tt)

    jumps_kept : (s : State) (p : ℕ) (cond : Cond) → IsState notes f s → Has s → AreKept (jumps s p cond)
    jumps_kept s p Always h g = (tt, g)
    jumps_kept s p Set h g = (narrow_has s false h g, narrow_has s true h g)
    jumps_kept s p Clear h g = (narrow_has s true h g, narrow_has s false h g)

    jump_to-kept : (s : State) (cond : Cond) (p : ℤ) → IsState notes f s → Has s → IfOk (jump_to notes f s cond p) AreKept
    jump_to-kept s cond p h g =
        ok_then (λ _. Unit {0}) AreKept (or_else rule.Target (point_at notes f p)) _
        (ok_anything (or_else rule.Target (point_at notes f p))) (λ q k. jumps_kept s q cond h g)

    jump_row-kept : (here : Here) (s : State) (cond : Cond) (far rel : Bool) (op : Operand) (extra : Extra) → IsState notes f s → Has s
        → IfOk (jump_row notes f here s cond far rel op extra) AreKept
    unfolding jump_row
    jump_row-kept here s cond far rel op extra h g =
        ok_then (λ _. Unit {0}) AreKept (target_of here far rel op extra) (jump_to notes f s cond)
        (ok_anything (target_of here far rel op extra)) (λ p k. jump_to-kept s cond p h g)

    jump8_row-kept : (here : Here) (s : State) (cond : Cond) (words : ℤ) → IsState notes f s → Has s
        → IfOk (jump8_row notes f here s cond words) AreKept
    unfolding jump8_row
    jump8_row-kept here s cond words h g =
        ok_then (λ _. Unit {0}) AreKept (relative here _) (jump_to notes f s cond) (ok_anything (relative here _))
        (λ p k. jump_to-kept s cond p h g)

    called_kept : (s : State) (t : Ty) (set : ℕ) → AreLocal notes f set → Has s → AreKept (falls (called s t set))
    called_kept s t set h g = fall_kept (called s t set) (record { written = h.fields; set = h.below; made = g.made })

    call_row-kept : (here : Here) (s : State) (far rel : Bool) (op : Operand) (extra : Extra) → Has s
        → IfOk (call_row notes f here s far rel op extra) AreKept
    unfolding call_row call_to
    call_row-kept here s far rel op extra g =
        ok_then (λ _. Unit {0}) AreKept (target_of here far rel op extra) (call_to notes f s)
        (ok_anything (target_of here far rel op extra))
        (λ p k. ok_then (λ _. Unit {0}) AreKept (or_else rule.Target (callee_at notes p)) _
        (ok_anything (or_else rule.Target (callee_at notes p)))
        (λ c j. ok_also AreKept (Ok (falls (called s c.result s.written))) (call_fails notes f s c)
        (called_kept s c.result s.written (has_set s g) g)))

    written_after-local : (o : Option Ty) (written lent : ℕ) → AreLocal notes f written → AreLocal notes f lent
        → AreLocal notes f (written_after o written lent)
    written_after-local (Some (ty.Status g)) written lent h l = h
    written_after-local _ written lent h l = union notes f written lent h l

    native_call-kept : (s : State) (c : Signature) → IsState notes f s → Has s → IfOk (native_call notes f s c) AreKept
    unfolding native_call
    native_call-kept s c h g =
        ok_also AreKept (Ok (falls (native_called s c.result (all_lent_out c.params s.items)))) _
        (called_kept s _ _ (written_after-local c.result s.written (all_lent_out c.params s.items) (has_set s g)
        (all_lent_out-local notes f c.params s.items h.slots)) g)

    call_native_row-kept : (here : Here) (s : State) (far rel : Bool) (op : Operand) (extra : Extra) → IsState notes f s → Has s
        → IfOk (call_native_row notes f here s far rel op extra) AreKept
    unfolding call_native_row
    call_native_row-kept here s far rel op extra h g =
        ok_then (λ _. Unit {0}) AreKept (callee_method notes f s far rel op extra) _
        (ok_anything (callee_method notes f s far rel op extra))
        (λ m k. ok_then (λ _. Unit {0}) AreKept (or_else rule.Site (signature_at notes here.place m)) (native_call notes f s)
        (ok_anything (or_else rule.Site (signature_at notes here.place m)))
        (λ c i. native_call-kept s c h g))

    return_row-kept : (s : State) → IfOk (return_row f s) AreKept
    unfolding return_row
    return_row-kept s = ok_choice AreKept (may_return f s) (Ok ends) (Err rule.Return) (tt, tt) tt

    next_thunk-below : (s : State) (t : Ty) → is_next_thunk notes s t ≡ true → s.made + 1 ≤ length notes.thunk
    next_thunk-below s (ty.ThunkAt i) e =
        let p = and_parts _ _ e in let l = ltb-true i (length notes.thunk) p.1 in let q = eqb-true i s.made p.0 in omega (arith, l, q)
    next_thunk-below s _ e = absurd (false≢true e)

    made_if : (s : State) (b : Bool) → is_next_thunk notes s (type_of s 7)
        ≡ b → Has s → IfOk (if b then Ok (falls (with_thunk s)) else Err rule.Thunk) AreKept
    made_if s true e g = fall_kept (with_thunk s) (record { written = g.written; set = g.set; made = next_thunk-below s (type_of s 7) e })
    made_if s false e g = tt

    break_row-kept : (s : State) (code : ℕ) → Has s → IfOk (break_row notes s code) AreKept
    unfolding break_row
    break_row-kept s code g = ok_choice AreKept (nat_eq code 5) _ (Err rule.Form) (made_if s (is_next_thunk notes s (type_of s 7)) refl g)
        tt

    push_row-kept : (s : State) (kind : SlotKind) (op : Operand) (extra : Extra) → Has s → IfOk (push_row notes f s kind op extra) AreKept
    unfolding push_row
    push_row-kept s kind op extra g =
        ok_then (λ (_ : Loaded). Unit {0}) AreKept (also (operand_value notes f s (slot_access kind) op extra)
        (needs rule.Stack (has_room notes f (Slot kind ty.Any) s.items))) _
        (ok_anything (also (operand_value notes f s (slot_access kind) op extra)
        (needs rule.Stack (has_room notes f (Slot kind ty.Any) s.items))))
        (λ (v : Loaded) i. ok_also AreKept (Ok (falls (with_item s (Slot kind (slot_type kind v.ty))))) (needs rule.Thunk v.made)
        (fall_kept (with_item s (Slot kind (slot_type kind v.ty))) (record { written = g.written; set = g.set; made = g.made })))

    pop_destination-fits : (s : State) (kind : SlotKind) (op : Operand) (extra : Extra) → IsState notes f s
        → IfOk (pop_destination notes f s kind op extra) DestinationFits
    pop_destination-fits s kind op extra h =
        ok_choice DestinationFits (nat_eq op.reg 0) _ _ tt
        (ok_choice DestinationFits op.indirect _ _ (ok_map (λ t. FieldFits t.field) DestinationFits Memory
        (target_at notes f s (slot_access kind) op.reg (extra_distance extra))
        (target_at-fits s (slot_access kind) op.reg (extra_distance extra) h) (λ x q. q)) tt)

    pop_row-kept : (s : State) (kind : SlotKind) (op : Operand) (extra : Extra) → IsState notes f s → Has s
        → IfOk (pop_row notes f s kind op extra) AreKept
    unfolding pop_row
    pop_row-kept s kind op extra h g =
        ok_then (λ (p : Ty × Destination). Unit {0} × DestinationFits p.1) AreKept _ _
        (ok_beside (λ _. Unit {0}) DestinationFits (top_type kind s.items) (pop_destination notes f s kind op extra) (ok_anything _)
        (pop_destination-fits s kind op extra h))
        (λ p q. ok_then ChangeFits AreKept (put p.1 (popped_type notes op extra p.0)) _ (put_fits p.1 _ q.1)
        (λ x j. fall_kept (changed (without_top s) x) (changed_has (without_top s) x
        (record { written = g.written; set = g.set; made = g.made }) j)))

    drop_kept : (s : State) (o : Option (List Item)) → Has s → IfOk (drop_to s o) AreKept
    unfolding with_left
    drop_kept s None g = tt
    drop_kept s (Some left) g = fall_kept (with_left s (loses s.items left) left) (lost (loses s.items left))
      where
        lost : (b : Bool) → Has (with_left s b left)
        lost true = record { written = (no_local notes f).fields; set = (no_local notes f).below; made = g.made }
        lost false = record { written = g.written; set = g.set; made = g.made }

    frame_row-kept : (s : State) (d : Distance) → Has s → IfOk (frame_row notes f s d) AreKept
    unfolding frame_row
    frame_row-kept s d g =
        ok_choice AreKept (int_le (pos 0) d.n && int_le (pos 0) d.c) _ _
        (drop_kept s (left_after (locals_size notes f) s.items (unsigned_abs d.n) (unsigned_abs d.c)) g)
        (ok_choice AreKept (int_le d.n (pos 0) && int_le d.c (pos 0)) _ _
        (ok_choice AreKept _ (Ok (falls (with_item s Locals))) (Err rule.Stack)
        (fall_kept (with_item s Locals) (record { written = g.written; set = g.set; made = g.made })) tt) tt)

    frame_move-kept : (s : State) (size : Size) (left right : Operand) (ridx : Option Index) → Has s
        → IfOk (frame_move notes f s size left right ridx) AreKept
    frame_move-kept s Qword left right ridx g =
        ok_choice AreKept left.indirect (Err rule.Form) _ tt
        (ok_choice AreKept (nat_eq left.reg 0 && (not right.indirect && nat_eq right.reg 0)) (frame_row notes f s (index_distance ridx))
        (Err rule.Stack) (frame_row-kept s (index_distance ridx) g) tt)
    frame_move-kept s _ left right ridx g = ok_choice AreKept left.indirect (Err rule.Form) (Err rule.Stack) tt tt

    plain_row-kept : (here : Here) (s : State) (i : Insn) → IsState notes f s → Has s → IfOk (plain_row notes f here s i) AreKept
    plain_row-kept here s (insn.Break code) h g = break_row-kept s code g
    plain_row-kept here s insn.Ret h g = return_row-kept s
    plain_row-kept here s (insn.Call far native rel op extra) h g = call_native_row-kept here s far rel op extra h g
    plain_row-kept here s (insn.Push wide op extra) h g = push_row-kept s (slot_kind wide) op extra g
    plain_row-kept here s (insn.Pop wide op extra) h g = pop_row-kept s (slot_kind wide) op extra h g
    plain_row-kept here s (insn.PushNatural op extra) h g = push_row-kept s N op extra g
    plain_row-kept here s (insn.PopNatural op extra) h g = pop_row-kept s N op extra h g
    plain_row-kept here s (insn.Move size bits left right lidx ridx) h g = frame_move-kept s size left right ridx g
    plain_row-kept here s i h g = tt

    unrelocated_kept : (here : Here) (s : State) (i : Insn) → IsState notes f s → Has s → IfOk (unrelocated notes f here s i) AreKept
    unrelocated_kept here s i h g = ok_choice AreKept (is_none here.reloc) (plain_row notes f here s i) (Err rule.Relocation)
        (plain_row-kept here s i h g) tt

    flow_row-kept : (here : Here) (s : State) (i : Insn) → IsState notes f s → Has s → IfOk (flow_row notes f here s i) AreKept
    flow_row-kept here s (insn.Jump cond far rel op extra) h g = jump_row-kept here s cond far rel op extra h g
    flow_row-kept here s (insn.Jump8 cond words) h g = jump8_row-kept here s cond words h g
    flow_row-kept here s (insn.Call far false rel op extra) h g = call_row-kept here s far rel op extra g
    flow_row-kept here s (insn.MoveImm size bits left lidx imm) h g = tt
    flow_row-kept here s i h g = unrelocated_kept here s i h g

-- ---- all instructions

-- the rows of instructions on data keep such fields
pub data_kept : DataKeepsFields
unfolding after_data data_change
data_kept notes here s i f e n h g =
    let params : ParamsKnown notes f f.params = λ j p k. params_known notes here.func j f f p n e k in
    ok_map (ChangeFits notes f) (HasFields notes f) (changed s) _ (rw e (data_row-fits notes f n params here s i h))
    (λ x k. changed_has notes f n params s x g k)

-- those of control and of the stack too
pub flow_kept : FlowKeepsFields
unfolding after_flow
flow_kept notes here s i f e n h g =
    let params : ParamsKnown notes f f.params = λ j p k. params_known notes here.func j f f p n e k in
    rw e (flow_row-kept notes f n params here s i h g)
