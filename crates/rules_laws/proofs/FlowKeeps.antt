-- The instructions of control and of the stack keep the conditions on a state.
use Rattle.rules_laws.proofs.Common.{◌≡◌, false, not, ◌&&◌, nat_eq, Option, Some, slice_get, IfOk, Err, is_none, Index, Insn, Operand, Size}
use Rattle.rules_laws.proofs.Common.{Qword, N, FnNote, Notes, State, Here, index_distance, after_flow, flow_row, frame_move, plain_row}
use Rattle.rules_laws.proofs.Common.{slot_kind, unrelocated, frame_row, IsNotes, IsState, AreStates, params_known}
use Rattle.rules_laws.proofs.CallsKeep.{break_row-keeps, call_native_row-keeps, call_row-keeps, jump8_row-keeps, jump_row-keeps}
use Rattle.rules_laws.proofs.CallsKeep.{return_row-keeps}
use Rattle.rules_laws.proofs.FramesKeep.{frame_row-keeps, pop_row-keeps, push_row-keeps}
use Rattle.rules_laws.proofs.{Options.ok_choice, PlacesKeep.ParamsKnown}
use Rattle.ebc_insn.specs.declared.Insn.TheVariants as insn
use Rattle.note_types.specs.declared.rule.RuleName.TheVariants as rule

frame_move-keeps : (notes : Notes) (f : FnNote) (s : State) (z : Size) (left right : Operand) (ridx : Option Index) → IsState notes f s
    → IfOk (frame_move notes f s z left right ridx) (AreStates notes f)
frame_move-keeps notes f s Qword left right ridx h =
    ok_choice (AreStates notes f) left.indirect (Err rule.Form) _ tt
    (ok_choice (AreStates notes f) (nat_eq left.reg 0 && (not right.indirect && nat_eq right.reg 0))
    (frame_row notes f s (index_distance ridx)) (Err rule.Stack)
    (frame_row-keeps notes f s (index_distance ridx) h) tt)
frame_move-keeps notes f s _ left right ridx h = ok_choice (AreStates notes f) left.indirect (Err rule.Form) (Err rule.Stack) tt tt

plain_row-keeps : (notes : Notes) (f : FnNote) (here : Here) (s : State) (i : Insn) → IsNotes notes → ParamsKnown notes f f.params
    → IsState notes f s → IfOk (plain_row notes f here s i) (AreStates notes f)
plain_row-keeps notes f here s (insn.Break code) n p h = break_row-keeps notes f s code h
plain_row-keeps notes f here s insn.Ret n p h = return_row-keeps notes f s
plain_row-keeps notes f here s (insn.Call far native rel op extra) n p h = call_native_row-keeps notes f here s far rel op extra n h
plain_row-keeps notes f here s (insn.Push wide op extra) n p h = push_row-keeps notes f s (slot_kind wide) op extra n p h
plain_row-keeps notes f here s (insn.Pop wide op extra) n p h = pop_row-keeps notes f s (slot_kind wide) op extra h
plain_row-keeps notes f here s (insn.PushNatural op extra) n p h = push_row-keeps notes f s N op extra n p h
plain_row-keeps notes f here s (insn.PopNatural op extra) n p h = pop_row-keeps notes f s N op extra h
plain_row-keeps notes f here s (insn.Move z bits left right lidx ridx) n p h = frame_move-keeps notes f s z left right ridx h
plain_row-keeps notes f here s i n p h = tt

unrelocated_keeps : (notes : Notes) (f : FnNote) (here : Here) (s : State) (i : Insn) → IsNotes notes → ParamsKnown notes f f.params
    → IsState notes f s → IfOk (unrelocated notes f here s i) (AreStates notes f)
unrelocated_keeps notes f here s i n p h = ok_choice (AreStates notes f) (is_none here.reloc) (plain_row notes f here s i)
    (Err rule.Relocation) (plain_row-keeps notes f here s i n p h) tt

flow_row-keeps : (notes : Notes) (f : FnNote) (here : Here) (s : State) (i : Insn) → IsNotes notes → ParamsKnown notes f f.params
    → IsState notes f s → IfOk (flow_row notes f here s i) (AreStates notes f)
flow_row-keeps notes f here s (insn.Jump cond far rel op extra) n p h = jump_row-keeps notes f here s cond far rel op extra h
flow_row-keeps notes f here s (insn.Jump8 cond words) n p h = jump8_row-keeps notes f here s cond words h
flow_row-keeps notes f here s (insn.Call far false rel op extra) n p h = call_row-keeps notes f here s far rel op extra n h
flow_row-keeps notes f here s (insn.MoveImm z bits left lidx imm) n p h = tt
flow_row-keeps notes f here s i n p h = unrelocated_keeps notes f here s i n p h

pub after_flow-keeps : (notes : Notes) (here : Here) (s : State) (i : Insn) (f : FnNote) → slice_get notes.function here.func ≡ Some f
    → IsNotes notes → IsState notes f s → IfOk (after_flow notes here s i) (AreStates notes f)
unfolding after_flow
after_flow-keeps notes here s i f e n h = rw e (flow_row-keeps notes f here s i n (λ j p g. params_known notes here.func j f f p n e g) h)
