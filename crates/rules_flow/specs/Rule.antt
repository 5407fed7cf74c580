-- For proofs: the rows of the instructions of control and of the stack as relations: an instruction meets its row in a
-- state, and goes on at a place with a state; or the first of the rules by which the row's parts fail is named.
-- docs/RULES.md, "The first rule", has the words.
use Rattle.std.specs.Prelude.{◌≡◌, ◌⊎◌, ℕ, Bool, false, List, [], ◌∷◌, Some, Ok, slice_get, is_none}
use Rattle.ebc_base.specs.Steps.{◌>>=◌, or_else}
use Rattle.ebc_insn.specs.declared.Extra.{Extra}
use Rattle.ebc_insn.specs.declared.Insn.{Insn}
use Rattle.ebc_insn.specs.declared.Insn.TheVariants as insn
use Rattle.ebc_insn.specs.declared.Operand.{Operand}
use Rattle.note_types.specs.BelowTests.{same_kind}
use Rattle.note_types.specs.Known.{local_fields}
use Rattle.note_types.specs.declared.cell.SlotKind.{SlotKind}
use Rattle.note_types.specs.declared.cell.SlotKind.TheVariants.{N}
use Rattle.note_types.specs.declared.items.Item.{Item}
use Rattle.note_types.specs.declared.items.Item.TheVariants.{Slot, Locals}
use Rattle.note_types.specs.declared.notes.FnNote.{FnNote}
use Rattle.note_types.specs.declared.notes.Notes.{Notes}
use Rattle.note_types.specs.declared.notes.Param.{Param}
use Rattle.note_types.specs.declared.notes.Signature.{Signature}
use Rattle.note_types.specs.declared.notes.WantParam.{WantParam}
use Rattle.note_types.specs.declared.rule.RuleName.{RuleName}
use Rattle.note_types.specs.declared.rule.RuleName.TheVariants as rule
use Rattle.note_types.specs.declared.shape.Field.{Field}
use Rattle.note_types.specs.declared.state.State.{State}
use Rattle.note_types.specs.declared.types.Ty.TheVariants as ty
use Rattle.rules_base.specs.declared.here.Here.{Here}
use Rattle.rules_base.specs.Change.{changed}
use Rattle.rules_base.specs.Destinations.{put}
use Rattle.rules_base.specs.FirstRule.{IsFirst, Part, afterwards, alone, broken, only_where, together, under}
use Rattle.rules_base.specs.Values.{operand_value}
use Rattle.rules_flow.specs.declared.successors.Successors.{Successors}
use Rattle.rules_flow.specs.Arguments.{all_lent_out, passed, wanted}
use Rattle.rules_flow.specs.Calls.{all_made, callee_at, callee_method, called, is_lower, native_called, signature_at}
use Rattle.rules_flow.specs.Flow.{flow_row, plain_row, slot_kind}
use Rattle.rules_flow.specs.Frames.{has_room, pop_destination, popped_type, slot_access, slot_type, top_type, with_item, without_top}
use Rattle.rules_flow.specs.Jumps.{target_of}
use Rattle.rules_flow.specs.Successors.{falls}

-- ---- arguments

-- the rules by which an item fails that is passed for a parameter: by its kind, and by its value
abbrev pub ArgumentFails : List Field → ℕ → Param → Item → RuleName → Type 0
ArgumentFails fields written p (Slot kind t) r = broken rule.Arguments (same_kind p.kind kind) r ⊎ (passed fields written p.ty t ≡ Some r)
ArgumentFails fields written p Locals r = Some rule.Arguments ≡ Some r

-- those by which the items from the top fail
abbrev pub ArgumentsFail : List Field → ℕ → List Param → List Item → RuleName → Type 0
ArgumentsFail fields written [] items r = ⊥
ArgumentsFail fields written (p ∷ ps) [] r = Some rule.Arguments ≡ Some r
ArgumentsFail fields written (p ∷ ps) (x ∷ xs) r = ArgumentFails fields written p x r ⊎ ArgumentsFail fields written ps xs r

-- the same of what is handed to a native method
abbrev pub NativeArgumentFails : List Field → ℕ → WantParam → Item → RuleName → Type 0
NativeArgumentFails fields written p (Slot kind t) r = broken rule.Arguments (same_kind p.kind kind) r
    ⊎ (wanted fields written p.want t ≡ Some r)
NativeArgumentFails fields written p Locals r = Some rule.Arguments ≡ Some r

abbrev pub NativeArgumentsFail : List Field → ℕ → List WantParam → List Item → RuleName → Type 0
NativeArgumentsFail fields written [] items r = ⊥
NativeArgumentsFail fields written (p ∷ ps) [] r = Some rule.Arguments ≡ Some r
NativeArgumentsFail fields written (p ∷ ps) (x ∷ xs) r = NativeArgumentFails fields written p x r
    ⊎ NativeArgumentsFail fields written ps xs r

-- ---- the parts of the rows that have several

-- the rules by which a call of a function fails: the level, the thunks and the arguments
abbrev pub CallFails : Notes → FnNote → State → FnNote → RuleName → Type 0
CallFails notes f s g r =
    (broken rule.Level (is_lower notes f s g) r ⊎ broken rule.Thunk (all_made notes s) r)
    ⊎ ArgumentsFail (local_fields notes f) s.written g.params s.items r

-- CALL of byte code: its conditions need the target
unfoldable pub call_part : Notes → FnNote → Here → State → Bool → Bool → Operand → Extra → Part Successors
call_part notes f here s far rel op extra =
    afterwards (alone (target_of here far rel op extra >>= λ place. or_else rule.Target (callee_at notes place)))
    (λ g. under (alone (Ok (falls (called s g.result s.written)))) (CallFails notes f s g))

-- the rules by which a call by a signature fails: the thunks and the arguments
abbrev pub NativeCallFails : Notes → FnNote → State → Signature → RuleName → Type 0
NativeCallFails notes f s g r =
    broken rule.Thunk (all_made notes s) r ⊎ NativeArgumentsFail (local_fields notes f) s.written g.params s.items r

-- CALLEX: its conditions need the method and the site
unfoldable pub call_native_part : Notes → FnNote → Here → State → Bool → Bool → Operand → Extra → Part Successors
call_native_part notes f here s far rel op extra =
    afterwards (alone (callee_method notes f s far rel op extra >>= λ m. or_else rule.Site (signature_at notes here.place m)))
    (λ g. under (alone (Ok (falls (native_called s g.result (all_lent_out g.params s.items))))) (NativeCallFails notes f s g))

-- pushes: the value and the room, and then that a loaded thunk is made
unfoldable pub push_part : Notes → FnNote → State → SlotKind → Operand → Extra → Part Successors
push_part notes f s kind op extra =
    afterwards (under (alone (operand_value notes f s (slot_access kind) op extra))
    (broken rule.Stack (has_room notes f (Slot kind ty.Any) s.items)))
    (λ v. under (alone (Ok (falls (with_item s (Slot kind (slot_type kind v.ty)))))) (broken rule.Thunk v.made))

-- pops: the store needs the top slot and the place
unfoldable pub pop_part : Notes → FnNote → State → SlotKind → Operand → Extra → Part Successors
pop_part notes f s kind op extra =
    afterwards (together (alone (top_type kind s.items)) (alone (pop_destination notes f s kind op extra)))
    (λ p. alone (put p.1 (popped_type notes op extra p.0) >>= λ change. Ok (falls (changed (without_top s) change))))

-- ---- all instructions of control and of the stack

-- an instruction that isn't relocated; in the other rows one rule at most can fail
abbrev pub plain_part : Notes → FnNote → Here → State → Insn → Part Successors
plain_part notes f here s (insn.Call far native rel op extra) = call_native_part notes f here s far rel op extra
plain_part notes f here s (insn.Push wide op extra) = push_part notes f s (slot_kind wide) op extra
plain_part notes f here s (insn.Pop wide op extra) = pop_part notes f s (slot_kind wide) op extra
plain_part notes f here s (insn.PushNatural op extra) = push_part notes f s N op extra
plain_part notes f here s (insn.PopNatural op extra) = pop_part notes f s N op extra
plain_part notes f here s i = alone (plain_row notes f here s i)

abbrev pub unrelocated_part : Notes → FnNote → Here → State → Insn → Part Successors
unrelocated_part notes f here s i = only_where (is_none here.reloc) rule.Relocation (plain_part notes f here s i)

abbrev pub flow_part : Notes → FnNote → Here → State → Insn → Part Successors
flow_part notes f here s (insn.Jump cond far rel op extra) = alone (flow_row notes f here s (insn.Jump cond far rel op extra))
flow_part notes f here s (insn.Jump8 cond words) = alone (flow_row notes f here s (insn.Jump8 cond words))
flow_part notes f here s (insn.Call far false rel op extra) = call_part notes f here s far rel op extra
flow_part notes f here s (insn.MoveImm size bits left lidx imm) = alone (flow_row notes f here s (insn.MoveImm size bits left lidx imm))
flow_part notes f here s i = unrelocated_part notes f here s i

-- what an instruction leads to
unfoldable pub successors_part : Notes → Here → State → Insn → Part Successors
successors_part notes here s i = afterwards (alone (or_else rule.Function (slice_get notes.function here.func)))
    (λ f. flow_part notes f here s i)

-- the state is one of these successors, at a place
abbrev pub IsSuccessor : Here → Successors → ℕ → State → Type 0
IsSuccessor here x next post = ((x.fall ≡ Some post) × (next ≡ here.next)) ⊎ (x.jump ≡ Some (next, post))

-- the instruction meets its row in a state, and goes on at a place with a state
abbrev pub Rule : Notes → Here → State → Insn → ℕ → State → Type 0
Rule notes here s i next post = (x : Successors) × (successors_part notes here s i).gives x × IsSuccessor here x next post

-- the first of the rules by which its row fails
abbrev pub FirstRule : Notes → Here → State → Insn → RuleName → Type 0
FirstRule notes here s i r = IsFirst (successors_part notes here s i).fails r
