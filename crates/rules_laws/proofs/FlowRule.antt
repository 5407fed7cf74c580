-- The instructions of control and of the stack tell what their rows give, and the first rule by which these fail.
use Rattle.rules_laws.proofs.Common.{◌≡◌, ℕ, Bool, false, List, [], ◌∷◌, Some, refl, sym, subst, ◌∙◌, Ok, Err, is_none, ◌>>=◌, or_else}
use Rattle.rules_laws.proofs.Common.{Extra, Insn, Operand, same_kind, local_fields, SlotKind, N, Item, Slot, Locals, FnNote, Notes, Param}
use Rattle.rules_laws.proofs.Common.{WantParam, Field, State, Here, Tells, TellsRule, Successors, call_native_row, call_row, call_to}
use Rattle.rules_laws.proofs.Common.{callee_at, callee_method, native_call, signature_at, after_flow, flow_row, plain_row, slot_kind}
use Rattle.rules_laws.proofs.Common.{unrelocated, has_room, pop_row, push_row, target_of, FlowFirst, FlowGiven, FlowRelated, OrRule}
use Rattle.rules_flow.specs.Arguments.{argument, arguments, native_argument, native_arguments, passed, wanted}
use Rattle.rules_flow.specs.Rule.{ArgumentFails, ArgumentsFail, IsSuccessor, NativeArgumentFails, NativeArgumentsFail, call_native_part}
use Rattle.rules_flow.specs.Rule.{call_part, flow_part, plain_part, pop_part, push_part, successors_part, unrelocated_part}
use Rattle.rules_flow.specs.Calls.{all_made, is_lower}
use Rattle.rules_laws.proofs.FirstRule.{tells_alone, tells_also, tells_beside, tells_both, tells_needs, tells_none, tells_option}
use Rattle.rules_laws.proofs.FirstRule.{tells_then, tells_where}
use Rattle.ebc_insn.specs.declared.Insn.TheVariants as insn
use Rattle.note_types.specs.declared.rule.RuleName.TheVariants as rule
use Rattle.note_types.specs.declared.types.Ty.TheVariants as ty

-- ---- arguments

tells_argument : (fields : List Field) (written : ℕ) (p : Param) (x : Item)
    → TellsRule (argument fields written p x) (ArgumentFails fields written p x)
tells_argument fields written p (Slot kind t) = tells_both _ _ _ _ (tells_needs rule.Arguments (same_kind p.kind kind))
    (tells_option (passed fields written p.ty t))
tells_argument fields written p Locals = tells_option (Some rule.Arguments)

tells_arguments : (fields : List Field) (written : ℕ) (ps : List Param) (xs : List Item)
    → TellsRule (arguments fields written ps xs) (ArgumentsFail fields written ps xs)
unfolding arguments
tells_arguments fields written [] xs = tells_none
tells_arguments fields written (p ∷ ps) [] = tells_option (Some rule.Arguments)
tells_arguments fields written (p ∷ ps) (x ∷ xs) = tells_both _ _ _ _ (tells_argument fields written p x)
    (tells_arguments fields written ps xs)

tells_native_argument : (fields : List Field) (written : ℕ) (p : WantParam) (x : Item)
    → TellsRule (native_argument fields written p x) (NativeArgumentFails fields written p x)
tells_native_argument fields written p (Slot kind t) = tells_both _ _ _ _ (tells_needs rule.Arguments (same_kind p.kind kind))
    (tells_option (wanted fields written p.want t))
tells_native_argument fields written p Locals = tells_option (Some rule.Arguments)

tells_native_arguments : (fields : List Field) (written : ℕ) (ps : List WantParam) (xs : List Item)
    → TellsRule (native_arguments fields written ps xs) (NativeArgumentsFail fields written ps xs)
unfolding native_arguments
tells_native_arguments fields written [] xs = tells_none
tells_native_arguments fields written (p ∷ ps) [] = tells_option (Some rule.Arguments)
tells_native_arguments fields written (p ∷ ps) (x ∷ xs) = tells_both _ _ _ _ (tells_native_argument fields written p x)
    (tells_native_arguments fields written ps xs)

-- ---- rows

-- steps may be grouped either way
regroup : {A B C : Type 0} (a : OrRule A) (f : A → OrRule B) (g : B → OrRule C) → (a >>= f) >>= g ≡ a >>= (λ x. f x >>= g)
regroup (Ok x) f g = refl
regroup (Err r) f g = refl

tells_call : (notes : Notes) (f : FnNote) (here : Here) (s : State) (far rel : Bool) (op : Operand) (extra : Extra)
    → Tells (call_row notes f here s far rel op extra) (call_part notes f here s far rel op extra)
unfolding call_row call_to call_part
tells_call notes f here s far rel op extra =
    subst (λ (r : OrRule Successors). Tells r (call_part notes f here s far rel op extra))
    (regroup (target_of here far rel op extra) (λ place. or_else rule.Target (callee_at notes place)) _)
    (tells_then _ _ _ _ (tells_alone _) (λ g. tells_also _ _ _ _ (tells_alone _)
    (tells_both _ _ _ _ (tells_both _ _ _ _ (tells_needs rule.Level (is_lower notes f s g)) (tells_needs rule.Thunk (all_made notes s)))
    (tells_arguments (local_fields notes f) s.written g.params s.items))))

tells_call_native : (notes : Notes) (f : FnNote) (here : Here) (s : State) (far rel : Bool) (op : Operand) (extra : Extra)
    → Tells (call_native_row notes f here s far rel op extra) (call_native_part notes f here s far rel op extra)
unfolding call_native_row native_call call_native_part
tells_call_native notes f here s far rel op extra =
    subst (λ (r : OrRule Successors). Tells r (call_native_part notes f here s far rel op extra))
    (regroup (callee_method notes f s far rel op extra) (λ m. or_else rule.Site (signature_at notes here.place m)) _)
    (tells_then _ _ _ _ (tells_alone _) (λ g. tells_also _ _ _ _ (tells_alone _)
    (tells_both _ _ _ _ (tells_needs rule.Thunk (all_made notes s))
    (tells_native_arguments (local_fields notes f) s.written g.params s.items))))

tells_push : (notes : Notes) (f : FnNote) (s : State) (kind : SlotKind) (op : Operand) (extra : Extra)
    → Tells (push_row notes f s kind op extra) (push_part notes f s kind op extra)
unfolding push_row push_part
tells_push notes f s kind op extra =
    tells_then _ _ _ _ (tells_also _ _ _ _ (tells_alone _) (tells_needs rule.Stack (has_room notes f (Slot kind ty.Any) s.items)))
    (λ v. tells_also _ _ _ _ (tells_alone _) (tells_needs rule.Thunk v.made))

tells_pop : (notes : Notes) (f : FnNote) (s : State) (kind : SlotKind) (op : Operand) (extra : Extra)
    → Tells (pop_row notes f s kind op extra) (pop_part notes f s kind op extra)
unfolding pop_row pop_part
tells_pop notes f s kind op extra = tells_then _ _ _ _ (tells_beside _ _ _ _ (tells_alone _) (tells_alone _)) (λ p. tells_alone _)

-- ---- all instructions

tells_plain : (notes : Notes) (f : FnNote) (here : Here) (s : State) (i : Insn)
    → Tells (plain_row notes f here s i) (plain_part notes f here s i)
tells_plain notes f here s (insn.Call far native rel op extra) = tells_call_native notes f here s far rel op extra
tells_plain notes f here s (insn.Push wide op extra) = tells_push notes f s (slot_kind wide) op extra
tells_plain notes f here s (insn.Pop wide op extra) = tells_pop notes f s (slot_kind wide) op extra
tells_plain notes f here s (insn.PushNatural op extra) = tells_push notes f s N op extra
tells_plain notes f here s (insn.PopNatural op extra) = tells_pop notes f s N op extra
tells_plain notes f here s i = tells_alone (plain_row notes f here s i)

tells_unrelocated : (notes : Notes) (f : FnNote) (here : Here) (s : State) (i : Insn)
    → Tells (unrelocated notes f here s i) (unrelocated_part notes f here s i)
tells_unrelocated notes f here s i = tells_where (is_none here.reloc) rule.Relocation (plain_row notes f here s i)
    (plain_part notes f here s i) (tells_plain notes f here s i)

tells_flow : (notes : Notes) (f : FnNote) (here : Here) (s : State) (i : Insn)
    → Tells (flow_row notes f here s i) (flow_part notes f here s i)
tells_flow notes f here s (insn.Jump cond far rel op extra) = tells_alone (flow_row notes f here s (insn.Jump cond far rel op extra))
tells_flow notes f here s (insn.Jump8 cond words) = tells_alone (flow_row notes f here s (insn.Jump8 cond words))
tells_flow notes f here s (insn.Call far false rel op extra) = tells_call notes f here s far rel op extra
tells_flow notes f here s (insn.MoveImm size bits left lidx imm) =
    tells_alone (flow_row notes f here s (insn.MoveImm size bits left lidx imm))
tells_flow notes f here s i = tells_unrelocated notes f here s i

pub tells_successors : (notes : Notes) (here : Here) (s : State) (i : Insn)
    → Tells (after_flow notes here s i) (successors_part notes here s i)
unfolding after_flow successors_part
tells_successors notes here s i = tells_then _ _ _ _ (tells_alone _) (λ f. tells_flow notes f here s i)

pub flow_related : (notes : Notes) (here : Here) (s : State) (i : Insn) → FlowRelated notes here s i (after_flow notes here s i)
flow_related notes here s i = λ x e next post. (
  λ h. let same : Ok h.0 ≡ Ok x = sym (((tells_successors notes here s i).given h.0).1 h.1) ∙ e in
      let one : h.0 ≡ x = cc in subst (λ (y : Successors). IsSuccessor here y next post) one h.2,
  λ h. (x, ((tells_successors notes here s i).given x).0 e, h),
)

pub flow_first : (notes : Notes) (here : Here) (s : State) (i : Insn) → FlowFirst notes here s i (after_flow notes here s i)
flow_first notes here s i = (tells_successors notes here s i).first

pub flow_given : (notes : Notes) (here : Here) (s : State) (i : Insn) → FlowGiven notes here s i (after_flow notes here s i)
flow_given notes here s i = (tells_successors notes here s i).given
