-- Where the rows lead: a jump goes to a point of the function, and what falls through is an instruction that may.
use Rattle.step_sound.proofs.Common.{IfOk, Ok, Err, ◌≡◌, ℕ, ◌<◌, ◌≤◌, pos, Bool, true, false, not, ◌&&◌, if◌then◌else◌, nat_eq, nat_lt}
use Rattle.step_sound.proofs.Common.{nat_le, List, Option, Some, None, refl, sym, ap, ◌∙◌, subst, inl, inr, slice_get, and_parts, leb-true}
use Rattle.step_sound.proofs.Common.{ltb-true, true≢false, none-some, same_Some, Insn, Index, type_of, FnNote, Notes, State, after_data}
use Rattle.step_sound.proofs.Common.{after_flow, falls, Successors, row_of, is_flow}
use Rattle.std.proofs.Common.{int_le, unsigned_abs, ℤ, ◌*ℤ◌, is_none}
use Rattle.ebc_insn.specs.declared.{Cond.Cond, Extra.Extra, Operand.Operand, Size.Size, Size.TheVariants.Qword}
use Rattle.ebc_base.specs.Steps.{or_else, ◌>>=◌, only_if}
use Rattle.note_types.specs.declared.{cell.SlotKind.SlotKind, cell.SlotKind.TheVariants.N, items.Item.Item, items.Item.TheVariants.Slot}
use Rattle.note_types.specs.declared.{items.Item.TheVariants.Locals, notes.Point.Point}
use Rattle.rules_base.specs.declared.{here.Here.Here, operand.Distance.Distance}
use Rattle.rules_base.specs.{Destinations.put, Operands.index_distance, Outcomes.also, Outcomes.beside, Outcomes.gives_map, Outcomes.needs}
use Rattle.rules_base.specs.{Outcomes.OrRule, Parts.and_then, Places.locals_size, Values.operand_value}
use Rattle.rules_flow.specs.Calls.{break_row, call_fails, call_native_row, call_row, call_to, callee_at, callee_method, called}
use Rattle.rules_flow.specs.Frames.{drop_to, frame_row, has_room, left_after, pop_destination, pop_row, popped_type, push_row, slot_access}
use Rattle.rules_flow.specs.Calls.{is_next_thunk, may_return, native_call, native_called, return_row, signature_at, with_thunk}
use Rattle.rules_flow.specs.Jumps.{jump8_row, jump_row, jump_to, jumps, place_within, point_at, relative, target_of}
use Rattle.rules_flow.specs.{Arguments.all_lent_out, Flow.flow_row, Flow.frame_move, Flow.plain_row, Flow.slot_kind, Flow.unrelocated}
use Rattle.rules_flow.specs.{Found.number_from, Frames.slot_type, Frames.top_type, Frames.with_item, Successors.ends}
use Rattle.rules_laws.proofs.Options.{ok_also, ok_anything, ok_choice, ok_then}
use Rattle.typing_laws.specs.OneRule.{Accepted}
use Rattle.typing_laws.proofs.DataTable.{ChangeFound, change_found, no_row}
use Rattle.ebc_insn.specs.declared.Cond.TheVariants as conds
use Rattle.ebc_insn.specs.declared.Insn.TheVariants as insn
use Rattle.note_types.specs.declared.rule.RuleName.TheVariants as rule
use Rattle.note_types.specs.declared.types.Ty.TheVariants as ty
use Rattle.rules_image.specs.Images as images

-- a point of a function's code stands at a place
pub record PointIn (notes : Notes) (f : FnNote) (place : ℕ) : Type 0 where
  pub number : ℕ
  pub point : Point
  pub there : slice_get notes.point number ≡ Some point
  pub at : point.place ≡ place
  pub from : f.place ≤ place
  pub to : place < f.end

-- Where an instruction's row leads.
pub record RowLeads (notes : Notes) (f : FnNote) (i : Insn) (x : Successors) : Type 0 where
  pub jump : (p : ℕ) (t : State) → x.jump ≡ Some (p, t) → PointIn notes f p
  pub fall : (t : State) → x.fall ≡ Some t → images.falls i ≡ true

abbrev NoJump : Successors → Type 0
NoJump x = x.jump ≡ None

module _ (notes : Notes) (f : FnNote) (here : Here) (s : State) where
  -- ---- jumps

  and_some : {A B : Type 0} (o : Option A) (g : A → Option B) (y : B) → and_then o g ≡ Some y → (x : A) × (o ≡ Some x) × (g x ≡ Some y)
  and_some None g y e = absurd (none-some y e)
  and_some (Some x) g y e = (x, refl, e)

  point_inside : (place : ℤ) (p : ℕ) → point_at notes f place ≡ Some p → PointIn notes f p
  unfolding point_at
  point_inside place p e =
      let a = and_some (and_then (number_from (λ (q : Point). q.place) notes.point place) (slice_get notes.point)) (place_within f) p e in
      let b = and_some (number_from (λ (q : Point). q.place) notes.point place) (slice_get notes.point) a.0 a.1 in
      let c = only (nat_le f.place a.0.place && nat_lt a.0.place f.end) a.0.place p a.2 in
      let d = and_parts (nat_le f.place a.0.place) (nat_lt a.0.place f.end) c.0 in
      record {
        number = b.0;
        point = a.0;
        there = b.2;
        at = c.1;
        from = subst (λ q. f.place ≤ q) c.1 (leb-true f.place a.0.place d.0);
        to = subst (λ q. q < f.end) c.1 (ltb-true a.0.place f.end d.1);
      }
    where
      only : (t : Bool) (q p : ℕ) → only_if t q ≡ Some p → (t ≡ true) × (q ≡ p)
      only true q p e = (refl, same_Some q p e)
      only false q p e = absurd (none-some p e)

  pair_place : (q p : ℕ) (u t : State) → ◌≡◌ {A = Option (ℕ × State)} (Some (q, u)) (Some (p, t)) → q ≡ p
  pair_place q p u t e = ap (λ (z : ℕ × State). z.0) (same_Some (q, u) (p, t) e)

  jumps_lead : (i : Insn) (cond : Cond) (p : ℕ) → PointIn notes f p → ((t : State) → (jumps s p cond).fall ≡ Some t → images.falls i ≡ true)
      → RowLeads notes f i (jumps s p cond)
  jumps_lead i conds.Always p q fall = record { jump = λ r t e. subst (PointIn notes f) (pair_place p r _ t e) q; fall = fall }
  jumps_lead i conds.Set p q fall = record { jump = λ r t e. subst (PointIn notes f) (pair_place p r _ t e) q; fall = fall }
  jumps_lead i conds.Clear p q fall = record { jump = λ r t e. subst (PointIn notes f) (pair_place p r _ t e) q; fall = fall }

  jump_to_leads : (i : Insn) (cond : Cond) (place : ℤ) → ((p : ℕ) (t : State) → (jumps s p cond).fall ≡ Some t → images.falls i ≡ true)
      → IfOk (jump_to notes f s cond place) (RowLeads notes f i)
  jump_to_leads i cond place fall = go (point_at notes f place) refl
    where
      go : (o : Option ℕ) → point_at notes f place ≡ o → IfOk (or_else rule.Target o >>= λ p. Ok (jumps s p cond)) (RowLeads notes f i)
      go None e = tt
      go (Some p) e = jumps_lead i cond p (point_inside place p e) (fall p)

  jump_leads : (cond : Cond) (far rel : Bool) (op : Operand) (extra : Extra)
      → IfOk (jump_row notes f here s cond far rel op extra) (RowLeads notes f (insn.Jump cond far rel op extra))
  unfolding jump_row
  jump_leads cond far rel op extra =
      ok_then (λ _. Unit {0}) (RowLeads notes f (insn.Jump cond far rel op extra)) (target_of here far rel op extra)
      (jump_to notes f s cond) (ok_anything (target_of here far rel op extra))
      (λ place k. jump_to_leads (insn.Jump cond far rel op extra) cond place (by cond))
    where
      by : (cond : Cond) (p : ℕ) (t : State) → (jumps s p cond).fall ≡ Some t → images.falls (insn.Jump cond far rel op extra) ≡ true
      by conds.Always p t e = absurd (none-some t e)
      by conds.Set p t e = refl
      by conds.Clear p t e = refl

  jump8_leads : (cond : Cond) (words : ℤ) → IfOk (jump8_row notes f here s cond words) (RowLeads notes f (insn.Jump8 cond words))
  unfolding jump8_row
  jump8_leads cond words =
      ok_then (λ _. Unit {0}) (RowLeads notes f (insn.Jump8 cond words)) (relative here (words *ℤ pos 2)) (jump_to notes f s cond)
      (ok_anything (relative here (words *ℤ pos 2)))
      (λ place k. jump_to_leads (insn.Jump8 cond words) cond place (by cond))
    where
      by : (cond : Cond) (p : ℕ) (t : State) → (jumps s p cond).fall ≡ Some t → images.falls (insn.Jump8 cond words) ≡ true
      by conds.Always p t e = absurd (none-some t e)
      by conds.Set p t e = refl
      by conds.Clear p t e = refl

  -- ---- the other rows

  no_jump : (i : Insn) (r : OrRule Successors) → images.falls i ≡ true → IfOk r NoJump → IfOk r (RowLeads notes f i)
  no_jump i (Ok x) e n = record { jump = λ p t h. absurd (none-some (p, t) (sym n ∙ h)); fall = λ t h. e }
  no_jump i (Err r) e n = tt

  call_stays : (far rel : Bool) (op : Operand) (extra : Extra) → IfOk (call_row notes f here s far rel op extra) NoJump
  unfolding call_row call_to
  call_stays far rel op extra =
      ok_then (λ _. Unit {0}) NoJump (target_of here far rel op extra) (call_to notes f s) (ok_anything (target_of here far rel op extra))
      (λ place k. ok_then (λ _. Unit {0}) NoJump (or_else rule.Target (callee_at notes place)) _
      (ok_anything (or_else rule.Target (callee_at notes place)))
      (λ g j. ok_also NoJump (Ok (falls (called s g.result s.written))) (call_fails notes f s g) refl))

  native_stays : (far rel : Bool) (op : Operand) (extra : Extra) → IfOk (call_native_row notes f here s far rel op extra) NoJump
  unfolding call_native_row native_call
  native_stays far rel op extra =
      ok_then (λ _. Unit {0}) NoJump (callee_method notes f s far rel op extra) _ (ok_anything (callee_method notes f s far rel op extra))
      (λ m k. ok_then (λ _. Unit {0}) NoJump (or_else rule.Site (signature_at notes here.place m)) (native_call notes f s)
      (ok_anything (or_else rule.Site (signature_at notes here.place m)))
      (λ g j. ok_also NoJump (Ok (falls (native_called s g.result (all_lent_out g.params s.items)))) _ refl))

  return_leads : IfOk (return_row f s) (RowLeads notes f insn.Ret)
  unfolding return_row
  return_leads = ok_choice (RowLeads notes f insn.Ret) (may_return f s) (Ok ends) (Err rule.Return)
      (record { jump = λ p t e. absurd (none-some (p, t) e); fall = λ t e. absurd (none-some t e) }) tt

  break_stays : (code : ℕ) → IfOk (break_row notes s code) NoJump
  unfolding break_row
  break_stays code =
      ok_choice NoJump (nat_eq code 5) _ (Err rule.Form)
      (ok_choice NoJump (is_next_thunk notes s (type_of s 7)) (Ok (falls (with_thunk s))) (Err rule.Thunk) refl tt) tt

  push_stays : (kind : SlotKind) (op : Operand) (extra : Extra) → IfOk (push_row notes f s kind op extra) NoJump
  unfolding push_row
  push_stays kind op extra =
      ok_then (λ _. Unit {0}) NoJump (also (operand_value notes f s (slot_access kind) op extra)
      (needs rule.Stack (has_room notes f (Slot kind ty.Any) s.items))) _ (ok_anything _)
      (λ v i. ok_also NoJump (Ok (falls (with_item s (Slot kind (slot_type kind v.ty))))) (needs rule.Thunk v.made) refl)

  pop_stays : (kind : SlotKind) (op : Operand) (extra : Extra) → IfOk (pop_row notes f s kind op extra) NoJump
  unfolding pop_row
  pop_stays kind op extra =
      ok_then (λ _. Unit {0}) NoJump (beside (top_type kind s.items) (pop_destination notes f s kind op extra)) _ (ok_anything _)
      (λ x i. ok_then (λ _. Unit {0}) NoJump (put x.1 (popped_type notes op extra x.0)) _ (ok_anything _) (λ change j. refl))

  drop_stays : (o : Option (List Item)) → IfOk (drop_to s o) NoJump
  drop_stays None = tt
  drop_stays (Some left) = refl

  frame_stays : (d : Distance) → IfOk (frame_row notes f s d) NoJump
  unfolding frame_row
  frame_stays d =
      ok_choice NoJump (int_le (pos 0) d.n && int_le (pos 0) d.c) _ _
      (drop_stays (left_after (locals_size notes f) s.items (unsigned_abs d.n) (unsigned_abs d.c)))
      (ok_choice NoJump (int_le d.n (pos 0) && int_le d.c (pos 0)) _ _
      (ok_choice NoJump _ (Ok (falls (with_item s Locals))) (Err rule.Stack) refl tt) tt)

  move_stays : (z : Size) (left right : Operand) (ridx : Option Index) → IfOk (frame_move notes f s z left right ridx) NoJump
  move_stays Qword left right ridx =
      ok_choice NoJump left.indirect (Err rule.Form) _ tt
      (ok_choice NoJump (nat_eq left.reg 0 && (not right.indirect && nat_eq right.reg 0)) (frame_row notes f s (index_distance ridx))
      (Err rule.Stack) (frame_stays (index_distance ridx)) tt)
  move_stays _ left right ridx = ok_choice NoJump left.indirect (Err rule.Form) (Err rule.Stack) tt tt

  plain_leads : (i : Insn) → IfOk (plain_row notes f here s i) (RowLeads notes f i)
  plain_leads (insn.Break code) = no_jump (insn.Break code) _ refl (break_stays code)
  plain_leads insn.Ret = return_leads
  plain_leads (insn.Call far native rel op extra) = no_jump (insn.Call far native rel op extra) _ refl (native_stays far rel op extra)
  plain_leads (insn.Push wide op extra) = no_jump (insn.Push wide op extra) _ refl (push_stays (slot_kind wide) op extra)
  plain_leads (insn.Pop wide op extra) = no_jump (insn.Pop wide op extra) _ refl (pop_stays (slot_kind wide) op extra)
  plain_leads (insn.PushNatural op extra) = no_jump (insn.PushNatural op extra) _ refl (push_stays N op extra)
  plain_leads (insn.PopNatural op extra) = no_jump (insn.PopNatural op extra) _ refl (pop_stays N op extra)
  plain_leads (insn.Move z bits left right lidx ridx) = no_jump (insn.Move z bits left right lidx ridx) _ refl
      (move_stays z left right ridx)
  plain_leads (insn.MoveSigned bits left right lidx extra) = tt
  plain_leads (insn.MoveImm z bits left lidx imm) = tt
  plain_leads (insn.MoveImmNatural bits left lidx idx) = tt
  plain_leads (insn.MoveRelative bits left lidx imm) = tt
  plain_leads _ = tt

  unrelocated_leads : (i : Insn) → IfOk (unrelocated notes f here s i) (RowLeads notes f i)
  unrelocated_leads i = ok_choice (RowLeads notes f i) (is_none here.reloc) (plain_row notes f here s i) (Err rule.Relocation)
      (plain_leads i) tt

  flow_leads : (i : Insn) → IfOk (flow_row notes f here s i) (RowLeads notes f i)
  flow_leads (insn.Jump cond far rel op extra) = jump_leads cond far rel op extra
  flow_leads (insn.Jump8 cond words) = jump8_leads cond words
  flow_leads (insn.Call far false rel op extra) = no_jump (insn.Call far false rel op extra) _ refl (call_stays far rel op extra)
  flow_leads (insn.MoveImm z bits left lidx imm) = tt
  flow_leads i = unrelocated_leads i

-- an instruction on data falls through
data_falls : (i : Insn) → is_flow i ≡ false → images.falls i ≡ true
data_falls (insn.Break code) e = refl
data_falls (insn.Jump cond far rel op extra) e = absurd (true≢false e)
data_falls (insn.Jump8 cond words) e = absurd (true≢false e)
data_falls insn.Ret e = absurd (true≢false e)
data_falls (insn.Call far native rel op extra) e = refl
data_falls (insn.Push wide op extra) e = refl
data_falls (insn.Pop wide op extra) e = refl
data_falls (insn.PushNatural op extra) e = refl
data_falls (insn.PopNatural op extra) e = refl
data_falls (insn.Compare op wide left right extra) e = refl
data_falls (insn.CompareImm op wide left idx long imm) e = refl
data_falls (insn.Arith op wide left right extra) e = refl
data_falls (insn.Move z bits left right lidx ridx) e = refl
data_falls (insn.MoveSigned bits left right lidx extra) e = refl
data_falls (insn.MoveImm z bits left lidx imm) e = refl
data_falls (insn.MoveImmNatural bits left lidx idx) e = refl
data_falls (insn.MoveRelative bits left lidx imm) e = refl
data_falls (insn.LoadSpecial r) e = refl
data_falls (insn.StoreSpecial to special) e = refl

-- where the row of an instruction of control or of the stack leads
pub flow_leads_there : (notes : Notes) (here : Here) (s : State) (i : Insn) (x : Successors) (f : FnNote)
    → slice_get notes.function here.func ≡ Some f → after_flow notes here s i ≡ Ok x → RowLeads notes f i x
unfolding after_flow
flow_leads_there notes here s i x f there e =
    subst (λ (q : OrRule Successors). IfOk q (RowLeads notes f i)) e
    (subst (λ (o : Option FnNote). IfOk (or_else rule.Function o >>= λ g. flow_row notes g here s i) (RowLeads notes f i)) (sym there)
    (flow_leads notes f here s i))

-- where the row of an instruction leads
pub row_leads : (notes : Notes) (here : Here) (s : State) (i : Insn) (x : Successors) (f : FnNote)
    → slice_get notes.function here.func ≡ Some f → row_of notes here s i ≡ Ok x → RowLeads notes f i x
unfolding row_of
row_leads notes here s i x f there e = go (is_flow i) refl e
  where
    of_data : is_flow i ≡ false → (r : OrRule State) → gives_map falls r ≡ Ok x → RowLeads notes f i x
    of_data n (Ok t) e = subst (λ (q : OrRule Successors). IfOk q (RowLeads notes f i)) e
        (record { jump = λ p u h. absurd (none-some (p, u) h); fall = λ u h. data_falls i n })
    of_data n (Err r) e = absurd (cc)

    go : (t : Bool) → is_flow i ≡ t → (if t then after_flow notes here s i else gives_map falls (after_data notes here s i)) ≡ Ok x
        → RowLeads notes f i x
    go true n e = flow_leads_there notes here s i x f there e
    go false n e = of_data n (after_data notes here s i) e

-- ---- which instructions fall through

-- one on data that its row accepts
data_may_fall : (notes : Notes) (here : Here) (s : State) (i : Insn) (t : State) (f : FnNote) → slice_get notes.function here.func ≡ Some f
    → after_data notes here s i ≡ Ok t → images.falls i ≡ true
data_may_fall notes here s i t f there e = go i (change_found notes f here s i t there e)
  where
    go : (j : Insn) → ChangeFound notes f here s j t → images.falls j ≡ true
    go (insn.Jump cond far rel op extra) k = absurd (no_row (is_none here.reloc) rule.Form rule.Relocation k.change k.row)
    go (insn.Jump8 cond words) k = absurd (no_row (is_none here.reloc) rule.Form rule.Relocation k.change k.row)
    go insn.Ret k = absurd (no_row (is_none here.reloc) rule.Form rule.Relocation k.change k.row)
    go _ k = refl

-- an accepted one that has a fall
pub falls_where_it_may : (notes : Notes) (here : Here) (s : State) (i : Insn) (x : Successors) (f : FnNote)
    → slice_get notes.function here.func ≡ Some f → Accepted notes here s i x → (t : State) → x.fall ≡ Some t → images.falls i ≡ true
falls_where_it_may notes here s i x f there (inl d) t e = data_may_fall notes here s i d.0 f there d.1
falls_where_it_may notes here s i x f there (inr o) t e = (flow_leads_there notes here s i x f there o).fall t e
