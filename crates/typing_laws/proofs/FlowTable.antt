-- The table of the rows of control and of the stack, and with it the rules of all instructions.
use Rattle.typing_laws.proofs.Common.{◌≡◌, ◌≢◌, ℕ, ◌%◌, ◌<◌, ◌⊎◌, Bool, true, false, not, ◌&&◌, if◌then◌else◌, is_none, is_some, nat_eq}
use Rattle.typing_laws.proofs.Common.{List, Option, Some, None, Result, Ok, Err, slice_get, refl, sym, ap, ap₂, ◌∙◌, subst, arith, inl}
use Rattle.typing_laws.proofs.Common.{⊎_elim, pos, int_le, unsigned_abs, list_any, and_parts, true≢false, none-some, or_else, TargetFits}
use Rattle.typing_laws.proofs.Common.{WellFormed, Extra, Nothing, Imm, Idx, Insn, Operand, Size, Index, is_locals, SlotKind, N, Item}
use Rattle.typing_laws.proofs.Common.{FnNote, Notes, RuleName, State, changed, Change, put, index_distance, beside, locals_size}
use Rattle.typing_laws.proofs.Common.{takes_address, Here, Distance, after_data, data_row, flow_row, frame_move, slot_kind, drop_to}
use Rattle.typing_laws.proofs.Common.{frame_row, has_room, is_size, left_after, top_type, pop_destination, popped_type, falls, Successors}
use Rattle.typing_laws.proofs.Common.{indexed, plainly, NeutralEnd, Next, Native, MakeThunk, Site, executed, is_stack_pointer}
use Rattle.typing_laws.proofs.Common.{FunctionFrame, Frame, Config, Outcome, Gives, Raises, Stuck, Neutral, World, Accepts, Asks, Makes}
use Rattle.typing_laws.proofs.Common.{IsTaken, here_of, TopFits}
use Rattle.rules_flow.specs.{Flow.address_rule, Flow.after_flow, Flow.to_stack, Frames.pop_row}
use Rattle.typing_laws.specs.OneRule.{EndsSound, GoesOnSound, OneRule}
use Rattle.typing_laws.proofs.DataTable.{change_found, data_fits, no_row, past_test, top_sound}
use Rattle.typing_laws.proofs.{Pushes.FallsOn, Pushes.push_natural_fits, Pushes.push_rule, Pushes.push_wide_fits, Rows.err_ok, Rows.ok_same}
use Rattle.typing_laws.proofs.{Rows.unless_ok, Rows.when_ok, ArithRow.BesideFits, ArithRow.GoesOn, Calls.call_fits, Calls.return_fits}
use Rattle.typing_laws.proofs.{Context.TopSound, Drops.frame_goes, Formed.beside_fits, Jumps.TakesOn, Jumps.jump8_fits, Jumps.jump_fits}
use Rattle.typing_laws.proofs.{Natives.break_fits, Natives.native_fits, Operands.then_ok, Pops.pop_natural_fits, Pops.pop_wide_fits}
use Rattle.ebc_base.specs.Steps as steps
use Rattle.neutral_machine.specs.Rows as rows
use Rattle.typing_laws.specs.OneRule as ends

-- ---- rows that always go on at the next place

-- what a row gives has a successor there
abbrev AllFall : Result Successors RuleName → Type 0
AllFall o = (x : Successors) → o ≡ Ok x → x.fall ≢ None

err_falls : (r : RuleName) → AllFall (Err r)
err_falls r x e = absurd (err_ok r x e)

ok_falls : (t : State) → AllFall (Ok (falls t))
ok_falls t x e = λ q. absurd (none-some t (sym q ∙ ap (λ (y : Successors). y.fall) (sym (ok_same (falls t) x e))))

if_falls : (b : Bool) (o p : Result Successors RuleName) → AllFall o → AllFall p → AllFall (if b then o else p)
if_falls true o p h g = h
if_falls false o p h g = g

frame_falls : (notes : Notes) (note : FnNote) (s : State) (d : Distance) → AllFall (frame_row notes note s d)
unfolding frame_row
frame_falls notes note s d =
    if_falls (int_le (pos 0) d.n && int_le (pos 0) d.c) _ _ (dropping
    (left_after (locals_size notes note) s.items (unsigned_abs d.n) (unsigned_abs d.c)))
    (if_falls (int_le d.n (pos 0) && int_le d.c (pos 0)) _ _ (if_falls (is_some note.locals && (not (list_any is_locals s.items)
    && (is_size (locals_size notes note) (unsigned_abs d.n) (unsigned_abs d.c) && has_room notes note Item.Locals s.items))) _ _
    (ok_falls _) (err_falls RuleName.Stack)) (err_falls RuleName.Stack))
  where
    dropping : (o : Option (List Item)) → AllFall (drop_to s o)
    dropping None = err_falls RuleName.Stack
    dropping (Some is) = ok_falls _

-- a move of R0 goes on at the next place
pub move_falls : (notes : Notes) (note : FnNote) (s : State) (size : Size) (left right : Operand) (ridx : Option Index)
    → AllFall (frame_move notes note s size left right ridx)
move_falls notes note s Size.Qword left right ridx =
    if_falls left.indirect _ _ (err_falls RuleName.Form) (if_falls (nat_eq left.reg 0 && (not right.indirect && nat_eq right.reg 0)) _ _
    (frame_falls notes note s (index_distance ridx)) (err_falls RuleName.Stack))
move_falls notes note s size left right ridx = if_falls left.indirect _ _ (err_falls RuleName.Form) (err_falls RuleName.Stack)

-- and its operand 1 is R0 itself, moved by the index
pub move_stack : (notes : Notes) (note : FnNote) (s : State) (size : Size) (left right : Operand) (ridx : Option Index) (x : Successors)
    → frame_move notes note s size left right ridx ≡ Ok x → (is_stack_pointer (plainly left) ≡ true)
    × (frame_row notes note s (index_distance ridx) ≡ Ok x)
move_stack notes note s Size.Qword left right ridx x e = unless_ok left.indirect _ _ x e (λ h e1.
    when_ok (nat_eq left.reg 0 && (not right.indirect && nat_eq right.reg 0)) _ _ x e1 (λ q e2.
    (ap₂ (λ b c. not b && c) h (and_parts (nat_eq left.reg 0) (not right.indirect && nat_eq right.reg 0) q).0, e2)))
move_stack notes note s size left right ridx x e = absurd (no_row left.indirect RuleName.Form RuleName.Stack x e)

pop_falls : (notes : Notes) (note : FnNote) (s : State) (kind : SlotKind) (op : Operand) (extra : Extra)
    → AllFall (pop_row notes note s kind op extra)
unfolding pop_row
pop_falls notes note s kind op extra x e =
    then_ok (beside (top_type kind s.items) (pop_destination notes note s kind op extra)) _ x e (λ p e1 e2.
    then_ok (put p.1 (popped_type notes op extra p.0)) _ x e2 (λ k e3 e4. ok_falls _ x e4))

-- ---- what an outcome says

-- a target is an operand with what stands beside it
target_beside : (far : Bool) (op : Operand) (extra : Extra) → TargetFits far op extra → BesideFits op extra
target_beside false op extra w = beside_fits 32 op extra (omega arith) w.0 w.1
target_beside true op Nothing w = absurd w
target_beside true op (Imm v) w = record {
  register = (let e = w.0 in omega (arith, e));
  memory = λ m. absurd (true≢false (sym m ∙ w.1));
  direct = λ m i e. absurd cc;
}
target_beside true op (Idx i) w = absurd w

-- what the row of an instruction comes from
pub row_found : (notes : Notes) (note : FnNote) (here : Here) (s : State) (i : Insn) (x : Successors)
    → slice_get notes.function here.func ≡ Some note → after_flow notes here s i ≡ Ok x → flow_row notes note here s i ≡ Ok x
unfolding after_flow
row_found notes note here s i x h e =
    subst (λ o. steps.◌>>=◌ (or_else RuleName.Function o) (λ f. flow_row notes f here s i) ≡ Ok x) h e

module _ {world : World} {a : Config} {f : FunctionFrame} {fs : List Frame} {note : FnNote} {s : State} (st : TopSound world a f fs note s)
    (site : Site) (x : Successors) where
  abbrev Ends : Insn → Outcome (NeutralEnd × Config) → Type 0
  Ends i o = Accepts (EndsSound world site x i a f fs) o

  -- an instruction that goes on where it says
  goes_on_soundly : (i : Insn) (p : ℕ) (z : State) (o : Outcome (NeutralEnd × Config))
      → ((b : Config) → ends.GoesOn world site x b → GoesOnSound world site x i a f fs b) → IsTaken site x p z
      → Accepts (GoesOn world p z) o → Ends i o
  goes_on_soundly i p z Stuck k t h = h
  goes_on_soundly i p z (Raises e) k t h = h
  goes_on_soundly i p z (Gives (Native v, b)) k t h = absurd (let e = h.ends in cc)
  goes_on_soundly i p z (Gives (MakeThunk n, b)) k t h = absurd (let e = h.ends in cc)
  goes_on_soundly i p z (Gives (Next, b)) k t h = k b (record {
    place = p;
    state = z;
    spot = h.spot;
    taken = t;
    sound = record { top = subst (λ fs. TopFits world b fs z) (sym h.after.frames) h.after.top; below = h.after.below };
  })

  takes_soundly : (i : Insn) (o : Outcome (NeutralEnd × Config))
      → ((b : Config) → ends.GoesOn world site x b → GoesOnSound world site x i a f fs b) → TakesOn world site x o → Ends i o
  takes_soundly i o k h = goes_on_soundly i h.place h.state o k h.taken h.goes

  falls_soundly : (i : Insn) (o : Outcome (NeutralEnd × Config))
      → ((b : Config) → ends.GoesOn world site x b → GoesOnSound world site x i a f fs b) → FallsOn world site.next x o → Ends i o
  falls_soundly i o k h = goes_on_soundly i site.next h.state o k (inl (refl, h.falls_to)) h.goes

  -- an instruction that ends so, whatever it says of the configuration
  next_soundly : (i : Insn) (P : Config → Type 0) (o : Outcome (NeutralEnd × Config))
      → ((b : Config) → P b → GoesOnSound world site x i a f fs b) → Accepts (λ (y : NeutralEnd × Config). (y.0 ≡ Next) × P y.1) o
      → Ends i o
  next_soundly i P Stuck k h = h
  next_soundly i P (Raises e) k h = h
  next_soundly i P (Gives (Native v, b)) k h = absurd (let e = h.0 in cc)
  next_soundly i P (Gives (MakeThunk n, b)) k h = absurd (let e = h.0 in cc)
  next_soundly i P (Gives (Next, b)) k h = k b h.1

  native_soundly : (i : Insn) (o : Outcome (NeutralEnd × Config))
      → Accepts (λ (y : NeutralEnd × Config). (v : Neutral) × (y.0 ≡ Native v) × Asks world site x a f fs v y.1) o → Ends i o
  native_soundly i Stuck h = h
  native_soundly i (Raises e) h = h
  native_soundly i (Gives (Native v, b)) h = let q : v ≡ h.0 = (let e = h.1 in cc) in subst (λ y. Asks world site x a f fs y b) (sym q) h.2
  native_soundly i (Gives (MakeThunk n, b)) h = absurd (let e = h.1 in cc)
  native_soundly i (Gives (Next, b)) h = absurd (let e = h.1 in cc)

  thunk_soundly : (i : Insn) (o : Outcome (NeutralEnd × Config))
      → Accepts (λ (y : NeutralEnd × Config). (n : ℕ) × (y.0 ≡ MakeThunk n) × Makes world site x a f fs n y.1) o → Ends i o
  thunk_soundly i Stuck h = h
  thunk_soundly i (Raises e) h = h
  thunk_soundly i (Gives (Native v, b)) h = absurd (let e = h.1 in cc)
  thunk_soundly i (Gives (MakeThunk n, b)) h = let q : n ≡ h.0 = (let e = h.1 in cc) in
      subst (λ y. Makes world site x a f fs y b) (sym q) h.2
  thunk_soundly i (Gives (Next, b)) h = absurd (let e = h.1 in cc)

  -- the next place is inside the image, where control goes on there
  next_inside : (x.fall ≡ None) ⊎ (site.next < world.image_size) → x.fall ≢ None → site.next < world.image_size
  next_inside h n = ⊎_elim (λ q. absurd (n q)) (λ q. q) h

  -- An instruction of control or of the stack that its rule accepts goes on soundly.
  flow_fits : (i : Insn) → WellFormed i → site.next % 2 ≡ 0 → (x.fall ≡ None) ⊎ (site.next < world.image_size)
      → flow_row world.notes note (here_of site f.func) s i ≡ Ok x → Ends i (executed world a site i)
  unfolding executed
  flow_fits (Insn.Jump cond far relative op extra) w even l e =
      takes_soundly (Insn.Jump cond far relative op extra) _ (λ b h. h) (jump_fits st site cond far relative op extra x w l e)
  flow_fits (Insn.Jump8 cond words) w even l e = takes_soundly (Insn.Jump8 cond words) _ (λ b h. h) (jump8_fits st site cond words x l e)
  flow_fits (Insn.Call far false relative op extra) w even l e =
      next_soundly (Insn.Call far false relative op extra) (λ b. ends.Enters world site x a f fs b) _ (λ b h. h)
      (call_fits st site far relative op extra x w even l e)
  flow_fits (Insn.Call far true relative op extra) w even l e =
      native_soundly (Insn.Call far true relative op extra) _ (native_fits st site far relative op extra x
      (target_beside far op extra w) l (past_test (is_none site.reloc) _ RuleName.Relocation x e))
  flow_fits Insn.Ret w even l e = next_soundly Insn.Ret (λ b. ends.Returns world a f fs b) _ (λ b h. h)
      (return_fits st site x (past_test (is_none site.reloc) _ RuleName.Relocation x e))
  flow_fits (Insn.Break code) w even l e = thunk_soundly (Insn.Break code) _
      (break_fits st site code x l (past_test (is_none site.reloc) _ RuleName.Relocation x e))
  flow_fits (Insn.Push wide op extra) w even l e =
      let q = past_test (is_none site.reloc) _ RuleName.Relocation x e in
      let i = next_inside l (push_rule st (slot_kind wide) op extra x q
      (λ t e1 made room out. ok_falls _ x (ap Ok out))) in
      falls_soundly (Insn.Push wide op extra) _ (λ b h. h) (push_wide_fits st wide op extra site.next x
      (beside_fits 16 op extra (omega arith) w.0 w.1) i q)
  flow_fits (Insn.PushNatural op extra) w even l e =
      let q = past_test (is_none site.reloc) _ RuleName.Relocation x e in
      let i = next_inside l (push_rule st N op extra x q (λ t e1 made room out. ok_falls _ x (ap Ok out))) in
      falls_soundly (Insn.PushNatural op extra) _ (λ b h. h) (push_natural_fits st op extra site.next x
      (beside_fits 16 op extra (omega arith) w.0 w.1) i q)
  flow_fits (Insn.Pop wide op extra) w even l e =
      let q = past_test (is_none site.reloc) _ RuleName.Relocation x e in
      let i = next_inside l (pop_falls world.notes note s (slot_kind wide) op extra x q) in
      falls_soundly (Insn.Pop wide op extra) _ (λ b h. h) (pop_wide_fits st wide op extra site.next x
      (beside_fits 16 op extra (omega arith) w.0 w.1) i q)
  flow_fits (Insn.PopNatural op extra) w even l e =
      let q = past_test (is_none site.reloc) _ RuleName.Relocation x e in
      let i = next_inside l (pop_falls world.notes note s N op extra x q) in
      falls_soundly (Insn.PopNatural op extra) _ (λ b h. h) (pop_natural_fits st op extra site.next x
      (beside_fits 16 op extra (omega arith) w.0 w.1) i q)
  flow_fits (Insn.Move size bits left right lidx ridx) w even l e =
      let q = past_test (is_none site.reloc) _ RuleName.Relocation x e in
      let i = next_inside l (move_falls world.notes note s size left right ridx x q) in
      subst (λ b. Ends (Insn.Move size bits left right lidx ridx) (if b then rows.stack_row world a site.next size right lidx ridx
      else rows.move_row world a site.next size (indexed left lidx) (indexed right ridx)))
      (sym (move_stack world.notes note s size left right ridx x q).0)
      (falls_soundly (Insn.Move size bits left right lidx ridx) _ (λ b h. h)
      (frame_goes st size bits left right lidx ridx site.next x w.3 i q))
  flow_fits (Insn.MoveSigned bits left right lidx extra) w even l e =
      absurd (no_row (is_none site.reloc) (to_stack left) RuleName.Relocation x e)
  flow_fits (Insn.MoveImm size bits left lidx imm) w even l e =
      absurd (err_ok (address_rule world.notes site.reloc (takes_address size bits left.indirect) left) x e)
  flow_fits (Insn.MoveImmNatural bits left lidx idx) w even l e =
      absurd (no_row (is_none site.reloc) (to_stack left) RuleName.Relocation x e)
  flow_fits (Insn.MoveRelative bits left lidx imm) w even l e = absurd (no_row (is_none site.reloc) (to_stack left) RuleName.Relocation x e)
  flow_fits c w even l e = absurd (no_row (is_none site.reloc) RuleName.Form RuleName.Relocation x e)

  -- an instruction on data goes on in the function
  data_goes : (i : Insn) (k : Change) → data_row world.notes note (here_of site f.func) s i ≡ Ok k → (b : Config)
      → ends.GoesOn world site x b → GoesOnSound world site x i a f fs b
  data_goes (Insn.Call far native relative op extra) k e b h = absurd (no_row (is_none site.reloc) RuleName.Form RuleName.Relocation k e)
  data_goes Insn.Ret k e b h = absurd (no_row (is_none site.reloc) RuleName.Form RuleName.Relocation k e)
  data_goes c k e b h = h

-- Each instruction that its rule accepts goes on soundly.
pub one_rule : OneRule
one_rule world a f fs note here s i x ok h = ⊎_elim on_data on_flow h.accepted
  where
    st : TopSound world a f fs note s
    st = top_sound world a f fs note here s i x ok h

    on_data : (t : State) × (after_data world.notes (here_of here f.func) s i ≡ Ok t) × (x ≡ falls t)
        → Accepts (EndsSound world here x i a f fs) (executed world a here i)
    on_data (t, e, q) =
        let c = change_found world.notes note (here_of here f.func) s i t h.there e in
        let fall : x.fall ≡ Some t = ap (λ (y : Successors). y.fall) q in
        let inside : here.next < world.image_size = ⊎_elim (λ n. absurd (none-some t (sym n ∙ fall))) (λ n. n) h.inside in
        goes_on_soundly st here x i here.next (changed s c.change) (executed world a here i) (data_goes st here x i c.change c.row)
        (inl (refl, fall ∙ ap Some (sym c.is))) (data_fits st here i c.change h.well_formed inside c.row)

    on_flow : after_flow world.notes (here_of here f.func) s i ≡ Ok x → Accepts (EndsSound world here x i a f fs) (executed world a here i)
    on_flow e = flow_fits st here x i h.well_formed h.even h.inside (row_found world.notes note (here_of here f.func) s i x h.there e)
