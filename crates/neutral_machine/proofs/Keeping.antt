-- What an instruction keeps: where a property of configurations outlasts each part of what an instruction does, it outlasts the
-- instruction.
use Rattle.neutral_machine.proofs.Common.{◌≡◌, ℕ, ◌+◌, Bool, true, false, ◌&&◌, if◌then◌else◌, nat_eq, nat_lt, List, [], ◌∷◌, Option, Some}
use Rattle.neutral_machine.proofs.Common.{None, ℤ, pos, ◌*ℤ◌, option_and_then, refl, subst, slice_get, Index, wrap64, ArithOp, CmpOp, Insn}
use Rattle.neutral_machine.proofs.Common.{Operand, SlotKind, N, Field, Shape, Place, Gate, Spot, Neutral, CellPlace, number, word}
use Rattle.neutral_machine.proofs.Common.{StackItem, Pushed, LocalsOf, FunctionFrame, Frame, Function, Host, Config, depth, locals_among}
use Rattle.neutral_machine.proofs.Common.{Registers, with_value, World, frame_locals, memory_of, cell_field, with_cell, Gives, Raises}
use Rattle.neutral_machine.proofs.Common.{Stuck, combined, compared_as, sign_extended, Access, Move, Form, Signed, Offset, Location, CellAt}
use Rattle.neutral_machine.proofs.Common.{ParamAt, ThunkAt, kept, stored_by, NeutralEnd}
use Rattle.std.proofs.Common.{not, is_none}
use Rattle.std.specs.Bool.{⊤}
use Rattle.natural_index.specs.Index.{pair_of}
use Rattle.ebc_insn.specs.declared.{Cond.Cond, Size.Size}
use Rattle.host_model.specs.Values.{pair}
use Rattle.note_types.specs.BelowTests.{same_kind}
use Rattle.neutral_machine.specs.Operands.{NeutralSide, plainly, indexed, beside_extra, moved_by, located_by, direct_value, value}
use Rattle.neutral_machine.specs.Operands.{with_register, written}
use Rattle.neutral_machine.specs.{NeutralHost.next_thunk, Outcomes.Outcome, Outcomes.or_stuck, Rows.Next, Rows.Site, Rows.goes}
use Rattle.neutral_machine.specs.Rows.{at_place}
use Rattle.ebc_insn.specs.declared.Insn.TheVariants as insns
use Rattle.ebc_insn.specs.declared.Size.TheVariants as sizes
use Rattle.note_types.specs.declared.exception.Exception.TheVariants as raises
use Rattle.neutral_machine.specs.Outcomes as outcomes
use Rattle.neutral_machine.specs.Locations as locations
use Rattle.neutral_machine.specs.Rows as rows

-- ---- what holds of all that is given

abbrev Always : {A : Type 0} → (A → Type 0) → Outcome A → Type 0
Always Q (Gives x) = Q x
Always Q (Raises e) = ⊤
Always Q Stuck = ⊤

anything : {A : Type 0} (m : Outcome A) → Always (λ x. ⊤) m
anything (Gives x) = tt
anything (Raises e) = tt
anything Stuck = tt

then_always : {A B : Type 0} (R : A → Type 0) (Q : B → Type 0) (m : Outcome A) (f : A → Outcome B) → Always R m
    → ((x : A) → R x → Always Q (f x)) → Always Q (outcomes.◌>>=◌ m f)
then_always R Q (Gives x) f r k = k x r
then_always R Q (Raises e) f r k = tt
then_always R Q Stuck f r k = tt

after : {A B : Type 0} (Q : B → Type 0) (m : Outcome A) (f : A → Outcome B) → ((x : A) → Always Q (f x)) → Always Q (outcomes.◌>>=◌ m f)
after Q m f k = then_always (λ x. ⊤) Q m f (anything m) (λ x r. k x)

either : {A : Type 0} (Q : A → Type 0) (b : Bool) (x y : Outcome A) → Always Q x → Always Q y → Always Q (if b then x else y)
either Q true x y p q = p
either Q false x y p q = q

given : {A : Type 0} (Q : A → Type 0) (m : Outcome A) (x : A) → Always Q m → m ≡ Gives x → Q x
given Q m x a e = subst (Always Q) e a

-- ---- what a property has to outlast

-- whether an instruction enters or leaves a function
abbrev pub moves_between : Insn → Bool
moves_between (insns.Call far false relative op extra) = true
moves_between insns.Ret = true
moves_between i = false

-- A property outlasts what is done to the function frame f on top of frames fs: to its items, its locals, and where a function
-- may be entered or left, to the frame itself.
pub record OutlastsTop (may : Bool) (a : Config) (K : Config → Type 0) (f : FunctionFrame) (fs : List Frame) : Type 0 where
  pub items : (is : List StackItem) → K (rows.with_items a f is fs)
  pub made : (s : Shape) → K (rows.made_locals a f fs s)
  pub dropped : (is : List StackItem) → K (rows.config_without (depth fs) (rows.with_items a f is fs))
  pub inside : may ≡ true → (g next : ℕ) → K (rows.inside a g next)
  pub left : may ≡ true → K (record a { frames = fs })

-- A property holds of a configuration and outlasts each part of what an instruction does to it.
pub record Outlasts (may : Bool) (a : Config) (K : Config → Type 0) : Type 0 where
  pub holds : K a
  pub at_spot : (b : Config) (s : Spot) → K b → K (record b { spot = s })
  pub with_registers : (b : Config) (r : Registers) → K b → K (record b { registers = r })
  pub with_flag : (b : Config) (c : Bool) → K b → K (rows.with_c b c)
  pub with_written : (b : Config) (p : CellPlace) (v : Neutral) → K b → K (record b { cells = with_cell b.cells p v })
  pub on_top : (f : FunctionFrame) (fs : List Frame) → a.frames ≡ Function f ∷ fs → OutlastsTop may a K f fs

-- ---- the rows

module _ (world : World) (may : Bool) (a : Config) (K : Config → Type 0) (lasts : Outlasts may a K) where
  abbrev KR : NeutralEnd × Config → Type 0
  KR x = K x.1

  goes_kept : (b : Config) (p : ℕ) → K b → Always KR (goes world b p)
  unfolding goes
  goes_kept b p k = then_always K KR (at_place world b p) (λ c. Gives (Next, c))
      (either K (nat_lt p world.image_size) (Gives (record b { spot = Place p })) Stuck (lasts.at_spot b (Place p) k) tt) (λ c r. r)

  placed_kept : (p : ℕ) (e : NeutralEnd) → Always KR (outcomes.◌>>=◌ {A = Config} {B = NeutralEnd × Config} (at_place world a p)
      (λ c. Gives (e, c)))
  placed_kept p e = then_always K KR (at_place world a p) (λ c. Gives (e, c))
      (either K (nat_lt p world.image_size) (Gives (record a { spot = Place p })) Stuck (lasts.at_spot a (Place p) lasts.holds) tt)
      (λ c r. r)

  register_kept : (b : Config) (r : ℕ) (v : Neutral) → K b → Always K (with_register b r v)
  unfolding with_register
  register_kept b r v k = either K (nat_eq r 0) Stuck (Gives (record b { registers = with_value b.registers r v })) tt
      (lasts.with_registers b (with_value b.registers r v) k)

  stored_kept : (b : Config) (access : Access) (l : Location) (v : Neutral) → K b
      → Always K (or_stuck (locations.stored_at world b access l v))
  unfolding locations.stored_at
  stored_kept b access (CellAt p) v k = by_field (cell_field world.notes (memory_of world b) p)
    where
      by_test : (t : Bool) → Always K (or_stuck (if t then Some (record b { cells = with_cell b.cells p v }) else None))
      by_test true = lasts.with_written b p v k
      by_test false = tt

      by_field : (f : Option Field) → Always K (or_stuck (locations.stored_in world b access p v f))
      by_field None = tt
      by_field (Some z) = by_test (locations.writes access z.cell && locations.fits_cell world.notes (memory_of world b).objects z.cell v)
  stored_kept b access (ParamAt j) v k = tt
  stored_kept b access (ThunkAt i) v k = tt

  stored_by_kept : (b : Config) (access : Access) (r : ℕ) (o : Option Offset) (v : Neutral) → K b
      → Always K (stored_by world b access r o v)
  unfolding stored_by
  stored_by_kept b access r o v k = go (located_by world b r o)
    where
      go : (l : Option Location) → Always K (or_stuck (option_and_then (λ l. locations.stored_at world b access l v) l))
      go None = tt
      go (Some l) = stored_kept b access l v k

  written_kept : (b : Config) (access : Access) (o : NeutralSide) (v : Neutral) → K b → Always K (written world b access o v)
  unfolding written
  written_kept b access o v k = either K o.indirect (stored_by world b access o.reg o.beside v) (with_register b o.reg v)
      (stored_by_kept b access o.reg o.beside v k) (register_kept b o.reg v k)

  then_goes : (m : Outcome Config) (p : ℕ) → Always K m → Always KR (outcomes.◌>>=◌ m (λ b. goes world b p))
  then_goes m p k = then_always K KR m (λ b. goes world b p) k (λ b r. goes_kept b p r)

  arith_kept : (next : ℕ) (op : ArithOp) (wide : Bool) (left right : NeutralSide)
      → Always KR (rows.arith_row world a next op wide left right)
  unfolding rows.arith_row
  arith_kept next op wide left right =
      after KR (value world a (Form wide) right) _ (λ u. after KR (value world a (Form wide) left) _
      (λ v. after KR (combined op wide v u) _ (λ z. then_goes _ next (written_kept a (Form wide) left z lasts.holds))))

  compare_kept : (next : ℕ) (op : CmpOp) (wide : Bool) (left : ℕ) (right : NeutralSide)
      → Always KR (rows.compare_row world a next op wide left right)
  unfolding rows.compare_row
  compare_kept next op wide left right =
      after KR (value world a (Form wide) right) _ (λ u. after KR
      (or_stuck (compared_as world.notes (memory_of world a).objects op wide (direct_value world a left None) u)) _
      (λ c. goes_kept (rows.with_c a c) next (lasts.with_flag a c lasts.holds)))

  compare_imm_kept : (next : ℕ) (op : CmpOp) (wide : Bool) (left : NeutralSide) (imm : ℤ)
      → Always KR (rows.compare_imm_row world a next op wide left imm)
  unfolding rows.compare_imm_row
  compare_imm_kept next op wide left imm =
      after KR (value world a (Form wide) left) _ (λ v. after KR
      (or_stuck (compared_as world.notes (memory_of world a).objects op wide v (number (wrap64 imm)))) _
      (λ c. goes_kept (rows.with_c a c) next (lasts.with_flag a c lasts.holds)))

  move_kept : (next : ℕ) (size : Size) (left right : NeutralSide) → Always KR (rows.move_row world a next size left right)
  unfolding rows.move_row
  move_kept next size left right = after KR (value world a (Move size) right) _
      (λ v. then_goes _ next (written_kept a (Move size) left (kept world.notes (memory_of world a).objects (Move size) v) lasts.holds))

  move_signed_kept : (next : ℕ) (left right : NeutralSide) → Always KR (rows.move_signed_row world a next left right)
  unfolding rows.move_signed_row
  move_signed_kept next left right = after KR (value world a Signed right) _
      (λ v. then_goes _ next (written_kept a Signed left (sign_extended v) lasts.holds))

  move_imm_kept : (here : Site) (size : Size) (left : NeutralSide) (imm : ℤ) → Always KR (rows.move_imm_row world a here size left imm)
  unfolding rows.move_imm_row
  move_imm_kept here size left imm = then_goes _ here.next (written_kept a (Move size) left
      (kept world.notes (memory_of world a).objects (Move size) (rows.immediate world.notes here.reloc imm)) lasts.holds)

  move_imm_natural_kept : (next : ℕ) (left : NeutralSide) (idx : Index) → Always KR (rows.move_imm_natural_row world a next left idx)
  unfolding rows.move_imm_natural_row
  move_imm_natural_kept next left idx = then_goes _ next (written_kept a (Move sizes.Natural) left
      (pair (pair_of idx).0 (pair_of idx).1) lasts.holds)

  move_relative_kept : (next : ℕ) (left : NeutralSide) (imm : ℤ) → Always KR (rows.move_relative_row world a next left imm)
  unfolding rows.move_relative_row
  move_relative_kept next left imm = then_goes _ next (written_kept a (Move sizes.Natural) left
      (rows.address_of_place world.notes (word (next + wrap64 imm))) lasts.holds)

  store_special_kept : (next to special : ℕ) → Always KR (rows.store_special_row world a next to special)
  unfolding rows.store_special_row
  store_special_kept next to special = then_goes _ next (register_kept a to _ lasts.holds)

  -- ---- the stack

  pushed_kept : (fs : List Frame) → a.frames ≡ fs → (i : StackItem) → Always K (rows.pushed a fs i)
  pushed_kept [] e i = tt
  pushed_kept (Host h ∷ fs) e i = tt
  pushed_kept (Function f ∷ fs) e i = (lasts.on_top f fs e).items (i ∷ f.items)

  push_kept : (next : ℕ) (wide : Bool) (op : NeutralSide) → Always KR (rows.push_row world a next wide op)
  unfolding rows.push_row
  push_kept next wide op = after KR (value world a (Form wide) op) _ (λ v. then_goes _ next (pushed_kept a.frames refl _))

  push_natural_kept : (next : ℕ) (op : NeutralSide) → Always KR (rows.push_natural_row world a next op)
  unfolding rows.push_natural_row
  push_natural_kept next op = after KR (value world a (Move sizes.Natural) op) _ (λ v. then_goes _ next (pushed_kept a.frames refl _))

  abbrev KT : Neutral × Config → Type 0
  KT x = K x.1

  taken_kept : (kind : SlotKind) (fs : List Frame) → a.frames ≡ fs → Always KT (rows.taken a kind fs)
  taken_kept kind [] e = tt
  taken_kept kind (Host h ∷ fs) e = tt
  taken_kept kind (Function f ∷ fs) e = by_items f.items
    where
      by_items : (is : List StackItem) → Always KT (rows.taken_from a f kind is fs)
      by_items [] = tt
      by_items (LocalsOf s ∷ is) = tt
      by_items (Pushed k v ∷ is) = either KT (same_kind k kind) (Gives (v, rows.with_items a f is fs)) Stuck
          ((lasts.on_top f fs e).items is) tt

  popped_kept : (b : Config) (access : Access) (op : NeutralSide) (v : Neutral) → K b → Always K (rows.popped world b access op v)
  unfolding rows.popped
  popped_kept b access op v k = either K op.indirect (written world b access op v) (with_register b op.reg (moved_by v op.beside))
      (written_kept b access op v k) (register_kept b op.reg (moved_by v op.beside) k)

  pop_kept : (next : ℕ) (wide : Bool) (op : NeutralSide) → Always KR (rows.pop_row world a next wide op)
  unfolding rows.pop_row
  pop_kept next wide op = then_always KT KR (rows.taken a (rows.form_kind wide) a.frames) _ (taken_kept (rows.form_kind wide) a.frames refl)
      (λ t k. then_goes _ next (popped_kept t.1 (Form wide) op _ k))

  pop_natural_kept : (next : ℕ) (op : NeutralSide) → Always KR (rows.pop_natural_row world a next op)
  unfolding rows.pop_natural_row
  pop_natural_kept next op = then_always KT KR (rows.taken a N a.frames) _ (taken_kept N a.frames refl)
      (λ t k. then_goes _ next (popped_kept t.1 (Move sizes.Natural) op _ k))

  made_kept : (f : FunctionFrame) (fs : List Frame) → OutlastsTop may a K f fs → (n c : ℕ) (o : Option Shape)
      → Always K (rows.after_make a f fs n c o)
  made_kept f fs top n c None = tt
  made_kept f fs top n c (Some s) = either K (rows.has_size n c s && is_none (locals_among f.items))
      (Gives (rows.made_locals a f fs s)) Stuck (top.made s) tt

  drop_kept : (f : FunctionFrame) (fs : List Frame) → OutlastsTop may a K f fs → (o : Option rows.Dropped)
      → Always K (rows.after_drop a f fs o)
  drop_kept f fs top None = tt
  drop_kept f fs top (Some d) = either K d.locals (Gives (rows.config_without (depth fs) (rows.with_items a f d.items fs)))
      (Gives (rows.with_items a f d.items fs)) (top.dropped d.items) (top.items d.items)

  adjusted_kept : (fs : List Frame) → a.frames ≡ fs → (neg : Bool) (n c : ℕ) → Always K (rows.adjusted world a fs neg n c)
  adjusted_kept [] e neg n c = tt
  adjusted_kept (Host h ∷ fs) e neg n c = tt
  adjusted_kept (Function f ∷ fs) e neg n c =
      either K (neg && not (nat_eq n 0 && nat_eq c 0)) (rows.after_make a f fs n c (frame_locals world.notes f.func))
      (rows.after_drop a f fs (rows.dropped n c f.items)) (made_kept f fs (lasts.on_top f fs e) n c (frame_locals world.notes f.func))
      (drop_kept f fs (lasts.on_top f fs e) (rows.dropped n c f.items))

  adjusted_by_kept : (o : Option Index) → Always K (rows.adjusted_by world a o)
  adjusted_by_kept None = adjusted_kept a.frames refl false 0 0
  adjusted_by_kept (Some i) = adjusted_kept a.frames refl i.neg i.units i.bytes

  stack_kept : (next : ℕ) (size : Size) (right : Operand) (lidx ridx : Option Index)
      → Always KR (rows.stack_row world a next size right lidx ridx)
  unfolding rows.stack_row
  stack_kept next size right lidx ridx =
      either KR (rows.is_qword_size size && (is_none lidx && (not right.indirect && nat_eq right.reg 0))) _ Stuck
      (then_goes (rows.adjusted_by world a ridx) next (adjusted_by_kept ridx)) tt

  -- ---- flow

  to_kept : (p : ℕ) → Always KR (outcomes.◌>>=◌ (rows.aligned p) (λ to. goes world a to))
  to_kept p = after KR (rows.aligned p) _ (λ to. goes_kept a to lasts.holds)

  jump_kept : (here : Site) (cond : Cond) (relative : Bool) (op : NeutralSide) → Always KR (rows.jump_row world a here cond relative op)
  unfolding rows.jump_row
  jump_kept here cond relative op = either KR (rows.is_taken cond a.c) _ (goes world a here.next)
      (after KR (rows.target_at a here relative op) _ (λ p. to_kept p)) (goes_kept a here.next lasts.holds)

  jump8_kept : (next : ℕ) (cond : Cond) (n : ℤ) → Always KR (rows.jump8_row world a next cond n)
  unfolding rows.jump8_row
  jump8_kept next cond n = either KR (rows.is_taken cond a.c) _ (goes world a next) (to_kept (word (next + wrap64 (n *ℤ pos 2))))
      (goes_kept a next lasts.holds)

  called_kept : may ≡ true → (next p : ℕ) → Always K (rows.called world a next p)
  unfolding rows.called
  called_kept m next p = after K (or_stuck (rows.function_at world.notes p)) _ (λ g. from a.frames refl g)
    where
      from : (fs : List Frame) → a.frames ≡ fs → (g : ℕ) → Always K (rows.called_from world a next fs g)
      from [] e g = tt
      from (Host h ∷ fs) e g = tt
      from (Function f ∷ fs) e g = either K (rows.params_match (slice_get world.notes.function g) f.items && nat_lt next world.image_size)
          (Gives (rows.inside a g next)) Stuck ((lasts.on_top f fs e).inside m g next) tt

  call_kept : may ≡ true → (here : Site) (relative : Bool) (op : NeutralSide) → Always KR (rows.call_row world a here relative op)
  unfolding rows.call_row
  call_kept m here relative op = after KR (rows.target_at a here relative op) _
      (λ p. after KR (rows.aligned p) _ (λ to. then_goes _ to (called_kept m here.next to)))

  call_native_kept : (next : ℕ) (relative : Bool) (op : NeutralSide) → Always KR (rows.call_native_row world a next relative op)
  unfolding rows.call_native_row
  call_native_kept next true op = tt
  call_native_kept next false op = after KR (rows.native_target world a op) _ (λ v. placed_kept next (rows.Native v))

  return_kept : may ≡ true → (fs : List Frame) → a.frames ≡ fs → Always KR (rows.return_row world a fs)
  unfolding rows.return_row
  return_kept m [] e = tt
  return_kept m (Host h ∷ fs) e = tt
  return_kept m (Function f ∷ fs) e = by_items f.items
    where
      by_below : (gs : List Frame) → K (record a { frames = gs }) → Always KR (rows.returned_to world a f gs)
      by_below [] k = tt
      by_below (Function g ∷ gs) k = after KR (rows.aligned f.ret) _ (λ to. goes_kept (record a { frames = Function g ∷ gs }) to k)
      by_below (Host h ∷ gs) k = lasts.at_spot (record a { frames = Host h ∷ gs }) Gate k

      by_items : (is : List StackItem) → Always KR (rows.returned_from world a f is fs)
      by_items [] = by_below fs ((lasts.on_top f fs e).left m)
      by_items (i ∷ is) = tt

  break_kept : (next code : ℕ) → Always KR (rows.break_row world a next code)
  unfolding rows.break_row
  break_kept next code =
      either KR (nat_eq code 1) _ _ (then_goes _ next (register_kept a 7 (number 0x10000) lasts.holds))
      (either KR (nat_eq code 3) (Raises raises.Breakpoint) _ tt
      (either KR (nat_eq code 5) _ _ (after KR (or_stuck (next_thunk a (a.registers 7))) _ (λ i. placed_kept next (rows.MakeThunk i)))
      (either KR (nat_eq code 4) (goes world a next) _ (goes_kept a next lasts.holds)
      (either KR (nat_eq code 6) (goes world a next) (Raises raises.BadBreak) (goes_kept a next lasts.holds) tt))))

  executed_kept : (here : Site) (i : Insn) → (moves_between i ≡ true → may ≡ true) → Always KR (rows.executed world a here i)
  unfolding rows.executed
  executed_kept here (insns.Break code) m = break_kept here.next code
  executed_kept here (insns.Jump cond far relative op extra) m = jump_kept here cond relative (beside_extra op extra)
  executed_kept here (insns.Jump8 cond n) m = jump8_kept here.next cond n
  executed_kept here (insns.Call far false relative op extra) m = call_kept (m refl) here relative (beside_extra op extra)
  executed_kept here (insns.Call far true relative op extra) m = call_native_kept here.next relative (beside_extra op extra)
  executed_kept here insns.Ret m = return_kept (m refl) a.frames refl
  executed_kept here (insns.Compare op wide left right extra) m = compare_kept here.next op wide left (beside_extra right extra)
  executed_kept here (insns.CompareImm op wide left idx long imm) m = compare_imm_kept here.next op wide (indexed left idx) imm
  executed_kept here (insns.Arith op wide left right extra) m = arith_kept here.next op wide (plainly left) (beside_extra right extra)
  executed_kept here (insns.Move size bits left right lidx ridx) m =
      either KR (rows.is_stack_pointer (plainly left)) (rows.stack_row world a here.next size right lidx ridx)
      (rows.move_row world a here.next size (indexed left lidx) (indexed right ridx)) (stack_kept here.next size right lidx ridx)
      (move_kept here.next size (indexed left lidx) (indexed right ridx))
  executed_kept here (insns.MoveSigned bits left right lidx extra) m =
      move_signed_kept here.next (indexed left lidx) (beside_extra right extra)
  executed_kept here (insns.MoveImm size bits left lidx imm) m = move_imm_kept here size (indexed left lidx) imm
  executed_kept here (insns.MoveImmNatural bits left lidx idx) m = move_imm_natural_kept here.next (indexed left lidx) idx
  executed_kept here (insns.MoveRelative bits left lidx imm) m = move_relative_kept here.next (indexed left lidx) imm
  executed_kept here (insns.LoadSpecial from) m = tt
  executed_kept here (insns.StoreSpecial to special) m = store_special_kept here.next to special
  executed_kept here (insns.Push wide op extra) m = push_kept here.next wide (beside_extra op extra)
  executed_kept here (insns.Pop wide op extra) m = pop_kept here.next wide (beside_extra op extra)
  executed_kept here (insns.PushNatural op extra) m = push_natural_kept here.next (beside_extra op extra)
  executed_kept here (insns.PopNatural op extra) m = pop_natural_kept here.next (beside_extra op extra)

-- A property that outlasts the parts of an instruction holds after it.
pub instruction_keeps : (world : World) (a : Config) (here : Site) (i : Insn) (K : Config → Type 0) → Outlasts (moves_between i) a K
    → (e : NeutralEnd) (b : Config) → rows.executed world a here i ≡ Gives (e, b) → K b
instruction_keeps world a here i K lasts e b g = given (λ (x : NeutralEnd × Config). K x.1) (rows.executed world a here i) (e, b)
    (executed_kept world (moves_between i) a K lasts here i (λ m. m)) g
