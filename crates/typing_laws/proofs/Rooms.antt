-- The frames of a sound configuration lie on the stack: each host frame and what stands on it keeps within what its function
-- takes, and the stack has nine times the most that such a function takes. So has what an instruction puts there that its rule
-- accepts.
use Rattle.typing_laws.proofs.Common.{◌≡◌, ℕ, zero, suc, ◌+◌, ◌*◌, ◌≤◌, ◌⊎◌, Bool, true, false, not, ◌&&◌, ◌||◌, if◌then◌else◌, is_none}
use Rattle.typing_laws.proofs.Common.{is_some, nat_eq, nat_lt, List, [], ◌∷◌, length, Option, Some, None, Ok, slice_get, refl, sym, ap, ap₂}
use Rattle.typing_laws.proofs.Common.{◌∙◌, subst, arith, inl, inr, ⊎_elim, le_refl, AllZip, list_any, and_parts, eq-eqb, ltb-false}
use Rattle.typing_laws.proofs.Common.{same_Some, none-some, Insn, Extra, Operand, signed, Index, is_locals, SlotKind, N, FnNote, Param}
use Rattle.typing_laws.proofs.Common.{Shape, State, index_distance, locals_size, Change, data_row, call_size, call_to, fits_need, is_lower}
use Rattle.typing_laws.proofs.Common.{flow_row, slot_kind, at, frame_row, has_room, is_size, items_size, make_row, target_of, Successors}
use Rattle.typing_laws.proofs.Common.{Site, StackItem, Pushed, LocalsOf, FunctionFrame, Frame, Function, Host, Config, hosts, locals_among}
use Rattle.typing_laws.proofs.Common.{height, Memory, pair_at, return_cell, slot_bytes, null, World, frame_locals, live_memory, WorldTyped}
use Rattle.typing_laws.proofs.Common.{StandsTyped, here_of, KeepsWithin, FrameBelow, ParamKind, FramesKeep, SoundBelow, Item, RuleName, Ty}
use Rattle.std.proofs.{Common.mul-le-mul, Common.le_trans, lemmas.Bool.not-true}
use Rattle.ebc_width.specs.Width.{IsWidth}
use Rattle.ebc_width.proofs.Laws.{by_width}
use Rattle.rules_flow.specs.Frames.{push_row}
use Rattle.neutral_machine.specs.{Room.HasRoom, Room.index_growth, Room.locals_growth, Room.size_if, Rows.form_kind, Layout.total}
use Rattle.host_model.specs.Placements.{frame_bytes, most_bytes, params_bytes, stack_bytes}
use Rattle.invariant_laws.specs.Sound.{IsEntered}
use Rattle.typing_laws.proofs.DataTable.{change_found, no_row, not_stack_move, past_test, top_sound}
use Rattle.typing_laws.proofs.{Calls.call_allowed, Context.TopSound, Context.sizes_same, FlowTable.move_stack, FlowTable.row_found}
use Rattle.typing_laws.proofs.{Operands.then_ok, PushFits.room_within, PushFits.slot_same, PushFits.top_height, Pushes.push_rule}
use Rattle.typing_laws.proofs.{Rows.when_ok}
use Rattle.rules_flow.specs.Calls as rules_calls

pub params_height : (w : ℕ) (is : List StackItem) (ps : List Param) → AllZip ParamKind is ps → height w is ≡ params_bytes w ps
params_height w [] [] h = refl
params_height w (Pushed kind v ∷ is) (p ∷ ps) h = ap₂ (λ x y. x + y) (ap (slot_bytes w) h.0) (params_height w is ps h.1)
params_height w (LocalsOf s ∷ is) (p ∷ ps) h = absurd h.0
params_height w xs l h = absurd h

pub within_at : (w : ℕ) (below : ℕ → ℕ) (note : FnNote) → IsWidth w → KeepsWithin below note → below w ≤ pair_at w note.need
within_at w below note h k = by_width (λ v. below v ≤ pair_at v note.need) w h k.at4 k.at8

-- a function that may be entered takes no more than the most
most_at : (w entry i : ℕ) (fs : List FnNote) (j : ℕ) (f : FnNote) → slice_get fs j ≡ Some f → (i + j ≡ entry) ⊎ (f.enter ≡ true)
    → frame_bytes w f ≤ most_bytes w entry i fs
unfolding most_bytes
most_at w entry i [] j f g e = absurd (none-some f g)
most_at w entry i (x ∷ xs) zero f g e =
    let same : x ≡ f = same_Some x f g in
    let t : (nat_eq i entry || x.enter) ≡ true = ⊎_elim (λ p. ap (λ b. b || x.enter) (eq-eqb i entry (omega (arith, p))))
    (λ p. or_true (nat_eq i entry) x.enter (subst (λ (y : FnNote). y.enter ≡ true) (sym same) p)) e in
    let r : (if nat_eq i entry || x.enter then frame_bytes w x else 0) ≡ frame_bytes w f = ap (λ b. if b then frame_bytes w x else 0) t
    ∙ ap (frame_bytes w) same in
    omega (arith, r)
  where
    or_true : (a b : Bool) → b ≡ true → (a || b) ≡ true
    or_true true b e = refl
    or_true false b e = e
most_at w entry i (x ∷ xs) (suc j) f g e =
    let r = most_at w entry (i + 1) xs j f g (⊎_elim (λ p. inl (omega (arith, p))) inr e) in omega (arith, r)

module _ (w : ℕ) (world : World) (h : IsWidth w) (m : Memory) (made : ℕ) where
  entered_bytes : (func : ℕ) (note : FnNote) → IsEntered world.notes func → slice_get world.notes.function func ≡ Some note
      → frame_bytes w note ≤ most_bytes w world.notes.entry 0 world.notes.function
  entered_bytes func note e g = most_at w world.notes.entry 0 world.notes.function func note g
      (⊎_elim (λ p. inl (omega (arith, p))) (λ p. inr (let same : p.0 ≡ note = same_Some _ _ (sym p.1 ∙ g) in
      subst (λ (y : FnNote). y.enter ≡ true) same p.2)) e)

  -- frames take no more than their host frames have room for, with what a function on top of them may still use
  pub record RoomFor (fs : List Frame) : Type 0 where
    pub all : total w fs ≤ length (hosts fs) * most_bytes w world.notes.entry 0 world.notes.function
    pub need : (f : FunctionFrame) (note : FnNote) → slice_get world.notes.function f.func ≡ Some note → FrameBelow world m f note fs
        → pair_at w note.need + (return_cell + total w fs) ≤ length (hosts fs) * most_bytes w world.notes.entry 0 world.notes.function

  times_suc : (n g : ℕ) → suc n * g ≡ g + n * g
  times_suc n g = omega arith

  pub room_for : (fs : List Frame) → FramesKeep world m made fs → RoomFor fs
  room_for [] k = record { all = omega arith; need = λ f note g b. absurd b }
  room_for (Host t ∷ fs) k =
      let r = room_for fs k.1 in
      let p = params_height w t.params k.0.note.params k.0.kinds in
      let e = entered_bytes t.func k.0.note k.0.entered k.0.there in
      let n = times_suc (length (hosts fs)) (most_bytes w world.notes.entry 0 world.notes.function) in
      record {
        all = omega (arith, r.all, p, e, n);
        need = λ f note g b.
            let same : note ≡ k.0.note = same_Some _ _ (sym g ∙ ap (slice_get world.notes.function) b.0 ∙ k.0.there) in
            let q : pair_at w note.need ≡ pair_at w k.0.note.need = ap (λ (y : FnNote). pair_at w y.need) same in
            omega (arith, r.all, p, e, n, q);
      }
  room_for (Function g ∷ fs) k =
      let r = room_for fs k.1 in
      let keeps = k.0.1 in
      let q = r.need g k.0.0 keeps.there k.0.2 in
      let i = within_at w (λ v. height v g.items) k.0.0 h keeps.within in
      record {
        all = omega (arith, q, i);
        need = λ f note e b.
            let c = b.0 in
            let same : c.0 ≡ k.0.0 = same_Some _ _ (sym c.1 ∙ keeps.there) in
            let j = within_at w (λ v. height v g.items + (return_cell + pair_at v note.need)) c.0 h c.2 in
            let l : pair_at w c.0.need ≡ pair_at w k.0.0.need = ap (λ (y : FnNote). pair_at w y.need) same in
            omega (arith, q, j, l);
      }

-- The frames of a sound configuration lie on the stack.
pub sound_room : (w : ℕ) (world : World) (a : Config) → IsWidth w → SoundBelow world a → total w a.frames ≤ stack_bytes w world.notes
sound_room w world a h s =
    let r = room_for w world h (live_memory world a) a.made a.frames s.frames in
    le_trans r.all (mul-le-mul s.few (le_refl (most_bytes w world.notes.entry 0 world.notes.function)))

-- ---- what an instruction puts there

module _ (w : ℕ) {world : World} {a : Config} {f : FunctionFrame} {fs : List Frame} {note : FnNote} {s : State}
    (st : TopSound world a f fs note s) (h : IsWidth w) where
  -- what keeps within the function's need, with its items, has room upon the frames
  room_upon : (x : ℕ) → x + height w f.items ≤ pair_at w note.need → x + total w a.frames ≤ stack_bytes w world.notes
  room_upon x l =
      let k : FramesKeep world (live_memory world a) a.made (Function f ∷ fs) =
      subst (FramesKeep world (live_memory world a) a.made) st.frames st.below.frames in
      let r = room_for w world h (live_memory world a) a.made fs k.1 in
      let q = r.need f k.0.0 k.0.1.there k.0.2 in
      let same : k.0.0 ≡ note = same_Some _ _ (sym k.0.1.there ∙ st.there) in
      let e : pair_at w k.0.0.need ≡ pair_at w note.need = ap (λ (y : FnNote). pair_at w y.need) same in
      let few : length (hosts fs) ≤ 9 = subst (λ z. length (hosts z) ≤ 9) st.frames st.below.few in
      let m = mul-le-mul few (le_refl (most_bytes w world.notes.entry 0 world.notes.function)) in
      let t : total w a.frames ≡ height w f.items + (return_cell + total w fs) = ap (total w) st.frames in
      omega (arith, l, q, e, m, t)

  total_fits : 0 + total w a.frames ≤ stack_bytes w world.notes
  total_fits = let l = sound_room w world a h st.below in omega (arith, l)

  slot_room : (kind : SlotKind) → has_room world.notes note (Item.Slot kind Ty.Any) s.items ≡ true
      → slot_bytes w kind + total w a.frames ≤ stack_bytes w world.notes
  slot_room kind r =
      let g = room_within st (Item.Slot kind Ty.Any) w r h in
      let e = slot_same w kind kind null refl in
      room_upon (slot_bytes w kind) (omega (arith, g, e))

  if_room : (b : Bool) (x : ℕ) → x + total w a.frames ≤ stack_bytes w world.notes
      → (if b then x else 0) + total w a.frames ≤ stack_bytes w world.notes
  if_room true x l = l
  if_room false x l = total_fits

  locals_room : has_room world.notes note Item.Locals s.items ≡ true
      → locals_growth w world a.frames + total w a.frames ≤ stack_bytes w world.notes
  locals_room r =
      subst (λ z. locals_growth w world z + total w a.frames ≤ stack_bytes w world.notes) (sym st.frames)
      (if_room (is_none (locals_among f.items)) (size_if w (frame_locals world.notes f.func)) (go (frame_locals world.notes f.func) refl))
    where
      go : (o : Option Shape) → frame_locals world.notes f.func ≡ o → size_if w o + total w a.frames ≤ stack_bytes w world.notes
      go None e = total_fits
      go (Some x) e =
          let z = sizes_same st x e in
          let g = room_within st Item.Locals w r h in
          let q : at w (locals_size world.notes note) ≡ size_if w (Some x) = ap₂ (λ n c. n * w + c) z.1 z.2 in
          room_upon (size_if w (Some x)) (omega (arith, g, q))

  make_room : (n c : ℕ) (x : Successors) → make_row world.notes note s n c ≡ Ok x
      → locals_growth w world a.frames + total w a.frames ≤ stack_bytes w world.notes
  make_room n c x e = when_ok (is_some note.locals && (not (list_any is_locals s.items)
      && (is_size (locals_size world.notes note) n c && has_room world.notes note Item.Locals s.items))) _ _ x e (λ q _.
      let p1 = and_parts (is_some note.locals) _ q in
      let p2 = and_parts (not (list_any is_locals s.items)) _ p1.1 in
      locals_room (and_parts (is_size (locals_size world.notes note) n c) (has_room world.notes note Item.Locals s.items) p2.1).1)

  index_room : (neg : Bool) (u c : ℕ) (x : Successors) → frame_row world.notes note s (record { n = signed neg u; c = signed neg c }) ≡ Ok x
      → (if neg && not (nat_eq u 0 && nat_eq c 0) then locals_growth w world a.frames else 0) + total w a.frames ≤ stack_bytes w world.notes
  unfolding frame_row
  index_room false u c x e = total_fits
  index_room true zero zero x e = total_fits
  index_room true (suc m) zero x e = if_room (not (nat_eq (suc m) 0 && nat_eq 0 0)) (locals_growth w world a.frames)
      (make_room (suc m) 0 x e)
  index_room true zero (suc k) x e = if_room (not (nat_eq 0 0 && nat_eq (suc k) 0)) (locals_growth w world a.frames)
      (make_room 0 (suc k) x e)
  index_room true (suc m) (suc k) x e = if_room (not (nat_eq (suc m) 0 && nat_eq (suc k) 0)) (locals_growth w world a.frames)
      (make_room (suc m) (suc k) x e)

  moved_room : (ridx : Option Index) (x : Successors) → frame_row world.notes note s (index_distance ridx) ≡ Ok x
      → index_growth w world a ridx + total w a.frames ≤ stack_bytes w world.notes
  moved_room None x e = total_fits
  moved_room (Some i) x e = index_room i.neg i.units i.bytes x e

  lower_room : (g : FnNote) → is_lower world.notes note s g ≡ true → return_cell + total w a.frames ≤ stack_bytes w world.notes
  unfolding is_lower
  lower_room g lower =
      let i = and_parts (nat_lt g.level note.level) (fits_need (items_size
      (locals_size world.notes note) s.items) g.need note.need) lower in
      let j = and_parts (not (nat_lt (at 4 note.need) (call_size 4 (items_size (locals_size world.notes note) s.items) g.need))) _ i.1 in
      let l4 = ltb-false _ _ (not-true _ j.0) in
      let l8 = ltb-false _ _ (not-true _ j.1) in
      let h4 = top_height st 4 in
      let h8 = top_height st 8 in
      room_upon return_cell (by_width (λ v. return_cell + height v f.items ≤ pair_at v note.need) w h (omega (arith, l4, h4))
      (omega (arith, l8, h8)))

  -- an instruction on data puts nothing there
  data_room : (site : Site) (i : Insn) (k : Change) → data_row world.notes note (here_of site f.func) s i ≡ Ok k → HasRoom w world a i
  data_room site (Insn.Move size bits left right lidx ridx) k e =
      subst (λ b. (if b then index_growth w world a ridx else 0) + total w a.frames ≤ stack_bytes w world.notes)
      (sym (not_stack_move world.notes note s size left right lidx ridx k
      (past_test (is_none site.reloc) _ RuleName.Relocation k e))) total_fits
  data_room site (Insn.Call far native relative op extra) k e = absurd (no_row (is_none site.reloc) RuleName.Form RuleName.Relocation k e)
  data_room site (Insn.Push wide op extra) k e = absurd (no_row (is_none site.reloc) RuleName.Form RuleName.Relocation k e)
  data_room site (Insn.PushNatural op extra) k e = absurd (no_row (is_none site.reloc) RuleName.Form RuleName.Relocation k e)
  data_room site c k e = total_fits

  push_room : (kind : SlotKind) (op : Operand) (extra : Extra) (x : Successors) → push_row world.notes note s kind op extra ≡ Ok x
      → slot_bytes w kind + total w a.frames ≤ stack_bytes w world.notes
  push_room kind op extra x e = push_rule st kind op extra x e (λ t e1 made room out. slot_room kind room)

  kind_same : (wide : Bool) → slot_kind wide ≡ form_kind wide
  kind_same true = refl
  kind_same false = refl

  call_room : (site : Site) (far rel : Bool) (op : Operand) (extra : Extra) (x : Successors)
      → rules_calls.call_row world.notes note (here_of site f.func) s far rel op extra ≡ Ok x
      → return_cell + total w a.frames ≤ stack_bytes w world.notes
  unfolding rules_calls.call_row
  call_room site far rel op extra x e =
      then_ok (target_of (here_of site f.func) far rel op extra) (call_to world.notes note s) x e
      (λ z e1 e2. let c = call_allowed st z x e2 in lower_room c.callee c.lower)

  flow_room : (site : Site) (i : Insn) (x : Successors) → flow_row world.notes note (here_of site f.func) s i ≡ Ok x → HasRoom w world a i
  flow_room site (Insn.Push wide op extra) x e =
      subst (λ k. slot_bytes w k + total w a.frames ≤ stack_bytes w world.notes) (kind_same wide)
      (push_room (slot_kind wide) op extra x (past_test (is_none site.reloc) _ RuleName.Relocation x e))
  flow_room site (Insn.PushNatural op extra) x e = push_room N op extra x (past_test (is_none site.reloc) _ RuleName.Relocation x e)
  flow_room site (Insn.Call far false relative op extra) x e = call_room site far relative op extra x e
  flow_room site (Insn.Move size bits left right lidx ridx) x e =
      let q = move_stack world.notes note s size left right ridx x (past_test (is_none site.reloc) _ RuleName.Relocation x e) in
      subst (λ b. (if b then index_growth w world a ridx else 0) + total w a.frames ≤ stack_bytes w world.notes) (sym q.0)
      (moved_room ridx x q.1)
  flow_room site c x e = total_fits

-- The stack has room for what an instruction puts there that its rule accepts.
pub room_fits : (w : ℕ) (world : World) (a : Config) (f : FunctionFrame) (fs : List Frame) (note : FnNote) (here : Site) (s : State)
    (i : Insn) (x : Successors) → IsWidth w → WorldTyped world → StandsTyped world a f fs note here s i x → HasRoom w world a i
room_fits w world a f fs note here s i x q ok h =
    ⊎_elim (λ d. let c = change_found world.notes note (here_of here f.func) s i d.0 h.there d.1 in
    data_room w (top_sound world a f fs note here s i x ok h) q here i c.change c.row)
    (λ e. flow_room w (top_sound world a f fs note here s i x ok h) q here i x
    (row_found world.notes note (here_of here f.func) s i x h.there e)) h.accepted
