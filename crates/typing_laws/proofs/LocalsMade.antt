-- The locals of a function are made: the configuration stays sound, since nothing was said of local fields before.
use Rattle.typing_laws.proofs.Common.{◌≡◌, ◌≢◌, ℕ, ◌*◌, ◌<◌, ◌≤◌, ◌⊎◌, true, false, not, ◌&&◌, if◌then◌else◌, is_some, is_none, nat_eq}
use Rattle.typing_laws.proofs.Common.{List, [], ◌∷◌, length, Option, Some, None, Ok, IfSome, slice_get, refl, sym, ap, ◌∙◌, subst, arith}
use Rattle.typing_laws.proofs.Common.{inl, inr, ⊎_elim, option_and_then, AllZip, list_any, and_parts, and_from, eqb-true, eq-eqb, ne_eqb}
use Rattle.typing_laws.proofs.Common.{cases_eq, false≢true, true≢false, none-some, content_type, is_locals, Item, FnNote, Notes, Field}
use Rattle.typing_laws.proofs.Common.{Shape, State, locals_size, has_room, is_size, with_item, falls, Successors, after_make, goes}
use Rattle.typing_laws.proofs.Common.{StackItem, Pushed, LocalsOf, FunctionFrame, Frame, Config, depth, locals_among, locals_at, FitsPlain}
use Rattle.typing_laws.proofs.Common.{ItemFits, height, Memory, memory_of, cell_field, IsFieldWritten, Gives, Stuck, ◌>>=◌, pair_at}
use Rattle.typing_laws.proofs.Common.{Neutral, CellPlace, FieldOf, FieldOfLocals, World, frame_locals, Accepts, live_memory, CellsFit}
use Rattle.typing_laws.proofs.Common.{FieldsLater, fits_later, items_later, within_some}
use Rattle.std.proofs.lemmas.Bool.{cases_lt, not-true}
use Rattle.neutral_machine.specs.Rows.{cells_before, has_size, is_local_of, made_locals}
use Rattle.typing_laws.proofs.Context.{TopSound, own_locals, passed_params, sizes_same, locals_are}
use Rattle.typing_laws.proofs.LiveCells.{LaterBelow, below_kept, frames_kept, live_held, live_some}
use Rattle.typing_laws.proofs.{Rows.ok_same, Rows.when_ok, ArithRow.GoesOn, ArithRow.goes_on, ItemsChanged.few_hosts}
use Rattle.typing_laws.proofs.{ItemsChanged.items_moved, ItemsChanged.top_keeps, PushFits.room_within, Written.After}
use Rattle.invariant_laws.proofs.LaterFits.{written_later}
use Rattle.rules_flow.specs.Frames as rules_flow

-- ---- what says nothing of local fields

-- Where a frame has no locals, a memory comes later whatever becomes of the local fields of that frame.
fields_made : (notes : Notes) (d : ℕ) (U V : Memory) → LaterBelow d U V → ((x : ℕ) → IsFieldWritten U d x → ⊥) → U.locals d ≡ None
    → FieldsLater notes d U V
fields_made notes d U V l unwritten absent = record {
  objects = l.objects;
  fields = λ e f z h g. ⊎_elim (λ x. ap (option_and_then (λ (s : Shape). slice_get s.fields f)) (l.locals e x) ∙ g)
      (λ x. absurd (no_local f z (subst (λ y. cell_field notes U (FieldOfLocals y f) ≡ Some z) (same e h x) g))) (cases_lt e d);
  written = λ e f h w. ⊎_elim (λ x. l.written e f x w)
      (λ x. absurd (unwritten f (subst (λ y. IsFieldWritten U y f) (same e h x) w))) (cases_lt e d);
}
  where
    same : (e : ℕ) → e ≤ d → d ≤ e → e ≡ d
    same e h x = omega (arith, h, x)

    no_local : (x : ℕ) (z : Field) → cell_field notes U (FieldOfLocals d x) ≡ Some z → ⊥
    no_local x z e = none-some z (sym (ap (option_and_then (λ (s : Shape). slice_get s.fields x)) absent) ∙ e)

-- no locals among items of which none is the locals
pub no_locals : (notes : Notes) (m : Memory) (d : ℕ) (f : FunctionFrame) (is : List StackItem) (xs : List Item)
    → list_any is_locals xs ≡ false → AllZip (ItemFits notes m d f) is xs → locals_among is ≡ None
no_locals notes m d f [] xs e z = refl
no_locals notes m d f (Pushed kind v ∷ is) (Item.Slot k t ∷ xs) e z = no_locals notes m d f is xs e z.1
no_locals notes m d f (Pushed kind v ∷ is) (Item.Locals ∷ xs) e z = absurd z.0
no_locals notes m d f (LocalsOf s ∷ is) (Item.Locals ∷ xs) e z = absurd (true≢false e)
no_locals notes m d f (LocalsOf s ∷ is) (Item.Slot k t ∷ xs) e z = absurd z.0
no_locals notes m d f (i ∷ is) [] e z = absurd z

module _ {world : World} {a : Config} {f : FunctionFrame} {fs : List Frame} {note : FnNote} {s : State} (st : TopSound world a f fs note s)
    (sh : Shape) (shape_is : frame_locals world.notes f.func ≡ Some sh) (absent : locals_among f.items ≡ None) where
  abbrev frame : FunctionFrame
  frame = record f { items = LocalsOf sh ∷ f.items }

  abbrev after : Config
  after = made_locals a f fs sh

  locals_before : (live_memory world a).locals (depth fs) ≡ None
  locals_before = own_locals st ∙ absent

  -- the locals of the other frames
  other_locals : (e : ℕ) → e ≢ depth fs → locals_at after.frames e ≡ locals_at a.frames e
  other_locals e n = ap (λ b. if b then Some sh else locals_at fs e) (ne_eqb e (depth fs) n)
      ∙ sym (ap (λ b. if b then locals_among f.items else locals_at fs e) (ne_eqb e (depth fs) n)) ∙ ap (λ z. locals_at z e) (sym st.frames)

  -- a cell of another frame or of an object
  other_held : (p : CellPlace) → is_local_of (depth fs) p ≡ false
      → cell_field world.notes (live_memory world after) p ≡ cell_field world.notes (live_memory world a) p
      → (live_memory world after).cells p ≡ (live_memory world a).cells p
  other_held p n e = ap (λ o. if is_some o then cells_before (depth fs) a.cells p else None) e
      ∙ ap (λ b. if is_some (cell_field world.notes (live_memory world a) p) then (if b then None else a.cells p) else None) n

  other_field : (e x : ℕ) → e ≢ depth fs → cell_field world.notes (live_memory world after) (FieldOfLocals e x) ≡ cell_field world.notes
      (live_memory world a) (FieldOfLocals e x)
  other_field e x n = ap (option_and_then (λ (q : Shape). slice_get q.fields x)) (other_locals e n)

  later_made : LaterBelow (depth fs) (live_memory world a) (live_memory world after)
  later_made = record {
    objects = λ k o h. h;
    locals = λ e l. other_locals e (below_not e l);
    written = λ e x l h. record {
      value = h.value;
      is = other_held (FieldOfLocals e x) (ne_eqb e (depth fs) (below_not e l))
          (other_field e x (below_not e l)) ∙ h.is;
    };
  }
    where
      below_not : (e : ℕ) → e < depth fs → e ≢ depth fs
      below_not e l q = absurd (omega (arith, l, q))

  unwritten : (x : ℕ) → IsFieldWritten (live_memory world a) (depth fs) x → ⊥
  unwritten x h =
      let z = live_some world.notes (memory_of world a) (FieldOfLocals (depth fs) x) h.value h.is in
      none-some z.0 (sym (ap (option_and_then (λ (q : Shape). slice_get q.fields x)) locals_before) ∙ z.1)

  here_made : FieldsLater world.notes (depth fs) (live_memory world a) (live_memory world after)
  here_made = fields_made world.notes (depth fs) (live_memory world a) (live_memory world after) later_made unwritten locals_before

  cells_made : CellsFit world.notes (live_memory world after)
  cells_made = record { fit = fit; all = all }
    where
      fit : (p : CellPlace) (z : Field) (v : Neutral) → cell_field world.notes (live_memory world after) p ≡ Some z
          → (live_memory world after).cells p ≡ Some v → FitsPlain world.notes (live_memory world a).objects (content_type z.cell) v
      fit (FieldOf k i x) z v e h = st.below.cells.fit (FieldOf k i x) z v e (sym (other_held (FieldOf k i x) refl refl) ∙ h)
      fit (FieldOfLocals d x) z v e h = go (cases_eq d (depth fs))
        where
          go : (d ≡ depth fs) ⊎ (d ≢ depth fs) → FitsPlain world.notes (live_memory world a).objects (content_type z.cell) v
          go (inl q) = absurd (none-some v (sym (ap (λ b. if b then None else a.cells (FieldOfLocals d x)) (eq-eqb d (depth fs) q))
              ∙ live_held world.notes (memory_of world after) (FieldOfLocals d x) v h))
          go (inr n) = st.below.cells.fit (FieldOfLocals d x) z v (sym (other_field d x n) ∙ e)
              (sym (other_held (FieldOfLocals d x) (ne_eqb d (depth fs) n) (other_field d x n)) ∙ h)

      all : (k i x : ℕ) (z : Field) → cell_field world.notes (live_memory world after) (FieldOf k i x) ≡ Some z → (v : Neutral)
          × ((live_memory world after).cells (FieldOf k i x) ≡ Some v)
      all k i x z e = let r = st.below.cells.all k i x z e in (r.0, other_held (FieldOf k i x) refl refl ∙ r.1)

  -- The locals are made, where there is room for them.
  pub made_sound : has_room world.notes note Item.Locals s.items ≡ true → After world after frame fs (with_item s Item.Locals)
  made_sound r =
      let k = top_keeps st in
      let size = sizes_same st sh shape_is in
      let within : (w : ℕ) → (w ≡ 4) ⊎ (w ≡ 8) → height w (LocalsOf sh ∷ f.items) ≤ pair_at w note.need =
      λ w q. (let g = room_within st Item.Locals w r q in let e1 = size.1 in let e2 = size.2 in
      let e3 : (locals_size world.notes note).n * w ≡ sh.n * w = ap (λ n. n * w) e1 in omega (arith, g, e2, e3)) in
      record {
        frames = refl;
        top = record {
          registers = λ x l n. fits_later world.notes (depth fs) (live_memory world a)
              (live_memory world after) here_made f.saved _ (a.registers x) (st.top.registers x l n);
          items = (
            shape_is,
            items_moved world.notes (live_memory world after) (depth fs) f (LocalsOf sh ∷ f.items) f.items s.items
                (items_later world.notes (depth fs) (live_memory world a)
                (live_memory world after) here_made f f.items s.items st.top.items),
          );
          written = written_later world.notes (depth fs) (live_memory world a)
              (live_memory world after) here_made s.written st.top.written;
          made_are = st.top.made_are;
          fact = λ x y. record { gave = (st.top.fact x y).gave };
        };
        below = record {
          cells = cells_made;
          frames = (
            (
              note,
              record {
                there = st.there;
                within = record { at4 = within 4 (inl refl); at8 = within 8 (inr refl) };
                slots = k.0.slots;
                thunks = k.0.thunks;
              },
              below_kept world (passed_params world st.typed) (live_memory world a)
                  (live_memory world after) refl f frame note fs st.there refl refl later_made k.1,
            ),
            frames_kept world (passed_params world st.typed) (live_memory world a) (live_memory world after) refl a.made fs later_made k.2,
          );
          few = few_hosts st;
        };
      }

-- ---- the rule

module _ {world : World} {a : Config} {f : FunctionFrame} {fs : List Frame} {note : FnNote} {s : State}
    (st : TopSound world a f fs note s) where
  shape_there : is_some note.locals ≡ true → (sh : Shape) × (frame_locals world.notes f.func ≡ Some sh)
  shape_there e = go note.locals refl e (st.typed.notes.functions f.func note st.there).locals
    where
      go : (o : Option ℕ) → note.locals ≡ o → is_some o ≡ true → IfSome o (λ k. k < length world.notes.shape) → (sh : Shape)
          × (frame_locals world.notes f.func ≡ Some sh)
      go None g e h = absurd (false≢true e)
      go (Some k) g e h =
          let q = within_some world.notes.shape k h in
          (q.0, sym (locals_are world.notes f.func note st.there) ∙ ap (option_and_then (slice_get world.notes.shape)) g ∙ q.1)

  -- R0 moved down by the size of the locals makes them
  pub make_goes : (n c next : ℕ) (x : Successors) → next < world.image_size → rules_flow.make_row world.notes note s n c ≡ Ok x
      → (x.fall ≡ Some (with_item s Item.Locals)) × Accepts (GoesOn world next (with_item s Item.Locals))
      (after_make a f fs n c (frame_locals world.notes f.func) >>= (λ b. goes world b next))
  make_goes n c next x i e = when_ok (is_some note.locals && (not (list_any is_locals s.items)
      && (is_size (locals_size world.notes note) n c && has_room world.notes note Item.Locals s.items))) _ _ x e (λ q e1.
      let p1 = and_parts (is_some note.locals) _ q in
      let p2 = and_parts (not (list_any is_locals s.items)) _ p1.1 in
      let p3 = and_parts (is_size (locals_size world.notes note) n c) _ p2.1 in
      let p4 = and_parts (nat_eq (locals_size world.notes note).n n) (nat_eq (locals_size world.notes note).c c) p3.0 in
      let sh = shape_there p1.0 in
      let absent = no_locals world.notes (live_memory world a) (depth fs) f f.items s.items (not-true _ p2.0) st.top.items in
      let size = sizes_same st sh.0 sh.1 in
      let en : sh.0.n ≡ n = sym size.1 ∙ eqb-true _ _ p4.0 in
      let ec : sh.0.c ≡ c = sym size.2 ∙ eqb-true _ _ p4.1 in
      let test : (has_size n c sh.0 && is_none (locals_among f.items)) ≡ true =
      and_from (has_size n c sh.0) (is_none (locals_among f.items)) (and_from _ _ (eq-eqb sh.0.n n en) (eq-eqb sh.0.c c ec))
      (ap is_none absent) in (
        ap (λ (y : Successors). y.fall) (sym (ok_same (falls (with_item s Item.Locals)) x e1)),
        subst (λ o. Accepts (GoesOn world next (with_item s Item.Locals)) (o >>= (λ b. goes world b next)))
            (sym (ap (after_make a f fs n c) sh.1 ∙ ap (λ b. if b then Gives (made_locals a f fs sh.0) else Stuck) test))
            (goes_on (made_locals a f fs sh.0) next (with_item s Item.Locals) i
            (made_sound st sh.0 sh.1 absent p3.1)),
      ))
