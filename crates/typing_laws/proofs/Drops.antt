-- R0 moved: items are dropped from the top, with the locals or without, or the locals are made.
use Rattle.typing_laws.proofs.Common.{◌≡◌, ◌≢◌, ℕ, zero, suc, ◌<◌, ◌≤◌, ◌⊎◌, Bool, true, false, not, ◌&&◌, ◌||◌, if◌then◌else◌, is_none}
use Rattle.typing_laws.proofs.Common.{nat_eq, List, [], ◌∷◌, map, Option, Some, None, Ok, Err, slice_get, slice_index_or, refl, sym, ap}
use Rattle.typing_laws.proofs.Common.{ap₂, ◌∙◌, subst, arith, inl, inr, option_and_then, pos, int_le, AllZip, list_any, and_parts, cases_eq}
use Rattle.typing_laws.proofs.Common.{eq-eqb, ne_eqb, false≢true, le-leb, same_Some, none-some, signed, Index, LeftFits, Operand, Size}
use Rattle.typing_laws.proofs.Common.{content_type, is_locals, type_of, Item, FnNote, Notes, Field, Shape, State, Ty, index_distance}
use Rattle.typing_laws.proofs.Common.{locals_size, frame_move, drop_to, frame_row, left_after, make_row, with_item, falls, Successors}
use Rattle.typing_laws.proofs.Common.{NeutralEnd, after_make, dropped, frame_without, goes, item_without, registers_without, with_items}
use Rattle.typing_laws.proofs.Common.{without_local, StackItem, Pushed, LocalsOf, FunctionFrame, Frame, Function, Config, depth}
use Rattle.typing_laws.proofs.Common.{locals_among, locals_at, FitsPlain, Fits, FitsState, ItemFits, height, Memory, memory_of, cell_field}
use Rattle.typing_laws.proofs.Common.{compared_as, Outcome, Gives, ◌>>=◌, frame_limit, Neutral, CellPlace, FieldOf, FieldOfLocals, number}
use Rattle.typing_laws.proofs.Common.{World, frame_locals, Accepts, live_memory, CellsFit, KeepsWithin, SlotsKept, depth_map, RuleName}
use Rattle.std.specs.Option.{option_map}
use Rattle.rules_flow.specs.Frames.{drop_row, left_item, left_type, loses, with_left}
use Rattle.neutral_machine.specs.Rows.{adjusted, adjusted_by, after_drop, config_without, stack_row}
use Rattle.neutral_machine.specs.Outcomes.{unless_stuck}
use Rattle.typing_laws.proofs.ItemsChanged.{below_after, few_hosts, items_after, top_after, top_keeps}
use Rattle.typing_laws.proofs.LiveCells.{LaterBelow, live_held, live_some, live_there}
use Rattle.typing_laws.proofs.LocalsGone.{below_without, forgotten_fits, frames_without, hosts_without, keeps_without, plain_without}
use Rattle.typing_laws.proofs.Rows.{err_ok, ok_same, either_ok, unless_ok, when_ok}
use Rattle.typing_laws.proofs.{ItemsDropped.DropFound, ItemsDropped.drop_found, ItemsDropped.once_counted, ArithRow.GoesOn}
use Rattle.typing_laws.proofs.{ArithRow.goes_on, Context.TopSound, Context.passed_params, Context.sizes_same, LocalsMade.make_goes}
use Rattle.typing_laws.proofs.{LocalsMade.no_locals, Pushes.FallsOn, Written.After, Changes.each_register}
use Rattle.invariant_laws.proofs.StatesLater.{compared_stays}
use Rattle.neutral_machine.proofs.Drops.{locals_at_map}

-- the types of the registers, listed
listed : (P : ℕ → Ty → Type 0) (t : ℕ → Ty) → ((r : ℕ) → 0 < r → r < 8 → P r (t r)) → (r : ℕ) → 0 < r → r < 8
    → P r (slice_index_or (t 0 ∷ t 1 ∷ t 2 ∷ t 3 ∷ t 4 ∷ t 5 ∷ t 6 ∷ t 7 ∷ []) r Ty.Any)
listed P t h = each_register (λ r. P r (slice_index_or (t 0 ∷ t 1 ∷ t 2 ∷ t 3 ∷ t 4 ∷ t 5 ∷ t 6 ∷ t 7 ∷ []) r Ty.Any))
    (h 1 (omega arith) (omega arith)) (h 2 (omega arith) (omega arith)) (h 3 (omega arith) (omega arith)) (h 4 (omega arith) (omega arith))
    (h 5 (omega arith) (omega arith)) (h 6 (omega arith) (omega arith)) (h 7 (omega arith) (omega arith))

-- items of which nothing is lost
items_left : (notes : Notes) (m : Memory) (d : ℕ) (f : FunctionFrame) (is : List StackItem) (xs : List Item)
    → AllZip (ItemFits notes m d f) is xs → AllZip (ItemFits notes m d f) is (map (left_item false) xs)
items_left notes m d f [] [] h = tt
items_left notes m d f [] (x ∷ xs) h = absurd h
items_left notes m d f (i ∷ is) [] h = absurd h
items_left notes m d f (Pushed kind v ∷ is) (Item.Slot k t ∷ xs) h = (h.0, items_left notes m d f is xs h.1)
items_left notes m d f (LocalsOf s ∷ is) (Item.Locals ∷ xs) h = (h.0, items_left notes m d f is xs h.1)
items_left notes m d f (Pushed kind v ∷ is) (Item.Locals ∷ xs) h = absurd h.0
items_left notes m d f (LocalsOf s ∷ is) (Item.Slot k t ∷ xs) h = absurd h.0

-- items of which the locals are lost
items_lost : (notes : Notes) (d : ℕ) (U V : Memory) → V.objects ≡ U.objects → LaterBelow d U V → (f g : FunctionFrame) → g.func ≡ f.func
    → g.saved ≡ registers_without d f.saved → (is : List StackItem) (xs : List Item) → AllZip (ItemFits notes U d f) is xs
    → AllZip (ItemFits notes V d g) (map (item_without d) is) (map (left_item true) xs)
items_lost notes d U V same l f g ef eg [] [] h = tt
items_lost notes d U V same l f g ef eg [] (x ∷ xs) h = absurd h
items_lost notes d U V same l f g ef eg (i ∷ is) [] h = absurd h
items_lost notes d U V same l f g ef eg (Pushed kind v ∷ is) (Item.Slot k t ∷ xs) h = (
  (
    h.0.0,
    subst (λ r. Fits notes V d r (left_type true t) (without_local d v)) (sym eg)
        (forgotten_fits notes d U V same l f.saved t v h.0.1),
  ),
  items_lost notes d U V same l f g ef eg is xs h.1,
)
items_lost notes d U V same l f g ef eg (LocalsOf s ∷ is) (Item.Locals ∷ xs) h =
    (ap (frame_locals notes) ef ∙ h.0, items_lost notes d U V same l f g ef eg is xs h.1)
items_lost notes d U V same l f g ef eg (Pushed kind v ∷ is) (Item.Locals ∷ xs) h = absurd h.0
items_lost notes d U V same l f g ef eg (LocalsOf s ∷ is) (Item.Slot k t ∷ xs) h = absurd h.0

module _ {world : World} {a : Config} {f : FunctionFrame} {fs : List Frame} {note : FnNote} {s : State}
    (st : TopSound world a f fs note s) where
  -- ---- the locals stay

  pub kept_goes : (n c : ℕ) (left : List Item) (r : DropFound world.notes (live_memory world a) (depth fs) f (locals_size world.notes note)
      (λ x q. let z = sizes_same st x q in (z.1, z.2)) n c f.items s.items left) → r.gone ≡ false
      → After world (with_items a f r.rest fs) (record f { items = r.rest }) fs (with_left s false left)
  unfolding with_left
  kept_goes n c left r g =
      let same = r.stay g in
      let k = top_keeps st in
      let t = top_after st r.rest same left (items_after st r.rest same r.rest left r.fits) in
      record {
        frames = refl;
        top = record {
          registers = λ x l b. listed (λ q y. Fits world.notes (live_memory world (with_items a f r.rest fs)) (depth fs) f.saved y
              (a.registers q)) (type_of s) t.registers x l b;
          items = items_left world.notes (live_memory world (with_items a f r.rest fs)) (depth fs)
              (record f { items = r.rest }) r.rest left t.items;
          written = t.written;
          made_are = t.made_are;
          fact = t.fact;
        };
        below = below_after st r.rest same
            (record {
              at4 = (let x = k.0.within.at4 in let y = r.lower 4 in omega (arith, x, y));
              at8 = (let x = k.0.within.at8 in let y = r.lower 8 in omega (arith, x, y));
            })
            (r.kept (live_memory world a).objects k.0.slots);
      }

  -- ---- the locals go

  module _ (rest : List StackItem) (gone : locals_among rest ≡ None) where
    abbrev pub lost_config : Config
    lost_config = config_without (depth fs) (with_items a f rest fs)

    abbrev pub lost_frame : FunctionFrame
    lost_frame = record f { saved = registers_without (depth fs) f.saved; items = map (item_without (depth fs)) rest }

    lost_locals : (e : ℕ) → locals_at lost_config.frames e ≡ (if nat_eq e (depth fs) then None else locals_at a.frames e)
    lost_locals e =
        locals_at_map (depth fs) (Function (record f { items = rest }) ∷ fs) e
        ∙ ap (λ o. if nat_eq e (depth fs) then o else locals_at fs e) gone ∙ go (nat_eq e (depth fs)) refl
      where
        go : (b : Bool) → nat_eq e (depth fs) ≡ b → (if b then None else locals_at fs e) ≡ (if b then None else locals_at a.frames e)
        go true q = refl
        go false q = sym (ap (λ b. if b then locals_among f.items else locals_at fs e) q) ∙ ap (λ z. locals_at z e) (sym st.frames)

    other_locals : (e : ℕ) → e ≢ depth fs → locals_at lost_config.frames e ≡ locals_at a.frames e
    other_locals e n = lost_locals e ∙ ap (λ b. if b then None else locals_at a.frames e) (ne_eqb e (depth fs) n)

    other_field : (e x : ℕ) → e ≢ depth fs → cell_field world.notes (live_memory world lost_config)
        (FieldOfLocals e x) ≡ cell_field world.notes (live_memory world a) (FieldOfLocals e x)
    other_field e x n = ap (option_and_then (λ (q : Shape). slice_get q.fields x)) (other_locals e n)

    -- a cell that is there still
    still_held : (p : CellPlace) (z : Field) (v : Neutral) → cell_field world.notes (live_memory world lost_config) p ≡ Some z
        → cell_field world.notes (live_memory world a) p ≡ Some z → (live_memory world a).cells p ≡ Some v
        → (live_memory world lost_config).cells p ≡ Some (without_local (depth fs) v)
    still_held p z v e g h = live_there world.notes (memory_of world lost_config) p z (Some (without_local (depth fs) v)) e
        (ap (option_map (without_local (depth fs))) (live_held world.notes (memory_of world a) p v h))

    lost_later : LaterBelow (depth fs) (live_memory world a) (live_memory world lost_config)
    lost_later = record {
      objects = λ k o h. h;
      locals = λ e l. other_locals e (below_not e l);
      written = λ e x l h.
          let z = live_some world.notes (memory_of world a) (FieldOfLocals e x) h.value h.is in
          record {
            value = without_local (depth fs) h.value;
            is = still_held (FieldOfLocals e x) z.0 h.value (other_field e x (below_not e l) ∙ z.1) z.1 h.is;
          };
    }
      where
        below_not : (e : ℕ) → e < depth fs → e ≢ depth fs
        below_not e l q = absurd (omega (arith, l, q))

    lost_cells : CellsFit world.notes (live_memory world lost_config)
    lost_cells = record { fit = fit; all = all }
      where
        before : (p : CellPlace) (z : Field) → cell_field world.notes (live_memory world lost_config) p ≡ Some z
            → cell_field world.notes (live_memory world a) p ≡ Some z
        before (FieldOf k i x) z e = e
        before (FieldOfLocals d x) z e = go (cases_eq d (depth fs))
          where
            go : (d ≡ depth fs) ⊎ (d ≢ depth fs) → cell_field world.notes (live_memory world a) (FieldOfLocals d x) ≡ Some z
            go (inl q) = absurd (none-some z (sym (ap (option_and_then (λ (q : Shape). slice_get q.fields x))
                (lost_locals d ∙ ap (λ b. if b then None else locals_at a.frames d) (eq-eqb d (depth fs) q))) ∙ e))
            go (inr n) = sym (other_field d x n) ∙ e

        value_before : (o : Option Neutral) (v : Neutral) → option_map (without_local (depth fs)) o ≡ Some v → (u : Neutral) × (o ≡ Some u)
            × (without_local (depth fs) u ≡ v)
        value_before None v h = absurd (none-some v h)
        value_before (Some u) v h = (u, refl, same_Some (without_local (depth fs) u) v h)

        fit : (p : CellPlace) (z : Field) (v : Neutral) → cell_field world.notes (live_memory world lost_config) p ≡ Some z
            → (live_memory world lost_config).cells p ≡ Some v → FitsPlain world.notes (live_memory world a).objects (content_type z.cell) v
        fit p z v e h =
            let g = before p z e in
            let u = value_before (a.cells p) v (live_held world.notes (memory_of world lost_config) p v h) in
            subst (FitsPlain world.notes (live_memory world a).objects (content_type z.cell)) u.2
            (plain_without world.notes (live_memory world a).objects (depth fs) (content_type z.cell) u.0
            (st.below.cells.fit p z u.0 g (live_there world.notes (memory_of world a) p z (Some u.0) g u.1)))

        all : (k i x : ℕ) (z : Field) → cell_field world.notes (live_memory world lost_config) (FieldOf k i x) ≡ Some z → (v : Neutral)
            × ((live_memory world lost_config).cells (FieldOf k i x) ≡ Some v)
        all k i x z e = let r = st.below.cells.all k i x z e in (without_local (depth fs) r.0, still_held (FieldOf k i x) z r.0 e e r.1)

    pub lost_goes : (left : List Item) → KeepsWithin (λ w. height w rest) note → SlotsKept world.notes (live_memory world a).objects rest
        → AllZip (ItemFits world.notes (live_memory world a) (depth fs) f) rest left
        → After world lost_config lost_frame (map (frame_without (depth fs)) fs) (with_left s true left)
    unfolding with_left
    lost_goes left within slots z =
        let k = top_keeps st in
        let passed = passed_params world st.typed in
        let U = live_memory world a in
        let V = live_memory world lost_config in
        record {
          frames = refl;
          top = subst (λ d. FitsState world.notes V d lost_frame (with_left s true left) lost_config.registers a.c a.made)
              (sym (depth_map (depth fs) fs)) (record {
                registers = λ x l b. listed (λ q y. Fits world.notes V (depth fs) lost_frame.saved y
                    (without_local (depth fs) (a.registers q)))
                    (λ r. left_type true (type_of s r))
                    (λ r l b. forgotten_fits world.notes (depth fs) U V refl lost_later f.saved (type_of s r) (a.registers r)
                    (st.top.registers r l b)) x l b;
                items = items_lost world.notes (depth fs) U V refl lost_later f lost_frame refl refl rest left z;
                written = λ x q. absurd (omega (arith, q));
                made_are = st.top.made_are;
                fact = λ x e. let g = (st.top.fact x e).gave in record {
                  gave = ap (λ v. compared_as world.notes U.objects x.op true v (number x.k))
                      (compared_stays world.notes U.objects x.op (depth fs) x.k a.c (a.registers x.reg) g) ∙ g;
                };
              });
          below = record {
            cells = lost_cells;
            frames = (
              (
                note,
                keeps_without world passed (depth fs) U V refl a.made (record f { items = rest }) note
                    (registers_without (depth fs) f.saved) (record {
                      there = st.there;
                      within = within;
                      slots = slots;
                      thunks = k.0.thunks;
                    }),
                below_without world passed (depth fs) U V refl f lost_frame note fs st.there refl refl (omega arith) lost_later k.1,
              ),
              frames_without world passed (depth fs) U V refl a.made fs (omega arith) lost_later k.2,
            );
            few = subst (λ n. n ≤ frame_limit) (sym (hosts_without (depth fs) fs)) (few_hosts st);
          };
        }

-- ---- the rules

module _ {world : World} {a : Config} {f : FunctionFrame} {fs : List Frame} {note : FnNote} {s : State}
    (st : TopSound world a f fs note s) where
  abbrev Falls : ℕ → Successors → Outcome (NeutralEnd × Config) → Type 0
  Falls next x o = FallsOn world next x o

  -- items dropped from the top
  pub drop_goes : (n c next : ℕ) (x : Successors) → next < world.image_size → drop_row world.notes note s n c ≡ Ok x
      → Falls next x (after_drop a f fs (dropped n c f.items) >>= (λ b. goes world b next))
  drop_goes n c next x i e = go (left_after (locals_size world.notes note) s.items n c) refl e
    where
      found : (left : List Item) (r : DropFound world.notes (live_memory world a) (depth fs) f (locals_size world.notes note)
          (λ x q. let z = sizes_same st x q in (z.1, z.2)) n c f.items s.items left)
          → falls (with_left s (loses s.items left) left) ≡ x → Falls next x
          (after_drop a f fs (dropped n c f.items) >>= (λ b. goes world b next))
      found left r q = cases r.gone refl
        where
          k : KeepsWithin (λ w. height w r.rest) note
          k = let t = top_keeps st in record {
            at4 = (let x = t.0.within.at4 in let y = r.lower 4 in omega (arith, x, y));
            at8 = (let x = t.0.within.at8 in let y = r.lower 8 in omega (arith, x, y));
          }

          never : (b : Bool) → (b && not b) ≡ false
          never true = refl
          never false = refl

          cases : (g : Bool) → r.gone ≡ g → Falls next x (after_drop a f fs (dropped n c f.items) >>= (λ b. goes world b next))
          cases false g =
              let lost : loses s.items left ≡ false = ap (λ b. b && not (list_any is_locals left))
              (r.any ∙ ap (λ b. b || list_any is_locals left) g) ∙ never (list_any is_locals left) in
              record {
                state = with_left s false left;
                falls_to = ap (λ (y : Successors). y.fall) (sym q) ∙ ap (λ b. Some (with_left s b left)) lost;
                goes = subst (λ o. Accepts (GoesOn world next (with_left s false left)) (o >>= (λ b. goes world b next)))
                    (sym (ap (after_drop a f fs) r.found ∙ ap (λ b. if b then Gives (config_without (depth fs) (with_items a f r.rest fs))
                    else Gives (with_items a f r.rest fs)) g)) (goes_on (with_items a f r.rest fs) next (with_left s false left) i
                    (kept_goes st n c left r g));
              }
          cases true g =
              let none = r.once g (once_counted s.items st.state.once) in
              let lost : loses s.items left ≡ true = ap₂ (λ b c. b && not c) (r.any ∙ ap (λ b. b || list_any is_locals left) g) none in
              let gone = no_locals world.notes (live_memory world a) (depth fs) f r.rest left none r.fits in
              record {
                state = with_left s true left;
                falls_to = ap (λ (y : Successors). y.fall) (sym q) ∙ ap (λ b. Some (with_left s b left)) lost;
                goes = subst (λ o. Accepts (GoesOn world next (with_left s true left)) (o >>= (λ b. goes world b next)))
                    (sym (ap (after_drop a f fs) r.found ∙ ap (λ b. if b then Gives (config_without (depth fs) (with_items a f r.rest fs))
                    else Gives (with_items a f r.rest fs)) g))
                    (goes_on (config_without (depth fs) (with_items a f r.rest fs)) next (with_left s true left) i
                    (lost_goes st r.rest gone left k
                    (r.kept (live_memory world a).objects (top_keeps st).0.slots) r.fits));
              }

      go : (o : Option (List Item)) → left_after (locals_size world.notes note) s.items n c ≡ o → drop_to s o ≡ Ok x
          → Falls next x (after_drop a f fs (dropped n c f.items) >>= (λ b. goes world b next))
      go None h e = absurd (err_ok RuleName.Stack x e)
      go (Some left) h e = found left (drop_found world.notes (live_memory world a) (depth fs) f (locals_size world.notes note)
          (λ x q. let z = sizes_same st x q in (z.1, z.2)) n c f.items s.items left st.top.items h) (ok_same _ x e)

  made_falls : (n c next : ℕ) (x : Successors) → next < world.image_size → make_row world.notes note s n c ≡ Ok x
      → Falls next x (after_make a f fs n c (frame_locals world.notes f.func) >>= (λ b. goes world b next))
  made_falls n c next x i e = let r = make_goes st n c next x i e in
      record { state = with_item s Item.Locals; falls_to = r.0; goes = r.1 }

  -- R0 moved down makes the locals
  moved_down : (u c next : ℕ) (x : Successors) → (nat_eq u 0 && nat_eq c 0) ≡ false
      → Falls next x (after_make a f fs u c (frame_locals world.notes f.func) >>= (λ b. goes world b next))
      → Falls next x (adjusted world a (Function f ∷ fs) true u c >>= (λ b. goes world b next))
  moved_down u c next x h r = subst (λ b. Falls next x ((if not b then after_make a f fs u c (frame_locals world.notes f.func)
      else after_drop a f fs (dropped u c f.items)) >>= (λ b. goes world b next))) (sym h) r

  -- R0 moved by an index
  index_falls : (neg : Bool) (u c next : ℕ) (x : Successors) → next < world.image_size
      → frame_row world.notes note s (record { n = signed neg u; c = signed neg c }) ≡ Ok x
      → Falls next x (adjusted world a (Function f ∷ fs) neg u c >>= (λ b. goes world b next))
  unfolding frame_row
  index_falls false u c next x i e =
      drop_goes u c next x i (sym (ap₂ (λ p q. if p && q then drop_row world.notes note s u c
      else (if int_le (pos u) (pos 0) && int_le (pos c) (pos 0) then make_row world.notes note s u c else Err RuleName.Stack))
      (le-leb 0 u (omega arith)) (le-leb 0 c (omega arith))) ∙ e)
  index_falls true zero zero next x i e = drop_goes 0 0 next x i e
  index_falls true (suc m) zero next x i e = moved_down (suc m) 0 next x
      (ap (λ b. b && nat_eq 0 0) (ne_eqb (suc m) 0 (λ q. absurd (omega (arith, q))))) (made_falls (suc m) 0 next x i e)
  index_falls true zero (suc k) next x i e = moved_down 0 (suc k) next x
      (ap (λ b. nat_eq 0 0 && b) (ne_eqb (suc k) 0 (λ q. absurd (omega (arith, q))))) (made_falls 0 (suc k) next x i e)
  index_falls true (suc m) (suc k) next x i e = moved_down (suc m) (suc k) next x
      (ap (λ b. b && nat_eq (suc k) 0) (ne_eqb (suc m) 0 (λ q. absurd (omega (arith, q))))) (made_falls (suc m) (suc k) next x i e)

  adjusted_falls : (ridx : Option Index) (next : ℕ) (x : Successors) → next < world.image_size
      → frame_row world.notes note s (index_distance ridx) ≡ Ok x → Falls next x (adjusted_by world a ridx >>= (λ b. goes world b next))
  adjusted_falls None next x i e = subst (λ z. Falls next x (adjusted world a z false 0 0 >>= (λ b. goes world b next))) (sym st.frames)
      (index_falls false 0 0 next x i e)
  adjusted_falls (Some j) next x i e = subst (λ z. Falls next x (adjusted world a z j.neg j.units j.bytes >>= (λ b. goes world b next)))
      (sym st.frames) (index_falls j.neg j.units j.bytes next x i e)

  -- MOVq of R0 to R0 that its rule accepts goes on soundly.
  pub frame_goes : (size : Size) (bits : ℕ) (left right : Operand) (lidx ridx : Option Index) (next : ℕ) (x : Successors)
      → LeftFits bits left lidx → next < world.image_size → frame_move world.notes note s size left right ridx ≡ Ok x
      → Falls next x (stack_row world a next size right lidx ridx)
  unfolding stack_row
  frame_goes Size.Qword bits left right lidx ridx next x l i e = unless_ok left.indirect _ _ x e (λ h e1.
      when_ok (nat_eq left.reg 0 && (not right.indirect && nat_eq right.reg 0)) _ _ x e1 (λ q e2.
      let p = and_parts (nat_eq left.reg 0) (not right.indirect && nat_eq right.reg 0) q in
      subst (λ b. Falls next x (unless_stuck b (adjusted_by world a ridx >>= (λ b. goes world b next))))
      (sym (ap₂ (λ b c. b && c) (none h lidx l) p.1)) (adjusted_falls ridx next x i e2)))
    where
      none : left.indirect ≡ false → (o : Option Index) → LeftFits bits left o → is_none o ≡ true
      none h None l = refl
      none h (Some j) l = absurd (false≢true (sym h ∙ l.0))
  frame_goes size bits left right lidx ridx next x l i e =
      either_ok left.indirect _ _ x e (λ _ h. absurd (err_ok RuleName.Form x h)) (λ _ h. absurd (err_ok RuleName.Stack x h))
