-- The rows of the pops.
use Rattle.typing_laws.proofs.Common.{◌≡◌, ◌≢◌, ℕ, ◌+◌, ◌-◌, ◌*◌, ◌%◌, ◌^◌, ◌<◌, Bool, true, false, ◌&&◌, if◌then◌else◌, nat_eq, List, []}
use Rattle.typing_laws.proofs.Common.{◌∷◌, Result, Ok, Err, slice_get, refl, sym, ap, ap₂, ◌∙◌, subst, arith, eqb-false, and_parts}
use Rattle.typing_laws.proofs.Common.{false≢true, Extra, Operand, IsKnown, type_of, FnNote, RuleName, State, Ty, or_else, known, changed}
use Rattle.typing_laws.proofs.Common.{destination, put, with_immediate, beside, gives_map, Change, Destination, FunctionFrame, Frame}
use Rattle.typing_laws.proofs.Common.{Config, depth, Fits, Access, Move, Form, kept, Outcome, Gives, Stuck, ◌>>=◌, Neutral, number, word}
use Rattle.typing_laws.proofs.Common.{World, moved_by, with_register, written, goes, Accepts, live_memory, SlotKind, N, Q, D, target_at}
use Rattle.typing_laws.proofs.Common.{extra_distance, place_at, beside_extra, extra_pair, same_kind, Item, target_place, pointed}
use Rattle.typing_laws.proofs.Common.{from_stack, locals_size, local_fields, is_int_below, pop_destination, popped_type, slot_access}
use Rattle.typing_laws.proofs.Common.{top_type, slot_kind, Successors, StackItem, Pushed, LocalsOf, ItemFits, FitsState, height}
use Rattle.typing_laws.proofs.Common.{kept_natural, with_items, AllZip, lt-ltb, ltb-true, KeepsWithin, SlotsKept, locals_among}
use Rattle.typing_laws.proofs.Common.{same_kind-equal, Size}
use Rattle.typing_laws.proofs.ArithRow.{GoesOn, beside_ok, BesideFits, left_goes, moved_immediate}
use Rattle.typing_laws.proofs.ItemsChanged.{below_after, fits_after, items_after, top_after, top_keeps}
use Rattle.typing_laws.proofs.Rows.{err_ok, ok_same, either_ok, unless_ok, when_ok}
use Rattle.typing_laws.proofs.{Accesses.access_of, Stores.Within, Context.TopSound, Context.FitsHere, Context.seen, Operands.then_ok}
use Rattle.typing_laws.proofs.{DataRest.register_goes, Pushes.FallsOn, Pushes.kind_same, Views.View, Views.FitsIn}
use Rattle.ebc_width.specs.Width.{extended_at}
use Rattle.rules_flow.specs.Frames.{below_top, is_popped, without_top}
use Rattle.rules_laws.proofs.FramesKeep.{without_top-keeps}
use Rattle.neutral_machine.specs.{Rows.pop_natural_row, Rows.pop_row, Rows.popped, Rows.taken, Rows.taken_from, Operations.extended}
use Rattle.neutral_machine.specs.Rows as rows
use Rattle.rules_flow.specs.Frames as rules_flow
use Rattle.ebc_base.specs.Steps as steps

-- a number below 2 ^ 31 is its own sign extension
small_extended : (x : ℕ) → x < 2 ^ 31 → extended_at 4 (word x) ≡ x
small_extended x l = ap (λ b. if b then word x % 2 ^ 32 else word x % 2 ^ 32 + (2 ^ 64 - 2 ^ 32))
    (lt-ltb (2 * (word x % 2 ^ 32)) (2 ^ 32) (omega (arith, l))) ∙ (let e : word x % 2 ^ 32 ≡ x = omega (arith, l) in e)

extended_fits : (view : View) (t : Ty) (v : Neutral) → is_int_below (2 ^ 31) t ≡ true → FitsIn view t v → FitsIn view t (extended v)
extended_fits view (Ty.Int lo hi div) v e h =
    let l : h.x < 2 ^ 31 = (let q = ltb-true hi (2 ^ 31) e in omega (arith, q, h.to)) in
    subst (FitsIn view (Ty.Int lo hi div)) (sym (ap extended h.is ∙ ap number (small_extended h.x l) ∙ sym h.is)) h
extended_fits view t v e h = absurd (false≢true e)

-- a part, and what needs it
abbrev steps_bind : {A B : Type 0} → Result A RuleName → (A → Result B RuleName) → Result B RuleName
steps_bind o k = steps.◌>>=◌ o k

-- the access of a pop
abbrev pub pop_access : SlotKind → Access
pop_access N = Move Size.Natural
pop_access Q = Form true
pop_access D = Form false

access_is : (kind : SlotKind) → slot_access kind ≡ access_of (pop_access kind)
access_is N = refl
access_is Q = refl
access_is D = refl

-- what a slot of a kind gives back
abbrev pub given_back : World → Config → SlotKind → Neutral → Neutral
given_back world a N v = kept_natural world.notes (live_memory world a).objects v
given_back world a Q v = v
given_back world a D v = extended v

within_popped : (kind : SlotKind) (t : Ty) → is_popped kind t ≡ true → Within (access_of (pop_access kind)) t
within_popped D (Ty.Int lo hi div) e = let l = ltb-true hi (2 ^ 31) e in omega (arith, l)
within_popped y t e = tt

module _ {world : World} {a : Config} {f : FunctionFrame} {fs : List Frame} {note : FnNote} {s : State}
    (st : TopSound world a f fs note s) where
  -- where a value that was popped is left
  pub popped_left : (kind : SlotKind) (op : Operand) (extra : Extra) (t : Ty) (v : Neutral) (to : Destination) (k : Change) (next : ℕ)
      → BesideFits op extra → next < world.image_size → IsKnown world.notes note t → Within (access_of (pop_access kind)) t
      → FitsHere st t v → pop_destination world.notes note s kind op extra ≡ Ok to → put to (popped_type world.notes op extra t) ≡ Ok k
      → Accepts (GoesOn world next (changed s k)) (popped world a (pop_access kind) (beside_extra op extra) v >>= (λ b. goes world b next))
  unfolding popped destination
  popped_left kind op extra t v to k next b i known w h e p = unless_ok (nat_eq op.reg 0) _ _ to e (λ z e0.
      either_ok op.indirect _ _ to e0
      (λ g e1. subst (λ z. Accepts (GoesOn world next (changed s k)) (whole z)) (sym g) (memory g e1))
      (λ g e1. subst (λ z. Accepts (GoesOn world next (changed s k)) (whole z)) (sym g)
      (register g (eqb-false op.reg 0 z) (ok_same (Destination.Register op.reg) to e1))))
    where
      whole : Bool → Outcome (rows.NeutralEnd × Config)
      whole z = (if z then written world a (pop_access kind) (beside_extra op extra) v
          else with_register a op.reg (moved_by v (extra_pair extra))) >>= (λ b. goes world b next)

      memory : op.indirect ≡ true → gives_map Destination.Memory (target_at world.notes note s (slot_access kind) op.reg
          (extra_distance extra)) ≡ Ok to → Accepts (GoesOn world next (changed s k)) (whole true)
      memory g e =
          let m = b.memory g in
          left_goes st (pop_access kind) op (extra_pair extra) (extra_distance extra) next to k t v b.register m.0 m.1 i
          (ap (λ z. if z then gives_map Destination.Memory
          (target_at world.notes note s (access_of (pop_access kind)) op.reg (extra_distance extra))
          else (if nat_eq op.reg 0 then Err RuleName.Stack else Ok (Destination.Register op.reg))) g
          ∙ sym (ap (λ z. gives_map Destination.Memory (target_at world.notes note s z op.reg (extra_distance extra)))
          (access_is kind)) ∙ e)
          (sym (ap (λ z. put to (if z then t else with_immediate world.notes.shape t extra)) g) ∙ p) w known.bounded h

      register : op.indirect ≡ false → op.reg ≢ 0 → Destination.Register op.reg ≡ to
          → Accepts (GoesOn world next (changed s k)) (whole false)
      register g n e =
          let q : put (Destination.Register op.reg) (with_immediate world.notes.shape t extra) ≡ Ok k =
          ap (λ z. put z (with_immediate world.notes.shape t extra)) e
          ∙ sym (ap (λ z. put to (if z then t else with_immediate world.notes.shape t extra)) g) ∙ p in
          subst (λ z. Accepts (GoesOn world next (changed s z)) (whole false))
          (ok_same (Change.Written op.reg (with_immediate world.notes.shape t extra)) k q)
          (register_goes st op.reg next (with_immediate world.notes.shape t extra)
          (moved_by v (extra_pair extra)) n b.register i (moved_immediate st t v extra known.bounded (b.direct g) h))

-- ---- the slot on top

module _ {world : World} {a : Config} {f : FunctionFrame} {fs : List Frame} {note : FnNote} {s : State}
    (st : TopSound world a f fs note s) where
  -- the slot on top, taken off
  pub record TopTaken (kind : SlotKind) (t : Ty) : Type 0 where
    pub value : Neutral
    pub rest : List StackItem
    pub taken_is : taken a kind a.frames ≡ Gives (value, with_items a f rest fs)
    pub sound : TopSound world (with_items a f rest fs) (record f { items = rest }) fs note (without_top s)
    pub fits : FitsHere sound t value
    pub known : IsKnown world.notes note t
    pub is_popped : is_popped kind t ≡ true
    pub kept : kind ≡ N → kept_natural world.notes (live_memory world a).objects value ≡ value

  slot_kept : (kind : SlotKind) (v : Neutral) (is : List StackItem)
      → SlotsKept world.notes (live_memory world a).objects (Pushed kind v ∷ is)
      → (kind ≡ N → kept_natural world.notes (live_memory world a).objects v ≡ v) × SlotsKept world.notes (live_memory world a).objects is
  slot_kept N v is h = (λ e. h.0, h.1)
  slot_kept Q v is h = (λ e. absurd cc, h)
  slot_kept D v is h = (λ e. absurd cc, h)

  take_top : (kind : SlotKind) (t : Ty) → top_type kind s.items ≡ Ok t → TopTaken kind t
  take_top kind t e = let k = top_keeps st in go f.items s.items refl refl k.0.slots k.0.within st.top.items e
    where
      found : (k l : SlotKind) (v : Neutral) (u : Ty) (is : List StackItem) (xs : List Item) → f.items ≡ Pushed k v ∷ is
          → s.items ≡ Item.Slot l u ∷ xs → SlotsKept world.notes (live_memory world a).objects (Pushed k v ∷ is)
          → KeepsWithin (λ w. height w (Pushed k v ∷ is)) note → k ≡ l → FitsHere st u v
          → AllZip (ItemFits world.notes (live_memory world a) (depth fs) f) is xs → (same_kind kind l && is_popped kind u) ≡ true → u ≡ t
          → TopTaken kind t
      found k l v u is xs ei ex kept within el h z c et =
          let q = and_parts (same_kind kind l) (is_popped kind u) c in
          let kl : k ≡ kind = el ∙ sym (same_kind-equal kind l q.0) in
          let same : locals_among is ≡ locals_among f.items = sym (ap locals_among ei) in
          let slots = slot_kept k v is kept in
          record {
            value = v;
            rest = is;
            taken_is = ap (taken a kind) st.frames ∙ ap (λ js. taken_from a f kind js fs) ei
                ∙ ap (λ b. if b then Gives (v, with_items a f is fs) else Stuck) (ap (λ i. same_kind i kind) kl ∙ kind_same kind);
            sound = record {
              frames = refl;
              top = subst (λ ys. FitsState world.notes (live_memory world (with_items a f is fs)) (depth fs) (record f { items = is })
                  (record s { items = ys }) a.registers a.c a.made) (ap below_top (sym ex))
                  (top_after st is same xs (items_after st is same is xs z));
              below = below_after st is same
                  (record { at4 = (let r = within.at4 in omega (arith, r)); at8 = (let r = within.at8 in omega (arith, r)) }) slots.1;
              there = st.there;
              state = without_top-keeps world.notes note s st.state;
              typed = st.typed;
            };
            fits = subst (λ y. Fits world.notes (live_memory world (with_items a f is fs)) (depth fs) f.saved y v) et
                (fits_after st is same u v h);
            known = subst (IsKnown world.notes note) et (st.state.slots 0 l u (ap (λ ys. slice_get ys 0) ex));
            is_popped = subst (λ y. is_popped kind y ≡ true) et q.1;
            kept = λ n. slots.0 (kl ∙ n);
          }

      go : (is : List StackItem) (xs : List Item) → f.items ≡ is → s.items ≡ xs
          → SlotsKept world.notes (live_memory world a).objects is → KeepsWithin (λ w. height w is) note
          → AllZip (ItemFits world.notes (live_memory world a) (depth fs) f) is xs → top_type kind xs ≡ Ok t → TopTaken kind t
      go (Pushed k v ∷ is) (Item.Slot l u ∷ xs) ei ex kept within z e = when_ok (same_kind kind l && is_popped kind u) _ _ t e
          (λ c h. found k l v u is xs ei ex kept within z.0.0 z.0.1 z.1 c (ok_same u t h))
      go is [] ei ex kept within z e = absurd (err_ok RuleName.Stack t e)
      go is (Item.Locals ∷ xs) ei ex kept within z e = absurd (err_ok RuleName.Stack t e)
      go [] (Item.Slot l u ∷ xs) ei ex kept within z e = absurd z
      go (LocalsOf q ∷ is) (Item.Slot l u ∷ xs) ei ex kept within z e = absurd z.0

  -- the place that a pop names doesn't depend on the items
  place_below : (kind : SlotKind) (op : Operand) (extra : Extra) (to : Destination)
      → pop_destination world.notes note s kind op extra ≡ Ok to → pop_destination world.notes note (without_top s) kind op extra ≡ Ok to
  unfolding target_at place_at
  place_below kind op extra to e = go (nat_eq op.reg 0) refl e
    where
      whole : State → Bool → Bool → Result Destination RuleName
      whole q b c = if b then Err RuleName.Stack else (if op.indirect then
          gives_map Destination.Memory (steps_bind (or_else RuleName.Address
          (if c then from_stack (local_fields world.notes note) (locals_size world.notes note) note.params q.items (extra_distance extra)
          else pointed world.notes note (type_of q op.reg) (extra_distance extra))) (target_place (slot_access kind)))
          else Ok (Destination.Register op.reg))

      go : (b : Bool) → nat_eq op.reg 0 ≡ b → whole s b (nat_eq op.reg 0) ≡ Ok to
          → whole (without_top s) (nat_eq op.reg 0) (nat_eq op.reg 0) ≡ Ok to
      go true g e = absurd (err_ok RuleName.Stack to e)
      go false g e = ap₂ (whole (without_top s)) g g ∙ sym (ap (whole s false) g) ∙ e

  -- a value taken off and left
  pop_goes : (kind : SlotKind) (op : Operand) (extra : Extra) (next : ℕ) (x : Successors) → BesideFits op extra → next < world.image_size
      → rules_flow.pop_row world.notes note s kind op extra ≡ Ok x
      → FallsOn world next x (taken a kind a.frames >>= (λ t. popped world t.1 (pop_access kind) (beside_extra op extra)
      (given_back world a kind t.0) >>= (λ b. goes world b next)))
  unfolding rules_flow.pop_row
  pop_goes kind op extra next x b i e =
      then_ok (beside (top_type kind s.items) (pop_destination world.notes note s kind op extra)) _ x e (λ p e1 e2.
      beside_ok (top_type kind s.items) (pop_destination world.notes note s kind op extra) p e1 (λ e3 e4.
      then_ok (put p.1 (popped_type world.notes op extra p.0)) _ x e2 (λ k e5 e6.
      let t = take_top kind p.0 e3 in
      let g = popped_left t.sound kind op extra p.0
      (given_back world a kind t.value) p.1 k next b i t.known (within_popped kind p.0 t.is_popped) (back kind p.0 t)
      (place_below kind op extra p.1 e4) e5 in
      record {
        state = changed (without_top s) k;
        falls_to = ap (λ (y : Successors). y.fall) (sym (ok_same _ x e6));
        goes = subst (λ o. Accepts (GoesOn world next (changed (without_top s) k))
            (o >>= (λ t. popped world t.1 (pop_access kind) (beside_extra op extra)
            (given_back world a kind t.0) >>= (λ b. goes world b next)))) (sym t.taken_is)
            g;
      })))
    where
      back : (kind : SlotKind) (y : Ty) (t : TopTaken kind y) → FitsHere t.sound y (given_back world a kind t.value)
      back N y t = subst (FitsHere t.sound y) (sym (t.kept refl)) t.fits
      back Q y t = t.fits
      back D y t = extended_fits (seen t.sound) y t.value t.is_popped t.fits

  pub pop_wide_fits : (wide : Bool) (op : Operand) (extra : Extra) (next : ℕ) (x : Successors) → BesideFits op extra
      → next < world.image_size → rules_flow.pop_row world.notes note s (slot_kind wide) op extra ≡ Ok x
      → FallsOn world next x (pop_row world a next wide (beside_extra op extra))
  unfolding pop_row
  pop_wide_fits true op extra next x b i e = pop_goes Q op extra next x b i e
  pop_wide_fits false op extra next x b i e = pop_goes D op extra next x b i e

  pub pop_natural_fits : (op : Operand) (extra : Extra) (next : ℕ) (x : Successors) → BesideFits op extra → next < world.image_size
      → rules_flow.pop_row world.notes note s N op extra ≡ Ok x
      → FallsOn world next x (pop_natural_row world a next (beside_extra op extra))
  unfolding pop_natural_row
  pop_natural_fits op extra next x b i e = pop_goes N op extra next x b i e
