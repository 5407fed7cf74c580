-- A slot that is pushed leaves a configuration sound.
use Rattle.typing_laws.proofs.Common.{◌≡◌, ℕ, ◌+◌, ◌*◌, ◌≤◌, true, nat_lt, nat_le, List, [], ◌∷◌, length, Some, count_by, refl, sym, ap}
use Rattle.typing_laws.proofs.Common.{ap₂, ◌∙◌, subst, arith, inl, inr, ⊎_elim, ◌⊎◌, AllZip, and_parts, leb-true, SlotKind, N, Q, D, Item}
use Rattle.typing_laws.proofs.Common.{FnNote, Notes, Pair, Shape, State, Ty, locals_size, at, has_room, item_size, items_size, with_item}
use Rattle.typing_laws.proofs.Common.{Neutral, StackItem, Pushed, LocalsOf, FunctionFrame, Frame, Config, depth, World, frame_locals}
use Rattle.typing_laws.proofs.Common.{pair_at, slot_bytes, height, live_memory, Memory, ItemFits, SlotsKept, Gives, pushed, with_items}
use Rattle.typing_laws.proofs.Common.{kept_natural}
use Rattle.note_types.specs.Known.{is_slot}
use Rattle.rules_flow.specs.Frames.{one_slot, plus}
use Rattle.typing_laws.proofs.ItemsChanged.{top_keeps, top_after, fits_after, items_after, below_after}
use Rattle.typing_laws.proofs.{Context.TopSound, Context.sizes_same, Context.FitsHere, Written.After}

-- ---- heights

pub slot_same : (w : ℕ) (k : SlotKind) (l : SlotKind) (v : Neutral) → k ≡ l
    → slot_bytes w k ≡ at w (item_size (record { n = 0; c = 0 }) (Item.Slot l Ty.Any))
slot_same w N N v e = omega arith
slot_same w Q Q v e = omega arith
slot_same w D D v e = omega arith
slot_same w c t v e = absurd cc

at_plus : (w : ℕ) (a b : Pair) → at w (plus a b) ≡ at w a + at w b
at_plus w a b = omega arith

-- what items take, by values and by types
pub heights : (w : ℕ) (notes : Notes) (m : Memory) (d : ℕ) (f : FunctionFrame) (size : Pair) (is : List StackItem) (xs : List Item)
    → ((s : Shape) → frame_locals notes f.func ≡ Some s → (size.n ≡ s.n) × (size.c ≡ s.c)) → AllZip (ItemFits notes m d f) is xs
    → height w is ≡ at w (items_size size xs)
unfolding items_size
heights w notes m d f size [] [] h z = omega arith
heights w notes m d f size [] (x ∷ xs) h z = absurd z
heights w notes m d f size (i ∷ is) [] h z = absurd z
heights w notes m d f size (Pushed kind v ∷ is) (Item.Slot k t ∷ xs) h z =
    ap₂ (λ x y. x + y) (slot_same w kind k v z.0.0) (heights w notes m d f size is xs h z.1)
    ∙ sym (at_plus w (item_size size (Item.Slot k t)) (items_size size xs))
heights w notes m d f size (LocalsOf s ∷ is) (Item.Locals ∷ xs) h z =
    let e = h s z.0 in
    ap₂ (λ x y. x + y) (ap₂ (λ n c. n * w + c) (sym e.0) (sym e.1)) (heights w notes m d f size is xs h z.1)
    ∙ sym (at_plus w size (items_size size xs))
heights w notes m d f size (Pushed kind v ∷ is) (Item.Locals ∷ xs) h z = absurd z.0
heights w notes m d f size (LocalsOf s ∷ is) (Item.Slot k t ∷ xs) h z = absurd z.0

module _ {world : World} {a : Config} {f : FunctionFrame} {fs : List Frame} {note : FnNote} {s : State}
    (st : TopSound world a f fs note s) where
  -- what the items take, by types
  pub top_height : (w : ℕ) → height w f.items ≡ at w (items_size (locals_size world.notes note) s.items)
  top_height w = heights w world.notes (live_memory world a) (depth fs) f (locals_size world.notes note) f.items s.items
      (λ x q. let z = sizes_same st x q in (z.1, z.2)) st.top.items

  -- what a room for one more item says
  pub room_within : (x : Item) (w : ℕ) → has_room world.notes note x s.items ≡ true → (w ≡ 4) ⊎ (w ≡ 8)
      → at w (item_size (locals_size world.notes note) x) + height w f.items ≤ pair_at w note.need
  unfolding has_room
  room_within x w r h =
      let p = and_parts (nat_lt (length s.items) 65) _ r in
      let q = and_parts (nat_le (count_by is_slot s.items + one_slot x) 64) _ p.1 in
      let i = and_parts (nat_le (at 4 (plus (item_size (locals_size world.notes note) x)
      (items_size (locals_size world.notes note) s.items))) (at 4 note.need)) _ q.1 in
      let l4 = leb-true _ _ i.0 in
      let l8 = leb-true _ _ i.1 in
      let g : at w (plus (item_size (locals_size world.notes note) x)
      (items_size (locals_size world.notes note) s.items)) ≤ pair_at w note.need =
      ⊎_elim (λ e. subst (λ v. at v (plus (item_size (locals_size world.notes note) x)
      (items_size (locals_size world.notes note) s.items)) ≤ pair_at v note.need) (sym e) l4)
      (λ e. subst (λ v. at v (plus (item_size (locals_size world.notes note) x)
      (items_size (locals_size world.notes note) s.items)) ≤ pair_at v note.need) (sym e) l8) h in
      let e1 = top_height w in
      let e3 = at_plus w (item_size (locals_size world.notes note) x) (items_size (locals_size world.notes note) s.items) in
      omega (arith, e1, e3, g)

  -- a natural slot holds what natural size keeps
  pub slot_pushed : (kind : SlotKind) (v : Neutral) → (kind ≡ N → kept_natural world.notes (live_memory world a).objects v ≡ v)
      → SlotsKept world.notes (live_memory world a).objects f.items
      → SlotsKept world.notes (live_memory world a).objects (Pushed kind v ∷ f.items)
  slot_pushed N v h k = (h refl, k)
  slot_pushed Q v h k = k
  slot_pushed D v h k = k

  -- A slot that is pushed, where there is room for it.
  pub push_fits : (kind : SlotKind) (v : Neutral) (t : Ty) → FitsHere st t v
      → (kind ≡ N → kept_natural world.notes (live_memory world a).objects v ≡ v)
      → has_room world.notes note (Item.Slot kind Ty.Any) s.items ≡ true
      → (pushed a a.frames (Pushed kind v) ≡ Gives (with_items a f (Pushed kind v ∷ f.items) fs))
      × After world (with_items a f (Pushed kind v ∷ f.items) fs) (record f { items = Pushed kind v ∷ f.items }) fs
      (with_item s (Item.Slot kind t))
  push_fits kind v t h n r =
      let k = top_keeps st in
      let within : (w : ℕ) → (w ≡ 4) ⊎ (w ≡ 8) → height w (Pushed kind v ∷ f.items) ≤ pair_at w note.need =
      λ w q. (let g = room_within (Item.Slot kind Ty.Any) w r q in let e = slot_same w kind kind v refl in omega (arith, g, e)) in (
        ap (λ z. pushed a z (Pushed kind v)) st.frames,
        record {
          frames = refl;
          top = top_after st (Pushed kind v ∷ f.items) refl (Item.Slot kind t ∷ s.items) (
            (refl, fits_after st (Pushed kind v ∷ f.items) refl t v h),
            items_after st (Pushed kind v ∷ f.items) refl f.items s.items st.top.items,
          );
          below = below_after st (Pushed kind v ∷ f.items) refl
              (record { at4 = within 4 (inl refl); at8 = within 8 (inr refl) }) (slot_pushed kind v n k.0.slots);
        },
      )
