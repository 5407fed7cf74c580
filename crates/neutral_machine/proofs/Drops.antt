-- Locals are made and dropped.
use Rattle.neutral_machine.proofs.Common.{◌≡◌, ◌≢◌, ℕ, suc, ◌+◌, ◌-◌, ◌*◌, ◌%◌, ◌^◌, ◌<◌, ◌≤◌, Bool, true, false, ◌&&◌, ◌||◌, if◌then◌else◌}
use Rattle.neutral_machine.proofs.Common.{nat_eq, nat_le, List, [], ◌∷◌, map, Option, Some, None, refl, sym, ap, ap₂, ◌∙◌, subst, subst₂}
use Rattle.neutral_machine.proofs.Common.{arith, slice_get, slice_set, option_map, option_and_then, length-set, get_or-set_same}
use Rattle.neutral_machine.proofs.Common.{get_or-set_other, eqb-true, eqb-false, ne_eqb, and_parts, leb-true, false≢true, same_Some}
use Rattle.neutral_machine.proofs.Common.{none-some, little_endian, IsWidth, cell_size, Concrete, register, size_at, start_at, Notes, Field}
use Rattle.neutral_machine.proofs.Common.{Shape, Anchor, ObjectOf, ThunkOf, LocalOf, Neutral, At, Handle, Method, Entry, Junk, Addresses}
use Rattle.neutral_machine.proofs.Common.{Shows, ShowsIn, CellPlace, FieldOf, FieldOfLocals, word, minus, StackItem, Pushed, LocalsOf}
use Rattle.neutral_machine.proofs.Common.{FunctionFrame, Frame, Function, Host, Config, depth, locals_among, locals_at, World, frame_locals}
use Rattle.neutral_machine.proofs.Common.{Placement, IsPlacement, slot_bytes, stack_bytes, stack_end, return_cell, addresses}
use Rattle.neutral_machine.proofs.Common.{anchor_address, item_size, height, total, top_of, local_among, local_address, item_units}
use Rattle.neutral_machine.proofs.Common.{item_bytes, memory_of, cell_field, with_items, ItemShows, ItemsShow, ReturnShows, return_address}
use Rattle.neutral_machine.proofs.Common.{FramesShow, OwnLocals, OwnLocalsAll, CellShows, CellsShow, MachineStands, WorldFits, some_of_map}
use Rattle.neutral_machine.specs.Rows.{without_local, item_without, frame_without, config_without, Dropped, is_locals, with_one, dropped}
use Rattle.neutral_machine.specs.Rows.{cells_before, made_locals}
use Rattle.neutral_machine.proofs.Frames.{framed, SameLocals, stack_changes, stack_stands, same_extends, word_at}
use Rattle.neutral_machine.proofs.{Numbers.minus-is, Agree.Extends, Agree.shows_in_more, Agree.frames_more, Stack.item_pair}
use Rattle.neutral_machine.proofs.Cells.{end_small}

-- ---- what is cleaned keeps its place

pub depth_map : (d : ℕ) (fs : List Frame) → depth (map (frame_without d) fs) ≡ depth fs
depth_map d [] = refl
depth_map d (Function f ∷ fs) = ap suc (depth_map d fs)
depth_map d (Host h ∷ fs) = depth_map d fs

item_map : (w d : ℕ) (i : StackItem) → item_size w (item_without d i) ≡ item_size w i
item_map w d (Pushed kind v) = refl
item_map w d (LocalsOf s) = refl

height_map : (w d : ℕ) (is : List StackItem) → height w (map (item_without d) is) ≡ height w is
height_map w d [] = refl
height_map w d (i ∷ is) = ap₂ (λ x y. x + y) (item_map w d i) (height_map w d is)

pub total_map : (w d : ℕ) (fs : List Frame) → total w (map (frame_without d) fs) ≡ total w fs
total_map w d [] = refl
total_map w d (Function f ∷ fs) = ap₂ (λ x y. x + (return_cell + y)) (height_map w d f.items) (total_map w d fs)
total_map w d (Host h ∷ fs) = ap₂ (λ x y. x + y) (height_map w d h.params) (total_map w d fs)

among_map : (d : ℕ) (is : List StackItem) → locals_among (map (item_without d) is) ≡ locals_among is
among_map d [] = refl
among_map d (Pushed kind v ∷ is) = among_map d is
among_map d (LocalsOf s ∷ is) = refl

pub locals_at_map : (d : ℕ) (fs : List Frame) (e : ℕ) → locals_at (map (frame_without d) fs) e ≡ locals_at fs e
locals_at_map d [] e = refl
locals_at_map d (Host h ∷ fs) e = locals_at_map d fs e
locals_at_map d (Function f ∷ fs) e = λ i. if nat_eq e (depth_map d fs i) then among_map d f.items i else locals_at_map d fs e i

local_among_map : (w end d under : ℕ) (is : List StackItem) (f : ℕ)
    → local_among w end under (map (item_without d) is) f ≡ local_among w end under is f
local_among_map w end d under [] f = refl
local_among_map w end d under (Pushed kind v ∷ is) f = local_among_map w end d under is f
local_among_map w end d under (LocalsOf s ∷ is) f = ap (λ x. option_map
    (λ (z : Field). word (minus end (size_at w s + (x + under)) + start_at w z)) (slice_get s.fields f)) (height_map w d is)

pub local_address_map : (w end d : ℕ) (fs : List Frame) (e f : ℕ)
    → local_address w end (map (frame_without d) fs) e f ≡ local_address w end fs e f
local_address_map w end d [] e f = refl
local_address_map w end d (Host h ∷ fs) e f = local_address_map w end d fs e f
local_address_map w end d (Function g ∷ fs) e f = λ i. if nat_eq e (depth_map d fs i) then
    (local_among_map w end d (return_cell + total w (map (frame_without d) fs)) g.items f
    ∙ ap (λ x. local_among w end (return_cell + x) g.items f) (total_map w d fs)) i else local_address_map w end d fs e f i

own_items_map : (notes : Notes) (func d : ℕ) (is : List StackItem) → OwnLocals notes func is
    → OwnLocals notes func (map (item_without d) is)
own_items_map notes func d [] o = tt
own_items_map notes func d (Pushed kind v ∷ is) o = own_items_map notes func d is o
own_items_map notes func d (LocalsOf s ∷ is) o = (o.0, among_map d is ∙ o.1)

own_map : (notes : Notes) (d : ℕ) (fs : List Frame) → OwnLocalsAll notes fs → OwnLocalsAll notes (map (frame_without d) fs)
own_map notes d [] o = tt
own_map notes d (Function f ∷ fs) o = (own_items_map notes f.func d f.items o.0, own_map notes d fs o.1)
own_map notes d (Host h ∷ fs) o = own_map notes d fs o

-- ---- what is cleaned shows

-- all addresses stay but those of the locals at a depth
pub record Loses (d : ℕ) (A B : Addresses) : Type 0 where
  pub object : (k p : ℕ) → A.anchor (ObjectOf k) ≡ Some p → B.anchor (ObjectOf k) ≡ Some p
  pub thunk : (i p : ℕ) → A.anchor (ThunkOf i) ≡ Some p → B.anchor (ThunkOf i) ≡ Some p
  pub local : (e f p : ℕ) → e ≢ d → A.anchor (LocalOf e f) ≡ Some p → B.anchor (LocalOf e f) ≡ Some p
  pub handle : (k p : ℕ) → A.handle k ≡ Some p → B.handle k ≡ Some p
  pub method : (k p : ℕ) → A.method k ≡ Some p → B.method k ≡ Some p
  pub entry : (k p : ℕ) → A.entry k ≡ Some p → B.entry k ≡ Some p

pub shows_without : (w d : ℕ) (A B : Addresses) (v : Neutral) (x : ℕ) → Loses d A B → Shows w A v x → Shows w B (without_local d v) x
shows_without w d A B (At (LocalOf e f) n c) x l s = go (nat_eq e d) refl
  where
    go : (t : Bool) → nat_eq e d ≡ t → Shows w B (if t then Junk else At (LocalOf e f) n c) x
    go true q = tt
    go false q = record { from = s.from; there = l.local e f s.from (eqb-false e d q) s.there; is = s.is }
shows_without w d A B (At (ObjectOf k) n c) x l s = record { from = s.from; there = l.object k s.from s.there; is = s.is }
shows_without w d A B (At (ThunkOf i) n c) x l s = record { from = s.from; there = l.thunk i s.from s.there; is = s.is }
shows_without w d A B (Handle k) x l s = l.handle k x s
shows_without w d A B (Method k) x l s = l.method k x s
shows_without w d A B (Entry k) x l s = l.entry k x s
shows_without w d A B Junk x l s = tt
shows_without w d A B v x l s = s

shows_in_without : (w d : ℕ) (A B : Addresses) (k : ℕ) (v : Neutral) (x : ℕ) → Loses d A B → ShowsIn w A k v x
    → ShowsIn w B k (without_local d v) x
shows_in_without w d A B k v x l s = record { whole = s.whole; shows = shows_without w d A B v s.whole l s.shows; cut = s.cut }

item_shows_map : (w d : ℕ) (A B : Addresses) (b : ℕ → ℕ) (x : ℕ) (i : StackItem) → Loses d A B → ItemShows w A b x i
    → ItemShows w B b x (item_without d i)
item_shows_map w d A B b x (Pushed kind v) l s = shows_in_without w d A B (slot_bytes w kind) v _ l s
item_shows_map w d A B b x (LocalsOf t) l s = tt

items_show_map : (w d : ℕ) (A B : Addresses) (b : ℕ → ℕ) (end under : ℕ) (is : List StackItem) → Loses d A B → ItemsShow w A b end under is
    → ItemsShow w B b end under (map (item_without d) is)
items_show_map w d A B b end under [] l s = tt
items_show_map w d A B b end under (i ∷ is) l s = (
  subst₂ (λ x y. ItemShows w B b (minus end (x + (y + under))) (item_without d i)) (sym (item_map w d i)) (sym (height_map w d is))
      (item_shows_map w d A B b _ i l s.0),
  items_show_map w d A B b end under is l s.1,
)

return_map : (P : Placement) (d ret : ℕ) (fs : List Frame) → return_address P ret (map (frame_without d) fs) ≡ return_address P ret fs
return_map P d ret [] = refl
return_map P d ret (Function f ∷ fs) = refl
return_map P d ret (Host h ∷ fs) = refl

pub frames_show_map : (w d : ℕ) (A B : Addresses) (P : Placement) (b : ℕ → ℕ) (end : ℕ) (fs : List Frame) → Loses d A B
    → FramesShow w A b end P fs → FramesShow w B b end P (map (frame_without d) fs)
frames_show_map w d A B P b end [] l s = tt
frames_show_map w d A B P b end (Function f ∷ fs) l s = (
  subst (λ t. ItemsShow w B b end (return_cell + t) (map (item_without d) f.items)) (sym (total_map w d fs))
      (items_show_map w d A B b end (return_cell + total w fs) f.items l s.0),
  subst₂ (λ t r. ReturnShows b (minus end (return_cell + t)) r) (sym (total_map w d fs)) (sym (return_map P d f.ret fs)) s.1,
  frames_show_map w d A B P b end fs l s.2,
)
frames_show_map w d A B P b end (Host h ∷ fs) l s = (
  subst (λ t. ItemsShow w B b end t (map (item_without d) h.params)) (sym (total_map w d fs))
      (items_show_map w d A B b end (total w fs) h.params l s.0),
  frames_show_map w d A B P b end fs l s.1,
)

-- ---- what is left of items

-- the items that are left of others
pub record Left (notes : Notes) (func w n c : ℕ) (is : List StackItem) (r : Dropped) : Type 0 where
  pub size : height w is ≡ n * w + c + height w r.items
  pub own : OwnLocals notes func is → OwnLocals notes func r.items
  pub none : OwnLocals notes func is → r.locals ≡ true → locals_among r.items ≡ None
  pub same : r.locals ≡ false → locals_among r.items ≡ locals_among is
  pub address : r.locals ≡ false → (end under f : ℕ) → local_among w end under r.items f ≡ local_among w end under is f
  pub shows : (A : Addresses) (b : ℕ → ℕ) (end under : ℕ) → ItemsShow w A b end under is → ItemsShow w A b end under r.items

zero_size : (n c w z : ℕ) → n ≡ 0 → c ≡ 0 → z ≡ n * w + c + z
zero_size n c w z p q = (let e : z ≡ 0 * w + 0 + z = omega arith in e) ∙ ap₂ (λ i j. i * w + j + z) (sym p) (sym q)

left_all : (notes : Notes) (func w n c : ℕ) (is : List StackItem) → n ≡ 0 → c ≡ 0
    → Left notes func w n c is (record { items = is; locals = false })
left_all notes func w n c is p q = record {
  size = zero_size n c w (height w is) p q;
  own = λ o. o;
  none = λ o e. absurd (false≢true e);
  same = λ e. refl;
  address = λ e end under f. refl;
  shows = λ A b end under s. s;
}

more_size : (w n c u b z x y : ℕ) → u ≤ n → b ≤ c → x ≡ u * w + b → y ≡ (n - u) * w + (c - b) + z → x + y ≡ n * w + c + z
more_size w n c u b z x y l m p q =
    let e : n ≡ u + (n - u) = omega (arith, l) in
    let f : n * w ≡ u * w + (n - u) * w = ap (λ i. i * w) e ∙ (let g : (u + (n - u)) * w ≡ u * w + (n - u) * w = omega arith in g) in
    omega (arith, p, q, f, m)

-- what is left once one item more goes
left_one : (notes : Notes) (func w n c : ℕ) (i : StackItem) (is : List StackItem) (r : Dropped) → item_units i ≤ n → item_bytes i ≤ c
    → Left notes func w (n - item_units i) (c - item_bytes i) is r
    → Left notes func w n c (i ∷ is) (record { items = r.items; locals = is_locals i || r.locals })
left_one notes func w n c (Pushed kind v) is r l m t = record {
  size = more_size w n c (item_units (Pushed kind v)) (item_bytes (Pushed kind v)) (height w r.items) (slot_bytes w kind) (height w is) l m
      (item_pair w (Pushed kind v)) t.size;
  own = t.own;
  none = t.none;
  same = t.same;
  address = t.address;
  shows = λ A b end under s. t.shows A b end under s.1;
}
left_one notes func w n c (LocalsOf s) is r l m t = record {
  size = more_size w n c s.n s.c (height w r.items) (size_at w s) (height w is) l m refl t.size;
  own = λ o. t.own (own_none notes func is o.1);
  none = λ o e. none_left r.locals refl (own_none notes func is o.1) o.1;
  same = λ e. absurd (false≢true (sym e));
  address = λ e. absurd (false≢true (sym e));
  shows = λ A b end under s. t.shows A b end under s.1;
}
  where
    own_none : (notes : Notes) (func : ℕ) (is : List StackItem) → locals_among is ≡ None → OwnLocals notes func is
    own_none notes func [] e = tt
    own_none notes func (Pushed kind v ∷ is) e = own_none notes func is e
    own_none notes func (LocalsOf u ∷ is) e = absurd (none-some u (sym e))

    none_left : (b : Bool) → r.locals ≡ b → OwnLocals notes func is → locals_among is ≡ None → locals_among r.items ≡ None
    none_left true e o q = t.none o e
    none_left false e o q = t.same e ∙ q

pub left : (notes : Notes) (func w n c : ℕ) (is : List StackItem) (r : Dropped) → dropped n c is ≡ Some r → Left notes func w n c is r
left notes func w n c [] r e = go (nat_eq n 0 && nat_eq c 0) refl e
  where
    go : (t : Bool) → (nat_eq n 0 && nat_eq c 0) ≡ t → (if t then Some (record { items = []; locals = false }) else None) ≡ Some r
        → Left notes func w n c [] r
    go true t e = let p = and_parts (nat_eq n 0) (nat_eq c 0) t in
        subst (Left notes func w n c []) (same_Some _ r e) (left_all notes func w n c [] (eqb-true n 0 p.0) (eqb-true c 0 p.1))
    go false t e = absurd (none-some r e)
left notes func w n c (i ∷ is) r e = go (nat_eq n 0 && nat_eq c 0) refl e
    (λ q e. left notes func w (n - item_units i) (c - item_bytes i) is q e)
  where
    one : (o : Option Dropped) → dropped (n - item_units i) (c - item_bytes i) is ≡ o → item_units i ≤ n → item_bytes i ≤ c
        → with_one (is_locals i) o ≡ Some r → ((q : Dropped) → dropped (n - item_units i) (c - item_bytes i) is ≡ Some q
        → Left notes func w (n - item_units i) (c - item_bytes i) is q) → Left notes func w n c (i ∷ is) r
    one None k l m e next = absurd (none-some r e)
    one (Some q) k l m e next = subst (Left notes func w n c (i ∷ is)) (same_Some _ r e) (left_one notes func w n c i is q l m (next q k))

    fits : (t : Bool) → (nat_le (item_units i) n && nat_le (item_bytes i) c) ≡ t
        → (if t then with_one (is_locals i) (dropped (n - item_units i) (c - item_bytes i) is) else None) ≡ Some r
        → ((q : Dropped) → dropped (n - item_units i) (c - item_bytes i) is ≡ Some q
        → Left notes func w (n - item_units i) (c - item_bytes i) is q) → Left notes func w n c (i ∷ is) r
    fits true t e next = let p = and_parts (nat_le (item_units i) n) (nat_le (item_bytes i) c) t in
        one (dropped (n - item_units i) (c - item_bytes i) is) refl (leb-true _ _ p.0) (leb-true _ _ p.1) e next
    fits false t e next = absurd (none-some r e)

    go : (t : Bool) → (nat_eq n 0 && nat_eq c 0) ≡ t → (if t then Some (record { items = i ∷ is; locals = false })
        else (if nat_le (item_units i) n && nat_le (item_bytes i) c then
        with_one (is_locals i) (dropped (n - item_units i) (c - item_bytes i) is) else None)) ≡ Some r
        → ((q : Dropped) → dropped (n - item_units i) (c - item_bytes i) is ≡ Some q
        → Left notes func w (n - item_units i) (c - item_bytes i) is q) → Left notes func w n c (i ∷ is) r
    go true t e next = let p = and_parts (nat_eq n 0) (nat_eq c 0) t in
        subst (Left notes func w n c (i ∷ is)) (same_Some _ r e) (left_all notes func w n c (i ∷ is) (eqb-true n 0 p.0) (eqb-true c 0 p.1))
    go false t e next = fits (nat_le (item_units i) n && nat_le (item_bytes i) c) refl e next

-- no locals, no address
pub among_none : (w end under : ℕ) (is : List StackItem) (f : ℕ) → locals_among is ≡ None → local_among w end under is f ≡ None
among_none w end under [] f e = refl
among_none w end under (Pushed kind v ∷ is) f e = among_none w end under is f e
among_none w end under (LocalsOf s ∷ is) f e = absurd (none-some s (sym e))

module _ (w : ℕ) (world : World) (P : Placement) (mapped : ℕ → ℕ) (h : IsWidth w) (ok : WorldFits world) (pl : IsPlacement w world P) where
  abbrev End : ℕ
  End = stack_end w world.notes P

  abbrev A : List Frame → Addresses
  A fs = addresses w world.notes P fs

  -- ---- locals are made

  pub make_stands : (a : Config) (s : Concrete) (f : FunctionFrame) (fs : List Frame) (sh : Shape)
      → size_at w sh + total w (Function f ∷ fs) ≤ stack_bytes w world.notes → 0 < size_at w sh → frame_locals world.notes f.func ≡ Some sh
      → locals_among f.items ≡ None → MachineStands w world P mapped None (framed a (Function f ∷ fs)) s
      → MachineStands w world P mapped None (made_locals a f fs sh)
      (record s { registers = slice_set s.registers 0 (End - (size_at w sh + total w (Function f ∷ fs))); byte = s.byte })
  make_stands a s f fs sh room pos mine none st =
      stack_changes w world P mapped h ok pl None (framed a (Function f ∷ fs)) s gs (cells_before (depth fs) a.cells) _ s.byte
      (omega (arith, room)) st ext own top (λ q d. refl) st.small frames cells
    where
      T : ℕ
      T = total w (Function f ∷ fs)

      gs : List Frame
      gs = Function (record f { items = LocalsOf sh ∷ f.items }) ∷ fs

      es : End ≤ 2 ^ 64
      es = end_small w world P h ok pl

      top : End - (size_at w sh + total w (Function f ∷ fs)) ≡ top_of w End (Function (record f { items = LocalsOf sh ∷ f.items }) ∷ fs)
      top = sym (ap (minus End) (let z : size_at w sh + height w f.items + (return_cell + total w fs) ≡ size_at w sh + total w
          (Function f ∷ fs) = omega arith in z) ∙ minus-is End (size_at w sh + total w (Function f ∷ fs)) (omega (arith, pos))
          (omega (arith, room)) es)

      own : OwnLocalsAll world.notes (Function (record f { items = LocalsOf sh ∷ f.items }) ∷ fs)
      own = ((mine, none), st.locals.1)

      local_more : (d g p : ℕ) (t : Bool) → nat_eq d (depth fs) ≡ t
          → (if t then local_among w End (return_cell + total w fs) f.items g else local_address w End fs d g) ≡ Some p
          → (if t then local_among w End (return_cell + total w fs) (LocalsOf sh ∷ f.items) g else local_address w End fs d g) ≡ Some p
      local_more d g p true e q = absurd (none-some p (sym (among_none w End (return_cell + total w fs) f.items g none) ∙ q))
      local_more d g p false e q = q

      anchors : (x : Anchor) (p : ℕ) → anchor_address w world.notes P (Function f ∷ fs) x ≡ Some p
          → anchor_address w world.notes P (Function (record f { items = LocalsOf sh ∷ f.items }) ∷ fs) x ≡ Some p
      anchors (ObjectOf k) p q = q
      anchors (ThunkOf i) p q = q
      anchors (LocalOf d g) p q = local_more d g p (nat_eq d (depth fs)) refl q

      ext : Extends (A (Function f ∷ fs)) (A (Function (record f { items = LocalsOf sh ∷ f.items }) ∷ fs))
      ext = record { anchor = anchors; handle = λ k p q. q; method = λ k p q. q; entry = λ k p q. q }

      more : FramesShow w (A (Function (record f { items = LocalsOf sh ∷ f.items }) ∷ fs)) s.byte End P (Function f ∷ fs)
      more = frames_more w End h es (A (Function f ∷ fs)) (A gs) P s.byte (Function f ∷ fs) ext st.frames

      frames : FramesShow w (A (Function (record f { items = LocalsOf sh ∷ f.items }) ∷ fs)) s.byte End P
          (Function (record f { items = LocalsOf sh ∷ f.items }) ∷ fs)
      frames = ((tt, more.0), more.1, more.2)

      old : (p : CellPlace) (z : Field) (v : Neutral) (x y : Option ℕ) → CellShows w (A (Function f ∷ fs)) s.byte x (cell_size w z.cell) v
          → y ≡ x → CellShows w (A gs) s.byte y (cell_size w z.cell) v
      old p z v x y c e = record {
        address = c.address;
        there = e
            ∙ c.there;
        shows = shows_in_more w (A (Function f ∷ fs)) (A gs) (cell_size w z.cell) v _ ext c.shows;
      }

      local_cells : (d g : ℕ) (z : Field) (v : Neutral) (t : Bool) → nat_eq d (depth fs) ≡ t
          → option_and_then (λ (u : Shape). slice_get u.fields g) (if t then Some sh else locals_at fs d) ≡ Some z
          → (if t then None else a.cells (FieldOfLocals d g)) ≡ Some v
          → CellShows w (A gs) s.byte (if t then local_among w End (return_cell + total w fs) (LocalsOf sh ∷ f.items) g
          else local_address w End fs d g) (cell_size w z.cell) v
      local_cells d g z v true e k m = absurd (none-some v m)
      local_cells d g z v false e k m =
          let there : cell_field world.notes (memory_of world (framed a (Function f ∷ fs))) (FieldOfLocals d g) ≡ Some z = rw e k in
          let c = st.cells (FieldOfLocals d g) z v there m in
          old (FieldOfLocals d g) z v _ _ c (rw e refl)

      cells : CellsShow w world P (A (Function (record f { items = LocalsOf sh ∷ f.items }) ∷ fs)) (made_locals a f fs sh) s.byte
      cells (FieldOf k i g) z v x m = old (FieldOf k i g) z v _ _ (st.cells (FieldOf k i g) z v x m) refl
      cells (FieldOfLocals d g) z v x m = local_cells d g z v (nat_eq d (depth fs)) refl x m

  -- ---- items are dropped

  -- R0 raised past what is dropped
  drop_top : (x : ℕ) (f : FunctionFrame) (fs : List Frame) (k : ℕ) (is : List StackItem) → height w f.items ≡ k + height w is
      → total w (Function f ∷ fs) ≤ stack_bytes w world.notes → x ≡ top_of w End (Function f ∷ fs)
      → (x + k) % 2 ^ 64 ≡ top_of w End (Function (record f { items = is }) ∷ fs)
  drop_top x f fs k is e room top =
      let s = end_small w world P h ok pl in
      let t = height w is + (return_cell + total w fs) in
      let e1 : x ≡ minus End (k + t) = top ∙ ap (minus End) (let z : height w f.items + (return_cell + total w fs) ≡ k + t =
      omega (arith, e) in z) in
      let low = minus-is End (k + t) (omega arith) (omega (arith, room, e)) s in
      omega (arith, e1, low, room, e, s)

  -- slots go
  pub drop_slots : (a : Config) (s : Concrete) (f : FunctionFrame) (fs : List Frame) (n c : ℕ) (r : Dropped)
      → total w (Function f ∷ fs) ≤ stack_bytes w world.notes → dropped n c f.items ≡ Some r → r.locals ≡ false
      → MachineStands w world P mapped None (framed a (Function f ∷ fs)) s
      → MachineStands w world P mapped None (with_items a f r.items fs)
      (record s { registers = slice_set s.registers 0 ((register s 0 + (n * w + c)) % 2 ^ 64); byte = s.byte })
  drop_slots a s f fs n c r room e none st =
      let l = left world.notes f.func w n c f.items r e in
      let gs = Function (record f { items = r.items }) ∷ fs in
      let same : SameLocals w End (Function f ∷ fs) gs = record {
        locals = λ d i. if nat_eq d (depth fs) then l.same none i else locals_at fs d;
        address = λ d g i. if nat_eq d (depth fs) then l.address none End (return_cell + total w fs) g i else local_address w End fs d g;
      } in
      stack_stands w world P mapped h ok pl None (framed a (Function f ∷ fs)) s gs _ s.byte room st same (l.own st.locals.0, st.locals.1)
      (drop_top (register s 0) f fs (n * w + c) r.items l.size room st.top) (λ q d. refl) st.small (
        l.shows (A gs) s.byte End (return_cell + total w fs) (frames_more w End h (end_small w world P h ok pl) (A (Function f ∷ fs))
            (A gs) P s.byte (Function f ∷ fs) (same_ext same) st.frames).0,
        st.frames.1,
        (frames_more w End h (end_small w world P h ok pl) (A (Function f ∷ fs)) (A gs) P s.byte (Function f ∷ fs)
            (same_ext same) st.frames).2,
      )
    where
      same_ext : SameLocals w End (Function f ∷ fs) (Function (record f { items = r.items }) ∷ fs)
          → Extends (A (Function f ∷ fs)) (A (Function (record f { items = r.items }) ∷ fs))
      same_ext x = same_extends w world P mapped h ok pl (Function f ∷ fs) (Function (record f { items = r.items }) ∷ fs) x

  -- the locals go, and with them each address of them
  pub drop_locals : (a : Config) (s : Concrete) (f : FunctionFrame) (fs : List Frame) (n c : ℕ) (r : Dropped)
      → total w (Function f ∷ fs) ≤ stack_bytes w world.notes → dropped n c f.items ≡ Some r → r.locals ≡ true
      → MachineStands w world P mapped None (framed a (Function f ∷ fs)) s
      → MachineStands w world P mapped None (config_without (depth fs) (with_items a f r.items fs))
      (record s { registers = slice_set s.registers 0 ((register s 0 + (n * w + c)) % 2 ^ 64); byte = s.byte })
  drop_locals a s f fs n c r room e went st = record {
    eight = length-set s.registers 0 _ ∙ st.eight;
    words = λ q. word_at w world P mapped h ok pl s.registers _ q st.eight (omega arith) st.words;
    small = st.small;
    registers = λ q p m. subst (Shows w (A gs) (without_local D (a.registers q)))
        (sym (get_or-set_other s.registers 0 q _ 0 (λ z. omega (arith, z, p))))
        (shows_without w D (A (Function f ∷ fs)) (A gs) (a.registers q) _ loses (st.registers q p m));
    locals = own_map world.notes D mid (l.own st.locals.0, st.locals.1);
    top = get_or-set_same s.registers 0 _ 0 (omega (arith, st.eight)) ∙ drop_top (register s 0) f fs (n * w + c) r.items l.size room st.top
        ∙ ap (minus End) (sym (total_map w D mid));
    frames = frames_show_map w D (A (Function f ∷ fs)) (A gs) P s.byte End mid loses
        (l.shows (A (Function f ∷ fs)) s.byte End (return_cell + total w fs) st.frames.0, st.frames.1, st.frames.2);
    cells = cells;
    thunks = st.thunks;
    code = st.code;
    objects = st.objects;
    flags = st.flags;
    gate = st.gate;
    spot = st.spot;
  }
    where
      D : ℕ
      D = depth fs

      l : Left world.notes f.func w n c f.items r
      l = left world.notes f.func w n c f.items r e

      mid : List Frame
      mid = Function (record f { items = r.items }) ∷ fs

      gs : List Frame
      gs = map (frame_without (depth fs)) (Function (record f { items = r.items }) ∷ fs)

      local_stays : (e g p : ℕ) → e ≢ depth fs → local_address w End (Function f ∷ fs) e g ≡ Some p
          → local_address w End (map (frame_without (depth fs)) (Function (record f { items = r.items }) ∷ fs)) e g ≡ Some p
      local_stays e g p ne q = local_address_map w End (depth fs) (Function (record f { items = r.items }) ∷ fs) e g
          ∙ rw (ne_eqb e (depth fs) ne) (rw (ne_eqb e (depth fs) ne) at q)

      loses : Loses (depth fs) (A (Function f ∷ fs)) (A (map (frame_without (depth fs)) (Function (record f { items = r.items }) ∷ fs)))
      loses = record {
        object = λ k p q. q;
        thunk = λ i p q. q;
        local = local_stays;
        handle = λ k p q. q;
        method = λ k p q. q;
        entry = λ k p q. q;
      }

      gone : locals_among r.items ≡ None
      gone = l.none st.locals.0 went

      kept : (p : CellPlace) (z : Field) (v u : Neutral) (x y : Option ℕ)
          → CellShows w (A (Function f ∷ fs)) s.byte x (cell_size w z.cell) u → without_local (depth fs) u ≡ v
          → ((q : ℕ) → x ≡ Some q → y ≡ Some q) → CellShows w (A gs) s.byte y (cell_size w z.cell) v
      kept p z v u x y c e f1 = record {
        address = c.address;
        there = f1 c.address c.there;
        shows = subst (λ t. ShowsIn w (A gs) (cell_size w z.cell) t (little_endian s.byte c.address (cell_size w z.cell))) e
            (shows_in_without w (depth fs) (A (Function f ∷ fs)) (A gs) (cell_size w z.cell) u _ loses c.shows);
      }

      local_cell_without : (d g : ℕ) (z : Field) (v : Neutral) (t : Bool) → nat_eq d (depth fs) ≡ t
          → option_and_then (λ (u : Shape). slice_get u.fields g)
          (locals_at (map (frame_without (depth fs)) (Function (record f { items = r.items }) ∷ fs)) d) ≡ Some z → (u : Neutral)
          → a.cells (FieldOfLocals d g) ≡ Some u → without_local (depth fs) u ≡ v
          → CellShows w (A gs) s.byte (local_address w End (map (frame_without (depth fs))
          (Function (record f { items = r.items }) ∷ fs)) d g) (cell_size w z.cell) v
      local_cell_without d g z v true e k u m q =
          let none : locals_at (map (frame_without (depth fs)) (Function (record f { items = r.items }) ∷ fs)) d ≡ None =
          locals_at_map (depth fs) (Function (record f { items = r.items }) ∷ fs) d ∙ rw e gone in
          absurd (none-some z (sym (ap (option_and_then (λ (u : Shape). slice_get u.fields g)) none) ∙ k))
      local_cell_without d g z v false e k u m q =
          let there : option_and_then (λ (u : Shape). slice_get u.fields g) (locals_at fs d) ≡ Some z =
          subst (λ t. option_and_then (λ (u : Shape). slice_get u.fields g) t ≡ Some z)
          (locals_at_map (depth fs) (Function (record f { items = r.items }) ∷ fs) d ∙ rw e refl) k in
          let old : cell_field world.notes (memory_of world (framed a (Function f ∷ fs))) (FieldOfLocals d g) ≡ Some z = rw e there in
          kept (FieldOfLocals d g) z v u _ _ (st.cells (FieldOfLocals d g) z u old m) q
          (λ p y. local_stays d g p (eqb-false d (depth fs) e) y)

      cells : CellsShow w world P (A (map (frame_without (depth fs)) (Function (record f { items = r.items }) ∷ fs)))
          (config_without (depth fs) (with_items a f r.items fs)) s.byte
      cells (FieldOf k i g) z v x m =
          let u = some_of_map (without_local (depth fs)) (a.cells (FieldOf k i g)) v m in
          kept (FieldOf k i g) z v u.0 _ _ (st.cells (FieldOf k i g) z u.0 x u.1) u.2 (λ p y. y)
      cells (FieldOfLocals d g) z v x m =
          let u = some_of_map (without_local (depth fs)) (a.cells (FieldOfLocals d g)) v m in
          local_cell_without d g z v (nat_eq d (depth fs)) refl x u.0 u.1 u.2

  -- ---- what of addresses stays, for the host frames

  pub make_extends : (f : FunctionFrame) (fs : List Frame) (sh : Shape) → locals_among f.items ≡ None
      → Extends (A (Function f ∷ fs)) (A (Function (record f { items = LocalsOf sh ∷ f.items }) ∷ fs))
  make_extends f fs sh none = record { anchor = anchors; handle = λ k p q. q; method = λ k p q. q; entry = λ k p q. q }
    where
      local_more : (d g p : ℕ) (t : Bool) → (if t then local_among w End (return_cell + total w fs) f.items g
          else local_address w End fs d g) ≡ Some p → (if t then local_among w End (return_cell + total w fs) (LocalsOf sh ∷ f.items) g
          else local_address w End fs d g) ≡ Some p
      local_more d g p true q = absurd (none-some p (sym (among_none w End (return_cell + total w fs) f.items g none) ∙ q))
      local_more d g p false q = q

      anchors : (x : Anchor) (p : ℕ) → anchor_address w world.notes P (Function f ∷ fs) x ≡ Some p
          → anchor_address w world.notes P (Function (record f { items = LocalsOf sh ∷ f.items }) ∷ fs) x ≡ Some p
      anchors (ObjectOf k) p q = q
      anchors (ThunkOf i) p q = q
      anchors (LocalOf d g) p q = local_more d g p (nat_eq d (depth fs)) q

  pub drop_loses : (f : FunctionFrame) (fs : List Frame) (is : List StackItem)
      → Loses (depth fs) (A (Function f ∷ fs)) (A (map (frame_without (depth fs)) (Function (record f { items = is }) ∷ fs)))
  drop_loses f fs is = record {
    object = λ k p q. q;
    thunk = λ i p q. q;
    local = stays;
    handle = λ k p q. q;
    method = λ k p q. q;
    entry = λ k p q. q;
  }
    where
      stays : (e g p : ℕ) → e ≢ depth fs → local_address w End (Function f ∷ fs) e g ≡ Some p
          → local_address w End (map (frame_without (depth fs)) (Function (record f { items = is }) ∷ fs)) e g ≡ Some p
      stays e g p ne q = local_address_map w End (depth fs) (Function (record f { items = is }) ∷ fs) e g
          ∙ rw (ne_eqb e (depth fs) ne) (rw (ne_eqb e (depth fs) ne) at q)

  pub drop_same : (f : FunctionFrame) (fs : List Frame) (n c : ℕ) (r : Dropped) → dropped n c f.items ≡ Some r → r.locals ≡ false
      → SameLocals w End (Function f ∷ fs) (Function (record f { items = r.items }) ∷ fs)
  drop_same f fs n c r e none =
      let l = left world.notes f.func w n c f.items r e in
      record {
        locals = λ d i. if nat_eq d (depth fs) then l.same none i else locals_at fs d;
        address = λ d g i. if nat_eq d (depth fs) then l.address none End (return_cell + total w fs) g i else local_address w End fs d g;
      }

-- a value that is one which stays
pub stays : (e : ℕ) (v u : Neutral) → without_local e u ≡ u → v ≡ u → without_local e v ≡ v
stays e v u p q = ap (without_local e) q ∙ p ∙ sym q
