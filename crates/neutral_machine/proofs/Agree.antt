-- What shows still shows where the bytes agree and where no address is lost.
use Rattle.neutral_machine.proofs.Common.{◌≡◌, ℕ, zero, suc, ◌+◌, ◌-◌, ◌*◌, ◌%◌, ◌^◌, ◌<◌, ◌≤◌, ◌⊎◌, Bool, true, false, if◌then◌else◌}
use Rattle.neutral_machine.proofs.Common.{nat_eq, List, [], ◌∷◌, Some, refl, sym, ap, ◌∙◌, subst, arith, inl, inr, ⊎_elim, slice_get}
use Rattle.neutral_machine.proofs.Common.{mod-eq_of_lt, option_map, same_Some, none-some, little_endian, put, little_endian-agree}
use Rattle.neutral_machine.proofs.Common.{put-apart, IsWidth, by_width, cell_size, FitsAt, size_at, start_at, Cell, SlotKind, N, Q, D}
use Rattle.neutral_machine.proofs.Common.{Field, Shape, Anchor, Neutral, At, Handle, Method, Entry, Junk, Addresses, Shows, ShowsIn, word}
use Rattle.neutral_machine.proofs.Common.{minus, StackItem, Pushed, LocalsOf, Frame, Function, Host, depth, locals_among, locals_at}
use Rattle.neutral_machine.proofs.Common.{Placement, slot_bytes, return_cell, item_size, height, total, local_among, local_address}
use Rattle.neutral_machine.proofs.Common.{ItemShows, ItemsShow, ReturnShows, FramesShow}
use Rattle.std.proofs.Common.{pow-suc}
use Rattle.ebc_width.proofs.ByteLaws.{little_endian-same}
use Rattle.neutral_machine.proofs.Numbers.{minus-is}
use Rattle.note_types.specs.declared.cell.Cell.TheVariants as cell

-- ---- more addresses

pub record Extends (A B : Addresses) : Type 0 where
  pub anchor : (a : Anchor) (p : ℕ) → A.anchor a ≡ Some p → B.anchor a ≡ Some p
  pub handle : (k p : ℕ) → A.handle k ≡ Some p → B.handle k ≡ Some p
  pub method : (k p : ℕ) → A.method k ≡ Some p → B.method k ≡ Some p
  pub entry : (k p : ℕ) → A.entry k ≡ Some p → B.entry k ≡ Some p

pub shows_more : (w : ℕ) (A B : Addresses) (v : Neutral) (x : ℕ) → Extends A B → Shows w A v x → Shows w B v x
shows_more w A B (At a n c) x e h = record { from = h.from; there = e.anchor a h.from h.there; is = h.is }
shows_more w A B (Handle k) x e h = e.handle k x h
shows_more w A B (Method k) x e h = e.method k x h
shows_more w A B (Entry k) x e h = e.entry k x h
shows_more w A B Junk x e h = tt
shows_more w A B v x e h = h

pub shows_in_more : (w : ℕ) (A B : Addresses) (k : ℕ) (v : Neutral) (x : ℕ) → Extends A B → ShowsIn w A k v x → ShowsIn w B k v x
shows_in_more w A B k v x e h = record { whole = h.whole; shows = shows_more w A B v h.whole e h.shows; cut = h.cut }

-- what shows, shows cut
pub shown_in : (w : ℕ) (A : Addresses) (k : ℕ) (v : Neutral) (x : ℕ) → Shows w A v x → ShowsIn w A k v (x % 2 ^ (8 * k))
shown_in w A k v x h = record { whole = x; shows = h; cut = refl }

-- ---- the same bytes

pub record Agree (b c : ℕ → ℕ) (lo hi : ℕ) : Type 0 where
  pub by : (x : ℕ) → lo ≤ x → x < hi → b x ≡ c x

pub agree_in : (b c : ℕ → ℕ) (lo hi a k : ℕ) → Agree b c lo hi → lo ≤ a → a + k ≤ hi → little_endian b a k ≡ little_endian c a k
agree_in b c lo hi a k g l m = little_endian-agree b c a k (λ x p q. g.by x (omega arith) (omega arith))

pub narrower : (b c : ℕ → ℕ) (lo hi from to : ℕ) → Agree b c lo hi → lo ≤ from → to ≤ hi → Agree b c from to
narrower b c lo hi from to g l m = record { by = λ y p q. g.by y (omega arith) (omega arith) }

-- bytes put outside of a range
pub put_agree : (b : ℕ → ℕ) (a k v lo hi : ℕ) → (a + k ≤ lo) ⊎ (hi ≤ a) → Agree b (put b a k v) lo hi
put_agree b a k v lo hi h = record { by = λ x l m. sym (put-apart b a k v x (⊎_elim (λ p. inr (omega arith)) (λ p. inl (omega arith)) h)) }

pub powers : (k : ℕ) → 256 ^ k ≡ 2 ^ (8 * k)
powers zero = refl
powers (suc k) =
    let e : 8 * suc k ≡ suc (suc (suc (suc (suc (suc (suc (suc (8 * k)))))))) = omega arith in
    let f : 256 ^ suc k ≡ 256 ^ k * 256 = pow-suc 256 k in
    let g : 2 ^ suc (suc (suc (suc (suc (suc (suc (suc (8 * k)))))))) ≡ 2 ^ (8 * k) * 2 * 2 * 2 * 2 * 2 * 2 * 2 * 2 =
    pow-suc 2 _ ∙ ap (λ z. z * 2) (pow-suc 2 _ ∙ ap (λ z. z * 2)
    (pow-suc 2 _ ∙ ap (λ z. z * 2) (pow-suc 2 _ ∙ ap (λ z. z * 2)
    (pow-suc 2 _ ∙ ap (λ z. z * 2) (pow-suc 2 _ ∙ ap (λ z. z * 2) (pow-suc 2 _ ∙ ap (λ z. z * 2) (pow-suc 2 _))))))) in
    let r = powers k in
    f ∙ ap (λ z. z * 256) r ∙ (let m : 2 ^ (8 * k) * 256 ≡ 2 ^ (8 * k) * 2 * 2 * 2 * 2 * 2 * 2 * 2 * 2 = omega arith in m) ∙ sym g
    ∙ ap (λ z. 2 ^ z) (sym e)

-- a number that is put is read cut
pub read_put : (b : ℕ → ℕ) (a k v : ℕ) → little_endian (put b a k v) a k ≡ v % 2 ^ (8 * k)
read_put b a k v = little_endian-same b a k v ∙ ap (λ z. v % z) (powers k)

-- ---- the stack

pub slot_positive : (w : ℕ) (kind : SlotKind) → IsWidth w → 0 < slot_bytes w kind
slot_positive w N h = by_width (λ v. 0 < v) w h (omega arith) (omega arith)
slot_positive w Q h = omega arith
slot_positive w D h = omega arith

pub cell_positive : (w : ℕ) (c : Cell) → IsWidth w → 0 < cell_size w c
cell_positive w cell.I8 h = omega arith
cell_positive w cell.I16 h = omega arith
cell_positive w cell.I32 h = omega arith
cell_positive w cell.I64 h = omega arith
cell_positive w (cell.P64 s k may) h = omega arith
cell_positive w c h = by_width (λ v. 0 < v) w h (omega arith) (omega arith)

module _ (w end : ℕ) (h : IsWidth w) (small : end ≤ 2 ^ 64) where
  low : (n : ℕ) → 0 < n → n ≤ end → minus end n ≡ end - n
  low n p l = minus-is end n p l small

  item_agree : (A : Addresses) (b c : ℕ → ℕ) (x : ℕ) (i : StackItem) → Agree b c x (x + item_size w i) → ItemShows w A b x i
      → ItemShows w A c x i
  item_agree A b c x (Pushed kind v) g s = subst (ShowsIn w A (slot_bytes w kind) v)
      (agree_in b c x _ x (slot_bytes w kind) g (omega arith) (omega arith)) s
  item_agree A b c x (LocalsOf t) g s = tt

  -- items show where their bytes agree
  pub items_agree : (A : Addresses) (b c : ℕ → ℕ) (under : ℕ) (is : List StackItem) → height w is + under ≤ end
      → Agree b c (end - (height w is + under)) (end - under) → ItemsShow w A b end under is → ItemsShow w A c end under is
  items_agree A b c under [] l g s = tt
  items_agree A b c under (Pushed kind v ∷ is) l g s =
      let p = slot_positive w kind h in
      let e = low (slot_bytes w kind + (height w is + under)) (omega (arith, p)) (omega (arith, l)) in (
        item_agree A b c (minus end (slot_bytes w kind + (height w is + under))) (Pushed kind v)
            (narrower b c _ _ _ _ g (omega (arith, e)) (omega (arith, e, l))) s.0,
        items_agree A b c under is (omega (arith, l)) (narrower b c _ _ _ _ g (omega (arith, l)) (omega arith)) s.1,
      )
  items_agree A b c under (LocalsOf t ∷ is) l g s =
      (tt, items_agree A b c under is (omega (arith, l)) (narrower b c _ _ _ _ g (omega (arith, l)) (omega arith)) s.1)

  pub return_agree : (b c : ℕ → ℕ) (x back : ℕ) → Agree b c x (x + 16) → ReturnShows b x back → ReturnShows c x back
  return_agree b c x back g s = record {
    address = sym (agree_in b c x _ x 8 g (omega arith) (omega arith)) ∙ s.address;
    zeros = sym (agree_in b c x _ (x + 8) 8 g (omega arith) (omega arith)) ∙ s.zeros;
  }

  -- and frames
  pub frames_agree : (A : Addresses) (P : Placement) (b c : ℕ → ℕ) (fs : List Frame) → total w fs ≤ end → Agree b c (end - total w fs) end
      → FramesShow w A b end P fs → FramesShow w A c end P fs
  frames_agree A P b c [] l g s = tt
  frames_agree A P b c (Function f ∷ fs) l g s =
      let e = low (return_cell + total w fs) (omega arith) (omega (arith, l)) in (
        items_agree A b c (return_cell + total w fs) f.items (omega (arith, l)) (narrower b c _ _ _ _ g (omega arith) (omega arith)) s.0,
        return_agree b c _ _ (narrower b c _ _ _ _ g (omega (arith, e)) (omega (arith, e, l))) s.1,
        frames_agree A P b c fs (omega (arith, l)) (narrower b c _ _ _ _ g (omega arith) (omega arith)) s.2,
      )
  frames_agree A P b c (Host h ∷ fs) l g s = (
    items_agree A b c (total w fs) h.params (omega (arith, l)) (narrower b c _ _ _ _ g (omega arith) (omega arith)) s.0,
    frames_agree A P b c fs (omega (arith, l)) (narrower b c _ _ _ _ g (omega arith) (omega arith)) s.1,
  )

  item_more : (A B : Addresses) (b : ℕ → ℕ) (x : ℕ) (i : StackItem) → Extends A B → ItemShows w A b x i → ItemShows w B b x i
  item_more A B b x (Pushed kind v) e s = shows_in_more w A B _ v _ e s
  item_more A B b x (LocalsOf t) e s = tt

  -- and where no address is lost
  pub items_more : (A B : Addresses) (b : ℕ → ℕ) (under : ℕ) (is : List StackItem) → Extends A B → ItemsShow w A b end under is
      → ItemsShow w B b end under is
  items_more A B b under [] e s = tt
  items_more A B b under (i ∷ is) e s = (item_more A B b _ i e s.0, items_more A B b under is e s.1)

  pub frames_more : (A B : Addresses) (P : Placement) (b : ℕ → ℕ) (fs : List Frame) → Extends A B → FramesShow w A b end P fs
      → FramesShow w B b end P fs
  frames_more A B P b [] e s = tt
  frames_more A B P b (Function f ∷ fs) e s = (items_more A B b _ f.items e s.0, s.1, frames_more A B P b fs e s.2)
  frames_more A B P b (Host h ∷ fs) e s = (items_more A B b _ h.params e s.0, frames_more A B P b fs e s.1)

  -- ---- locals

  -- k bytes from x on lie between two distances from the end
  pub record Within (from to x k : ℕ) : Type 0 where
    pub above : end - from ≤ x
    pub below : x + k ≤ end - to

  some_field : (under : ℕ) (is : List StackItem) (s : Shape) (f x : ℕ) (z : Field) → FitsAt w s → size_at w s + (height w is + under) ≤ end
      → local_among w end under (LocalsOf s ∷ is) f ≡ Some x → slice_get s.fields f ≡ Some z
      → x ≡ end - (size_at w s + (height w is + under)) + start_at w z
  some_field under is s f x z fit l g k =
      let i = fit.inside f z k in
      let e = same_Some _ x (sym (ap (option_map (λ (y : Field). word (minus end (size_at w s + (height w is + under)) + start_at w y))) k)
      ∙ g) in
      let q = cell_positive w z.cell h in
      sym e ∙ ap (λ y. word (y + start_at w z)) (low _ (omega (arith, fit.positive)) l) ∙ mod-eq_of_lt (omega (arith, i, l, small, q))

  -- where a local field lies among items
  pub local_among_within : (under : ℕ) (is : List StackItem) (s : Shape) (f x : ℕ) (z : Field) → height w is + under ≤ end
      → local_among w end under is f ≡ Some x → locals_among is ≡ Some s → FitsAt w s → slice_get s.fields f ≡ Some z
      → Within (height w is + under) under x (cell_size w z.cell)
  local_among_within under [] s f x z l g k fit q = absurd (none-some s k)
  local_among_within under (Pushed kind v ∷ is) s f x z l g k fit q =
      let r = local_among_within under is s f x z (omega (arith, l)) g k fit q in
      record { above = omega (arith, r.above, l); below = r.below }
  local_among_within under (LocalsOf t ∷ is) s f x z l g k fit q =
      let e : t ≡ s = same_Some t s k in
      let fit' : FitsAt w t = subst (FitsAt w) (sym e) fit in
      let q' : slice_get t.fields f ≡ Some z = subst (λ (y : Shape). slice_get y.fields f ≡ Some z) (sym e) q in
      let r = some_field under is t f x z fit' (omega (arith, l)) g q' in
      let i = fit'.inside f z q' in
      record { above = omega (arith, r, l); below = omega (arith, r, i, l) }

  -- and among frames
  pub local_within : (fs : List Frame) (d : ℕ) (s : Shape) (f x : ℕ) (z : Field) → total w fs ≤ end → local_address w end fs d f ≡ Some x
      → locals_at fs d ≡ Some s → FitsAt w s → slice_get s.fields f ≡ Some z → Within (total w fs) 0 x (cell_size w z.cell)
  local_within [] d s f x z l g k fit q = absurd (none-some s k)
  local_within (Host h ∷ fs) d s f x z l g k fit q =
      let r = local_within fs d s f x z (omega (arith, l)) g k fit q in record { above = omega (arith, r.above, l); below = r.below }
  local_within (Function p ∷ fs) d s f x z l g k fit q = go (nat_eq d (depth fs)) g k
      (λ g k. local_within fs d s f x z (omega (arith, l)) g k fit q)
    where
      go : (t : Bool) → (if t then local_among w end (return_cell + total w fs) p.items f else local_address w end fs d f) ≡ Some x
          → (if t then locals_among p.items else locals_at fs d) ≡ Some s
          → (local_address w end fs d f ≡ Some x → locals_at fs d ≡ Some s → Within (total w fs) 0 x (cell_size w z.cell))
          → Within (height w p.items + (return_cell + total w fs)) 0 x (cell_size w z.cell)
      go true g k next = let r = local_among_within (return_cell + total w fs) p.items s f x z l g k fit q in
          record { above = r.above; below = omega (arith, r.below) }
      go false g k next = let r = next g k in record { above = omega (arith, r.above, l); below = r.below }
