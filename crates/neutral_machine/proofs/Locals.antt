-- Locals on the stack: where they are, that they share no byte with what else is there, and what a store to one leaves.
use Rattle.neutral_machine.proofs.Common.{◌≡◌, ◌≢◌, ℕ, ◌+◌, ◌-◌, ◌^◌, ◌≤◌, ◌⊎◌, Bool, true, false, if◌then◌else◌, nat_eq, List, [], ◌∷◌}
use Rattle.neutral_machine.proofs.Common.{Option, Some, None, refl, sym, ap, ◌∙◌, subst, arith, inl, inr, ⊎_elim, slice_get, mod-eq_of_lt}
use Rattle.neutral_machine.proofs.Common.{option_map, eqb-true, same_Some, none-some, put, little_endian-apart, IsWidth, by_width}
use Rattle.neutral_machine.proofs.Common.{cell_size, IsShape, FitsAt, size_at, start_at, FnNote, Field, Shape, Addresses, ShowsIn, word}
use Rattle.neutral_machine.proofs.Common.{minus, StackItem, Pushed, LocalsOf, Frame, Function, Host, depth, locals_among, locals_at, World}
use Rattle.neutral_machine.proofs.Common.{frame_locals, Placement, slot_bytes, return_cell, height, total, local_among, local_address}
use Rattle.neutral_machine.proofs.Common.{ItemsShow, ReturnShows, return_address, FramesShow, OwnLocals, OwnLocalsAll, WorldFits}
use Rattle.std.specs.Option.{option_and_then}
use Rattle.note_types.specs.Known.{locals_of}
use Rattle.neutral_machine.proofs.Agree.{Agree, put_agree, return_agree, cell_positive, slot_positive, items_agree, frames_agree}
use Rattle.neutral_machine.proofs.Agree.{local_within, local_among_within}
use Rattle.neutral_machine.proofs.Numbers.{minus-is}

-- ---- their shapes

-- a function's locals have a well-formed shape
pub locals_shape : (world : World) (func : ℕ) (s : Shape) → WorldFits world → frame_locals world.notes func ≡ Some s → IsShape s
locals_shape world func s ok h = by_function (slice_get world.notes.function func) h
  where
    by_number : (o : Option ℕ) → option_and_then (slice_get world.notes.shape) o ≡ Some s → IsShape s
    by_number None g = absurd (none-some s g)
    by_number (Some k) g = ok.shapes k s g

    by_function : (o : Option FnNote) → option_and_then (locals_of world.notes) o ≡ Some s → IsShape s
    by_function None g = absurd (none-some s g)
    by_function (Some f) g = by_number f.locals g

pub fits_at : (w : ℕ) (s : Shape) → IsWidth w → IsShape s → FitsAt w s
fits_at w s h f = by_width (λ v. FitsAt v s) w h f.at4 f.at8

among_own : (world : World) (func : ℕ) (is : List StackItem) (s : Shape) → WorldFits world → OwnLocals world.notes func is
    → locals_among is ≡ Some s → IsShape s
among_own world func [] s ok h g = absurd (none-some s g)
among_own world func (Pushed kind v ∷ is) s ok h g = among_own world func is s ok h g
among_own world func (LocalsOf t ∷ is) s ok h g = locals_shape world func s ok (h.0 ∙ g)

-- the locals of each frame have a well-formed shape
pub locals_fit : (world : World) (fs : List Frame) (d : ℕ) (s : Shape) → WorldFits world → OwnLocalsAll world.notes fs
    → locals_at fs d ≡ Some s → IsShape s
locals_fit world [] d s ok h g = absurd (none-some s g)
locals_fit world (Host p ∷ fs) d s ok h g = locals_fit world fs d s ok h g
locals_fit world (Function p ∷ fs) d s ok h g = go (nat_eq d (depth fs)) g (λ g. locals_fit world fs d s ok h.1 g)
  where
    go : (t : Bool) → (if t then locals_among p.items else locals_at fs d) ≡ Some s → (locals_at fs d ≡ Some s → IsShape s) → IsShape s
    go true g next = among_own world p.func p.items s ok h.0 g
    go false g next = next g

module _ (w end : ℕ) (h : IsWidth w) (small : end ≤ 2 ^ 64) where
  -- ---- each field of locals has an address

  among_there : (under : ℕ) (is : List StackItem) (s : Shape) (f : ℕ) (z : Field) → locals_among is ≡ Some s → slice_get s.fields f ≡ Some z
      → (x : ℕ) × (local_among w end under is f ≡ Some x)
  among_there under [] s f z g q = absurd (none-some s g)
  among_there under (Pushed kind v ∷ is) s f z g q = among_there under is s f z g q
  among_there under (LocalsOf t ∷ is) s f z g q =
      let e : slice_get t.fields f ≡ Some z = subst (λ (y : Shape). slice_get y.fields f ≡ Some z) (sym (same_Some t s g)) q in (
        word (minus end (size_at w t + (height w is + under)) + start_at w z),
        ap (option_map (λ (y : Field). word (minus end (size_at w t + (height w is + under)) + start_at w y))) e,
      )

  pub local_there : (fs : List Frame) (d : ℕ) (s : Shape) (f : ℕ) (z : Field) → locals_at fs d ≡ Some s → slice_get s.fields f ≡ Some z
      → (x : ℕ) × (local_address w end fs d f ≡ Some x)
  local_there [] d s f z g q = absurd (none-some s g)
  local_there (Host p ∷ fs) d s f z g q = local_there fs d s f z g q
  local_there (Function p ∷ fs) d s f z g q = go (nat_eq d (depth fs)) g (λ g. local_there fs d s f z g q)
    where
      go : (t : Bool) → (if t then locals_among p.items else locals_at fs d) ≡ Some s
          → (locals_at fs d ≡ Some s → (x : ℕ) × (local_address w end fs d f ≡ Some x)) → (x : ℕ)
          × ((if t then local_among w end (return_cell + total w fs) p.items f else local_address w end fs d f) ≡ Some x)
      go true g next = among_there _ p.items s f z g q
      go false g next = next g

  -- ---- two fields of locals are apart

  abbrev pub Off : ℕ → ℕ → ℕ → ℕ → Type 0
  Off a n b m = (a + n ≤ b) ⊎ (b + m ≤ a)

  among_off : (under : ℕ) (is : List StackItem) (s : Shape) (f g x y : ℕ) (z o : Field) → height w is + under ≤ end
      → locals_among is ≡ Some s → FitsAt w s → f ≢ g → local_among w end under is f ≡ Some x → local_among w end under is g ≡ Some y
      → slice_get s.fields f ≡ Some z → slice_get s.fields g ≡ Some o → Off x (cell_size w z.cell) y (cell_size w o.cell)
  among_off under [] s f g x y z o l k fit ne a b p q = absurd (none-some s k)
  among_off under (Pushed kind v ∷ is) s f g x y z o l k fit ne a b p q =
      among_off under is s f g x y z o (omega (arith, l)) k fit ne a b p q
  among_off under (LocalsOf t ∷ is) s f g x y z o l k fit ne a b p q =
      let e : t ≡ s = same_Some t s k in
      let fit' : FitsAt w t = subst (FitsAt w) (sym e) fit in
      let p' : slice_get t.fields f ≡ Some z = subst (λ (r : Shape). slice_get r.fields f ≡ Some z) (sym e) p in
      let q' : slice_get t.fields g ≡ Some o = subst (λ (r : Shape). slice_get r.fields g ≡ Some o) (sym e) q in
      let T = size_at w t + (height w is + under) in
      let i = fit'.inside f z p' in
      let j = fit'.inside g o q' in
      let at = λ (c : Field) (d : ℕ) (m : word (minus end T + start_at w c) ≡ d) (n : start_at w c + cell_size w c.cell ≤ size_at w t).
      (let r : end - T + start_at w c ≡ d = sym (mod-eq_of_lt (omega (arith, n, l, small, cell_positive w c.cell h)))
      ∙ ap (λ u. word (u + start_at w c)) (sym (minus-is end T (omega (arith, fit'.positive)) (omega (arith, l)) small)) ∙ m in r) in
      let ex = at z x (same_Some _ x (sym (ap (option_map (λ (c : Field). word (minus end T + start_at w c))) p') ∙ a)) i in
      let ey = at o y (same_Some _ y (sym (ap (option_map (λ (c : Field). word (minus end T + start_at w c))) q') ∙ b)) j in
      ⊎_elim (λ r. absurd (ne r)) (λ r. ⊎_elim (λ m. inl (omega (arith, m, ex, ey))) (λ m. inr (omega (arith, m, ex, ey))) r)
      (fit'.apart f g z o p' q')

  -- which local: two of one frame differ in their fields
  pub locals_off : (fs : List Frame) (d e f g x y : ℕ) (s t : Shape) (z o : Field) → total w fs ≤ end → (d ≡ e → f ≢ g)
      → locals_at fs d ≡ Some s → locals_at fs e ≡ Some t → FitsAt w s → FitsAt w t → local_address w end fs d f ≡ Some x
      → local_address w end fs e g ≡ Some y → slice_get s.fields f ≡ Some z → slice_get t.fields g ≡ Some o
      → Off x (cell_size w z.cell) y (cell_size w o.cell)
  locals_off [] d e f g x y s t z o l ne k m fs ft a b p q = absurd (none-some s k)
  locals_off (Host h ∷ fs) d e f g x y s t z o l ne k m fit ft a b p q =
      locals_off fs d e f g x y s t z o (omega (arith, l)) ne k m fit ft a b p q
  locals_off (Function i ∷ fs) d e f g x y s t z o l ne k m fit ft a b p q =
      go (nat_eq d (depth fs)) (nat_eq e (depth fs)) refl refl k m a b
      (λ k m a b. locals_off fs d e f g x y s t z o (omega (arith, l)) ne k m fit ft a b p q)
    where
      U : ℕ
      U = return_cell + total w fs

      go : (u v : Bool) → nat_eq d (depth fs) ≡ u → nat_eq e (depth fs) ≡ v → (if u then locals_among i.items else locals_at fs d) ≡ Some s
          → (if v then locals_among i.items else locals_at fs e) ≡ Some t
          → (if u then local_among w end U i.items f else local_address w end fs d f) ≡ Some x
          → (if v then local_among w end U i.items g else local_address w end fs e g) ≡ Some y
          → (locals_at fs d ≡ Some s → locals_at fs e ≡ Some t → local_address w end fs d f ≡ Some x → local_address w end fs e g ≡ Some y
          → Off x (cell_size w z.cell) y (cell_size w o.cell)) → Off x (cell_size w z.cell) y (cell_size w o.cell)
      go true true c n k m a b next =
          let same : s ≡ t = same_Some s t (sym k ∙ m) in
          among_off U i.items s f g x y z o l k fit (ne (eqb-true _ _ c ∙ sym (eqb-true _ _ n))) a b p
          (subst (λ (r : Shape). slice_get r.fields g ≡ Some o) (sym same) q)
      go true false c n k m a b next =
          let r = local_among_within w end h small U i.items s f x z l a k fit p in
          let r2 = local_within w end h small fs e t g y o (omega (arith, l)) b m ft q in
          inl (omega (arith, r.below, r2.above, l))
      go false true c n k m a b next =
          let r = local_among_within w end h small U i.items t g y o l b m ft q in
          let r2 = local_within w end h small fs d s f x z (omega (arith, l)) a k fit p in
          inr (omega (arith, r.below, r2.above, l))
      go false false c n k m a b next = next k m a b

  -- ---- a store to a field of locals leaves what else is on the stack

  items_stored : (A : Addresses) (b : ℕ → ℕ) (under : ℕ) (is : List StackItem) (s : Shape) (f x v : ℕ) (z : Field)
      → height w is + under ≤ end → locals_among is ≡ Some s → FitsAt w s → local_among w end under is f ≡ Some x
      → slice_get s.fields f ≡ Some z → ItemsShow w A b end under is → ItemsShow w A (put b x (cell_size w z.cell) v) end under is
  items_stored A b under [] s f x v z l k fit a p sh = tt
  items_stored A b under (Pushed kind u ∷ is) s f x v z l k fit a p sh =
      let r = local_among_within w end h small under is s f x z (omega (arith, l)) a k fit p in
      let pk = slot_positive w kind h in
      let e = minus-is end (slot_bytes w kind + (height w is + under)) (omega (arith, pk)) (omega (arith, l)) small in (
        subst (ShowsIn w A (slot_bytes w kind) u) (sym (little_endian-apart b x (cell_size w z.cell) v
            (minus end (slot_bytes w kind + (height w is + under))) (slot_bytes w kind) (inl (omega (arith, e, r.above, l))))) sh.0,
        items_stored A b under is s f x v z (omega (arith, l)) k fit a p sh.1,
      )
  items_stored A b under (LocalsOf t ∷ is) s f x v z l k fit a p sh =
      let e : t ≡ s = same_Some t s k in
      let fit' : FitsAt w t = subst (FitsAt w) (sym e) fit in
      let p' : slice_get t.fields f ≡ Some z = subst (λ (r : Shape). slice_get r.fields f ≡ Some z) (sym e) p in
      let T = size_at w t + (height w is + under) in
      let i = fit'.inside f z p' in
      let m = same_Some _ x (sym (ap (option_map (λ (c : Field). word (minus end T + start_at w c))) p') ∙ a) in
      let ex : end - T + start_at w z ≡ x = sym (mod-eq_of_lt (omega (arith, i, l, small, cell_positive w z.cell h)))
      ∙ ap (λ u. word (u + start_at w z)) (sym (minus-is end T (omega (arith, fit'.positive)) (omega (arith, l)) small)) ∙ m in (
        tt,
        items_agree w end h small A b _ under is (omega (arith, l))
            (put_agree b x (cell_size w z.cell) v _ _ (inl (omega (arith, ex, i, l)))) sh.1,
      )

  pub frames_stored : (A : Addresses) (P : Placement) (b : ℕ → ℕ) (fs : List Frame) (d : ℕ) (s : Shape) (f x v : ℕ) (z : Field)
      → total w fs ≤ end → locals_at fs d ≡ Some s → FitsAt w s → local_address w end fs d f ≡ Some x → slice_get s.fields f ≡ Some z
      → FramesShow w A b end P fs → FramesShow w A (put b x (cell_size w z.cell) v) end P fs
  frames_stored A P b [] d s f x v z l k fit a p sh = tt
  frames_stored A P b (Host host ∷ fs) d s f x v z l k fit a p sh =
      let r = local_within w end h small fs d s f x z (omega (arith, l)) a k fit p in (
        items_agree w end h small A b _ (total w fs) host.params l (put_agree b x (cell_size w z.cell) v _ _ (inr r.above)) sh.0,
        frames_stored A P b fs d s f x v z (omega (arith, l)) k fit a p sh.1,
      )
  frames_stored A P b (Function i ∷ fs) d s f x v z l k fit a p sh =
      go (nat_eq d (depth fs)) k a (λ k a. frames_stored A P b fs d s f x v z (omega (arith, l)) k fit a p sh.2)
    where
      U : ℕ
      U = return_cell + total w fs

      c : ℕ → ℕ
      c = put b x (cell_size w z.cell) v

      eU : minus end U ≡ end - U
      eU = minus-is end U (omega arith) (omega (arith, l)) small

      cell_agree : Agree b c (minus end U) (minus end U + 16) → ReturnShows c (minus end U) (return_address P i.ret fs)
      cell_agree g = return_agree w end h small b c (minus end U) (return_address P i.ret fs) g sh.1

      go : (t : Bool) → (if t then locals_among i.items else locals_at fs d) ≡ Some s
          → (if t then local_among w end U i.items f else local_address w end fs d f) ≡ Some x
          → (locals_at fs d ≡ Some s → local_address w end fs d f ≡ Some x → FramesShow w A c end P fs) → ItemsShow w A c end U i.items
          × ReturnShows c (minus end U) (return_address P i.ret fs) × FramesShow w A c end P fs
      go true k a next =
          let r = local_among_within w end h small U i.items s f x z l a k fit p in (
            items_stored A b U i.items s f x v z l k fit a p sh.0,
            cell_agree (put_agree b x (cell_size w z.cell) v _ _ (inl (omega (arith, r.below, eU, l)))),
            frames_agree w end h small A P b c fs (omega (arith, l))
                (put_agree b x (cell_size w z.cell) v _ _ (inl (omega (arith, r.below, l)))) sh.2,
          )
      go false k a next =
          let r = local_within w end h small fs d s f x z (omega (arith, l)) a k fit p in (
            items_agree w end h small A b c U i.items l (put_agree b x (cell_size w z.cell) v _ _ (inr (omega (arith, r.above, l)))) sh.0,
            cell_agree (put_agree b x (cell_size w z.cell) v _ _ (inr (omega (arith, r.above, eU, l)))),
            next k a,
          )
