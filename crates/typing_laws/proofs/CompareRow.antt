-- The row of CMP, and what a jump knows of the flag.
use Rattle.typing_laws.proofs.Common.{◌≡◌, ℕ, zero, suc, ◌^◌, ◌<◌, ◌⊎◌, Bool, if◌then◌else◌, nat_lt, List, ◌∷◌, Option, Some, None, Ok}
use Rattle.typing_laws.proofs.Common.{IfOk, slice_set, slice_index_or, refl, sym, ap, subst, arith, inl, inr, ⊎_elim, bit_or, bit_at}
use Rattle.typing_laws.proofs.Common.{lt-ltb, cases_eq, bit_at_or, bit_at-lt, none-some, CmpOp, Extra, Operand, HasField, type_of}
use Rattle.typing_laws.proofs.Common.{IsBounded, FnNote, Notes, Fact, State, Ty, Change, changed, with_fact, beside, operand_value}
use Rattle.typing_laws.proofs.Common.{register_type, IsKnown, register_type-known, compares, granted, narrow, Registers, FunctionFrame}
use Rattle.typing_laws.proofs.Common.{Frame, Config, depth, World, live_memory, Memory, Fits, FitsState, FactHolds, ◌>>=◌, or_stuck}
use Rattle.typing_laws.proofs.Common.{beside_extra, direct_value, value, Form, with_c, goes, Accepts}
use Rattle.rules_flow.specs.Narrowing.{narrowed, narrowed_if}
use Rattle.neutral_machine.specs.Rows.{compare_row}
use Rattle.typing_laws.proofs.ArithRow.{BesideFits, GoesOn, goes_on, right_fits, accepts_then, beside_ok, form_same, operand_known}
use Rattle.typing_laws.proofs.ArithRow.{register_is}
use Rattle.typing_laws.proofs.Context.{TopSound, objects, FitsHere, seen}
use Rattle.typing_laws.proofs.{Rows.ok_same, Rows.when_ok, Accesses.access_of, ComparesFit.compares_fit, NarrowFit.narrowed_fits}
use Rattle.typing_laws.proofs.{NarrowFit.granted_written, Changes.flag_written, Operands.then_ok, Views.view_at}
use Rattle.rules_data.specs.Data as rules_data

-- ---- the row

module _ {world : World} {a : Config} {f : FunctionFrame} {fs : List Frame} {note : FnNote} {s : State}
    (st : TopSound world a f fs note s) where
  -- the flag is set, and control goes on
  pub flag_goes : (c : Bool) (o : Option Fact) (next : ℕ) → next < world.image_size
      → ((x : Fact) → o ≡ Some x → FactHolds world.notes (live_memory world a) a.registers c x)
      → Accepts (GoesOn world next (with_fact s o)) (goes world (with_c a c) next)
  flag_goes c o next i h = goes_on (with_c a c) next (with_fact s o) i (record {
    frames = st.frames;
    top = flag_written world.notes (live_memory world a) (depth fs) f s a.registers a.c c a.made o h st.top;
    below = record { cells = st.below.cells; frames = st.below.frames; few = st.below.few };
  })

  -- CMP that its rule accepts goes on soundly.
  pub compare_fits : (op : CmpOp) (wide : Bool) (left : ℕ) (right : Operand) (extra : Extra) (next : ℕ) (k : Change)
      → left < 8 → BesideFits right extra → next < world.image_size
      → rules_data.compare_row world.notes note s op wide left right extra ≡ Ok k
      → Accepts (GoesOn world next (changed s k)) (compare_row world a next op wide left (beside_extra right extra))
  unfolding compare_row rules_data.compare_row changed
  compare_fits op wide left right extra next k l b i e =
      then_ok (beside (register_type s left) (operand_value world.notes note s (access_of (Form wide)) right extra)) _ k
      (rw (form_same wide) at e) (λ p e1 e2.
      beside_ok (register_type s left) (operand_value world.notes note s (access_of (Form wide)) right extra) p e1 (λ e3 e4.
      let left_known : IsKnown world.notes note p.0 = subst (λ o. IfOk o (IsKnown world.notes note)) e3
      (register_type-known world.notes note s left st.state.registers) in
      let r = register_is st left p.0 l e3 in
      accepts_then (FitsHere st p.1.ty) (GoesOn world next (changed s k))
      (value world a (Form wide) (beside_extra right extra)) _ (right_fits st wide right extra p.1 b e4) (λ u fu.
      when_ok (compares op wide p.0 p.1.ty) _ _ k e2 (λ e5 e6.
      let c = compares_fit (seen st) (objects st) op wide p.0 p.1.ty
      (direct_value world a left None) u left_known.bounded (operand_known st (access_of (Form wide)) right extra p.1 e4).bounded e5
      (subst (FitsHere st p.0) (sym r.0) r.1) fu in
      subst (λ o. Accepts (GoesOn world next (changed s k)) (or_stuck o >>= (λ c. goes world (with_c a c) next))) (sym c.1)
      (subst (λ z. Accepts (GoesOn world next (changed s z)) (goes world (with_c a c.0) next)) (ok_same (Change.Compared None) k e6)
      (flag_goes c.0 None next i (λ x q. absurd (none-some x q))))))))

-- ---- narrowing

-- the type of a register where another type is set in one
set_other : (P : Ty → Type 0) (xs : List Ty) (r q : ℕ) (t : Ty) → (q ≡ r → P t) → P (slice_index_or xs q Ty.Any)
    → P (slice_index_or (slice_set xs r t) q Ty.Any)
set_other P (x ∷ xs) zero zero t h g = h refl
set_other P (x ∷ xs) (suc r) (suc q) t h g = set_other P xs r q t (λ e. h (ap suc e)) g
set_other P l r q t h g = g

-- a field of two sets
pub either_field : (x y i : ℕ) → HasField (bit_or x y) i → HasField x i ⊎ HasField y i
either_field x y i h =
    let p = bit_at_or x y i in
    let k = bit_at-lt x i in
    let l = bit_at-lt y i in
    ⊎_elim (λ e. inl e) (λ n. inr (let e : bit_at y i ≡ 1 = omega (arith, p, k, l, h, n) in e)) (cases_eq (bit_at x i) 1)

-- Where C is what a state's fact says, the frame fits the state narrowed by it, on either successor of a jump.
pub narrow_fits : (notes : Notes) (m : Memory) (d : ℕ) (f : FunctionFrame) (s : State) (regs : Registers) (c : Bool) (made : ℕ)
    → ((r : ℕ) → IsBounded (type_of s r)) → ((x : Fact) → s.fact ≡ Some x → (0 < x.reg) × (x.reg < 8) × (x.k < 2 ^ 64))
    → FitsState notes m d f s regs c made → FitsState notes m d f (narrow s c) regs c made
unfolding narrow
narrow_fits notes m d f s regs c made bounded small g = go s.fact refl
  where
    go : (o : Option Fact) → s.fact ≡ o → FitsState notes m d f (narrowed_if s o c) regs c made
    go None e = g
    go (Some x) e =
        let k = small x e in
        let h = (g.fact x e).gave in
        let typed = g.registers x.reg k.0 k.1 in
        record {
          registers = λ r p q. at x k.1 r (narrowed x.op c (type_of s x.reg) x.k) (g.registers r p q)
              (λ y. subst (λ z. Fits notes m d f.saved (narrowed x.op c (type_of s x.reg) x.k) (regs z)) (sym y)
              (narrowed_fits (view_at notes m d f.saved) x.op c (type_of s x.reg) x.k (regs x.reg) (bounded x.reg) k.2 h typed));
          items = g.items;
          written = λ y q. ⊎_elim (λ i. g.written y i) (λ i. granted_written (view_at notes m d f.saved) x.op c (type_of s x.reg) x.k
              (regs x.reg) h typed y i) (either_field s.written (granted x.op c (type_of s x.reg) x.k) y q);
          made_are = g.made_are;
          fact = g.fact;
        }
      where
        at : (x : Fact) → x.reg < 8 → (r : ℕ) (t : Ty) → Fits notes m d f.saved (type_of s r) (regs r)
            → (r ≡ x.reg → Fits notes m d f.saved t (regs r)) → Fits notes m d f.saved
            (slice_index_or (if nat_lt x.reg 8 then slice_set s.regs x.reg t else s.regs) r Ty.Any) (regs r)
        at x l r t h i = subst (λ b. Fits notes m d f.saved (slice_index_or (if b then slice_set s.regs x.reg t else s.regs) r Ty.Any)
            (regs r)) (sym (lt-ltb x.reg 8 l)) (set_other (λ z. Fits notes m d f.saved z (regs r)) s.regs x.reg r t i h)
