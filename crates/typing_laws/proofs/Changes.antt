-- What an instruction changes in a state, and the configuration beside it: a register written, a cell stored, the flag set.
use Rattle.typing_laws.proofs.Common.{◌≡◌, ◌≢◌, ℕ, zero, suc, ◌<◌, Bool, true, false, if◌then◌else◌, nat_lt, nat_eq, List, [], ◌∷◌, Option}
use Rattle.typing_laws.proofs.Common.{Some, None, slice_set, slice_index_or, refl, sym, ap, ◌∙◌, subst, arith, ⊎_elim, lt-ltb, eq-eqb}
use Rattle.typing_laws.proofs.Common.{ne_eqb, eqb-true, eqb-false, cases_Bool, same_Some, none-some, type_of, Notes, Fact, State, Ty}
use Rattle.typing_laws.proofs.Common.{with_type, with_fact, Neutral, number, Registers, FunctionFrame, with_value, Memory, Fits, FactHolds}
use Rattle.typing_laws.proofs.Common.{FitsState, compared_as}
use Rattle.rules_base.specs.Change.{lose}

-- the type of a register after another type is set: that type, or any where there is no such register; else as before
set_type : (P : ℕ → Ty → Type 0) (xs : List Ty) (r q : ℕ) (t : Ty) → P r t → P r Ty.Any → (q ≢ r → P q (slice_index_or xs q Ty.Any))
    → P q (slice_index_or (slice_set xs r t) q Ty.Any)
set_type P [] r q t h g k = ⊎_elim (λ e. subst (λ z. P z Ty.Any) (sym (eqb-true q r e)) g) (λ e. k (eqb-false q r e))
    (cases_Bool (nat_eq q r))
set_type P (x ∷ xs) zero zero t h g k = h
set_type P (x ∷ xs) zero (suc q) t h g k = k (λ e. absurd (omega (arith, e)))
set_type P (x ∷ xs) (suc r) zero t h g k = k (λ e. absurd (omega (arith, e)))
set_type P (x ∷ xs) (suc r) (suc q) t h g k = set_type (λ i. P (suc i)) xs r q t h g
    (λ n. k (λ e. n (let z : q ≡ r = omega (arith, e) in z)))

-- a property of each register but R0
pub each_register : (P : ℕ → Type 0) → P 1 → P 2 → P 3 → P 4 → P 5 → P 6 → P 7 → (r : ℕ) → 0 < r → r < 8 → P r
each_register P p1 p2 p3 p4 p5 p6 p7 zero l h = absurd (omega (arith, l))
each_register P p1 p2 p3 p4 p5 p6 p7 (suc zero) l h = p1
each_register P p1 p2 p3 p4 p5 p6 p7 (suc (suc zero)) l h = p2
each_register P p1 p2 p3 p4 p5 p6 p7 (suc (suc (suc zero))) l h = p3
each_register P p1 p2 p3 p4 p5 p6 p7 (suc (suc (suc (suc zero)))) l h = p4
each_register P p1 p2 p3 p4 p5 p6 p7 (suc (suc (suc (suc (suc zero))))) l h = p5
each_register P p1 p2 p3 p4 p5 p6 p7 (suc (suc (suc (suc (suc (suc zero)))))) l h = p6
each_register P p1 p2 p3 p4 p5 p6 p7 (suc (suc (suc (suc (suc (suc (suc zero))))))) l h = p7
each_register P p1 p2 p3 p4 p5 p6 p7 (suc (suc (suc (suc (suc (suc (suc (suc r)))))))) l h = absurd (omega (arith, h))

module _ (notes : Notes) (m : Memory) (d : ℕ) (f : FunctionFrame) where
  lost : (r : ℕ) (o : Option Fact) (x : Fact) → lose r o ≡ Some x → (o ≡ Some x) × (x.reg ≢ r)
  lost r None x e = absurd (none-some x e)
  lost r (Some y) x e = go (nat_eq y.reg r) refl e
    where
      go : (b : Bool) → nat_eq y.reg r ≡ b → (if b then None else Some y) ≡ Some x → (Some y ≡ Some x) × (x.reg ≢ r)
      go true h e = absurd (none-some x e)
      go false h e = (e, subst (λ (z : Fact). z.reg ≢ r) (same_Some y x e) (eqb-false y.reg r h))

  -- A register is written: the state with its type fits the registers with its value.
  pub register_written : (s : State) (regs : Registers) (c : Bool) (made r : ℕ) (t : Ty) (v : Neutral) → r < 8 → Fits notes m d f.saved t v
      → FitsState notes m d f s regs c made → FitsState notes m d f (with_type s r t) (with_value regs r v) c made
  unfolding with_type
  register_written s regs c made r t v l h g = record {
    registers = λ q p b. typed q p b (nat_lt r 8);
    items = g.items;
    written = g.written;
    made_are = g.made_are;
    fact = λ x e. let k = lost r s.fact x e in record {
      gave = ap (λ z. compared_as notes m.objects x.op true z (number x.k))
          (other x.reg k.1) ∙ (g.fact x k.0).gave;
    };
  }
    where
      other : (q : ℕ) → q ≢ r → with_value regs r v q ≡ regs q
      other q n = ap (λ b. if b then v else regs q) (ne_eqb q r n)

      here : with_value regs r v r ≡ v
      here = ap (λ b. if b then v else regs r) (eq-eqb r r refl)

      at : (q : ℕ) → 0 < q → q < 8 → Fits notes m d f.saved (slice_index_or (slice_set s.regs r t) q Ty.Any) (with_value regs r v q)
      at q p b = set_type (λ i z. Fits notes m d f.saved z (with_value regs r v i)) s.regs r q t
          (subst (λ z. Fits notes m d f.saved t z) (sym here) h) tt
          (λ n. subst (λ z. Fits notes m d f.saved (type_of s q) z) (sym (other q n)) (g.registers q p b))

      small : nat_lt r 8 ≡ true
      small = lt-ltb r 8 l

      typed : (q : ℕ) → 0 < q → q < 8 → (b : Bool) → Fits notes m d f.saved
          (slice_index_or (if nat_lt r 8 then slice_set s.regs r t else s.regs) q Ty.Any) (with_value regs r v q)
      typed q p b x = subst (λ i. Fits notes m d f.saved (slice_index_or (if i then slice_set s.regs r t else s.regs) q Ty.Any)
          (with_value regs r v q)) (sym small) (at q p b)

  -- The flag is set: the state with the fact that says so fits.
  pub flag_written : (s : State) (regs : Registers) (c b : Bool) (made : ℕ) (o : Option Fact)
      → ((x : Fact) → o ≡ Some x → FactHolds notes m regs b x) → FitsState notes m d f s regs c made
      → FitsState notes m d f (with_fact s o) regs b made
  unfolding with_fact
  flag_written s regs c b made o h g = record {
    registers = g.registers;
    items = g.items;
    written = g.written;
    made_are = g.made_are;
    fact = h;
  }
