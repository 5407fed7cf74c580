-- A cell that is stored leaves a configuration sound.
use Rattle.typing_laws.proofs.Common.{◌≡◌, ℕ, ◌^◌, ◌⊎◌, Bool, true, false, if◌then◌else◌, nat_lt, nat_eq, Option, Some, None, refl, sym, ap}
use Rattle.typing_laws.proofs.Common.{◌∙◌, subst, arith, inl, inr, ⊎_elim, bit_or, is_some, bit_at, cases_eq, eq-eqb, and_from, bit_at_or}
use Rattle.typing_laws.proofs.Common.{bit_at-lt, bit_at-zero, same_Some, content_type, HasField, Notes, Field, State, with_store, Neutral}
use Rattle.typing_laws.proofs.Common.{CellPlace, FieldOf, FieldOfLocals, Registers, FunctionFrame, Memory, cell_field, with_cell}
use Rattle.typing_laws.proofs.Common.{IsFieldWritten, FitsPlain, FitsState, CellsFit, FieldsLater, fields_later, fits_later, items_later}
use Rattle.typing_laws.proofs.Common.{Later, live_cells}
use Rattle.std.proofs.lemmas.Nat.Bits.{bit_at-pow_other}
use Rattle.rules_base.specs.Places.{with_field}
use Rattle.host_model.specs.Values.{same_cell_place}
use Rattle.neutral_machine.proofs.CellPairs.{one_place}

own_place : (d x : ℕ) → same_cell_place (FieldOfLocals d x) (FieldOfLocals d x) ≡ true
own_place d x = and_from (nat_eq d d) (nat_eq x x) (eq-eqb d d refl) (eq-eqb x x refl)

-- ---- sets

pub power_bit : (x y : ℕ) → bit_at (2 ^ x) y ≡ 1 → y ≡ x
power_bit x y h = ⊎_elim (λ e. e) (λ n. let z = bit_at-pow_other x y n in absurd (omega (arith, z, h))) (cases_eq y x)

-- a field of a set with one field more
pub added_field : (set x f : ℕ) → HasField (with_field set x) f → HasField set f ⊎ (f ≡ x)
added_field set x f h = go (nat_lt x 64) h
  where
    go : (b : Bool) → bit_at (bit_or set (if b then 2 ^ x else 0)) f ≡ 1 → HasField set f ⊎ (f ≡ x)
    go true h =
        let p = bit_at_or set (2 ^ x) f in
        let k = bit_at-lt set f in
        let l = bit_at-lt (2 ^ x) f in
        ⊎_elim (λ e. inl e) (λ n. inr (power_bit x f (omega (arith, p, k, l, h, n)))) (cases_eq (bit_at set f) 1)
    go false h =
        let p = bit_at_or set 0 f in
        let k = bit_at-lt set f in
        let z = bit_at-zero f in
        inl (omega (arith, p, k, z, h))

-- a memory of which the cells are those that are there
abbrev pub live : Notes → Memory → Memory
live notes m = record { objects = m.objects; locals = m.locals; cells = live_cells notes m }

module _ (notes : Notes) (m : Memory) (p : CellPlace) (v : Neutral) (z : Field) (here : cell_field notes m p ≡ Some z) where
  abbrev pub after : Memory
  after = live notes (record m { cells = with_cell m.cells p v })

  -- the cell that is stored, and the others
  stored_cell : (q : CellPlace) → same_cell_place p q ≡ true → after.cells q ≡ Some v
  stored_cell q s =
      ap (λ o. if is_some o then with_cell m.cells p v q else None) (ap (cell_field notes m) (sym (one_place p q s)) ∙ here)
      ∙ ap (λ b. if b then Some v else m.cells q) s

  other_cell : (q : CellPlace) → same_cell_place p q ≡ false → after.cells q ≡ (live notes m).cells q
  other_cell q s = ap (λ b. if is_some (cell_field notes m q) then (if b then Some v else m.cells q) else None) s

  pub store_later : (d : ℕ) → Later d (live notes m) after
  store_later d = record {
    objects = λ k o h. h;
    locals = λ e l. refl;
    written = λ e f l h. go e f h (same_cell_place p (FieldOfLocals e f)) refl;
  }
    where
      go : (e f : ℕ) → IsFieldWritten (live notes m) e f → (b : Bool) → same_cell_place p (FieldOfLocals e f) ≡ b → IsFieldWritten after e f
      go e f h true q = record { value = v; is = stored_cell (FieldOfLocals e f) q }
      go e f h false q = record { value = h.value; is = other_cell (FieldOfLocals e f) q ∙ h.is }

  stay : (d : ℕ) → FieldsLater notes d (live notes m) after
  stay d = fields_later notes d (live notes m) after (store_later d)

  -- the cells fit
  pub cells_stored : FitsPlain notes m.objects (content_type z.cell) v → CellsFit notes (live notes m) → CellsFit notes after
  cells_stored f h = record {
    fit = λ q y u g k. fit q y u g k (same_cell_place p q) refl;
    all = λ k i x y g. all k i x y g (same_cell_place p (FieldOf k i x)) refl;
  }
    where
      fit : (q : CellPlace) (y : Field) (u : Neutral) → cell_field notes m q ≡ Some y → after.cells q ≡ Some u → (b : Bool)
          → same_cell_place p q ≡ b → FitsPlain notes m.objects (content_type y.cell) u
      fit q y u g k true s =
          let same : z ≡ y = same_Some z y (sym here ∙ ap (cell_field notes m) (one_place p q s) ∙ g) in
          let is : v ≡ u = same_Some v u (sym (stored_cell q s) ∙ k) in
          subst (λ (i : Field). FitsPlain notes m.objects (content_type i.cell) u) same
          (subst (λ i. FitsPlain notes m.objects (content_type z.cell) i) is f)
      fit q y u g k false s = h.fit q y u g (sym (other_cell q s) ∙ k)

      all : (k i x : ℕ) (y : Field) → cell_field notes m (FieldOf k i x) ≡ Some y → (b : Bool) → same_cell_place p (FieldOf k i x) ≡ b
          → (u : Neutral) × (after.cells (FieldOf k i x) ≡ Some u)
      all k i x y g true s = (v, stored_cell (FieldOf k i x) s)
      all k i x y g false s = let r = h.all k i x y g in (r.0, other_cell (FieldOf k i x) s ∙ r.1)

  -- the frame on top fits the state, a local field that is stored being written
  pub state_stored : (d : ℕ) (f : FunctionFrame) (s : State) (o : Option ℕ) (regs : Registers) (c : Bool) (made : ℕ)
      → ((x : ℕ) → o ≡ Some x → p ≡ FieldOfLocals d x) → FitsState notes (live notes m) d f s regs c made
      → FitsState notes after d f (with_store s o) regs c made
  unfolding with_store
  state_stored d f s None regs c made h g = record {
    registers = λ r a b. fits_later notes d (live notes m) after (stay d) f.saved _ (regs r) (g.registers r a b);
    items = items_later notes d (live notes m) after (stay d) f f.items s.items g.items;
    written = λ x q. (store_later d).written d x (omega arith) (g.written x q);
    made_are = g.made_are;
    fact = λ x e. record { gave = (g.fact x e).gave };
  }
  state_stored d f s (Some x) regs c made h g = record {
    registers = λ r a b. fits_later notes d (live notes m) after (stay d) f.saved _ (regs r) (g.registers r a b);
    items = items_later notes d (live notes m) after (stay d) f f.items s.items g.items;
    written = λ y q. ⊎_elim (λ k. (store_later d).written d y (omega arith) (g.written y k)) (λ e. own y e) (added_field s.written x y q);
    made_are = g.made_are;
    fact = λ y e. record { gave = (g.fact y e).gave };
  }
    where
      own : (y : ℕ) → y ≡ x → IsFieldWritten after d y
      own y e = record {
        value = v;
        is = stored_cell (FieldOfLocals d y) (ap (λ z. same_cell_place z (FieldOfLocals d y)) (h x refl)
            ∙ ap (λ z. same_cell_place (FieldOfLocals d x) (FieldOfLocals d z)) e ∙ own_place d x);
      }
