-- Two cells share no byte, said of their places.
use Rattle.neutral_machine.proofs.Common.{◌≡◌, ◌+◌, ◌≤◌, ◌⊎◌, ℕ, Bool, true, false, nat_eq, refl, ap₂, eqb-true, and_parts, false≢true}
use Rattle.neutral_machine.proofs.Common.{cell_size, CellPlace, FieldOf, FieldOfLocals, same_cell_place}
use Rattle.neutral_machine.specs.Laws.{CellsApart}
use Rattle.neutral_machine.proofs.Cells.{cells_off}

-- the test of two places answers true only for one
pub one_place : (p q : CellPlace) → same_cell_place p q ≡ true → p ≡ q
one_place (FieldOf k i f) (FieldOf l j g) e =
    let a = and_parts (nat_eq k l) _ e in
    let b = and_parts (nat_eq i j) _ a.1 in
    path k l i j f g (eqb-true k l a.0) (eqb-true i j b.0) (eqb-true f g b.1)
  where
    path : (k l i j f g : ℕ) → k ≡ l → i ≡ j → f ≡ g → FieldOf k i f ≡ FieldOf l j g
    path k l i j f g a b c = ap₂ (λ u (v : ℕ × ℕ). FieldOf u v.0 v.1) a (ap₂ (λ u v. (u, v)) b c)
one_place (FieldOfLocals d f) (FieldOfLocals e g) h =
    let a = and_parts (nat_eq d e) _ h in ap₂ FieldOfLocals (eqb-true d e a.0) (eqb-true f g a.1)
one_place (FieldOf k i f) (FieldOfLocals e g) h = absurd (false≢true h)
one_place (FieldOfLocals d f) (FieldOf l j g) h = absurd (false≢true h)

pub cells_apart : CellsApart
cells_apart w world P a p q y z x u h pl ok room own s t ne d e = go (same_cell_place p q) refl
  where
    go : (b : Bool) → same_cell_place p q ≡ b → (x + cell_size w y.cell ≤ u) ⊎ (u + cell_size w z.cell ≤ x)
    go true b = absurd (ne (one_place p q b))
    go false b = cells_off w world P h ok pl a p q y z x u room own b s t d e
