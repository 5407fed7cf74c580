-- Static objects: those whose layout doesn't depend on the width, which places are relocated, and that the object at a place is found.
use Rattle.step_sound.proofs.Common.{◌≡◌, ℕ, ◌*◌, ◌<◌, Bool, true, false, not, nat_eq, List, Some, refl, sym, ap, ◌∙◌, arith, slice_get}
use Rattle.step_sound.proofs.Common.{⊎_elim, position, Contains, eq-eqb, ne_eqb, eqb-true, true≢false, slice_get_within, slice_get-get_or}
use Rattle.step_sound.proofs.Common.{get_or_from_slice_get, IsRunOf, world_meets, WorldFits, size_at, Static, Field, Shape, Image, depends}
use Rattle.step_sound.proofs.Common.{no_shape, shape_of, World}
use Rattle.std.specs.List.{list_any}
use Rattle.std.proofs.{lemmas.Bool.or_left, lemmas.Bool.or_right, lemmas.List.Folds.list_any_at, Math.Nat.mul-pos}
use Rattle.instruction_laws.proofs.Loaded.{of_any}
use Rattle.rules_image.specs.Images.{has_natural, IsStaticAt}
use Rattle.step_sound.proofs.Thunks.{first_found}

-- ---- layouts that don't depend on the width

-- the units of a shape and of its fields
pub units_none : (S : Shape) → depends S ≡ false → S.n ≡ 0
units_none S e = go (nat_eq S.n 0) refl
  where
    go : (b : Bool) → nat_eq S.n 0 ≡ b → S.n ≡ 0
    go true q = eqb-true S.n 0 q
    go false q = absurd (true≢false (sym (or_left (not (nat_eq S.n 0)) (list_any has_natural S.fields) (ap not q)) ∙ e))

pub field_units : (S : Shape) (f : ℕ) (z : Field) → depends S ≡ false → slice_get S.fields f ≡ Some z → z.n ≡ 0
field_units S f z e g = go (nat_eq z.n 0) refl
  where
    go : (b : Bool) → nat_eq z.n 0 ≡ b → z.n ≡ 0
    go true q = eqb-true z.n 0 q
    go false q =
        let has : has_natural z ≡ true = or_left (not (nat_eq z.n 0)) _ (ap not q) in
        let any : list_any has_natural S.fields ≡ true = list_any_at has_natural S.fields f z (slice_get_within S.fields f z g)
        (ap has_natural (get_or_from_slice_get S.fields f z z g) ∙ has) in
        absurd (true≢false (sym (or_right (not (nat_eq S.n 0)) (list_any has_natural S.fields) any) ∙ e))

-- ---- relocated places

pub unlisted : (xs : List ℕ) (p : ℕ) → (Contains xs p → ⊥) → list_any (nat_eq p) xs ≡ false
unlisted xs p away = go (list_any (nat_eq p) xs) refl
  where
    go : (b : Bool) → list_any (nat_eq p) xs ≡ b → list_any (nat_eq p) xs ≡ false
    go true e = absurd (away (of_any xs p e))
    go false e = e

-- ---- static objects

module _ (image : Image) (world : World) (run : IsRunOf image world) where
  fits : WorldFits world
  fits = world_meets image world run

  -- the static object at a place is found by it
  pub static_found : (place s count : ℕ) (at : IsStaticAt world.notes place s count)
      → position (λ (x : Static). nat_eq x.place place) world.notes.statics ≡ Some at.k
  static_found place s count at = first_found (λ (x : Static). nat_eq x.place place) world.notes.statics at.k at.x at.there
      (eq-eqb at.x.place place at.place_is) before
    where
      positive : (k : ℕ) (x : Static) → slice_get world.notes.statics k ≡ Some x → 0 < x.count * size_at 8 (shape_of world.notes x.shape)
      positive k x g =
          let n = run.notes.statics k x g in
          let shape = run.shapes x.shape (shape_of world.notes x.shape) (slice_get-get_or world.notes.shape x.shape no_shape n.shape) in
          mul-pos n.count.0 shape.at8.positive

      before : (j : ℕ) (y : Static) → j < at.k → slice_get world.notes.statics j ≡ Some y → nat_eq y.place place ≡ false
      before j y l g = ne_eqb y.place place (λ e.
          let off = fits.statics_apart j at.k y at.x g at.there (λ q. omega (arith, q, l)) in
          let a = positive j y g in
          let b = positive at.k at.x at.there in
          let c = at.place_is in
          ⊎_elim (λ x. omega (arith, x, a, c, e)) (λ x. omega (arith, x, b, c, e)) off)
