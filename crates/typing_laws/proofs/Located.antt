-- A field of an instance is what its exact pair names.
use Rattle.typing_laws.proofs.Common.{◌≡◌, ℕ, zero, suc, ◌+◌, ◌*◌, ◌/◌, ◌^◌, ◌<◌, ◌≤◌, Bool, true, false, if◌then◌else◌, nat_lt, nat_eq}
use Rattle.typing_laws.proofs.Common.{List, [], ◌∷◌, Option, Some, None, slice_get, refl, sym, ap, ap₂, ◌∙◌, arith, ⊎_elim, option_map}
use Rattle.typing_laws.proofs.Common.{option_and_then, mul-le-mul_right, lt-ltb, eq-eqb, and_from, and_parts, eqb-true, cases_Bool}
use Rattle.typing_laws.proofs.Common.{div-mul-add, same_Some, none-some, IsShape, size_at, Cell, Notes, Field, Shape, ObjectOf, At}
use Rattle.typing_laws.proofs.Common.{CellPlace, FieldOf, word, shape_of, TypedObject, instance_at, CellAt, find_field, located_past}
use Rattle.note_types.specs.Cells.{cell_size}
use Rattle.neutral_machine.specs.Locations.{is_field, cell_in}
use Rattle.typing_laws.proofs.Objects.{ObjectsFit}

-- the first field that meets a test
pub find_first : (t : Field → Bool) (f : ℕ) (xs : List Field) (i : ℕ) (z : Field) → slice_get xs i ≡ Some z → t z ≡ true
    → ((k : ℕ) (y : Field) → k < i → slice_get xs k ≡ Some y → t y ≡ false) → find_field t f xs ≡ Some (f + i)
find_first t f [] i z e h u = absurd (none-some z e)
find_first t f (x ∷ xs) zero z e h u =
    let same : x ≡ z = same_Some x z e in
    ap (λ b. if b then Some f else find_field t (suc f) xs) (ap t same ∙ h) ∙ ap Some (omega arith)
find_first t f (x ∷ xs) (suc i) z e h u =
    ap (λ b. if b then Some f else find_field t (suc f) xs) (u 0 x (omega arith) refl)
    ∙ find_first t (suc f) xs i z e h (λ k y l g. u (suc k) y (omega (arith, l)) g) ∙ ap Some (omega arith)

pub cell_positive : (c : Cell) → 0 < cell_size 4 c
cell_positive Cell.I8 = omega arith
cell_positive c = omega arith

-- a pair of instance j that is small
pub record SmallPair (j n c p q : ℕ) : Type 0 where
  pub units : j * n + p < 2 ^ 32
  pub bytes : j * c + q < 2 ^ 32
  pub whole : word ((j * n + p) * 4 + (j * c + q)) ≡ j * (n * 4 + c) + (p * 4 + q)

small_pair : (j count n c p q : ℕ) → j < count → count * (n * 8 + c) < 2 ^ 32 → p * 8 + q ≤ n * 8 + c → SmallPair j n c p q
small_pair j count n c p q l h r =
    let b : suc j * (n * 8 + c) ≤ count * (n * 8 + c) = mul-le-mul_right (n * 8 + c) l in
    let e : suc j * (n * 8 + c) ≡ j * n * 8 + j * c + (n * 8 + c) = omega arith in
    let s : j * (n * 4 + c) ≡ j * n * 4 + j * c = omega arith in
    record { units = omega (arith, b, e, h, r); bytes = omega (arith, b, e, h, r); whole = omega (arith, b, e, h, r, s) }

module _ (notes : Notes) (objects : List TypedObject) (ok : ObjectsFit notes objects) where
  -- the fields of a shape before one of them have other pairs
  abbrev pub IsFirstAt : Shape → ℕ → Field → Type 0
  IsFirstAt s i z = (k : ℕ) (y : Field) → k < i → slice_get s.fields k ≡ Some y → y.n ≡ z.n → y.c ≡ z.c → ⊥

  -- A field of an instance is what its exact pair names.
  pub field_located : (k j i : ℕ) (o : TypedObject) (z : Field) → slice_get objects k ≡ Some o → j < o.count
      → slice_get (shape_of notes o.shape).fields i ≡ Some z → IsFirstAt (shape_of notes o.shape) i z
      → located_past notes objects (At (ObjectOf k) (word (j * (shape_of notes o.shape).n + z.n))
      (word (j * (shape_of notes o.shape).c + z.c))) ≡ Some (CellAt (FieldOf k j i))
  unfolding located_past
  field_located k j i o z e l g first =
      ap (λ x. option_map CellAt (option_and_then (cell_in notes k (word (j * S.n + z.n)) (word (j * S.c + z.c))) x)) e
      ∙ ap (option_map CellAt) (ap found quotient ∙ ap (λ b. if b then option_map (FieldOf k j) (find_field test 0 S.fields) else None)
      (lt-ltb j o.count l) ∙ ap (option_map (FieldOf k j)) (find_first test 0 S.fields i z g (passes z refl refl) others
      ∙ ap Some (let e0 : 0 + i ≡ i = omega arith in e0)))
    where
      S : Shape
      S = shape_of notes o.shape

      well : IsShape S
      well = ok.shaped k o e

      small : o.count * size_at 8 S < 2 ^ 32
      small = ok.small k o e

      inside8 : (h : ℕ) (y : Field) → slice_get S.fields h ≡ Some y → y.n * 8 + y.c ≤ S.n * 8 + S.c
      inside8 h y q = let r = well.at8.inside h y q in omega (arith, r)

      pair_small : (h : ℕ) (y : Field) → slice_get S.fields h ≡ Some y → SmallPair j S.n S.c y.n y.c
      pair_small h y q = small_pair j o.count S.n S.c y.n y.c l small (inside8 h y q)

      found : ℕ → Option (CellPlace)
      found x = if nat_lt x o.count then option_map (FieldOf k x)
          (find_field (is_field S x (word (j * S.n + z.n)) (word (j * S.c + z.c))) 0 S.fields) else None

      quotient : instance_at S (word (j * S.n + z.n)) (word (j * S.c + z.c)) ≡ j
      quotient = let p = pair_small i z g in
          let r = well.at4.inside i z g in
          let c = cell_positive z.cell in
          let e1 : word (j * S.n + z.n) ≡ j * S.n + z.n = omega (arith, p.units) in
          let e2 : word (j * S.c + z.c) ≡ j * S.c + z.c = omega (arith, p.bytes) in
          ap₂ (λ x y. word (x * 4 + y) / size_at 4 S) e1 e2 ∙ ap (λ x. x / size_at 4 S) p.whole
          ∙ div-mul-add j (size_at 4 S) (z.n * 4 + z.c) (omega (arith, r, c))

      test : Field → Bool
      test y = is_field S j (word (j * S.n + z.n)) (word (j * S.c + z.c)) y

      passes : (y : Field) → y.n ≡ z.n → y.c ≡ z.c → test y ≡ true
      passes y p q = and_from _ _ (eq-eqb _ _ (ap (λ x. word (j * S.n + x)) (sym p))) (eq-eqb _ _ (ap (λ x. word (j * S.c + x)) (sym q)))

      others : (h : ℕ) (y : Field) → h < i → slice_get S.fields h ≡ Some y → test y ≡ false
      others h y less q = ⊎_elim (λ t. absurd (clash t)) (λ t. t) (cases_Bool (test y))
        where
          clash : test y ≡ true → ⊥
          clash t =
              let a = and_parts (nat_eq (word (j * S.n + z.n)) (word (j * S.n + y.n)))
              (nat_eq (word (j * S.c + z.c)) (word (j * S.c + y.c))) t in
              let n1 = eqb-true _ _ a.0 in
              let c1 = eqb-true _ _ a.1 in
              let p = pair_small i z g in
              let r = pair_small h y q in
              first h y less q (omega (arith, n1, p.units, r.units)) (omega (arith, c1, p.bytes, r.bytes))
