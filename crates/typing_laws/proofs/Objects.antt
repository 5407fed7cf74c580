-- Typed objects: small ones of well-formed shapes, and where their instances start.
use Rattle.typing_laws.proofs.Common.{◌≡◌, ℕ, suc, ◌+◌, ◌*◌, ◌/◌, ◌^◌, ◌<◌, ◌≤◌, true, ◌&&◌, if◌then◌else◌, nat_lt, nat_eq, List, Option}
use Rattle.typing_laws.proofs.Common.{Some, None, slice_get, ap, ap₂, ◌∙◌, subst, arith, pos, mul-le-mul_right, lt-ltb, eq-eqb, and_from}
use Rattle.typing_laws.proofs.Common.{div-mul-add, wrap64, IsShape, size_at, Notes, Shape, ObjectOf, Neutral, At, word, shape_of}
use Rattle.typing_laws.proofs.Common.{TypedObject, IsPointer, Instance, instance_at, instance_of, is_kept_at}
use Rattle.host_model.specs.Placements.{object_bytes}
use Rattle.neutral_machine.specs.Operations.{starts_if, extent_if}

-- objects have well-formed shapes and are small
pub record ObjectsFit (notes : Notes) (objects : List TypedObject) : Type 0 where
  pub shaped : (k : ℕ) (o : TypedObject) → slice_get objects k ≡ Some o → IsShape (shape_of notes o.shape)
  pub small : (k : ℕ) (o : TypedObject) → slice_get objects k ≡ Some o → object_bytes 8 notes o < 2 ^ 32

-- ---- the start of an instance

-- what is known of the start of instance j of an object
pub record StartOf (j count n c : ℕ) : Type 0 where
  pub units : j * n < 2 ^ 32
  pub bytes : j * c < 2 ^ 32
  pub inside : j * n * 4 + j * c < count * (n * 4 + c)
  pub is : j * n * 4 + j * c ≡ j * (n * 4 + c)
  pub most : count * (n * 4 + c) < 2 ^ 32

start_of : (j count n c : ℕ) → j < count → 0 < n * 4 + c → count * (n * 8 + c) < 2 ^ 32 → StartOf j count n c
start_of j count n c l p h =
    let a : suc j * (n * 4 + c) ≤ count * (n * 4 + c) = mul-le-mul_right (n * 4 + c) l in
    let b : suc j * (n * 8 + c) ≤ count * (n * 8 + c) = mul-le-mul_right (n * 8 + c) l in
    let e1 : suc j * (n * 4 + c) ≡ j * n * 4 + j * c + (n * 4 + c) = omega arith in
    let e2 : suc j * (n * 8 + c) ≡ j * n * 8 + j * c + (n * 8 + c) = omega arith in
    let e3 : count * (n * 8 + c) ≡ count * (n * 4 + c) + count * n * 4 = omega arith in
    record {
      units = omega (arith, b, e2, h);
      bytes = omega (arith, b, e2, h);
      inside = omega (arith, a, e1, p);
      is = omega arith;
      most = omega (arith, e3, h);
    }

module _ (notes : Notes) (objects : List TypedObject) (ok : ObjectsFit notes objects) where
  -- the start of an instance that a pointer's value is
  pub record Start (s count : ℕ) (v : Neutral) : Type 0 where
    pub k : ℕ
    pub j : ℕ
    pub object : TypedObject
    pub there : slice_get objects k ≡ Some object
    pub shape : object.shape ≡ s
    pub room : j + count ≤ object.count
    pub is : v ≡ At (ObjectOf k) (j * (shape_of notes s).n) (j * (shape_of notes s).c)
    pub start : StartOf j object.count (shape_of notes s).n (shape_of notes s).c
    pub positive : 0 < size_at 4 (shape_of notes s)

  pub start_is : (s count : ℕ) (v : Neutral) → 1 ≤ count → IsPointer notes objects s count (pos 0) (pos 0) v → Start s count v
  start_is s count v l f =
      let S = shape_of notes s in
      let well : IsShape S = subst (λ i. IsShape (shape_of notes i)) f.shape (ok.shaped f.k f.object f.there) in
      let small : f.object.count * size_at 8 S < 2 ^ 32 = subst (λ i. f.object.count * size_at 8 (shape_of notes i) < 2 ^ 32) f.shape
      (ok.small f.k f.object f.there) in
      let st = start_of f.j f.object.count S.n S.c (omega (arith, f.room, l)) well.at4.positive small in
      record {
        k = f.k;
        j = f.j;
        object = f.object;
        there = f.there;
        shape = f.shape;
        room = f.room;
        is = f.is ∙ ap₂ (At (ObjectOf f.k)) (let e : word (f.j * S.n + wrap64 (pos 0)) ≡ f.j * S.n = omega (arith, st.units) in e)
            (let e : word (f.j * S.c + wrap64 (pos 0)) ≡ f.j * S.c = omega (arith, st.bytes) in e);
        start = st;
        positive = well.at4.positive;
      }

  -- natural size keeps it
  pub start_kept : (s count : ℕ) (v : Neutral) (q : Start s count v)
      → is_kept_at notes objects (ObjectOf q.k) (q.j * (shape_of notes s).n) (q.j * (shape_of notes s).c) ≡ true
  start_kept s count v q =
      let e : extent_if notes (slice_get objects q.k) ≡ q.object.count * size_at 4 (shape_of notes s) = ap (extent_if notes) q.there
      ∙ ap (λ i. q.object.count * size_at 4 (shape_of notes i)) q.shape in
      lt-ltb _ _ (omega (arith, e, q.start.inside, q.start.most))

  -- it is the start of that instance
  pub instance_is : (s count : ℕ) (v : Neutral) (q : Start s count v) → 1 ≤ count
      → instance_of notes objects v ≡ Some (record { object = q.k; instance = q.j })
  unfolding instance_of
  instance_is s count v q l =
      ap (instance_of notes objects) q.is ∙ ap (starts_if notes q.k (q.j * (shape_of notes s).n) (q.j * (shape_of notes s).c)) q.there
      ∙ ap (λ i. body (shape_of notes i)) q.shape ∙ ap found (quotient q.j (shape_of notes s).n (shape_of notes s).c q.positive
      (omega (arith, q.start.inside, q.start.most)))
      ∙ ap (λ b. if b then Some (record { object = q.k; instance = q.j }) else None) yes_found
    where
      body : Shape → Option Instance
      body z =
          let i = instance_at z (q.j * (shape_of notes s).n) (q.j * (shape_of notes s).c) in
          if nat_lt i q.object.count && (nat_eq (q.j * (shape_of notes s).n) (word (i * z.n))
          && nat_eq (q.j * (shape_of notes s).c) (word (i * z.c))) then Some (record { object = q.k; instance = i }) else None

      found : ℕ → Option Instance
      found i =
          if nat_lt i q.object.count && (nat_eq (q.j * (shape_of notes s).n) (word (i * (shape_of notes s).n))
          && nat_eq (q.j * (shape_of notes s).c) (word (i * (shape_of notes s).c))) then Some (record { object = q.k; instance = i })
          else None

      same_word : (x : ℕ) → x < 2 ^ 32 → nat_eq x (word x) ≡ true
      same_word x l = eq-eqb x (word x) (omega (arith, l))

      yes_found : (nat_lt q.j q.object.count && (nat_eq (q.j * (shape_of notes s).n) (word (q.j * (shape_of notes s).n))
          && nat_eq (q.j * (shape_of notes s).c) (word (q.j * (shape_of notes s).c)))) ≡ true
      yes_found = and_from _ _ (lt-ltb q.j q.object.count (omega (arith, q.room, l)))
          (and_from _ _ (same_word (q.j * (shape_of notes s).n) q.start.units) (same_word (q.j * (shape_of notes s).c) q.start.bytes))

      quotient : (j n c : ℕ) → 0 < n * 4 + c → j * n * 4 + j * c < 2 ^ 32 → word (j * n * 4 + j * c) / (n * 4 + c) ≡ j
      quotient j n c p l =
          let e : word (j * n * 4 + j * c) ≡ j * (n * 4 + c) + 0 = omega (arith, l) in
          ap (λ z. z / (n * 4 + c)) e ∙ div-mul-add j (n * 4 + c) 0 p
