-- What the rules say that lies on the stack is what the neutral machine finds there: a local field or a parameter.
use Rattle.typing_laws.proofs.Common.{◌≡◌, ℕ, suc, ◌+◌, ◌-◌, ◌<◌, ◌≤◌, ◌⊎◌, Bool, true, false, ◌&&◌, if◌then◌else◌, nat_lt, nat_le, nat_eq}
use Rattle.typing_laws.proofs.Common.{List, [], ◌∷◌, Option, Some, None, slice_get, refl, sym, ap, ◌∙◌, arith, inl, inr, ⊎_elim, option_map}
use Rattle.typing_laws.proofs.Common.{option_and_then, pos, AllZip, leb-true, eq-eqb, and_from, and_parts, eqb-true, true≢false, cases_Bool}
use Rattle.typing_laws.proofs.Common.{same_Some, none-some, IsShape, Cell, SlotKind, N, Q, D, Item, Notes, Pair, Param, Field, Shape, Place}
use Rattle.typing_laws.proofs.Common.{option_or, and_then, cell_of, stack_at, field_number_at, Neutral, FieldOfLocals, StackItem, Pushed}
use Rattle.typing_laws.proofs.Common.{LocalsOf, FunctionFrame, frame_locals, Memory, Fits, ItemFits, ParamFits, Location, CellAt, ParamAt}
use Rattle.typing_laws.proofs.Common.{Offset, find_field, item_units, item_bytes, located_among}
use Rattle.rules_base.specs.Places.{local_at, past, slot_size}
use Rattle.neutral_machine.specs.Locations.{parameter_at}
use Rattle.typing_laws.proofs.{Rows.then_some, Rows.if_some, Rows.when_some, Located.find_first, Located.cell_positive, Pointed.FieldFound}
use Rattle.typing_laws.proofs.{Pointed.field_found, Pointed.CellThere}
use Rattle.rules_base.specs.Places as rules

-- no field meets a test
find_none : (t : Field → Bool) (f : ℕ) (xs : List Field) → ((k : ℕ) (y : Field) → slice_get xs k ≡ Some y → t y ≡ false)
    → find_field t f xs ≡ None
find_none t f [] u = refl
find_none t f (x ∷ xs) u =
    ap (λ b. if b then Some f else find_field t (suc f) xs) (u 0 x refl) ∙ find_none t (suc f) xs (λ k y g. u (suc k) y g)

pub units_are : (k l : SlotKind) (v : Neutral) → k ≡ l → (item_units (Pushed k v) ≡ (slot_size l).n)
    × (item_bytes (Pushed k v) ≡ (slot_size l).c)
units_are N N v e = (refl, refl)
units_are Q Q v e = (refl, refl)
units_are D D v e = (refl, refl)
units_are c t v e = absurd cc

pub same_pos : (a b : ℕ) → pos a ≡ pos b → a ≡ b
same_pos a b e = cc

-- what lies past a size
past_some : {P : Type 0} (size : Pair) (n c : ℕ) (rest : ℕ → ℕ → Option Place) (p : Place) → past size n c rest ≡ Some p
    → (size.n ≤ n → size.c ≤ c → rest (n - size.n) (c - size.c) ≡ Some p → P) → P
past_some size n c rest p h k = when_some (nat_le size.n n && nat_le size.c c) _ p h (λ e g.
    let q = and_parts (nat_le size.n n) (nat_le size.c c) e in
    k (leb-true _ _ q.0) (leb-true _ _ q.1) g)

-- the locals are among these items
abbrev pub any_locals : List StackItem → Bool
any_locals [] = false
any_locals (Pushed kind v ∷ is) = any_locals is
any_locals (LocalsOf s ∷ is) = true

module _ (notes : Notes) (m : Memory) (d : ℕ) (f : FunctionFrame) (Good : Param → Type 0) where
  -- ---- parameters

  -- a parameter found in a slot
  pub record ParamNamed (is : List StackItem) (j : ℕ) (p : Place) (l : Option Location) : Type 0 where
    pub i : ℕ
    pub param : Param
    pub value : Neutral
    pub located : l ≡ Some (ParamAt (j + i))
    pub there : slice_get is i ≡ Some (Pushed param.kind value)
    pub place_is : p ≡ Place.Parameter param.kind param.ty
    pub fits : Fits notes m d f.saved param.ty value
    pub good : Good param

  param_named : (at : Offset) (j n0 c0 n c : ℕ) (is : List StackItem) (ps : List Param) (p : Place)
      → ((k : ℕ) (q : Param) → slice_get ps k ≡ Some q → Good q) → at.n ≡ n0 + n → at.c ≡ c0 + c → AllZip (ParamFits notes m d f) is ps
      → rules.parameter_at ps n c ≡ Some p → ParamNamed is j p (parameter_at at j n0 c0 is)
  unfolding rules.parameter_at
  param_named at j n0 c0 n c is [] p ok en ec z h = absurd (none-some p h)
  param_named at j n0 c0 n c [] (q ∷ ps) p ok en ec z h = absurd z
  param_named at j n0 c0 n c (LocalsOf s ∷ is) (q ∷ ps) p ok en ec z h = absurd z.0
  param_named at j n0 c0 n c (Pushed kind v ∷ is) (q ∷ ps) p ok en ec z h =
      go (λ n1 c1 a b y. param_named at (suc j) (n0 + item_units (Pushed kind v)) (c0 + item_bytes (Pushed kind v)) n1 c1 is ps p
      (λ k q e. ok (suc k) q e) a b z.1 y) (nat_eq n 0 && nat_eq c 0) refl h
    where
      u : (item_units (Pushed kind v) ≡ (slot_size q.kind).n) × (item_bytes (Pushed kind v) ≡ (slot_size q.kind).c)
      u = units_are kind q.kind v z.0.0

      here : (b : Bool) → (nat_eq at.n n0 && nat_eq at.c c0) ≡ b
          → (if b then Some (ParamAt j) else parameter_at at (suc j) (n0 + item_units (Pushed kind v))
          (c0 + item_bytes (Pushed kind v)) is) ≡ parameter_at at j n0 c0 (Pushed kind v ∷ is)
      here b e = ap (λ t. if t then Some (ParamAt j) else parameter_at at (suc j) (n0 + item_units (Pushed kind v))
          (c0 + item_bytes (Pushed kind v)) is) (sym e)

      next : (nat_eq at.n n0 && nat_eq at.c c0) ≡ false → ParamNamed is (suc j) p
          (parameter_at at (suc j) (n0 + item_units (Pushed kind v)) (c0 + item_bytes (Pushed kind v)) is)
          → ParamNamed (Pushed kind v ∷ is) j p (parameter_at at j n0 c0 (Pushed kind v ∷ is))
      next e r = record {
        i = suc r.i;
        param = r.param;
        value = r.value;
        located = sym (here false e) ∙ r.located ∙ ap (λ x. Some (ParamAt x)) (let y : suc j + r.i ≡ j + suc r.i = omega arith in y);
        there = r.there;
        place_is = r.place_is;
        fits = r.fits;
        good = r.good;
      }

      apart : (nat_eq n 0 && nat_eq c 0) ≡ false → (nat_eq at.n n0 && nat_eq at.c c0) ≡ false
      apart e = ⊎_elim (λ t. absurd (true≢false (sym (same t) ∙ e))) (λ t. t) (cases_Bool (nat_eq at.n n0 && nat_eq at.c c0))
        where
          same : (nat_eq at.n n0 && nat_eq at.c c0) ≡ true → (nat_eq n 0 && nat_eq c 0) ≡ true
          same t =
              let w = and_parts (nat_eq at.n n0) (nat_eq at.c c0) t in
              let a = eqb-true at.n n0 w.0 in
              let b = eqb-true at.c c0 w.1 in
              and_from _ _ (eq-eqb n 0 (omega (arith, a, en))) (eq-eqb c 0 (omega (arith, b, ec)))

      go : ((n1 c1 : ℕ) → at.n ≡ n0 + item_units (Pushed kind v) + n1 → at.c ≡ c0 + item_bytes (Pushed kind v) + c1
          → rules.parameter_at ps n1 c1 ≡ Some p → ParamNamed is (suc j) p
          (parameter_at at (suc j) (n0 + item_units (Pushed kind v)) (c0 + item_bytes (Pushed kind v)) is)) → (b : Bool)
          → (nat_eq n 0 && nat_eq c 0) ≡ b → (if b then Some (Place.Parameter q.kind q.ty)
          else past (slot_size q.kind) n c (rules.parameter_at ps)) ≡ Some p
          → ParamNamed (Pushed kind v ∷ is) j p (parameter_at at j n0 c0 (Pushed kind v ∷ is))
      go again true e g =
          let w = and_parts (nat_eq n 0) (nat_eq c 0) e in
          let a = eqb-true n 0 w.0 in
          let b = eqb-true c 0 w.1 in
          record {
            i = 0;
            param = q;
            value = v;
            located = sym (here true (and_from _ _ (eq-eqb at.n n0 (omega (arith, a, en))) (eq-eqb at.c c0 (omega (arith, b, ec)))))
                ∙ ap (λ x. Some (ParamAt x)) (let y : j ≡ j + 0 = omega arith in y);
            there = ap (λ x. Some (Pushed x v)) z.0.0;
            place_is = sym (same_Some _ p g);
            fits = z.0.1;
            good = ok 0 q refl;
          }
      go again false e g = past_some (slot_size q.kind) n c (rules.parameter_at ps) p g (λ l r y.
          let u0 = u.0 in
          let u1 = u.1 in
          next (apart e) (again (n - (slot_size q.kind).n) (c - (slot_size q.kind).c) (omega (arith, en, u0, l))
          (omega (arith, ec, u1, r)) y))

  -- ---- locals and parameters

  -- what the rules say lies there is found there
  pub record OnStack (params : List StackItem) (p : Place) (l : Location) : Type 0 where
    pub names : ((x : ℕ) × (cell : Cell) × (p ≡ Place.Local x cell) × (l ≡ CellAt (FieldOfLocals d x))
        × CellThere notes m d (FieldOfLocals d x) cell)
        ⊎ ((j : ℕ) × (q : Param) × (v : Neutral) × (p ≡ Place.Parameter q.kind q.ty) × (l ≡ ParamAt j)
        × (slice_get params j ≡ Some (Pushed q.kind v)) × Fits notes m d f.saved q.ty v × Good q)

  module _ (fields : List Field) (size : Pair) (same : (s : Shape) → frame_locals notes f.func ≡ Some s → (fields ≡ s.fields)
      × (size.n ≡ s.n) × (size.c ≡ s.c) × IsShape s) (params : List StackItem) (ps : List Param)
      (z : AllZip (ParamFits notes m d f) params ps) (good : (k : ℕ) (q : Param) → slice_get ps k ≡ Some q → Good q) where
    pub stack_named : (at : Offset) (n0 c0 n c : ℕ) (is : List StackItem) (xs : List Item) (p : Place)
        → (any_locals is ≡ true → m.locals d ≡ frame_locals notes f.func) → at.n ≡ n0 + n → at.c ≡ c0 + c
        → AllZip (ItemFits notes m d f) is xs → stack_at fields size ps xs n c ≡ Some p → (l : Location)
        × (located_among at d n0 c0 params is ≡ Some l) × OnStack params p l
    unfolding stack_at cell_of
    stack_named at n0 c0 n c [] [] p has en ec g h = go (nat_le 16 c) refl h
      where
        go : (b : Bool) → nat_le 16 c ≡ b → (if b then rules.parameter_at ps n (c - 16) else None) ≡ Some p → (l : Location)
            × (parameter_at at 0 n0 (c0 + 16) params ≡ Some l) × OnStack params p l
        go false e h = absurd (none-some p h)
        go true e h =
            let l = leb-true 16 c e in
            let r = param_named at 0 n0 (c0 + 16) n (c - 16) params ps p good en (omega (arith, ec, l)) z h in (
              ParamAt r.i,
              r.located ∙ ap (λ x. Some (ParamAt x)) (let e0 : 0 + r.i ≡ r.i = omega arith in e0),
              record { names = inr (r.i, r.param, r.value, r.place_is, refl, r.there, r.fits, r.good) },
            )
    stack_named at n0 c0 n c (Pushed kind v ∷ is) (Item.Slot k t ∷ xs) p has en ec g h =
        past_some (slot_size k) n c (stack_at fields size ps xs) p h (λ l r y.
        let u = units_are kind k v g.0.0 in
        let u0 = u.0 in
        let u1 = u.1 in
        stack_named at (n0 + item_units (Pushed kind v)) (c0 + item_bytes (Pushed kind v)) (n - (slot_size k).n)
        (c - (slot_size k).c) is xs p has (omega (arith, en, u0, l)) (omega (arith, ec, u1, r)) g.1 y)
    stack_named at n0 c0 n c (LocalsOf s ∷ is) (Item.Locals ∷ xs) p has en ec g h =
        go (λ n1 c1 a b y. stack_named at (n0 + s.n) (c0 + s.c) n1 c1 is xs p (λ _. has refl) a b g.1 y) (local_at fields n c) refl h
      where
        facts : (fields ≡ s.fields) × (size.n ≡ s.n) × (size.c ≡ s.c) × IsShape s
        facts = same s g.0

        test : Field → Bool
        test y = nat_eq at.n (n0 + y.n) && nat_eq at.c (c0 + y.c)

        locals : m.locals d ≡ Some s
        locals = has refl ∙ g.0

        -- the field at the pair
        first : (i : ℕ) (y : Field) → FieldFound fields (record { n = pos n; c = pos c }) i y → find_field test 0 s.fields ≡ Some i
        first i y r =
            let en1 : y.n ≡ n = same_pos y.n n r.units in
            let ec1 : y.c ≡ c = same_pos y.c c r.bytes in
            find_first test 0 s.fields i y (ap (λ q. slice_get q i) (sym facts.0) ∙ r.get)
            (and_from _ _ (eq-eqb at.n (n0 + y.n) (omega (arith, en, en1))) (eq-eqb at.c (c0 + y.c) (omega (arith, ec, ec1))))
            (λ k w l q. ⊎_elim (λ t. absurd (clash k w l q en1 ec1 t)) (λ t. t) (cases_Bool (test w)))
            ∙ ap Some (let e0 : 0 + i ≡ i = omega arith in e0)
          where
            clash : (k : ℕ) (w : Field) → k < i → slice_get s.fields k ≡ Some w → y.n ≡ n → y.c ≡ c → test w ≡ true → ⊥
            clash k w l q en1 ec1 t =
                let a = and_parts (nat_eq at.n (n0 + w.n)) (nat_eq at.c (c0 + w.c)) t in
                let x1 = eqb-true _ _ a.0 in
                let x2 = eqb-true _ _ a.1 in
                r.first k w l (ap (λ i. slice_get i k) facts.0 ∙ q) (omega (arith, x1, en, en1)) (omega (arith, x2, ec, ec1))

        found : (i : ℕ) (y : Field) → FieldFound fields (record { n = pos n; c = pos c }) i y → p ≡ Place.Local i y.cell → (l : Location)
            × (located_among at d n0 c0 params (LocalsOf s ∷ is) ≡ Some l) × OnStack params p l
        found i y r e = (
          CellAt (FieldOfLocals d i),
          ap (λ q. option_or (option_map (λ f. CellAt (FieldOfLocals d f)) q) (located_among at d (n0 + s.n) (c0 + s.c) params is))
              (first i y r),
          record {
            names = inl (
              i,
              y.cell,
              e,
              refl,
              record {
                field = y;
                there = ap (option_and_then (λ (q : Shape). slice_get q.fields i)) locals ∙ ap (λ q. slice_get q i) (sym facts.0)
                    ∙ r.get;
                cell_is = refl;
              },
            );
          },
        )

        -- nothing of the locals is past them
        none : s.n ≤ n → s.c ≤ c → find_field test 0 s.fields ≡ None
        none l r = find_none test 0 s.fields (λ k y q. ⊎_elim (λ t. absurd (clash k y q t)) (λ t. t) (cases_Bool (test y)))
          where
            clash : (k : ℕ) (y : Field) → slice_get s.fields k ≡ Some y → test y ≡ true → ⊥
            clash k y q t =
                let a = and_parts (nat_eq at.n (n0 + y.n)) (nat_eq at.c (c0 + y.c)) t in
                let x1 = eqb-true _ _ a.0 in
                let x2 = eqb-true _ _ a.1 in
                let i = facts.3.at4.inside k y q in
                let w = cell_positive y.cell in
                omega (arith, x1, x2, i, w, en, ec, l, r)

        beyond : ((n1 c1 : ℕ) → at.n ≡ n0 + s.n + n1 → at.c ≡ c0 + s.c + c1 → stack_at fields size ps xs n1 c1 ≡ Some p → (l : Location)
            × (located_among at d (n0 + s.n) (c0 + s.c) params is ≡ Some l) × OnStack params p l)
            → past size n c (stack_at fields size ps xs) ≡ Some p → (l : Location)
            × (located_among at d n0 c0 params (LocalsOf s ∷ is) ≡ Some l) × OnStack params p l
        beyond again h = past_some size n c (stack_at fields size ps xs) p h (λ l r y.
            let f1 = facts.1 in
            let f2 = facts.2 in
            let rest = again (n - size.n) (c - size.c) (omega (arith, en, f1, l)) (omega (arith, ec, f2, r)) y in (
              rest.0,
              ap (λ q. option_or (option_map (λ f. CellAt (FieldOfLocals d f)) q)
                  (located_among at d (n0 + s.n) (c0 + s.c) params is)) (none (omega (arith, f1, l)) (omega (arith, f2, r)))
                  ∙ rest.1,
              rest.2,
            ))

        go : ((n1 c1 : ℕ) → at.n ≡ n0 + s.n + n1 → at.c ≡ c0 + s.c + c1 → stack_at fields size ps xs n1 c1 ≡ Some p → (l : Location)
            × (located_among at d (n0 + s.n) (c0 + s.c) params is ≡ Some l) × OnStack params p l) → (o : Option Place)
            → local_at fields n c ≡ o → option_or o (past size n c (stack_at fields size ps xs)) ≡ Some p → (l : Location)
            × (located_among at d n0 c0 params (LocalsOf s ∷ is) ≡ Some l) × OnStack params p l
        go again None e h = beyond again h
        go again (Some q) e h =
            then_some (field_number_at fields (record { n = pos n; c = pos c })) _ q e
            (λ i e1 h1. then_some (and_then (slice_get fields i) (λ y. Some y.cell)) _ q h1
            (λ w e2 h2. then_some (slice_get fields i) (λ y. Some y.cell) w e2
            (λ y e3 h3. if_some (nat_lt i 64) (Place.Local i w) q h2 (λ l h4.
            found i y (field_found fields (record { n = pos n; c = pos c }) i y e1 e3)
            (sym (same_Some q p h) ∙ sym h4 ∙ ap (Place.Local i) (sym (same_Some y.cell w h3)))))))
    stack_named at n0 c0 n c [] (x ∷ xs) p has en ec g h = absurd g
    stack_named at n0 c0 n c (i ∷ is) [] p has en ec g h = absurd g
    stack_named at n0 c0 n c (Pushed kind v ∷ is) (Item.Locals ∷ xs) p has en ec g h = absurd g.0
    stack_named at n0 c0 n c (LocalsOf s ∷ is) (Item.Slot k t ∷ xs) p has en ec g h = absurd g.0
