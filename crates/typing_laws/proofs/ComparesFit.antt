-- Comparisons that the rules allow are defined.
use Rattle.typing_laws.proofs.Common.{◌≡◌, ℕ, ◌-◌, ◌*◌, ◌^◌, ◌<◌, ◌≤◌, ◌⊎◌, Bool, true, false, ◌&&◌, ◌||◌, if◌then◌else◌, nat_lt, nat_eq}
use Rattle.typing_laws.proofs.Common.{Option, Some, None, refl, sym, ap, ap₂, ◌∙◌, subst, subst₂, arith, inl, inr, ⊎_elim, ℤ, pos, int_eq}
use Rattle.typing_laws.proofs.Common.{ltb-true, and_parts, or_cases, eqb-true, false≢true, lt-ltb, Decides-int_eq, CmpOp, compared}
use Rattle.typing_laws.proofs.Common.{IsBounded, Ty, Int, Ptr, Status, SignedStatus, Handle, Entry, is_int, is_int_below, compares, Neutral}
use Rattle.typing_laws.proofs.Common.{At, Error, SignedError, ObjectOf, number, null, plain, word, IsPointer, OrNull, shape_of, option_or}
use Rattle.typing_laws.proofs.Common.{Instance, instance_of, compared_by, compared_as}
use Rattle.rules_data.specs.Compares.{is_number, is_start, is_status, equates, orders, compares_wide}
use Rattle.neutral_machine.specs.Operations.{equal_instances, equal_first, error_at_most, error_at_least, compared_wide, same_instance}
use Rattle.typing_laws.proofs.{Objects.ObjectsFit, Objects.start_is, Objects.instance_is, Views.View, Views.FitsIn}
use Rattle.rules_data.specs.Compares as rules
use Rattle.host_model.specs.Values as values

-- there is an answer
abbrev pub IsDefined : Option Bool → Type 0
IsDefined o = (b : Bool) × (o ≡ Some b)

-- both are plain numbers
pub record BothPlain (v u : Neutral) : Type 0 where
  pub x : ℕ
  pub y : ℕ
  pub first : plain v ≡ Some x
  pub second : plain u ≡ Some y

module _ (view : View) (ok : ObjectsFit view.notes view.m.objects) where
  open view use {notes, m}

  -- equality of the two is known, or both are plain
  abbrev Known : Neutral → Neutral → Type 0
  Known v u = BothPlain v u ⊎ (IsDefined (equal_first notes m.objects v u) ⊎ IsDefined (equal_first notes m.objects u v))

  known_turned : (v u : Neutral) → Known v u → Known u v
  known_turned v u h = ⊎_elim (λ p. inl (record { x = p.y; y = p.x; first = p.second; second = p.first }))
      (λ q. ⊎_elim (λ e. inr (inr e)) (λ e. inr (inl e)) q) h

  known_same : (v u x y : Neutral) → v ≡ x → u ≡ y → Known x y → Known v u
  known_same v u x y p q h = subst₂ Known (sym p) (sym q) h

  -- the start of an instance
  pub record IsStart (v : Neutral) : Type 0 where
    pub k : ℕ
    pub n : ℕ
    pub c : ℕ
    pub instance : Instance
    pub is : v ≡ At (ObjectOf k) n c
    pub starts : instance_of notes m.objects (At (ObjectOf k) n c) ≡ Some instance

  pub pointer_start : (s k : ℕ) (n c : ℤ) (v : Neutral) → 1 ≤ k → n ≡ pos 0 → c ≡ pos 0 → IsPointer notes m.objects s k n c v → IsStart v
  pointer_start s k n c v l en ec f =
      let g : IsPointer notes m.objects s k (pos 0) (pos 0) v =
      subst (λ z. IsPointer notes m.objects s k (pos 0) z v) ec (subst (λ z. IsPointer notes m.objects s k z c v) en f) in
      let q = start_is notes m.objects ok s k v l g in
      record {
        k = q.k;
        n = q.j * (shape_of notes s).n;
        c = q.j * (shape_of notes s).c;
        instance = record { object = q.k; instance = q.j };
        is = q.is;
        starts = ap (instance_of notes m.objects) (sym q.is) ∙ instance_is notes m.objects ok s k v q l;
      }

  or_start : (s k : ℕ) (n c : ℤ) (may : Bool) (v : Neutral) → 1 ≤ k → n ≡ pos 0 → c ≡ pos 0
      → OrNull may v (IsPointer notes m.objects s k n c v) → IsStart v ⊎ (v ≡ null)
  or_start s k n c true v l en ec f = ⊎_elim (λ g. inl (pointer_start s k n c v l en ec g)) (λ e. inr e) f
  or_start s k n c false v l en ec f = inl (pointer_start s k n c v l en ec f)

  pub start_or_null : (b : Ty) (u : Neutral) → IsBounded b → is_start b ≡ true → FitsIn view b u → IsStart u ⊎ (u ≡ null)
  start_or_null (Ptr s k n c may) u b h f =
      let p = and_parts (int_eq n (pos 0)) (int_eq c (pos 0)) h in
      or_start s k n c may u b.0 ((Decides-int_eq n (pos 0)).0 p.0) ((Decides-int_eq c (pos 0)).0 p.1) f
  start_or_null _ u b h f = absurd (false≢true h)

  -- a constant
  pub number_is : (k : ℕ) (b : Ty) (u : Neutral) → is_number k b ≡ true → FitsIn view b u → u ≡ number k
  number_is k (Int lo hi div) u h f =
      let p = and_parts (nat_eq lo k) (nat_eq hi k) h in
      let x = eqb-true lo k p.0 in
      let y = eqb-true hi k p.1 in
      f.is ∙ ap number (let e : f.x ≡ k = omega (arith, f.from, f.to, x, y) in e)
  number_is k _ u h f = absurd (false≢true h)

  -- ---- equality

  two_nulls : (v u : Neutral) → v ≡ null → u ≡ null → Known v u
  two_nulls v u p q = inl (record { x = 0; y = 0; first = ap plain p; second = ap plain q })

  two_starts : (v u : Neutral) → IsStart v → IsStart u → Known v u
  two_starts v u p q = known_same v u _ _ p.is q.is
      (inr (inl (same_instance p.instance q.instance, ap₂ (λ i j. equal_instances i j (At (ObjectOf q.k) q.n q.c)) p.starts q.starts)))

  start_null : (v u : Neutral) → IsStart v → u ≡ null → Known v u
  unfolding instance_of
  start_null v u p q = known_same v u _ _ p.is q (inr (inl (false, ap (λ i. equal_instances i None null) p.starts)))

  starts_known : (v u : Neutral) → IsStart v ⊎ (v ≡ null) → IsStart u ⊎ (u ≡ null) → Known v u
  starts_known v u p q = ⊎_elim
      (λ a. ⊎_elim (λ b. two_starts v u a b) (λ b. start_null v u a b) q)
      (λ a. ⊎_elim (λ b. known_turned u v (start_null u v b a)) (λ b. two_nulls v u a b) q) p

  handle_or_null : (b : Ty) (u : Neutral) → (rules.is_handle b || is_number 0 b) ≡ true → FitsIn view b u
      → ((k : ℕ) × (u ≡ values.Handle k)) ⊎ (u ≡ null)
  handle_or_null Handle u h f = ⊎_elim (λ e. inl (e.k, e.is)) (λ e. inr e) f
  handle_or_null (Int lo hi div) u h f = inr (number_is 0 (Int lo hi div) u h f)
  handle_or_null _ u h f = absurd (false≢true h)

  entry_or_null : (b : Ty) (u : Neutral) → (rules.is_entry b || is_number 0 b) ≡ true → FitsIn view b u
      → ((k : ℕ) × (u ≡ values.Entry k)) ⊎ (u ≡ null)
  entry_or_null Entry u h f = ⊎_elim (λ e. inl (e.func, e.is)) (λ e. inr e) f
  entry_or_null (Int lo hi div) u h f = inr (number_is 0 (Int lo hi div) u h f)
  entry_or_null _ u h f = absurd (false≢true h)

  -- two numbered values of one kind, or null
  alike_known : (C : ℕ → Neutral) → ((i j : ℕ) → IsDefined (equal_first notes m.objects (C i) (C j)))
      → ((i : ℕ) → IsDefined (equal_first notes m.objects (C i) null)) → (v u : Neutral) → ((k : ℕ) × (v ≡ C k)) ⊎ (v ≡ null)
      → ((k : ℕ) × (u ≡ C k)) ⊎ (u ≡ null) → Known v u
  alike_known C two one v u p q = ⊎_elim
      (λ a. ⊎_elim (λ b. known_same v u _ _ a.1 b.1 (inr (inl (two a.0 b.0)))) (λ b. known_same v u _ _ a.1 b (inr (inl (one a.0)))) q)
      (λ a. ⊎_elim (λ b. known_same v u _ _ a b.1 (inr (inr (one b.0)))) (λ b. two_nulls v u a b) q) p

  -- an error, or a number below 2 ^ 31
  abbrev ErrorOrCode : Neutral → Type 0
  ErrorOrCode u = ((k : ℕ) × (u ≡ Error k)) ⊎ ((y : ℕ) × (u ≡ number y) × (y < 2 ^ 31))

  status_value : (g : ℕ) (u : Neutral) → FitsIn view (Status g) u → ErrorOrCode u
  status_value g u f = ⊎_elim (λ e. inl (e.code, e.is)) (λ s. inr (s.0.code, s.0.is, s.0.small)) f

  error_or_code : (b : Ty) (u : Neutral) → (is_status b || is_int_below (2 ^ 31) b) ≡ true → FitsIn view b u → ErrorOrCode u
  error_or_code (Status g) u h f = status_value g u f
  error_or_code (Int lo hi div) u h f = let l = ltb-true hi (2 ^ 31) h in inr (f.x, f.is, omega (arith, f.to, l))
  error_or_code _ u h f = absurd (false≢true h)

  error_code : (k y : ℕ) → y < 2 ^ 31 → IsDefined (equal_first notes m.objects (Error k) (number y))
  error_code k y l = (false, ap (λ b. if b then Some false else None) (lt-ltb (word y) (2 ^ 31) (omega (arith, l))))

  errors_known : (v u : Neutral) → ErrorOrCode v → ErrorOrCode u → Known v u
  errors_known v u p q = ⊎_elim
      (λ a. ⊎_elim (λ b. known_same v u _ _ a.1 b.1 (inr (inl (nat_eq a.0 b.0, refl))))
      (λ b. known_same v u _ _ a.1 b.1 (inr (inl (error_code a.0 b.0 b.2)))) q)
      (λ a. ⊎_elim (λ b. known_same v u _ _ a.1 b.1 (inr (inr (error_code b.0 a.0 a.2))))
      (λ b. inl (record { x = word a.0; y = word b.0; first = ap plain a.1; second = ap plain b.1 })) q) p

  equates_known : (a b : Ty) (v u : Neutral) → IsBounded a → IsBounded b → equates a b ≡ true → FitsIn view a v
      → FitsIn view b u → Known v u
  equates_known (Ptr s k n c may) b v u l r h f g =
      let p = and_parts (int_eq n (pos 0)) (int_eq c (pos 0) && (is_start b || is_number 0 b)) h in
      let q = and_parts (int_eq c (pos 0)) (is_start b || is_number 0 b) p.1 in
      starts_known v u (or_start s k n c may v l.0 ((Decides-int_eq n (pos 0)).0 p.0) ((Decides-int_eq c (pos 0)).0 q.0) f)
      (⊎_elim (λ e. start_or_null b u r e g) (λ e. inr (number_is 0 b u e g)) (or_cases (is_start b) (is_number 0 b) q.1))
  equates_known Handle b v u l r h f g = alike_known values.Handle (λ i j. (nat_eq i j, refl)) (λ i. (false, refl)) v u
      (⊎_elim (λ e. inl (e.k, e.is)) (λ e. inr e) f) (handle_or_null b u h g)
  equates_known Entry b v u l r h f g = alike_known values.Entry (λ i j. (nat_eq i j, refl)) (λ i. (false, refl)) v u
      (⊎_elim (λ e. inl (e.func, e.is)) (λ e. inr e) f) (entry_or_null b u h g)
  equates_known (Status i) b v u l r h f g = errors_known v u (status_value i v f) (error_or_code b u h g)
  equates_known _ b v u l r h f g = absurd (false≢true h)

  -- ---- orders

  -- an order is known, or both are plain
  abbrev Ordered : (Neutral → Option ℕ → Option Bool) → Neutral → Neutral → Type 0
  Ordered order v u = BothPlain v u ⊎ IsDefined (order v (plain u))

  abbrev SignedOrCode : Neutral → Type 0
  SignedOrCode v = ((k : ℕ) × (v ≡ SignedError k)) ⊎ ((y : ℕ) × (v ≡ number y))

  signed_value : (g : ℕ) (v : Neutral) → FitsIn view (SignedStatus g) v → SignedOrCode v
  signed_value g v f = ⊎_elim (λ e. inl (e.code, e.is)) (λ s. inr (s.0.code, s.0.is)) f

  -- the numbers with which a sign-extended error is compared
  abbrev Bound : Bool → ℕ → Type 0
  Bound or_error y = (y < 2 ^ 31) ⊎ ((or_error ≡ true) × (y ≡ 2 ^ 64 - 1))

  bound_value : (or_error : Bool) (b : Ty) (u : Neutral) → (is_int_below (2 ^ 31) b || (or_error && is_number (2 ^ 64 - 1) b)) ≡ true
      → FitsIn view b u → (y : ℕ) × (u ≡ number y) × Bound or_error y
  bound_value or_error (Int lo hi div) u h f = ⊎_elim
      (λ e. let l = ltb-true hi (2 ^ 31) e in (f.x, f.is, inl (omega (arith, f.to, l))))
      (λ e. let p = and_parts or_error (is_number (2 ^ 64 - 1) (Int lo hi div)) e in
      (2 ^ 64 - 1, number_is (2 ^ 64 - 1) (Int lo hi div) u p.1 f, inr (p.0, refl)))
      (or_cases (nat_lt hi (2 ^ 31)) (or_error && is_number (2 ^ 64 - 1) (Int lo hi div)) h)
  bound_value false _ u h f = absurd (false≢true h)
  bound_value or_error t u h f = absurd (false≢true h)

  at_most_known : (k y : ℕ) → Bound true y → IsDefined (error_at_most (SignedError k) (plain (number y)))
  at_most_known k y h = ⊎_elim
      (λ l. (true, ap (λ b. if b || nat_eq (word y) (2 ^ 64 - 1) then Some true else None) (lt-ltb (word y) (2 ^ 31) (omega (arith, l)))))
      (λ e. (true, ap (λ z. error_at_most (SignedError k) (plain (number z))) e.1)) h

  at_least_known : (k y : ℕ) → Bound false y → IsDefined (error_at_least (SignedError k) (plain (number y)))
  at_least_known k y h = ⊎_elim
      (λ l. (false, ap (λ b. if b then Some false else None) (lt-ltb (word y) (2 ^ 31) (omega (arith, l)))))
      (λ e. absurd (false≢true e.0)) h

  ordered : (order : Neutral → Option ℕ → Option Bool) (or_error : Bool) (a b : Ty) (v u : Neutral)
      → ((k y : ℕ) → Bound or_error y → IsDefined (order (SignedError k) (plain (number y)))) → orders or_error a b ≡ true
      → FitsIn view a v → FitsIn view b u → Ordered order v u
  ordered order or_error (SignedStatus g) b v u k h f t =
      let q = bound_value or_error b u h t in
      ⊎_elim
      (λ e. inr (subst₂ (λ i j. IsDefined (order i (plain j))) (sym e.1) (sym q.1) (k e.0 q.0 q.2)))
      (λ e. inl (record { x = word e.0; y = word q.0; first = ap plain e.1; second = ap plain q.1 })) (signed_value g v f)
  ordered order or_error _ b v u k h f t = absurd (false≢true h)

  -- ---- all comparisons

  turned : (c e : Option Bool) → IsDefined c ⊎ IsDefined e → IsDefined (option_or c e)
  turned (Some b) e h = (b, refl)
  turned None (Some b) h = (b, refl)
  turned None None h = absurd (⊎_elim (λ p. none p) (λ p. none p) h)
    where
      none : IsDefined None → ⊥
      none p = absurd cc

  wide_known : (op : CmpOp) (a b : Ty) (v u : Neutral) → IsBounded a → IsBounded b → compares_wide op a b ≡ true → FitsIn view a v
      → FitsIn view b u → BothPlain v u ⊎ IsDefined (compared_wide notes m.objects op v u)
  wide_known CmpOp.Eq a b v u l r h f g =
      ⊎_elim (λ p. inl p) (λ q. inr (turned _ _ q))
      (⊎_elim (λ e. equates_known a b v u l r e f g) (λ e. known_turned u v (equates_known b a u v r l e g f))
      (or_cases (equates a b) (equates b a) h))
  wide_known CmpOp.Lte a b v u l r h f g = ordered error_at_most true a b v u at_most_known h f g
  wide_known CmpOp.Gte a b v u l r h f g = ordered error_at_least false a b v u at_least_known h f g
  wide_known CmpOp.Ulte a b v u l r h f g = absurd (false≢true h)
  wide_known CmpOp.Ugte a b v u l r h f g = absurd (false≢true h)

  both_defined : (op : CmpOp) (wide : Bool) (v u : Neutral) → BothPlain v u → IsDefined (compared_as notes m.objects op wide v u)
  unfolding compared_as
  both_defined op wide v u p = (compared op wide p.x p.y, ap₂ (λ i j. compared_by notes m.objects op wide v u i j) p.first p.second)

  wide_defined : (op : CmpOp) (v u : Neutral) (c e : Option ℕ) → plain v ≡ c → plain u ≡ e → BothPlain v u
      ⊎ IsDefined (compared_wide notes m.objects op v u) → IsDefined (compared_by notes m.objects op true v u c e)
  wide_defined op v u (Some x) (Some y) p q h = (compared op true x y, refl)
  wide_defined op v u None e p q h = ⊎_elim (λ b. absurd (clash (sym p ∙ b.first))) (λ k. k) h
    where
      clash : {x : ℕ} → None ≡ Some x → ⊥
      clash e = absurd cc
  wide_defined op v u (Some x) None p q h = ⊎_elim (λ b. absurd (clash (sym q ∙ b.second))) (λ k. k) h
    where
      clash : {x : ℕ} → None ≡ Some x → ⊥
      clash e = absurd cc

  int_number : (a : Ty) (v : Neutral) → is_int a ≡ true → FitsIn view a v → (x : ℕ) × (plain v ≡ Some x)
  int_number (Int lo hi div) v h f = (word f.x, ap plain f.is)
  int_number _ v h f = absurd (false≢true h)

  -- A comparison that the rules allow has an answer.
  pub compares_fit : (op : CmpOp) (wide : Bool) (a b : Ty) (v u : Neutral) → IsBounded a → IsBounded b → compares op wide a b ≡ true
      → FitsIn view a v → FitsIn view b u → IsDefined (compared_as notes m.objects op wide v u)
  unfolding compares compared_as
  compares_fit op wide a b v u l r h f g = ⊎_elim
      (λ e.
      let p = and_parts (is_int a) (is_int b) e in
      let x = int_number a v p.0 f in
      let y = int_number b u p.1 g in
      both_defined op wide v u (record { x = x.0; y = y.0; first = x.1; second = y.1 }))
      (λ e. wide_case wide e) (or_cases (is_int a && is_int b) (wide && compares_wide op a b) h)
    where
      wide_case : (i : Bool) → (i && compares_wide op a b) ≡ true → IsDefined (compared_by notes m.objects op i v u (plain v) (plain u))
      wide_case true e = wide_defined op v u (plain v) (plain u) refl refl (wide_known op a b v u l r e f g)
      wide_case false e = absurd (false≢true e)
