-- Laws of the join of two types.
use Rattle.note_infer.proofs.Joins.{◌≡◌, ◌⊎◌, ℕ, ◌-◌, ◌^◌, ◌<◌, ◌≤◌, Bool, true, false, ◌&&◌, ◌||◌, nat_eq, nat_lt, if◌then◌else◌, Option}
use Rattle.note_infer.proofs.Joins.{None, Some, refl, ap, sym, subst, inl, inr, ⊎_elim, arith, pos, IfSome, unwrap_or, int_eq, and_parts}
use Rattle.note_infer.proofs.Joins.{eqb-true, leb-true, ltb-true, cases_lt, Decides-int_eq, Below, same_type, IsKnown, IsBounded, is_start}
use Rattle.note_infer.proofs.Joins.{only_if, FnNote, Notes, Ty, same_type-equal, are_within, common, is_zero, join_ints, join_null}
use Rattle.note_infer.proofs.Joins.{join_pointers, join_signed, join_status, join_types, least_end, or_null, AreBelow, KeepsKnown, Weakens}
use Prim.Native.Nat.{◌∣◌}
use Rattle.std.proofs.{lemmas.Bool.eqb-false, lemmas.Bool.cases_eq, lemmas.Nat.Gcd.dvd_refl, Math.Nat.one-dvd}
use Rattle.note_types.specs.Below.{below_any, below_equal, below_range, below_pointer, below_null, below_status, below_grants}
use Rattle.note_types.proofs.SameLaws.{same_type-refl}
use Rattle.note_infer.specs.Ranks.{differs, ends_above, not_null, rank_of}
use Rattle.note_types.specs.declared.types.Ty.TheVariants as ty

-- ---- choices

-- what holds of both values of a choice, each where it is chosen
pub choose : {A : Type 0} (P : A → Type 0) (b : Bool) (x y : A) → (b ≡ true → P x) → (b ≡ false → P y) → P (if b then x else y)
choose P true x y f g = f refl
choose P false x y f g = g refl

pub common-is : (P : ℕ → Type 0) (x y other : ℕ) → (x ≡ y → P x) → P other → P (common x y other)
common-is P x y other f g = choose P (nat_eq x y) x other (λ e. f (eqb-true x y e)) (λ _. g)

-- a row, or else what follows
row-is : (P : Ty → Type 0) (o : Option Ty) (t : Ty) → IfSome o P → P t → P (unwrap_or o t)
row-is P (Some x) t h g = h
row-is P None t h g = g

-- a row that applies where a test holds, or else what follows
pub row_if-is : (P : Ty → Type 0) (b : Bool) (x t : Ty) → (b ≡ true → P x) → (b ≡ false → P t) → P (unwrap_or (only_if b x) t)
row_if-is P true x t f g = f refl
row_if-is P false x t f g = g refl

pub when : (P : Ty → Type 0) (b : Bool) (o : Option Ty) → (b ≡ true → IfSome o P) → IfSome (if b then o else None) P
when P true o h = h refl
when P false o h = tt

pub some_if-is : (P : Ty → Type 0) (b : Bool) (t : Ty) → (b ≡ true → P t) → IfSome (only_if b t) P
some_if-is P true t h = h refl
some_if-is P false t h = tt

-- the rows on two types that aren't equal
abbrev pub other_rows : Ty → Ty → Ty
other_rows a b =
    unwrap_or (join_ints a b) (unwrap_or (join_pointers a b) (unwrap_or (join_null a b) (unwrap_or (join_null b a)
    (unwrap_or (join_status a b) (unwrap_or (join_status b a) (unwrap_or (join_signed a b) ty.Any))))))

-- what holds of each row's type and of Any holds of the first row that applies
pub table-is : (P : Ty → Type 0) (a b : Ty) → IfSome (join_ints a b) P → IfSome (join_pointers a b) P → IfSome (join_null a b) P
    → IfSome (join_null b a) P → IfSome (join_status a b) P → IfSome (join_status b a) P → IfSome (join_signed a b) P → P ty.Any
    → P (other_rows a b)
table-is P a b h1 h2 h3 h4 h5 h6 h7 h8 =
    row-is P (join_ints a b) _ h1 (row-is P (join_pointers a b) _ h2 (row-is P (join_null a b) _ h3 (row-is P (join_null b a) _ h4
    (row-is P (join_status a b) _ h5 (row-is P (join_status b a) _ h6 (row-is P (join_signed a b) ty.Any h7 h8))))))

-- ---- numbers

-- the least end is at least both numbers
pub least_end-above : (x y : ℕ) → x < 2 ^ 64 → y < 2 ^ 64 → (x ≤ least_end x y) × (y ≤ least_end x y)
least_end-above x y h g =
    let P : ℕ → Type 0 = λ e. (x ≤ e) × (y ≤ e) in
    let within : (e : ℕ) → are_within x y e ≡ true → P e = λ e t. let p = and_parts _ _ t in (leb-true x e p.0, leb-true y e p.1) in
    choose P (are_within x y (2 ^ 31 - 1)) _ _ (within (2 ^ 31 - 1))
    (λ _. choose P (are_within x y (2 ^ 32 - 1)) _ _ (within (2 ^ 32 - 1)) (λ _. (omega arith, omega arith)))

least_end-below : (x y : ℕ) → least_end x y < 2 ^ 64
least_end-below x y =
    let P : ℕ → Type 0 = λ e. e < 2 ^ 64 in
    choose P (are_within x y (2 ^ 31 - 1)) _ _ (λ _. omega arith)
    (λ _. choose P (are_within x y (2 ^ 32 - 1)) _ _ (λ _. omega arith) (λ _. omega arith))

-- ---- both are below

abbrev Both : Ty → Ty → Ty → Type 0
Both a b t = Below a t × Below b t

common_low : (x y : ℕ) → (common x y 0 ≤ x) × (common x y 0 ≤ y)
common_low x y = common-is (λ z. (z ≤ x) × (z ≤ y)) x y 0 (λ e. (omega arith, omega arith)) (omega arith, omega arith)

common_high : (x y : ℕ) → x < 2 ^ 64 → y < 2 ^ 64 → (x ≤ common x y (least_end x y)) × (y ≤ common x y (least_end x y))
common_high x y h g = common-is (λ z. (x ≤ z) × (y ≤ z)) x y (least_end x y) (λ e. (omega arith, omega arith)) (least_end-above x y h g)

common_divides : (x y : ℕ) → (common x y 1 ∣ x) × (common x y 1 ∣ y)
common_divides x y =
    common-is (λ z. (z ∣ x) × (z ∣ y)) x y 1 (λ e. (dvd_refl x, let P : ℕ → Type 0 = λ z. x ∣ z in subst P e (dvd_refl x)))
    (one-dvd x, one-dvd y)

common_count : (x y : ℕ) → 1 ≤ x → 1 ≤ y → (common x y 1 ≤ x) × (common x y 1 ≤ y)
common_count x y h g = common-is (λ z. (z ≤ x) × (z ≤ y)) x y 1 (λ e. (omega arith, omega arith)) (h, g)

ints-below : (a b : Ty) → IsBounded a → IsBounded b → IfSome (join_ints a b) (Both a b)
ints-below (ty.Int lo hi div) (ty.Int from to by) h g =
    let low = common_low lo from in
    let high = common_high hi to h.1 g.1 in
    let divisor = common_divides div by in
    (below_range (low.0, high.0, inl divisor.0), below_range (low.1, high.1, inl divisor.1))
ints-below _ _ h g = tt

or_left : (a b : Bool) → (a ≡ false) ⊎ ((a || b) ≡ true)
or_left true b = inr refl
or_left false b = inl refl

or_right : (a b : Bool) → (b ≡ false) ⊎ ((a || b) ≡ true)
or_right true b = inr refl
or_right false true = inr refl
or_right false false = inl refl

pointers-below : (a b : Ty) → IsBounded a → IsBounded b → IfSome (join_pointers a b) (Both a b)
pointers-below (ty.Ptr s k n c null) (ty.Ptr t l m d may) h g =
    some_if-is (Both (ty.Ptr s k n c null) (ty.Ptr t l m d may)) (nat_eq s t && (int_eq n m && int_eq c d)) _
    (λ e. let p = and_parts _ _ e in let q = and_parts _ _ p.1 in
    let count = common_count k l h.0 g.0 in (
      below_pointer (refl, refl, refl, count.0, or_left null may),
      below_pointer (
        sym (eqb-true s t p.0),
        sym ((Decides-int_eq n m).0 q.0),
        sym ((Decides-int_eq c d).0 q.1),
        count.1,
        or_right null
            may,
      ),
    ))
pointers-below _ _ h g = tt

or_null-below : (lo hi div : ℕ) (b : Ty) → lo ≡ 0 → hi ≡ 0 → IfSome (or_null b) (Both (ty.Int lo hi div) b)
or_null-below lo hi div (ty.Ptr s k n c null) x y =
    some_if-is (Both (ty.Int lo hi div) (ty.Ptr s k n c null)) (is_start n c) _
    (λ e. let p = and_parts _ _ e in (
      below_null (x, y, ((Decides-int_eq n (pos 0)).0 p.0, (Decides-int_eq c (pos 0)).0 p.1, refl)),
      below_pointer (refl, refl, refl, omega arith, inr refl),
    ))
or_null-below lo hi div ty.Handle x y = (below_null (x, y, tt), below_equal refl)
or_null-below lo hi div ty.Entry x y = (below_null (x, y, tt), below_equal refl)
or_null-below lo hi div _ x y = tt

null-below : (a b : Ty) → IfSome (join_null a b) (Both a b)
null-below (ty.Int lo hi div) b =
    when (Both (ty.Int lo hi div) b) (nat_eq lo 0 && nat_eq hi 0) (or_null b)
    (λ e. let p = and_parts _ _ e in or_null-below lo hi div b (eqb-true lo 0 p.0) (eqb-true hi 0 p.1))
null-below _ b = tt

swapped : (a b : Ty) (o : Option Ty) → IfSome o (Both b a) → IfSome o (Both a b)
swapped a b None h = tt
swapped a b (Some t) h = (h.1, h.0)

status-below : (a b : Ty) → IfSome (join_status a b) (Both a b)
status-below (ty.Status g) (ty.Status h) = (
  below_grants (λ x e. absurd (omega (arith, e))),
  below_grants
      (λ x e. absurd (omega (arith, e))),
)
status-below (ty.Status g) (ty.Int lo hi div) =
    some_if-is (Both (ty.Status g) (ty.Int lo hi div)) (nat_lt hi (2 ^ 31)) _
    (λ e. (below_grants (λ x e. absurd (omega (arith, e))), below_status (ltb-true hi (2 ^ 31) e, refl)))
status-below _ _ = tt

signed-below : (a b : Ty) → IfSome (join_signed a b) (Both a b)
signed-below (ty.SignedStatus g) (ty.SignedStatus h) = (
  below_grants (λ x e. absurd (omega (arith, e))),
  below_grants
      (λ x e. absurd (omega (arith, e))),
)
signed-below _ _ = tt

-- both types are below what joins them
pub types_below : (a b : Ty) → AreBelow a b (join_types a b)
unfolding join_types
types_below a b h g =
    row_if-is (Both a b) (same_type a b) a (other_rows a b)
    (λ e. (below_equal refl, below_equal (sym (same_type-equal a b e))))
    (λ _. table-is (Both a b) a b (ints-below a b h g) (pointers-below a b h g) (null-below a b) (swapped a b _ (null-below b a))
    (status-below a b) (swapped a b _ (status-below b a)) (signed-below a b) (below_any refl, below_any refl))

-- equal types are kept
pub types_equal : (a b : Ty) → a ≡ b → join_types a b ≡ a
unfolding join_types
types_equal a b e =
    let P : Ty → Type 0 = λ t. join_types a t ≡ a in subst P e (itself a)
  where
    itself : (a : Ty) → join_types a a ≡ a
    itself a = rw (same_type-refl a) refl

-- ---- what is known is kept

module _ (notes : Notes) (f : FnNote) where
  abbrev Known : Ty → Type 0
  Known t = IsKnown notes f t

  ints-known : (a b : Ty) → Known a → Known b → IfSome (join_ints a b) Known
  ints-known (ty.Int lo hi div) (ty.Int from to by) h g =
      let x = h.bounded in let y = g.bounded in
      let low = common_low lo from in
      let high = common_high hi to x.1 y.1 in
      let end : common hi to (least_end hi to) < 2 ^ 64 = common-is (λ z. z < 2 ^ 64) hi to (least_end hi to) (λ _. x.1)
      (least_end-below hi to) in
      let divisor : (1 ≤ common div by 1) × (common div by 1 < 2 ^ 64) =
      common-is (λ z. (1 ≤ z) × (z < 2 ^ 64)) div by 1 (λ _. (x.2, x.3)) (omega arith, omega arith) in
      record { bounded = (omega (arith, low, high, x, y), end, divisor.0, divisor.1); names = tt }
  ints-known _ _ h g = tt

  pointers-known : (a b : Ty) → Known a → Known b → IfSome (join_pointers a b) Known
  pointers-known (ty.Ptr s k n c null) (ty.Ptr t l m d may) h g =
      let x = h.bounded in
      let count : (1 ≤ common k l 1) × (common k l 1 < 2 ^ 64) =
      common-is (λ z. (1 ≤ z) × (z < 2 ^ 64)) k l 1 (λ _. (x.0, x.3)) (omega arith, omega arith) in
      some_if-is Known (nat_eq s t && (int_eq n m && int_eq c d)) _
      (λ _. record { bounded = (count.0, x.1, x.2, count.1, x.4); names = h.names })
  pointers-known _ _ h g = tt

  or_null-known : (b : Ty) → Known b → IfSome (or_null b) Known
  or_null-known (ty.Ptr s k n c null) h =
      some_if-is Known (is_start n c) _ (λ _. record { bounded = h.bounded; names = h.names })
  or_null-known ty.Handle h = h
  or_null-known ty.Entry h = h
  or_null-known _ h = tt

  null-known : (a b : Ty) → Known b → IfSome (join_null a b) Known
  null-known a b h = when Known (is_zero a) (or_null b) (λ _. or_null-known b h)

  none_granted : Known (ty.Status 0)
  none_granted = record { bounded = omega arith; names = λ x e. absurd (omega (arith, e)) }

  status-known : (a b : Ty) → IfSome (join_status a b) Known
  status-known (ty.Status g) (ty.Status h) = none_granted
  status-known (ty.Status g) (ty.Int lo hi div) = some_if-is Known (nat_lt hi (2 ^ 31)) _ (λ _. none_granted)
  status-known _ _ = tt

  signed-known : (a b : Ty) → IfSome (join_signed a b) Known
  signed-known (ty.SignedStatus g) (ty.SignedStatus h) = record { bounded = omega arith; names = λ x e. absurd (omega (arith, e)) }
  signed-known _ _ = tt

  others-known : (a b : Ty) → Known a → Known b → Known (other_rows a b)
  others-known a b h g =
      table-is Known a b (ints-known a b h g) (pointers-known a b h g) (null-known a b g) (null-known b a h)
      (status-known a b) (status-known b a) (signed-known a b) (record { bounded = tt; names = tt })

  joined-known : (a b : Ty) → Known a → Known b → Known (join_types a b)
  unfolding join_types
  joined-known a b h g = row_if-is Known (same_type a b) a (other_rows a b) (λ _. h) (λ _. others-known a b h g)

-- what joins two known types is known
pub types_known : (a b : Ty) → KeepsKnown a b (join_types a b)
types_known a b notes f h g = joined-known notes f a b h g

-- ---- what is joined in makes a type weaker

-- a number is the same as another one, or less by a measure
abbrev Falls : {A : Type 0} → (A → ℕ) → A → A → Type 0
Falls w x t = (t ≡ x) ⊎ (w t < w x)

falls_most : {A : Type 0} (w : A → ℕ) (x t : A) → Falls w x t → w t ≤ w x
falls_most w x t (inl e) = let q : w t ≡ w x = ap w e in omega arith
falls_most w x t (inr l) = omega arith

differs_self : (x : ℕ) → differs x x ≡ 0
differs_self x = choose (λ z. z ≡ 0) (nat_eq x x) 0 1 (λ _. refl) (λ e. absurd (eqb-false x x e refl))

differs_one : (x y : ℕ) → (x ≡ y) ⊎ (differs x y ≡ 1)
differs_one x y = by_test (nat_eq x y) refl
  where
    by_test : (b : Bool) → nat_eq x y ≡ b → (x ≡ y) ⊎ (differs x y ≡ 1)
    by_test true e = inl (eqb-true x y e)
    by_test false e = inr (rw e refl)

to_other : (x other : ℕ) → Falls (λ z. differs z other) x other
to_other x other =
    ⊎_elim (λ e. inl (sym e)) (λ e. inr (let q = differs_self other in omega arith)) (differs_one x other)

common-falls : (x y other : ℕ) → Falls (λ z. differs z other) x (common x y other)
common-falls x y other = common-is (Falls (λ z. differs z other) x) x y other (λ _. inl refl) (to_other x other)

-- how many ends are above, by what an end isn't
ends_one : (x : ℕ) → (x ≡ 2 ^ 64 - 1 → ⊥) → 1 ≤ ends_above x
ends_one x h =
    choose (λ z. 1 ≤ z) (nat_eq x (2 ^ 64 - 1)) _ _ (λ e. absurd (h (eqb-true x _ e)))
    (λ _. choose (λ z. 1 ≤ z) (nat_eq x (2 ^ 32 - 1)) _ _ (λ _. omega arith)
    (λ _. choose (λ z. 1 ≤ z) (nat_eq x (2 ^ 31 - 1)) _ _ (λ _. omega arith) (λ _. omega arith)))

ends_two : (x : ℕ) → (x ≡ 2 ^ 64 - 1 → ⊥) → (x ≡ 2 ^ 32 - 1 → ⊥) → 2 ≤ ends_above x
ends_two x h g =
    choose (λ z. 2 ≤ z) (nat_eq x (2 ^ 64 - 1)) _ _ (λ e. absurd (h (eqb-true x _ e)))
    (λ _. choose (λ z. 2 ≤ z) (nat_eq x (2 ^ 32 - 1)) _ _ (λ e. absurd (g (eqb-true x _ e)))
    (λ _. choose (λ z. 2 ≤ z) (nat_eq x (2 ^ 31 - 1)) _ _ (λ _. omega arith) (λ _. omega arith)))

ends_three : (x : ℕ) → x < 2 ^ 31 - 1 → 3 ≤ ends_above x
ends_three x h =
    choose (λ z. 3 ≤ z) (nat_eq x (2 ^ 64 - 1)) _ _ (λ e. absurd (let q = eqb-true x _ e in omega arith))
    (λ _. choose (λ z. 3 ≤ z) (nat_eq x (2 ^ 32 - 1)) _ _ (λ e. absurd (let q = eqb-true x _ e in omega arith))
    (λ _. choose (λ z. 3 ≤ z) (nat_eq x (2 ^ 31 - 1)) _ _ (λ e. absurd (let q = eqb-true x _ e in omega arith)) (λ _. omega arith)))

within_left : (x y e : ℕ) → are_within x y e ≡ true → x ≤ e
within_left x y e t = leb-true x e (and_parts _ _ t).0

least_end-falls : (x y : ℕ) → Falls ends_above x (least_end x y)
least_end-falls x y =
    choose (Falls ends_above x) (are_within x y (2 ^ 31 - 1)) _ _ (λ t. low (within_left x y _ t))
    (λ _. choose (Falls ends_above x) (are_within x y (2 ^ 32 - 1)) _ _ (λ t. middle (within_left x y _ t)) (λ _. high))
  where
    low : x ≤ 2 ^ 31 - 1 → Falls ends_above x (2 ^ 31 - 1)
    low h = ⊎_elim (λ l. inr (let q = ends_three x l in omega (arith, q))) (λ g. inl (omega arith)) (cases_lt x (2 ^ 31 - 1))

    middle : x ≤ 2 ^ 32 - 1 → Falls ends_above x (2 ^ 32 - 1)
    middle h =
        ⊎_elim (λ l. inr (let q = ends_two x (λ e. omega arith) (λ e. omega arith) in omega (arith, q))) (λ g. inl (omega arith))
        (cases_lt x (2 ^ 32 - 1))

    high : Falls ends_above x (2 ^ 64 - 1)
    high = ⊎_elim (λ e. inl (sym e)) (λ n. inr (let q = ends_one x n in omega (arith, q))) (cases_eq x (2 ^ 64 - 1))

end-falls : (x y : ℕ) → Falls ends_above x (common x y (least_end x y))
end-falls x y = common-is (Falls ends_above x) x y (least_end x y) (λ _. inl refl) (least_end-falls x y)

ints-weaken : (a b : Ty) → IfSome (join_ints a b) (Weakens a)
ints-weaken (ty.Int lo hi div) (ty.Int from to by) =
    all (common-falls lo from 0) (end-falls hi to) (common-falls div by 1)
  where
    all : {x y z : ℕ} → Falls (λ v. differs v 0) lo x → Falls ends_above hi y → Falls (λ v. differs v 1) div z
        → Weakens (ty.Int lo hi div) (ty.Int x y z)
    all (inl e) (inl g) (inl h) = inl (λ i. ty.Int (e i) (g i) (h i))
    all {x} {y} {z} (inr l) g h = inr (let p = falls_most ends_above hi y g in let q = falls_most (λ v. differs v 1) div z h in
        omega (arith, p, q, l))
    all {x} {y} {z} (inl e) (inr l) h = inr (let p : differs x 0 ≡ differs lo 0 = ap (λ v. differs v 0) e in
        let q = falls_most (λ v. differs v 1) div z h in omega (arith, p, q, l))
    all {x} {y} {z} (inl e) (inl g) (inr l) = inr (let p : differs x 0 ≡ differs lo 0 = ap (λ v. differs v 0) e in let q : ends_above y
        ≡ ends_above hi = ap ends_above g in omega (arith, p, q, l))
ints-weaken _ _ = tt

either-falls : (null may : Bool) → ((null || may) ≡ null) ⊎ (not_null (null || may) < not_null null)
either-falls true may = inl refl
either-falls false true = inr (omega arith)
either-falls false false = inl refl

pointers-weaken : (a b : Ty) → IfSome (join_pointers a b) (Weakens a)
pointers-weaken (ty.Ptr s k n c null) (ty.Ptr t l m d may) =
    some_if-is (Weakens (ty.Ptr s k n c null)) (nat_eq s t && (int_eq n m && int_eq c d)) _
    (λ _. both (common-falls k l 1) (either-falls null may))
  where
    both : {x : ℕ} {y : Bool} → Falls (λ v. differs v 1) k x → (y ≡ null) ⊎ (not_null y < not_null null) → Weakens (ty.Ptr s k n c null)
        (ty.Ptr s x n c y)
    both (inl e) (inl g) = inl (λ i. ty.Ptr s (e i) n c (g i))
    both {x} {y} (inl e) (inr l) = inr (let p : differs x 1 ≡ differs k 1 = ap (λ v. differs v 1) e in omega (arith, p, l))
    both {x} {y} (inr l) (inl g) = inr (let p : not_null y ≡ not_null null = ap not_null g in omega (arith, p, l))
    both {x} {y} (inr l) (inr h) = inr (omega (arith, l, h))
pointers-weaken _ _ = tt

differs-most : (x y : ℕ) → differs x y ≤ 1
differs-most x y = choose (λ z. z ≤ 1) (nat_eq x y) 0 1 (λ _. omega arith) (λ _. omega arith)

-- the number 0 gives way to a type that may be null
zero-weakens : (lo hi div : ℕ) (b : Ty) → IfSome (or_null b) (Weakens (ty.Int lo hi div))
zero-weakens lo hi div (ty.Ptr s k n c null) =
    some_if-is (Weakens (ty.Int lo hi div)) (is_start n c) _ (λ _. inr (let q = differs-most k 1 in omega (arith, q)))
zero-weakens lo hi div ty.Handle = inr (omega arith)
zero-weakens lo hi div ty.Entry = inr (omega arith)
zero-weakens lo hi div _ = tt

null-weaken : (a b : Ty) → IfSome (join_null a b) (Weakens a)
null-weaken (ty.Int lo hi div) b = when (Weakens (ty.Int lo hi div)) (nat_eq lo 0 && nat_eq hi 0) (or_null b)
    (λ _. zero-weakens lo hi div b)
null-weaken _ b = tt

null-falls : (null : Bool) → (true ≡ null) ⊎ (0 < not_null null)
null-falls true = inl refl
null-falls false = inr (omega arith)

or_null-weaken : (a : Ty) → IfSome (or_null a) (Weakens a)
or_null-weaken (ty.Ptr s k n c null) =
    some_if-is (Weakens (ty.Ptr s k n c null)) (is_start n c) _
    (λ _. ⊎_elim (λ e. inl (λ i. ty.Ptr s k n c (e i))) (λ l. inr (omega (arith, l))) (null-falls null))
or_null-weaken ty.Handle = inl refl
or_null-weaken ty.Entry = inl refl
or_null-weaken _ = tt

status-weaken : (a b : Ty) → IfSome (join_status a b) (Weakens a)
status-weaken (ty.Status g) (ty.Status h) = granted g
  where
    granted : (g : ℕ) → Weakens (ty.Status g) (ty.Status 0)
    granted g = ⊎_elim (λ e. inl (ap ty.Status e)) (λ l. inr (omega (arith, l))) (to_other g 0)
status-weaken (ty.Status g) (ty.Int lo hi div) = some_if-is (Weakens (ty.Status g)) (nat_lt hi (2 ^ 31)) _ (λ _. granted g)
  where
    granted : (g : ℕ) → Weakens (ty.Status g) (ty.Status 0)
    granted g = ⊎_elim (λ e. inl (ap ty.Status e)) (λ l. inr (omega (arith, l))) (to_other g 0)
status-weaken _ _ = tt

-- the same where the status comes second
second-weaken : (b a : Ty) → IfSome (join_status b a) (Weakens a)
second-weaken (ty.Status h) (ty.Status g) =
    ⊎_elim (λ e. inl (ap ty.Status e)) (λ l. inr (omega (arith, l))) (to_other g 0)
second-weaken (ty.Status g) (ty.Int lo hi div) = some_if-is (Weakens (ty.Int lo hi div)) (nat_lt hi (2 ^ 31)) _ (λ _. inr (omega arith))
second-weaken _ _ = tt

signed-weaken : (a b : Ty) → IfSome (join_signed a b) (Weakens a)
signed-weaken (ty.SignedStatus g) (ty.SignedStatus h) =
    ⊎_elim (λ e. inl (ap ty.SignedStatus e)) (λ l. inr (omega (arith, l))) (to_other g 0)
signed-weaken _ _ = tt

any-weakens : (a : Ty) → Weakens a ty.Any
any-weakens ty.Any = inl refl
any-weakens (ty.Int lo hi div) = inr (omega arith)
any-weakens (ty.Ptr s k n c null) = inr (omega arith)
any-weakens (ty.Status g) = inr (omega arith)
any-weakens (ty.SignedStatus g) = inr (omega arith)
any-weakens _ = inr (omega arith)

-- what two types have in common is the first of them, or says less
pub types_weaken : (a b : Ty) → Weakens a (join_types a b)
unfolding join_types
types_weaken a b =
    row_if-is (Weakens a) (same_type a b) a (other_rows a b) (λ _. inl refl)
    (λ _. table-is (Weakens a) a b (ints-weaken a b) (pointers-weaken a b) (null-weaken a b)
    (when (Weakens a) (is_zero b) (or_null a) (λ _. or_null-weaken a))
    (status-weaken a b) (second-weaken b a) (signed-weaken a b) (any-weakens a))

-- a type says at most 9
pub rank-most : (t : Ty) → rank_of t ≤ 9
rank-most (ty.Int lo hi div) =
    let p = differs-most lo 0 in let q = differs-most div 1 in
    let r : ends_above hi ≤ 3 =
    choose (λ z. z ≤ 3) (nat_eq hi (2 ^ 64 - 1)) _ _ (λ _. omega arith)
    (λ _. choose (λ z. z ≤ 3) (nat_eq hi (2 ^ 32 - 1)) _ _ (λ _. omega arith)
    (λ _. choose (λ z. z ≤ 3) (nat_eq hi (2 ^ 31 - 1)) _ _ (λ _. omega arith) (λ _. omega arith))) in
    omega (arith, p, q, r)
rank-most (ty.Ptr s k n c null) =
    let p = differs-most k 1 in
    let q : not_null null ≤ 1 = choose (λ z. z ≤ 1) null 0 1 (λ _. omega arith) (λ _. omega arith) in omega (arith, p, q)
rank-most (ty.Status g) = let p = differs-most g 0 in omega (arith, p)
rank-most (ty.SignedStatus g) = let p = differs-most g 0 in omega (arith, p)
rank-most _ = omega arith
