-- A type that has had another one joined in takes it again without a change, whatever else was joined in since: so what
-- is given again need not be joined again.
use Rattle.note_infer.proofs.Joins.{◌≡◌, ◌⊎◌, ℕ, ◌-◌, ◌^◌, ◌<◌, ◌≤◌, Bool, true, false, ◌&&◌, ◌||◌, nat_eq, nat_lt, if◌then◌else◌, Option}
use Rattle.note_infer.proofs.Joins.{None, Some, refl, ap, sym, subst, ◌∙◌, inl, inr, ⊎_elim, arith, pos, IfSome, unwrap_or, int_eq}
use Rattle.note_infer.proofs.Joins.{and_from, and_parts, eqb-true, eq-eqb, leb-true, ltb-true, false≢true, Decides-int_eq, same_type}
use Rattle.note_infer.proofs.Joins.{IsBounded, is_start, only_if, Decides-same_type, same_type-equal, Ty, are_within, common, is_zero}
use Rattle.note_infer.proofs.Joins.{join_ints, join_null, join_pointers, join_signed, join_status, join_types, least_end, or_null}
use Rattle.std.proofs.{Common.ℤ, lemmas.Bool.le-leb, lemmas.Bool.lt-ltb}
use Rattle.std.specs.Prelude.{⊤}
use Rattle.note_infer.proofs.TypeJoins.{choose, common-is, least_end-above, other_rows, row_if-is, some_if-is, table-is, when}
use Rattle.note_types.specs.declared.types.Ty.TheVariants as ty

-- one of the three upper ends
abbrev IsEnd : ℕ → Type 0
IsEnd hi = (hi ≡ 2 ^ 31 - 1) ⊎ ((hi ≡ 2 ^ 32 - 1) ⊎ (hi ≡ 2 ^ 64 - 1))

-- an upper end is one that a joined end may be
abbrev HasEnd : ℕ → ℕ → Type 0
HasEnd hi to = (hi ≡ to) ⊎ (IsEnd hi × (to ≤ hi))

-- the number is the other one, or what stands for any
abbrev HasNumber : ℕ → ℕ → ℕ → Type 0
HasNumber other x y = (x ≡ y) ⊎ (x ≡ other)

-- a type has had g joined in, but for equality: by the rows
abbrev Holds : Ty → Ty → Type 0
Holds ty.Any g = ⊤
Holds (ty.Int lo hi div) (ty.Int from to by) = HasNumber 0 lo from × HasEnd hi to × HasNumber 1 div by
Holds (ty.Ptr s k n c null) (ty.Ptr t l m d may) = (s ≡ t) × (n ≡ m) × (c ≡ d) × HasNumber 1 k l × ((may ≡ false) ⊎ (null ≡ true))
Holds (ty.Ptr s k n c null) (ty.Int lo hi div) = (lo ≡ 0) × (hi ≡ 0) × (n ≡ pos 0) × (c ≡ pos 0) × (null ≡ true)
Holds ty.Handle (ty.Int lo hi div) = (lo ≡ 0) × (hi ≡ 0)
Holds ty.Entry (ty.Int lo hi div) = (lo ≡ 0) × (hi ≡ 0)
Holds (ty.Status g) (ty.Status h) = (g ≡ h) ⊎ (g ≡ 0)
Holds (ty.Status g) (ty.Int lo hi div) = (g ≡ 0) × (hi < 2 ^ 31)
Holds (ty.SignedStatus g) (ty.SignedStatus h) = (g ≡ h) ⊎ (g ≡ 0)
Holds t g = t ≡ g

holds_self : (t : Ty) → Holds t t
holds_self ty.Any = tt
holds_self (ty.Int lo hi div) = (inl refl, inl refl, inl refl)
holds_self (ty.Ptr s k n c true) = (refl, refl, refl, inl refl, inr refl)
holds_self (ty.Ptr s k n c false) = (refl, refl, refl, inl refl, inl refl)
holds_self (ty.Status g) = inl refl
holds_self (ty.SignedStatus g) = inl refl
holds_self (ty.Lin n c) = refl
holds_self (ty.Scaled n c hi) = refl
holds_self (ty.Local f) = refl
holds_self (ty.Lent cell) = refl
holds_self ty.Mask = refl
holds_self ty.Handle = refl
holds_self ty.Entry = refl
holds_self (ty.Method m) = refl
holds_self (ty.ThunkAt i) = refl
holds_self (ty.Saved r) = refl

-- ---- what stays joined in

number_stays : (other x y z : ℕ) → HasNumber other x y → HasNumber other (common x z other) y
number_stays other x y z h = common-is (λ v. HasNumber other v y) x z other (λ _. h) (inr refl)

least_is-end : (x y : ℕ) → IsEnd (least_end x y)
least_is-end x y =
    choose IsEnd (are_within x y (2 ^ 31 - 1)) _ _ (λ _. inl refl)
    (λ _. choose IsEnd (are_within x y (2 ^ 32 - 1)) _ _ (λ _. inr (inl refl)) (λ _. inr (inr refl)))

module _ (x z : ℕ) (hx : x < 2 ^ 64) (hz : z < 2 ^ 64) where
  end_stays : (y : ℕ) → HasEnd x y → HasEnd (common x z (least_end x z)) y
  end_stays y h =
      common-is (λ v. HasEnd v y) x z (least_end x z) (λ _. h)
      (inr (
        least_is-end x z,
        (let l = (least_end-above x z hx hz).0 in ⊎_elim (λ e. omega (arith, e, l))
            (λ q. let m = q.1 in omega (arith, l, m)) h),
      ))

-- ---- what was joined in is held

ints-hold : (t g : Ty) → IsBounded t → IsBounded g → IfSome (join_ints t g) (λ u. Holds u g)
ints-hold (ty.Int lo hi div) (ty.Int from to by) h g = (
  common-is (λ v. HasNumber 0 v from) lo from 0 (λ e. inl e) (inr refl),
  common-is (λ v. HasEnd v to) hi to (least_end hi to) (λ e. inl e) (inr (least_is-end hi to, (least_end-above hi to h.1 g.1).1)),
  common-is (λ v. HasNumber 1 v by) div by 1 (λ e. inl e) (inr refl),
)
ints-hold _ _ h g = tt

either : (a b : Bool) → (b ≡ false) ⊎ ((a || b) ≡ true)
either true b = inr refl
either false true = inr refl
either false false = inl refl

pointers-hold : (t g : Ty) → IfSome (join_pointers t g) (λ u. Holds u g)
pointers-hold (ty.Ptr s k n c null) (ty.Ptr t l m d may) =
    some_if-is (λ u. Holds u (ty.Ptr t l m d may)) (nat_eq s t && (int_eq n m && int_eq c d)) _
    (λ e. let p = and_parts _ _ e in let q = and_parts _ _ p.1 in (
      eqb-true s t p.0,
      (Decides-int_eq n m).0 q.0,
      (Decides-int_eq c d).0 q.1,
      common-is (λ v. HasNumber 1 v l) k l 1 (λ e. inl e)
          (inr refl),
      either null may,
    ))
pointers-hold _ _ = tt

or_null-hold : (g : Ty) → IfSome (or_null g) (λ u. Holds u g)
or_null-hold (ty.Ptr s k n c null) = some_if-is (λ u. Holds u (ty.Ptr s k n c null)) (is_start n c) _
    (λ _. (refl, refl, refl, inl refl, inr refl))
or_null-hold ty.Handle = refl
or_null-hold ty.Entry = refl
or_null-hold _ = tt

or_null-zero : (t : Ty) (lo hi div : ℕ) → lo ≡ 0 → hi ≡ 0 → IfSome (or_null t) (λ u. Holds u (ty.Int lo hi div))
or_null-zero (ty.Ptr s k n c null) lo hi div x y =
    some_if-is (λ u. Holds u (ty.Int lo hi div)) (is_start n c) _
    (λ e. let p = and_parts _ _ e in (x, y, (Decides-int_eq n (pos 0)).0 p.0, (Decides-int_eq c (pos 0)).0 p.1, refl))
or_null-zero ty.Handle lo hi div x y = (x, y)
or_null-zero ty.Entry lo hi div x y = (x, y)
or_null-zero _ lo hi div x y = tt

zero-hold : (g t : Ty) → IfSome (join_null g t) (λ u. Holds u g)
zero-hold (ty.Int lo hi div) t =
    when (λ u. Holds u (ty.Int lo hi div)) (nat_eq lo 0 && nat_eq hi 0) (or_null t)
    (λ e. let p = and_parts _ _ e in or_null-zero t lo hi div (eqb-true lo 0 p.0) (eqb-true hi 0 p.1))
zero-hold _ t = tt

status-hold : (t g : Ty) → IfSome (join_status t g) (λ u. Holds u g)
status-hold (ty.Status g) (ty.Status h) = inr refl
status-hold (ty.Status g) (ty.Int lo hi div) = some_if-is (λ u. Holds u (ty.Int lo hi div)) (nat_lt hi (2 ^ 31)) _
    (λ e. (refl, ltb-true hi (2 ^ 31) e))
status-hold _ _ = tt

second-hold : (g t : Ty) → IfSome (join_status g t) (λ u. Holds u g)
second-hold (ty.Status g) (ty.Status h) = inr refl
second-hold (ty.Status g) (ty.Int lo hi div) = some_if-is (λ u. Holds u (ty.Status g)) (nat_lt hi (2 ^ 31)) _ (λ e. inr refl)
second-hold _ _ = tt

signed-hold : (t g : Ty) → IfSome (join_signed t g) (λ u. Holds u g)
signed-hold (ty.SignedStatus g) (ty.SignedStatus h) = inr refl
signed-hold _ _ = tt

pub joined_holds : (t g : Ty) → IsBounded t → IsBounded g → Holds (join_types t g) g
unfolding join_types
joined_holds t g x y =
    row_if-is (λ u. Holds u g) (same_type t g) t (other_rows t g) (λ e. subst (λ u. Holds t u) (same_type-equal t g e) (holds_self t))
    (λ _. table-is (λ u. Holds u g) t g (ints-hold t g x y) (pointers-hold t g)
    (when (λ u. Holds u g) (is_zero t) (or_null g) (λ _. or_null-hold g)) (zero-hold g t)
    (status-hold t g) (second-hold g t) (signed-hold t g) tt)

-- ---- what is held is joined in again without a change

number_kept : (other x y : ℕ) → HasNumber other x y → common x y other ≡ x
number_kept other x y (inl e) = choose (λ v. v ≡ x) (nat_eq x y) x other (λ _. refl) (λ q. absurd (false≢true (sym q ∙ eq-eqb x y e)))
number_kept other x y (inr e) = choose (λ v. v ≡ x) (nat_eq x y) x other (λ _. refl) (λ _. sym e)

end_kept : (x y : ℕ) → HasEnd x y → common x y (least_end x y) ≡ x
end_kept x y (inl e) = choose (λ v. v ≡ x) (nat_eq x y) x _ (λ _. refl) (λ q. absurd (false≢true (sym q ∙ eq-eqb x y e)))
end_kept x y (inr h) = choose (λ v. v ≡ x) (nat_eq x y) x (least_end x y) (λ _. refl) (λ _. least h.0)
  where
    least : IsEnd x → least_end x y ≡ x
    least (inl e) =
        choose (λ v. v ≡ x) (are_within x y (2 ^ 31 - 1)) _ _ (λ _. sym e)
        (λ q. absurd (false≢true (sym q ∙ and_from _ _ (le-leb x _ (omega (arith, e))) (le-leb y _ (let l = h.1 in omega (arith, e, l))))))
    least (inr (inl e)) =
        choose (λ v. v ≡ x) (are_within x y (2 ^ 31 - 1)) _ _
        (λ t. absurd (let l = leb-true x _ (and_parts _ _ t).0 in omega (arith, e, l)))
        (λ _. choose (λ v. v ≡ x) (are_within x y (2 ^ 32 - 1)) _ _ (λ _. sym e)
        (λ q. absurd (false≢true (sym q ∙ and_from _ _ (le-leb x _ (omega (arith, e))) (le-leb y _ (let l = h.1 in omega (arith, e, l)))))))
    least (inr (inr e)) =
        choose (λ v. v ≡ x) (are_within x y (2 ^ 31 - 1)) _ _
        (λ t. absurd (let l = leb-true x _ (and_parts _ _ t).0 in omega (arith, e, l)))
        (λ _. choose (λ v. v ≡ x) (are_within x y (2 ^ 32 - 1)) _ _
        (λ t. absurd (let l = leb-true x _ (and_parts _ _ t).0 in omega (arith, e, l))) (λ _. sym e))

null_kept : (null may : Bool) → (may ≡ false) ⊎ (null ≡ true) → (null || may) ≡ null
null_kept true may h = refl
null_kept false true (inl e) = absurd (false≢true (sym e))
null_kept false true (inr e) = absurd (false≢true e)
null_kept false false h = refl

second-none : (g : Ty) → IfSome (join_status g ty.Any) (λ u. u ≡ ty.Any)
second-none (ty.Status g) = tt
second-none _ = tt

row_none : (o : Option Ty) (t : Ty) → o ≡ None → unwrap_or o t ≡ t
row_none o t e = ap (λ q. unwrap_or q t) e

row_some : (o : Option Ty) (t u : Ty) → o ≡ Some u → unwrap_or o t ≡ u
row_some o t u e = ap (λ q. unwrap_or q t) e

if_true : {A : Type 0} (b : Bool) (x y : A) → b ≡ true → (if b then x else y) ≡ x
if_true b x y e = rw e refl

zero_is : (lo hi : ℕ) → lo ≡ 0 → hi ≡ 0 → (nat_eq lo 0 && nat_eq hi 0) ≡ true
zero_is lo hi x y = and_from _ _ (eq-eqb lo 0 x) (eq-eqb hi 0 y)

start_is : (n c : ℤ) → n ≡ pos 0 → c ≡ pos 0 → (is_start n c) ≡ true
start_is n c x y = and_from _ _ ((Decides-int_eq n (pos 0)).1 x) ((Decides-int_eq c (pos 0)).1 y)

others_held : (t g : Ty) → Holds t g → (t ≡ g → ⊥) → other_rows t g ≡ t
others_held ty.Any g h d =
    table-is (λ u. u ≡ ty.Any) ty.Any g tt tt tt (when (λ u. u ≡ ty.Any) (is_zero g) (or_null ty.Any) (λ _. tt)) tt (second-none g) tt refl
others_held (ty.Int lo hi div) (ty.Int from to by) h d = λ i. ty.Int (number_kept 0 lo from h.0 i) (end_kept hi to h.1 i)
    (number_kept 1 div by h.2 i)
others_held (ty.Ptr s k n c null) (ty.Ptr t l m e may) h d =
    if_some (nat_eq s t && (int_eq n m && int_eq c e)) (ty.Ptr s (common k l 1) n c (null || may)) _
    (and_from _ _ (eq-eqb s t h.0) (and_from _ _ ((Decides-int_eq n m).1 h.1) ((Decides-int_eq c e).1 h.2)))
    ∙ (λ i. ty.Ptr s (number_kept 1 k l h.3 i) n c (null_kept null may h.4 i))
  where
    if_some : (b : Bool) (u v : Ty) → b ≡ true → unwrap_or (only_if b u) v ≡ u
    if_some b u v q = row_some (only_if b u) v u (if_true b (Some u) None q)
others_held (ty.Ptr s k n c null) (ty.Int lo hi div) h d =
    row_some (if nat_eq lo 0 && nat_eq hi 0 then or_null (ty.Ptr s k n c null) else None) _ (ty.Ptr s k n c true)
    (if_true (nat_eq lo 0 && nat_eq hi 0) (or_null (ty.Ptr s k n c null)) None (zero_is lo hi h.0 h.1)
    ∙ if_true (is_start n c) (Some (ty.Ptr s k n c true)) None (start_is n c h.2 h.3))
    ∙ (λ i. ty.Ptr s k n c (sym h.4 i))
others_held ty.Handle (ty.Int lo hi div) h d =
    row_some (if nat_eq lo 0 && nat_eq hi 0 then Some ty.Handle else None) _ ty.Handle
    (if_true (nat_eq lo 0 && nat_eq hi 0) (Some ty.Handle) None (zero_is lo hi h.0 h.1))
others_held ty.Entry (ty.Int lo hi div) h d =
    row_some (if nat_eq lo 0 && nat_eq hi 0 then Some ty.Entry else None) _ ty.Entry
    (if_true (nat_eq lo 0 && nat_eq hi 0) (Some ty.Entry) None (zero_is lo hi h.0 h.1))
others_held (ty.Status g) (ty.Status k) (inl e) d = absurd (d (ap ty.Status e))
others_held (ty.Status g) (ty.Status k) (inr e) d = ap ty.Status (sym e)
others_held (ty.Status g) (ty.Int lo hi div) h d =
    row_none (if nat_eq lo 0 && nat_eq hi 0 then None else None) _
    (choose (λ (o : Option Ty). o ≡ None) (nat_eq lo 0 && nat_eq hi 0) None None (λ _. refl) (λ _. refl))
    ∙ (row_some (only_if (nat_lt hi (2 ^ 31)) (ty.Status 0)) _ (ty.Status 0)
    (if_true (nat_lt hi (2 ^ 31)) (Some (ty.Status 0)) None (lt-ltb hi (2 ^ 31) h.1))
    ∙ ap ty.Status (sym h.0))
others_held (ty.SignedStatus g) (ty.SignedStatus k) (inl e) d = absurd (d (ap ty.SignedStatus e))
others_held (ty.SignedStatus g) (ty.SignedStatus k) (inr e) d = ap ty.SignedStatus (sym e)
others_held t g h d = absurd (d h)

not_same : (t g : Ty) → same_type t g ≡ false → t ≡ g → ⊥
not_same t g q e = false≢true (sym q ∙ (Decides-same_type t g).1 e)

-- what a type holds is joined in without a change
pub held_again : (t g : Ty) → Holds t g → join_types t g ≡ t
unfolding join_types
held_again t g h = row_if-is (λ u. u ≡ t) (same_type t g) t (other_rows t g) (λ _. refl) (λ q. others_held t g h (not_same t g q))

-- a type takes what was joined in a second time without a change
pub types_again : (t g : Ty) → IsBounded t → IsBounded g → join_types (join_types t g) g ≡ join_types t g
types_again t g x y = held_again (join_types t g) g (joined_holds t g x y)

-- ---- what is held stays held, whatever is joined in

ints-stay : (t h g : Ty) → IsBounded t → IsBounded h → Holds t g → IfSome (join_ints t h) (λ u. Holds u g)
ints-stay (ty.Int lo hi div) (ty.Int a b d) (ty.Int from to by) x y k =
    (number_stays 0 lo from a k.0, end_stays hi b x.1 y.1 to k.1, number_stays 1 div by d k.2)
ints-stay (ty.Int lo hi div) (ty.Int a b d) _ x y k = absurd cc
ints-stay _ _ g x y k = tt

or_kept : (null may : Bool) → null ≡ true → (null || may) ≡ true
or_kept true may e = refl
or_kept false may e = absurd (false≢true e)

pointers-stay : (t h g : Ty) → Holds t g → IfSome (join_pointers t h) (λ u. Holds u g)
pointers-stay (ty.Ptr s k n c null) (ty.Ptr t l m d may) (ty.Ptr a b e f maybe) x =
    some_if-is (λ u. Holds u (ty.Ptr a b e f maybe)) (nat_eq s t && (int_eq n m && int_eq c d)) _
    (λ _. (x.0, x.1, x.2, number_stays 1 k b l x.3, ⊎_elim (λ q. inl q) (λ q. inr (or_kept null may q)) x.4))
pointers-stay (ty.Ptr s k n c null) (ty.Ptr t l m d may) (ty.Int lo hi div) x =
    some_if-is (λ u. Holds u (ty.Int lo hi div)) (nat_eq s t && (int_eq n m && int_eq c d)) _
    (λ _. (x.0, x.1, x.2, x.3, or_kept null may x.4))
pointers-stay (ty.Ptr s k n c null) (ty.Ptr t l m d may) g x = absurd cc
pointers-stay _ _ g x = tt

-- where the number 0 holds a type, that is the number 0
zero_end : (to : ℕ) → HasEnd 0 to → to ≡ 0
zero_end to (inl e) = sym e
zero_end to (inr h) = let l = h.1 in omega (arith, l)

or_null-stay : (h g : Ty) (lo hi div : ℕ) → lo ≡ 0 → hi ≡ 0 → IsBounded g → Holds (ty.Int lo hi div) g → IfSome (or_null h) (λ u. Holds u g)
or_null-stay h (ty.Int from to by) lo hi div x y z k =
    let end : to ≡ 0 = zero_end to (subst (λ v. HasEnd v to) y k.1) in
    let low : from ≡ 0 = let l = z.0 in omega (arith, l, end) in or_null-zero h from to by low end
or_null-stay h _ lo hi div x y z k = absurd cc

null-stay : (t h g : Ty) → IsBounded g → Holds t g → IfSome (join_null t h) (λ u. Holds u g)
null-stay (ty.Int lo hi div) h g z k =
    when (λ u. Holds u g) (nat_eq lo 0 && nat_eq hi 0) (or_null h)
    (λ e. let p = and_parts _ _ e in or_null-stay h g lo hi div (eqb-true lo 0 p.0) (eqb-true hi 0 p.1) z k)
null-stay _ h g z k = tt

widened : (t g : Ty) → Holds t g → IfSome (or_null t) (λ u. Holds u g)
widened (ty.Ptr s k n c null) (ty.Ptr a b e f maybe) x =
    some_if-is (λ u. Holds u (ty.Ptr a b e f maybe)) (is_start n c) _ (λ _. (x.0, x.1, x.2, x.3, inr refl))
widened (ty.Ptr s k n c null) (ty.Int lo hi div) x =
    some_if-is (λ u. Holds u (ty.Int lo hi div)) (is_start n c) _ (λ _. (x.0, x.1, x.2, x.3, refl))
widened (ty.Ptr s k n c null) g x = absurd cc
widened ty.Handle g x = x
widened ty.Entry g x = x
widened _ g x = tt

status_stays : (k : ℕ) (g : Ty) → Holds (ty.Status k) g → Holds (ty.Status 0) g
status_stays k (ty.Status h) x = inr refl
status_stays k (ty.Int lo hi div) x = (refl, x.1)
status_stays k g x = absurd cc

status-stay : (t h g : Ty) → Holds t g → IfSome (join_status t h) (λ u. Holds u g)
status-stay (ty.Status k) (ty.Status l) g x = status_stays k g x
status-stay (ty.Status k) (ty.Int lo hi div) g x = some_if-is (λ u. Holds u g) (nat_lt hi (2 ^ 31)) _ (λ _. status_stays k g x)
status-stay _ _ g x = tt

small_stays : (lo hi div : ℕ) (g : Ty) → hi < 2 ^ 31 → Holds (ty.Int lo hi div) g → Holds (ty.Status 0) g
small_stays lo hi div (ty.Int from to by) l x =
    (refl, ⊎_elim (λ e. omega (arith, e, l)) (λ q. let m = q.1 in omega (arith, m, l)) x.1)
small_stays lo hi div g l x = absurd cc

second-stay : (h t g : Ty) → Holds t g → IfSome (join_status h t) (λ u. Holds u g)
second-stay (ty.Status l) (ty.Status k) g x = status_stays k g x
second-stay (ty.Status l) (ty.Int lo hi div) g x = some_if-is (λ u. Holds u g) (nat_lt hi (2 ^ 31)) _
    (λ e. small_stays lo hi div g (ltb-true hi (2 ^ 31) e) x)
second-stay _ _ g x = tt

signed-stay : (t h g : Ty) → Holds t g → IfSome (join_signed t h) (λ u. Holds u g)
signed-stay (ty.SignedStatus k) (ty.SignedStatus l) (ty.SignedStatus h) x = inr refl
signed-stay (ty.SignedStatus k) (ty.SignedStatus l) g x = absurd cc
signed-stay _ _ g x = tt

pub held_stays : (t h g : Ty) → IsBounded t → IsBounded h → IsBounded g → Holds t g → Holds (join_types t h) g
unfolding join_types
held_stays t h g x y z k =
    row_if-is (λ u. Holds u g) (same_type t h) t (other_rows t h) (λ _. k)
    (λ _. table-is (λ u. Holds u g) t h (ints-stay t h g x y k) (pointers-stay t h g k) (null-stay t h g z k)
    (when (λ u. Holds u g) (is_zero h) (or_null t) (λ _. widened t g k))
    (status-stay t h g k) (second-stay h t g k) (signed-stay t h g k) tt)

-- a type into which another one was joined takes it again without a change, whatever is joined in between
pub types_settled : (t h g : Ty) → IsBounded t → IsBounded h → IsBounded g → join_types t g ≡ t → join_types (join_types t h) g
    ≡ join_types t h
types_settled t h g x y z e =
    held_again (join_types t h) g (held_stays t h g x y z (subst (λ u. Holds u g) e (joined_holds t g x z)))
