-- Parts of types that the rows look at, and the values that fit them.
use Rattle.typing_laws.proofs.Common.{◌≡◌, ℕ, zero, suc, ◌+◌, ◌-◌, ◌%◌, ◌^◌, ◌<◌, ◌≤◌, Bool, true, false, ◌&&◌, if◌then◌else◌, nat_lt}
use Rattle.typing_laws.proofs.Common.{nat_eq, Option, Some, None, Result, Ok, Err, refl, sym, ap, ap₂, ◌∙◌, subst, arith, add_comm, ℤ, pos}
use Rattle.typing_laws.proofs.Common.{negsuc, ◌+ℤ◌, dvd_of_mod-eq-zero, ltb-true, ltb-false, eqb-true, cond_both, same_Some, none-some, ◌∣◌}
use Rattle.typing_laws.proofs.Common.{wrap64, IsBounded, RuleName, Ty, Any, Int, Lin, Ptr, Span, Pointer, option_or, and_then, constant}
use Rattle.typing_laws.proofs.Common.{constant_of, divisor_of, full, is_near, lin_of, near_offset, pointer_of, span_of, shared, lin, or_any}
use Rattle.typing_laws.proofs.Common.{gives_map, needs, Neutral, number, pair, word, IsNumber, IsPointer, only_if, int_le, option_and_then}
use Rattle.std.proofs.Math.Nat.{dvd_refl, dvd-zero, dvd-mod_iff}
use Rattle.rules_base.specs.declared.parts.Offset.{Offset}
use Rattle.rules_base.specs.{Parts.single, Parts.offset_of, Parts.signed, Sums.at_least_one, Sums.euclid, Sums.gcd}
use Rattle.typing_laws.proofs.Views.{View, FitsIn}

-- ---- results and options

pub ok_same : {A : Type 0} (y x : A) → ◌≡◌ {A = Result A RuleName} (Ok y) (Ok x) → y ≡ x
ok_same y x e = cc

pub err_ok : {A : Type 0} (r : RuleName) (y : A) → ◌≡◌ {A = Result A RuleName} (Err r) (Ok y) → ⊥
err_ok r y e = absurd cc

pub then_some : {A B P : Type 0} (o : Option A) (f : A → Option B) (y : B) → and_then o f ≡ Some y
    → ((x : A) → o ≡ Some x → f x ≡ Some y → P) → P
then_some None f y e k = absurd (none-some y e)
then_some (Some x) f y e k = k x refl e

pub if_some : {A P : Type 0} (b : Bool) (x y : A) → only_if b x ≡ Some y → (b ≡ true → x ≡ y → P) → P
if_some true x y e k = k refl (same_Some x y e)
if_some false x y e k = absurd (none-some y e)

-- what a test says of a part that isn't refused
pub either_ok : {A P : Type 0} (b : Bool) (o q : Result A RuleName) (x : A) → (if b then o else q) ≡ Ok x → (b ≡ true → o ≡ Ok x → P)
    → (b ≡ false → q ≡ Ok x → P) → P
either_ok true o q x e k l = k refl e
either_ok false o q x e k l = l refl e

pub when_ok : {A P : Type 0} (b : Bool) (o : Result A RuleName) (r : RuleName) (x : A) → (if b then o else Err r) ≡ Ok x
    → (b ≡ true → o ≡ Ok x → P) → P
when_ok b o r x e k = either_ok b o (Err r) x e k (λ _ h. absurd (err_ok r x h))

pub unless_ok : {A P : Type 0} (b : Bool) (r : RuleName) (o : Result A RuleName) (x : A) → (if b then Err r else o) ≡ Ok x
    → (b ≡ false → o ≡ Ok x → P) → P
unless_ok b r o x e k = either_ok b (Err r) o x e (λ _ h. absurd (err_ok r x h)) k

pub bound_some : {A B P : Type 0} (f : A → Option B) (o : Option A) (y : B) → option_and_then f o ≡ Some y
    → ((x : A) → o ≡ Some x → f x ≡ Some y → P) → P
bound_some f None y e k = absurd (none-some y e)
bound_some f (Some x) y e k = k x refl e

pub when_some : {A P : Type 0} (b : Bool) (o : Option A) (x : A) → (if b then o else None) ≡ Some x → (b ≡ true → o ≡ Some x → P) → P
when_some true o x e k = k refl e
when_some false o x e k = absurd (none-some x e)

pub unless_some : {A P : Type 0} (b : Bool) (o : Option A) (x : A) → (if b then None else o) ≡ Some x → (b ≡ false → o ≡ Some x → P) → P
unless_some true o x e k = absurd (none-some x e)
unless_some false o x e k = k refl e

pub map_ok : {A B P : Type 0} (f : A → B) (o : Result A RuleName) (y : B) → gives_map f o ≡ Ok y → ((x : A) → o ≡ Ok x → f x ≡ y → P) → P
map_ok f (Ok x) y e k = k x refl (ok_same (f x) y e)
map_ok f (Err r) y e k = absurd (err_ok r y e)

pub needs_true : (r : RuleName) (b : Bool) → needs r b ≡ None → b ≡ true
needs_true r true e = refl
needs_true r false e = absurd (none-some r (sym e))

-- ---- divisors

pub one_divides : (x : ℕ) → 1 ∣ x
one_divides x = dvd_of_mod-eq-zero 1 (omega arith)

pub record DividesBoth (g a b : ℕ) : Type 0 where
  pub first : g ∣ a
  pub second : g ∣ b

euclid_divides : (k a b : ℕ) → DividesBoth (euclid k a b) a b
euclid_divides zero a b = record { first = one_divides a; second = one_divides b }
euclid_divides (suc k) a zero = record { first = dvd_refl a; second = dvd-zero a }
euclid_divides (suc k) a (suc b) =
    let r = euclid_divides k (suc b) (a % suc b) in
    record { first = (dvd-mod_iff (euclid k (suc b) (a % suc b)) r.first).0 r.second; second = r.first }

gcd_divides : (a b : ℕ) → DividesBoth (gcd a b) a b
unfolding gcd
gcd_divides a b = euclid_divides (b + 1) a b

one_or_divides : (g x : ℕ) → g ∣ x → at_least_one g ∣ x
one_or_divides zero x h = one_divides x
one_or_divides (suc g) x h = h

-- a shared divisor divides both
pub shared_divides : (a b : ℕ) → DividesBoth (shared a b) a b
unfolding shared
shared_divides a b =
    let g = gcd_divides a b in
    record { first = one_or_divides (gcd a b) a g.first; second = one_or_divides (gcd a b) b g.second }

pub divisor_divides : (x : Span) (v : Neutral) (f : IsNumber x.lo x.hi x.div v) → divisor_of x ∣ f.x
divisor_divides x v f = cond_both (nat_eq x.lo x.hi) x.lo x.div (λ z. z ∣ f.x)
    (λ h. let a = eqb-true _ _ h in let e : x.lo ≡ f.x = omega (arith, f.from, f.to, a) in subst (λ z. x.lo ∣ z) e (dvd_refl x.lo))
    (λ _. f.divided)

-- ---- signed numbers

sub_wrap : (a b : ℕ) → wrap64 (pos a +ℤ negsuc b) ≡ word (wrap64 (pos a) + wrap64 (negsuc b))
sub_wrap a b = cond_both (nat_lt a (suc b)) (negsuc (suc b - suc a)) (pos (a - suc b))
    (λ z. wrap64 z ≡ word (wrap64 (pos a) + wrap64 (negsuc b)))
    (λ t. let l = ltb-true a (suc b) t in omega arith)
    (λ t. let l = ltb-false a (suc b) t in omega arith)

-- a number modulo 2 ^ 64, as the rules and as the neutral machine have it
pub wraps : (v : ℤ) → wrap64 v ≡ wrap64 v
wraps (pos n) = refl
wraps (negsuc n) = refl

-- a sum modulo 2 ^ 64
pub wrap_add : (y z : ℤ) → wrap64 (y +ℤ z) ≡ word (wrap64 y + wrap64 z)
wrap_add (pos a) (pos b) = omega arith
wrap_add (pos a) (negsuc b) = sub_wrap a b
wrap_add (negsuc a) (pos b) = sub_wrap b a ∙ ap word (add_comm (wrap64 (pos b)) (wrap64 (negsuc a)))
wrap_add (negsuc a) (negsuc b) = omega arith

-- 64 bits are what their signed number is modulo 2 ^ 64
pub signed_wrap : (k : ℕ) → k < 2 ^ 64 → wrap64 (signed k) ≡ k
signed_wrap k l = cond_both (nat_lt k (2 ^ 63)) (pos k) (negsuc (2 ^ 64 - 1 - k)) (λ z. wrap64 z ≡ k) (λ t. omega arith) (λ t. omega arith)

-- ---- bounds

pub span_word : (a : Ty) (x : Span) → span_of a ≡ Some x → IsBounded a → x.hi < 2 ^ 64
span_word (Int lo hi div) x h b = subst (λ (z : Span). z.hi < 2 ^ 64) (same_Some _ x h) b.1
span_word _ x h b = absurd (none-some x h)

pub constant_word : (a : Ty) (k : ℕ) → constant_of a ≡ Some k → IsBounded a → k < 2 ^ 64
constant_word a k h b = then_some (span_of a) single k h
    (λ x p q. if_some (nat_eq x.lo x.hi) x.lo k q (λ t e. let l = span_word a x p b in let z = eqb-true x.lo x.hi t in
    omega (arith, l, z, e)))

module _ (view : View) where
  open view use {notes, m}

  -- a value fits the type that a test gives
  pub choice_fits : (b : Bool) (s t : Ty) (v : Neutral) → (b ≡ true → FitsIn view s v) → (b ≡ false → FitsIn view t v)
      → FitsIn view (if b then s else t) v
  choice_fits b s t v = cond_both b s t (λ z. FitsIn view z v)

  -- ---- values of parts

  pub span_fits : (a : Ty) (x : Span) (v : Neutral) → span_of a ≡ Some x → FitsIn view a v → IsNumber x.lo x.hi x.div v
  span_fits (Int lo hi div) x v h f = subst (λ (z : Span). IsNumber z.lo z.hi z.div v) (same_Some _ x h) f
  span_fits _ x v h f = absurd (none-some x h)

  pub constant_fits : (a : Ty) (k : ℕ) (v : Neutral) → constant_of a ≡ Some k → FitsIn view a v → v ≡ number k
  constant_fits a k v h f = then_some (span_of a) single k h
      (λ x p q. if_some (nat_eq x.lo x.hi) x.lo k q
      (λ t e. let g = span_fits a x v p f in let z = eqb-true x.lo x.hi t in g.is
      ∙ ap number (let y : g.x ≡ k = omega (arith, g.from, g.to, z, e) in y)))

  pub lin_fits : (a : Ty) (o : Offset) (v : Neutral) → lin_of a ≡ Some o → FitsIn view a v → v ≡ pair o.n o.c
  lin_fits (Lin n c) o v h f = subst (λ (z : Offset). v ≡ pair z.n z.c) (same_Some _ o h) f
  lin_fits _ o v h f = absurd (none-some o h)

  pub pointer_fits : (a : Ty) (p : Pointer) (v : Neutral) → pointer_of a ≡ Some p → FitsIn view a v
      → IsPointer notes m.objects p.shape p.count p.n p.c v
  pointer_fits (Ptr s k n c false) p v h f = subst (λ (z : Pointer). IsPointer notes m.objects z.shape z.count z.n z.c v)
      (same_Some _ p h) f
  pointer_fits (Ptr s k n c true) p v h f = absurd (none-some p h)
  pointer_fits _ p v h f = absurd (none-some p h)

  constant_offset : (a : Ty) (o : Offset) (v : Neutral) → IsBounded a → and_then (constant_of a) near_offset ≡ Some o
      → FitsIn view a v → v ≡ pair o.n o.c
  constant_offset a o v b h f = then_some (constant_of a) near_offset o h
      (λ k p q. if_some (is_near (signed k)) (record { n = pos 0; c = signed k }) o q
      (λ t e. constant_fits a k v p f ∙ ap number (sym (signed_wrap k (constant_word a k p b))) ∙ ap (λ (z : Offset). pair z.n z.c) e))

  -- what a small constant or a Lin adds
  pub offset_fits : (a : Ty) (o : Offset) (v : Neutral) → IsBounded a → offset_of a ≡ Some o → FitsIn view a v → v ≡ pair o.n o.c
  offset_fits (Lin n c) o v b h f = subst (λ (z : Offset). v ≡ pair z.n z.c) (same_Some _ o h) f
  offset_fits (Int lo hi div) o v b h f = constant_offset (Int lo hi div) o v b h f
  offset_fits _ o v b h f = absurd (none-some o h)

  -- ---- numbers

  pub number_fits : (x lo hi div : ℕ) (v : Neutral) → v ≡ number x → lo ≤ x → x ≤ hi → div ∣ x → FitsIn view (Int lo hi div) v
  number_fits x lo hi div v e l h q = record { x = x; is = e; from = l; to = h; divided = q }

  pub word_fits : (x : ℕ) (v : Neutral) → v ≡ number x → x < 2 ^ 64 → FitsIn view (full 64) v
  word_fits x v e l = number_fits x 0 (2 ^ 64 - 1) 1 v e (omega arith) (omega arith) (one_divides x)

  pub same_fits : (x k : ℕ) (v : Neutral) → v ≡ number x → x ≡ k → FitsIn view (constant k) v
  same_fits x k v e p = number_fits k k k 1 v (e ∙ ap number p) (omega arith) (omega arith) (one_divides k)

  pub lin_is : (n c : ℤ) (v : Neutral) → v ≡ pair n c → FitsIn view (lin n c) v
  lin_is n c v h = choice_fits (is_near n && is_near c) (Lin n c) Any v (λ _. h) (λ _. tt)

  -- a number and a multiple of the width
  pub units_fit : (n c : ℤ) → FitsIn view (if int_le (pos 1) n then lin n c else Any) (pair n c)
  units_fit n c = choice_fits (int_le (pos 1) n) (lin n c) Any (pair n c) (λ _. lin_is n c (pair n c) refl) (λ _. tt)

  -- ---- rows over an operation on values

  -- a row is sound for an operation where the type that it gives fits what the operation gives
  abbrev pub RowFits : (Neutral → Neutral → Neutral) → (Ty → Ty → Option Ty) → Type 0
  RowFits op row = (a b t : Ty) (v u : Neutral) → IsBounded a → IsBounded b → row a b ≡ Some t → FitsIn view a v
      → FitsIn view b u → FitsIn view t (op v u)

  pub or_fits : (op : Neutral → Neutral → Neutral) (r s : Ty → Ty → Option Ty) → RowFits op r → RowFits op s
      → RowFits op (λ a b. option_or (r a b) (s a b))
  or_fits op r s p q a b t v u x y h f g = go (r a b) refl h
    where
      go : (o : Option Ty) → r a b ≡ o → option_or o (s a b) ≡ Some t → FitsIn view t (op v u)
      go None e z = q a b t v u x y z f g
      go (Some k) e z = p a b t v u x y (e ∙ z) f g

  pub any_fits : (op : Neutral → Neutral → Neutral) (r : Ty → Ty → Option Ty) (a b : Ty) (v u : Neutral) → RowFits op r → IsBounded a
      → IsBounded b → FitsIn view a v → FitsIn view b u → FitsIn view (or_any (r a b)) (op v u)
  any_fits op r a b v u p x y f g = go (r a b) refl
    where
      go : (o : Option Ty) → r a b ≡ o → FitsIn view (or_any o) (op v u)
      go None e = tt
      go (Some t) e = p a b t v u x y e f g

  -- rows of two Ints
  pub two_spans : (op : Neutral → Neutral → Neutral) (f : Span → Span → Ty)
      → ((x y : Span) (v u : Neutral) → x.hi < 2 ^ 64 → y.hi < 2 ^ 64 → IsNumber x.lo x.hi x.div v → IsNumber y.lo y.hi y.div u
      → FitsIn view (f x y) (op v u)) → RowFits op (λ a b. and_then (span_of a) (λ x. and_then (span_of b) (λ y. Some (f x y))))
  two_spans op f k a b t v u l r h p q =
      then_some (span_of a) _ t h (λ x e1 h1. then_some (span_of b) _ t h1 (λ y e2 h2.
      subst (λ z. FitsIn view z (op v u)) (same_Some _ t h2)
      (k x y v u (span_word a x e1 l) (span_word b y e2 r) (span_fits a x v e1 p) (span_fits b y u e2 q))))

  -- rows of two constants
  pub two_constants : (op : Neutral → Neutral → Neutral) (f : ℕ → ℕ → Ty)
      → ((x y : ℕ) → x < 2 ^ 64 → y < 2 ^ 64 → FitsIn view (f x y) (op (number x) (number y)))
      → RowFits op (λ a b. and_then (constant_of a) (λ x. and_then (constant_of b) (λ y. Some (f x y))))
  two_constants op f k a b t v u l r h p q =
      then_some (constant_of a) _ t h (λ x e1 h1. then_some (constant_of b) _ t h1 (λ y e2 h2.
      subst (λ z. FitsIn view z (op v u)) (same_Some _ t h2)
      (subst (λ z. FitsIn view (f x y) z) (ap₂ op (sym (constant_fits a x v e1 p)) (sym (constant_fits b y u e2 q)))
      (k x y (constant_word a x e1 l) (constant_word b y e2 r)))))
