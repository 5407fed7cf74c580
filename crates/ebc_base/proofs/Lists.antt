-- Elements of lists by their numbers.
use Rattle.std.proofs.Common.{◌≡◌, ℕ, zero, suc, ◌-◌, ◌<◌, ◌≤◌, List, [], ◌∷◌, ◌++◌, length, map, take, Some, refl, sym, ap, ◌∙◌, subst}
use Rattle.std.proofs.Common.{subst₂, arith, slice_get, All, AllPairs, ⊎_elim, ◌+◌, Bool, true, false, cond, nat_eq}
use Rattle.std.specs.List.{flat_map, AllByRecursion, list_any, position_or_len, Contains}
use Rattle.std.proofs.lemmas.Bool.{cases_lt, eq-eqb, or_left, or_right}
use Rattle.std.proofs.lemmas.Option.{slice_get_within, get_or_from_slice_get, none-some}
use Rattle.std.specs.Prelude.{not, ◌||◌}

pub slice_get-append_left : {X : Type 0} (xs ys : List X) (k : ℕ) → k < length xs → slice_get (xs ++ ys) k ≡ slice_get xs k
slice_get-append_left [] ys k h = absurd (omega arith)
slice_get-append_left (x ∷ xs) ys zero h = refl
slice_get-append_left (x ∷ xs) ys (suc k) h = slice_get-append_left xs ys k (omega arith)

pub slice_get-append_right : {X : Type 0} (xs ys : List X) (k : ℕ) → length xs ≤ k → slice_get (xs ++ ys) k ≡ slice_get ys (k - length xs)
slice_get-append_right [] ys k h = ap (slice_get ys) (omega arith)
slice_get-append_right (x ∷ xs) ys zero h = absurd (omega arith)
slice_get-append_right (x ∷ xs) ys (suc k) h = slice_get-append_right xs ys k (omega arith) ∙ ap (slice_get ys) (omega arith)

-- what holds of all holds of one, and of two where it holds of each two
pub All_at : {X : Type 0} (P : X → Type 0) (xs : List X) (k : ℕ) (x : X) → All P xs → slice_get xs k ≡ Some x → P x
All_at P xs k x h g = subst P (get_or_from_slice_get xs k x x g) (h k x (slice_get_within xs k x g))

pub AllPairs_at : {X : Type 0} (R : X → X → Type 0) (xs : List X) (i j : ℕ) (x y : X) → AllPairs R xs → slice_get xs i ≡ Some x
    → slice_get xs j ≡ Some y → i < j → R x y
AllPairs_at R xs i j x y h g k l = subst₂ R (get_or_from_slice_get xs i x x g) (get_or_from_slice_get xs j y x k)
    (h i j x l (slice_get_within xs j y k))

-- a list has an element at each number below its length
pub within_some : {X : Type 0} (xs : List X) (k : ℕ) → k < length xs → (x : X) × (slice_get xs k ≡ Some x)
within_some [] k h = absurd (omega arith)
within_some (x ∷ xs) zero h = (x, refl)
within_some (x ∷ xs) (suc k) h = within_some xs k (omega arith)

pub length-map : {X Y : Type 0} (f : X → Y) (xs : List X) → length (map f xs) ≡ length xs
length-map f [] = refl
length-map f (x ∷ xs) = ap suc (length-map f xs)

pub take-all : {X : Type 0} (xs : List X) → take (length xs) xs ≡ xs
take-all [] = refl
take-all (x ∷ xs) = ap (λ z. x ∷ z) (take-all xs)

-- what the first lists of many have at a number, all of them have there
pub flat_map-taken : {X Y : Type 0} (f : X → List Y) (n : ℕ) (xs : List X) (j : ℕ) (y : Y) → slice_get (flat_map f (take n xs)) j ≡ Some y
    → slice_get (flat_map f xs) j ≡ Some y
flat_map-taken f zero xs j y h = absurd (none-some y h)
flat_map-taken f (suc n) [] j y h = h
flat_map-taken f (suc n) (x ∷ xs) j y h = ⊎_elim
    (λ l. slice_get-append_left (f x) (flat_map f xs) j l ∙ sym (slice_get-append_left (f x) (flat_map f (take n xs)) j l) ∙ h)
    (λ l. slice_get-append_right (f x) (flat_map f xs) j l ∙ flat_map-taken f n xs (j - length (f x)) y
    (sym (slice_get-append_right (f x) (flat_map f (take n xs)) j l) ∙ h))
    (cases_lt j (length (f x)))

-- an element of a part in front is one of the whole
pub slice_get-front : {X : Type 0} (xs ys : List X) (k : ℕ) (x : X) → slice_get xs k ≡ Some x → slice_get (xs ++ ys) k ≡ Some x
slice_get-front xs ys k x h = slice_get-append_left xs ys k (slice_get_within xs k x h) ∙ h

pub all_append : {A : Type 0} (P : A → Type 0) (xs ys : List A) → AllByRecursion P xs → AllByRecursion P ys → AllByRecursion P (xs ++ ys)
all_append P [] ys h g = g
all_append P (x ∷ xs) ys h g = (h.0, all_append P xs ys h.1 g)

pub within_by : (b r : Bool) (n m : ℕ) → (r ≡ true → n < m) → (b || r) ≡ true → cond (not b) (1 + n) 0 < suc m
within_by true r n m h e = omega arith
within_by false r n m h e = let l : n < m = h e in omega arith

-- where some item passes, a search finds one
pub found_within : {A : Type 0} (p : A → Bool) (xs : List A) → list_any p xs ≡ true → position_or_len p xs < length xs
found_within p [] e = absurd cc
found_within p (x ∷ xs) e = within_by (p x) (list_any p xs) (position_or_len p xs) (length xs) (found_within p xs) e

-- a member of a list is among them
pub contains-any : (xs : List ℕ) (r : ℕ) → Contains xs r → list_any (nat_eq r) xs ≡ true
contains-any [] r c = absurd (omega (arith, c.1))
contains-any (x ∷ xs) r (zero, l, e) = or_left _ _ (eq-eqb r x (sym e))
contains-any (x ∷ xs) r (suc k, l, e) = or_right (nat_eq r x) _ (contains-any xs r (k, (let n : k < length xs = omega (arith, l) in n), e))
