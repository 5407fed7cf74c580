-- What is in a list that is made of another.
use Rattle.ebc_link.proofs.Common.{All-map, All-contains_itself, All-weaker, All-filter, filter_passes, length-map, get_or-map}
use Rattle.ebc_link.proofs.Common.{All-contains, cond_both, ◌≡◌, zero, suc, ⊎_elim, Bool, true, List, [], ◌∷◌, map, refl, sym, ap, ◌∙◌}
use Rattle.ebc_link.proofs.Common.{arith, subst, Contains, filter, flat_map, Contains-append_cases, Contains-append_left}
use Rattle.ebc_link.proofs.Common.{Contains-append_right}
use Rattle.ebc_link.proofs.FoundLaws.{first_of_all, further}

-- a list has its first, or has it among the others
pub head_or_later : {X : Type 0} → (P : Type 0) (y : X) (xs : List X) (x : X) → Contains (y ∷ xs) x → (y ≡ x → P) → (Contains xs x → P) → P
head_or_later P y xs x (zero, within, is) here later = here is
head_or_later P y xs x (suc k, within, is) here later = later (k, omega (arith, within), is)

pub nowhere : {X : Type 0} → (P : Type 0) (x : X) → Contains [] x → P
nowhere P x (k, within, is) = absurd (omega (arith, within))

-- ---- a filter

pub kept : {X : Type 0} → (p : X → Bool) (xs : List X) (x : X) → Contains xs x → p x ≡ true → Contains (filter p xs) x
kept p [] x there passes = nowhere _ x there
kept p (y ∷ xs) x (zero, within, is) passes = rw (ap p is ∙ passes) (0, omega arith, is)
kept p (y ∷ xs) x (suc k, within, is) passes =
    let later = kept p xs x (k, omega (arith, within), is) passes in
    cond_both (p y) (y ∷ filter p xs) (filter p xs) (λ zs. Contains zs x) (λ e. further y (filter p xs) x later) (λ e. later)

pub was_kept : {X : Type 0} → (p : X → Bool) (xs : List X) (x : X) → Contains (filter p xs) x → Contains xs x × (p x ≡ true)
was_kept p xs x (k, within, is) = (
  subst (Contains xs) is (All-filter p (Contains xs) xs (All-contains_itself xs) k x within),
  ap p (sym is) ∙ filter_passes p xs k x within,
)

-- ---- a map

pub mapped : {X Y : Type 0} → (f : X → Y) (xs : List X) (x : X) → Contains xs x → Contains (map f xs) (f x)
mapped f xs x (k, within, is) = (k, omega (arith, within, length-map xs f), get_or-map f xs k x (f x) within ∙ ap f is)

pub was_mapped : {X Y : Type 0} → (f : X → Y) (xs : List X) (y : Y) → Contains (map f xs) y → (x : X) × Contains xs x × (f x ≡ y)
was_mapped {X} {Y} f xs y there =
    let From : Y → Type 0 = λ z. (x : X) × Contains xs x × (f x ≡ z) in
    All-contains From (map f xs) y
    (All-map From f xs (All-weaker (Contains xs) (λ x. From (f x)) (λ x has. (x, has, refl)) xs (All-contains_itself xs))) there

-- ---- lists joined

pub joined : {X Y : Type 0} → (f : X → List Y) (xs : List X) (x : X) (y : Y) → Contains xs x → Contains (f x) y → Contains (flat_map f xs) y
joined f [] x y there in_it = nowhere _ x there
joined f (z ∷ xs) x y (zero, within, is) in_it = Contains-append_left (f z) (flat_map f xs) y (rw is in_it)
joined f (z ∷ xs) x y (suc k, within, is) in_it =
    Contains-append_right (f z) (flat_map f xs) y (joined f xs x y (k, omega (arith, within), is) in_it)

pub was_joined : {X Y : Type 0} → (f : X → List Y) (xs : List X) (y : Y) → Contains (flat_map f xs) y
    → (x : X) × Contains xs x × Contains (f x) y
was_joined f [] y there = nowhere _ y there
was_joined {X} f (z ∷ xs) y there =
    ⊎_elim
    (λ here. (z, first_of_all xs z, here))
    (λ later. let found = was_joined f xs y later in (found.0, further z xs found.0 found.1, found.2))
    (Contains-append_cases (f z) (flat_map f xs) y there)
