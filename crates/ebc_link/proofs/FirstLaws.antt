-- The first thing of a list, or of objects, of which something holds, one thing more.
use Rattle.ebc_link.proofs.Common.{◌≡◌, ℕ, List, ◌∷◌, drop, Option, Some, None, sym, Laid, first_in}

-- ---- in a list, by what is left of it

-- ---- in objects

pub first_more :
    {A : Type 0} → (found : Laid → Option A) (ls rest : List Laid) (i : ℕ) (l : Laid) → drop i ls ≡ l ∷ rest → found l ≡ None
    → first_in found (drop i ls) ≡ first_in found ls → first_in found rest ≡ first_in found ls
unfolding first_in
first_more found ls rest i l is none before = rw (is, none) at before

pub first_here :
    {A : Type 0} → (found : Laid → Option A) (ls rest : List Laid) (i : ℕ) (l : Laid) (x : A) → drop i ls ≡ l ∷ rest → found l ≡ Some x
    → first_in found (drop i ls) ≡ first_in found ls → first_in found ls ≡ Some x
unfolding first_in
first_here found ls rest i l x is some before = sym (rw (is, some) at before)
