-- The first name that stands there again, behind names that don't.
use Rattle.ebc_link.proofs.Common.{arith, ◌≡◌, List, ℕ, [], ◌∷◌, ◌++◌, Some, None, refl, append_assoc, append-nil, first_again}

-- where none of some names does, it is the first of those behind them
pub again_behind : (before ns ms : List (List ℕ)) → first_again before ns ≡ None
    → first_again before (ns ++ ms) ≡ first_again (before ++ ns) ms
unfolding first_again
again_behind before [] ms none = rw append-nil refl
again_behind before (n ∷ ns) ms none = grind (arith, again_behind (before ++ n ∷ []) ns ms, append_assoc)

-- and where one of them does, it is that
pub again_among : (before ns ms : List (List ℕ)) (name : List ℕ) → first_again before ns ≡ Some name
    → first_again before (ns ++ ms) ≡ Some name
unfolding first_again
again_among before [] ms name some = absurd cc
again_among before (n ∷ ns) ms name some = grind (arith, again_among (before ++ n ∷ []) ns ms name)

pub again_none : (before : List (List ℕ)) → first_again before [] ≡ None
unfolding first_again
again_none before = refl
