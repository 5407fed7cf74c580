-- The first thing of a list that a test passes is the one at the first position that it passes.
use Rattle.std.proofs.Common.{◌≡◌, ℕ, List, [], ◌∷◌, Bool, None, Some, length}
use Rattle.std.proofs.Common.{◌<◌, ◌≤◌, ◌∙◌, ap, sym, position, get_or, slice_get, refl, arith}
use Rattle.std.proofs.lemmas.Option.{slice_get_past, slice_get-get_or}
use Rattle.std.specs.List.{find, position_or_len}

find_first : {X : Type 0} (test : X → Bool) (xs : List X) → find test xs ≡ slice_get xs (position_or_len test xs)
find_first test [] = refl
find_first test (x ∷ xs) = grind (arith, find_first test xs)

pub found_there : {X : Type 0} (test : X → Bool) (xs slice : List X) (n : ℕ) (d : X)
    → slice ≡ xs → position test xs ≡ Some n → n < length xs → Some (get_or slice n d) ≡ find test xs
found_there test xs slice n d same e within =
    let there : find test xs ≡ slice_get xs n = grind (arith, find_first test xs, e) in
    ap (λ ys. Some (get_or ys n d)) same ∙ sym (there ∙ slice_get-get_or xs n d within)

pub found_nowhere : {X : Type 0} (test : X → Bool) (xs : List X) → position test xs ≡ None → None ≡ find test xs
found_nowhere test xs e =
    let past : length xs ≤ position_or_len test xs = grind (arith, e) in
    sym (find_first test xs ∙ slice_get_past xs (position_or_len test xs) past)
