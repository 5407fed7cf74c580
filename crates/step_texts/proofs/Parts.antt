-- Texts that are made of one part for each number, one part after the other, behind a text.
use Rattle.std.proofs.Common.{◌≡◌, ℕ, ◌+◌, List, [], ◌∷◌, ◌++◌, ap, sym, ◌∙◌, append_assoc, append-nil, arith, map}
use Rattle.std.specs.List.{concat, range_with_len}
use Rattle.std.proofs.lemmas.List.Folds.{concat-append}
use Rattle.std.proofs.lemmas.List.FromFn.{map-range_with_len_more}

-- the first n parts
abbrev pub parts : (ℕ → List ℕ) → ℕ → List ℕ
parts part n = concat (map part (range_with_len 0 n))

more : (part : ℕ → List ℕ) (n : ℕ) → parts part (n + 1) ≡ parts part n ++ part n
more part n =
    let front : List (List ℕ) = map part (range_with_len 0 n) in
    ap concat (map-range_with_len_more part 0 n n (omega arith))
    ∙ (concat-append front (part n ∷ []) ∙ ap (λ t. concat front ++ t) (append-nil (part n)))

-- one part more
pub one_more : (part : ℕ → List ℕ) (n : ℕ) (text old new : List ℕ) → old ≡ text ++ parts part n → new ≡ old ++ part n
    → new ≡ text ++ parts part (n + 1)
one_more part n text old new before put =
    put ∙ (ap (λ t. t ++ part n) before ∙ (append_assoc text (parts part n) (part n) ∙ ap (λ t. text ++ t) (sym (more part n))))
