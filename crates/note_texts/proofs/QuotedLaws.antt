-- A text in quotes, one character after the other.
use Rattle.std.proofs.Common.{◌≡◌, ℕ, ◌+◌, ◌≤◌, ◌<◌, List, [], ◌∷◌, ◌++◌, length, get_or, drop, refl, sym, ap, ◌∙◌, append_assoc, arith}
use Rattle.std.specs.List.{flat_map}
use Rattle.std.proofs.lemmas.Grind.{common_steps}
use Rattle.std.proofs.lemmas.List.{append-nil, drop_more}
use Rattle.note_texts.specs.KeyTexts.{quoted_char}

-- one character more
pub quoted-more : (cs out total : List ℕ) (n c : ℕ) → (n < length cs) × (c ≡ get_or cs n c) → out
    ++ flat_map quoted_char (drop n cs) ≡ total → (out ++ quoted_char c) ++ flat_map quoted_char (drop (n + 1) cs) ≡ total
quoted-more cs out total n c at so_far =
    let next : drop n cs ≡ c ∷ drop (n + 1) cs = drop_more cs n c at.0 ∙ ap (λ x. x ∷ drop (n + 1) cs) (sym at.1) in
    let joined : (out ++ quoted_char c) ++ flat_map quoted_char (drop (n + 1) cs) ≡ out
    ++ (quoted_char c ++ flat_map quoted_char (drop (n + 1) cs)) = simp append_assoc in
    joined ∙ (ap (λ xs. out ++ flat_map quoted_char xs) (sym next) ∙ so_far)

-- no character is left
pub quoted-done : (cs out total : List ℕ) (n : ℕ) → length cs ≤ n → out ++ flat_map quoted_char (drop n cs) ≡ total → out ≡ total
quoted-done cs out total n past so_far =
    let none : drop n cs ≡ [] = grind (arith, common_steps) in
    sym (append-nil out) ∙ (ap (λ xs. out ++ flat_map quoted_char xs) (sym none) ∙ so_far)
