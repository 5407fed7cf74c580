-- The cells of two bytes each, one cell after the other.
use Rattle.std.proofs.Common.{◌≡◌, ℕ, ◌+◌, List, [], ◌∷◌, ◌++◌, ap, arith, refl, sym, ◌∙◌}
use Rattle.std.proofs.lemmas.List.FromFn.{map-range_with_len_more}
use Rattle.step_texts.specs.PointedTexts.{first_words, two_byte_cell}

-- no cell
pub no_words : (bytes : List ℕ) → [] ≡ first_words bytes 0
unfolding first_words
no_words bytes = refl

-- one cell more
pub one_word_more : (bytes cells new : List ℕ) (n : ℕ) → cells ≡ first_words bytes n → new ≡ cells ++ two_byte_cell bytes n ∷ []
    → new ≡ first_words bytes (n + 1)
unfolding first_words
one_word_more bytes cells new n before put =
    put ∙ (ap (λ (c : List ℕ). c ++ two_byte_cell bytes n ∷ []) before
    ∙ sym (map-range_with_len_more (two_byte_cell bytes) 0 n n (omega arith)))
