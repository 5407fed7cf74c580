-- Texts of functions in a row.
use Rattle.std.proofs.Common.{◌≡◌, ℕ, ◌+◌, List, ◌++◌, ap, sym, ◌∙◌, append_assoc, add-one, arith}
use Rattle.std.specs.List.{flat_map, range_with_len}
use Rattle.printed_texts.proofs.RangeLaws.{flat_more}

-- behind a text, the texts of one number more
pub one_more : (f : ℕ → List ℕ) (k : ℕ) (begin old text new : List ℕ) → old ≡ begin ++ flat_map f (range_with_len 0 k) → text ≡ f k
    → new ≡ old ++ text → new ≡ begin ++ flat_map f (range_with_len 0 (k + 1))
one_more f k begin old text new before is put =
    let first : flat_map f (range_with_len 0 (k + 1)) ≡ flat_map f (range_with_len 0 k) ++ f k =
    ap (λ n. flat_map f (range_with_len 0 n)) (add-one k) ∙ flat_more f 0 k
    ∙ ap (λ n. flat_map f (range_with_len 0 k) ++ f n) (omega arith) in
    put ∙ (ap (λ t. t ++ text) before ∙ (ap (λ t. (begin ++ flat_map f (range_with_len 0 k)) ++ t) is
    ∙ (append_assoc begin (flat_map f (range_with_len 0 k)) (f k) ∙ ap (λ t. begin ++ t) (sym first))))
