-- One digit after the other.
use Rattle.std.proofs.Common.{◌≡◌, ℕ, ◌+◌, ◌≤◌, ◌<◌, List, [], length, get_or, drop, Option, Some, None, sym, ◌∙◌, arith}
use Rattle.std.proofs.lemmas.Grind.{common_steps}
use Rattle.std.proofs.lemmas.List.{drop_more}
use Rattle.asm_text.specs.Numbers.{digits_from, with_digit}

pub digit_more : (r n i : ℕ) (bs : List ℕ) (d m : ℕ) (total : Option ℕ) → i < length bs → with_digit r n (get_or bs i d) ≡ Some m
    → digits_from r n (drop i bs) ≡ total → digits_from r m (drop (i + 1) bs) ≡ total
unfolding digits_from
digit_more r n i bs d m total within next so_far =
    let one : digits_from r n (drop i bs) ≡ digits_from r m (drop (i + 1) bs) = rw (drop_more bs i d within, next) in
    sym one ∙ so_far

pub digit_bad : (r n i : ℕ) (bs : List ℕ) (d : ℕ) (total : Option ℕ) → i < length bs → with_digit r n (get_or bs i d) ≡ None
    → digits_from r n (drop i bs) ≡ total → None ≡ total
unfolding digits_from
digit_bad r n i bs d total within next so_far =
    let one : digits_from r n (drop i bs) ≡ None = rw (drop_more bs i d within, next) in
    sym one ∙ so_far

pub digits_done : (r n i : ℕ) (bs : List ℕ) (total : Option ℕ) → length bs ≤ i → digits_from r n (drop i bs) ≡ total → Some n ≡ total
unfolding digits_from
digits_done r n i bs total past so_far =
    let none : drop i bs ≡ [] = grind (arith, common_steps) in
    let one : digits_from r n (drop i bs) ≡ Some n = rw none in
    sym one ∙ so_far
