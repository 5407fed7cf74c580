-- One digit after the other.
use Rattle.std.proofs.Common.{◌≡◌, ℕ, ◌+◌, ◌≤◌, ◌<◌, List, [], length, get_or, drop, Option, Some, None, sym, ◌∙◌, arith}
use Rattle.std.proofs.lemmas.Grind.{common_steps}
use Rattle.std.proofs.lemmas.List.{drop_more}
use Rattle.note_texts.specs.Numbers.{number_from, with_digit}

pub digit_more : (n i : ℕ) (bs : List ℕ) (d m : ℕ) (total : Option ℕ) → i < length bs → with_digit n (get_or bs i d) ≡ Some m
    → number_from n (drop i bs) ≡ total → number_from m (drop (i + 1) bs) ≡ total
unfolding number_from
digit_more n i bs d m total within next so_far =
    let one : number_from n (drop i bs) ≡ number_from m (drop (i + 1) bs) = rw (drop_more bs i d within, next) in
    sym one ∙ so_far

pub digit_bad : (n i : ℕ) (bs : List ℕ) (d : ℕ) (total : Option ℕ) → i < length bs → with_digit n (get_or bs i d) ≡ None
    → number_from n (drop i bs) ≡ total → None ≡ total
unfolding number_from
digit_bad n i bs d total within next so_far =
    let one : number_from n (drop i bs) ≡ None = rw (drop_more bs i d within, next) in
    sym one ∙ so_far

pub digits_done : (n i : ℕ) (bs : List ℕ) (total : Option ℕ) → length bs ≤ i → number_from n (drop i bs) ≡ total → Some n ≡ total
unfolding number_from
digits_done n i bs total past so_far =
    let none : drop i bs ≡ [] = grind (arith, common_steps) in
    let one : number_from n (drop i bs) ≡ Some n = rw none in
    sym one ∙ so_far
