use Rattle.std.proofs.Common.{ℕ, ◌==◌, not, ap, sym, ◌∙◌, arith, drop, length, rules, take}
use Rattle.std.proofs.lemmas.List.{drop_all, take_all}
use Rattle.std.proofs.lemmas.List.Sums.{position_or_len_is}
use Rattle.std.specs.List.{position_or_len}
use Rattle.side_by_side.specs.SideBySide.{margin}
use Rattle.side_by_side.proofs.line.parts.Goals as goal

pub returns-in-Some-clause-blanks : goal.returns-in-Some-clause-blanks
unfolding margin
returns-in-Some-clause-blanks c =
    let text = c.args.line.now in
    let found = position_or_len_is (λ (b : ℕ). not (b == 32)) text c.in-Some.at 0 (search rules) (search rules) (search rules) in
    c.split_at.ensures.front ∙ ap (λ n. take n text) (sym found)

pub returns-in-Some-clause-words : goal.returns-in-Some-clause-words
unfolding margin
returns-in-Some-clause-words c =
    let text = c.args.line.now in
    let found = position_or_len_is (λ (b : ℕ). not (b == 32)) text c.in-Some.at 0 (search rules) (search rules) (search rules) in
    c.split_at.ensures.back ∙ ap (λ n. drop n text) (sym found)

pub returns-in-None-clause-blanks : goal.returns-in-None-clause-blanks
unfolding margin
returns-in-None-clause-blanks c =
    let text = c.args.line.now in
    let none = position_or_len_is (λ (b : ℕ). not (b == 32)) text (length text) 0 (omega arith) (search rules) (search rules) in
    sym (take_all (position_or_len (λ (b : ℕ). not (b == 32)) text) text (omega (arith, none)))

pub returns-in-None-clause-words : goal.returns-in-None-clause-words
unfolding margin
returns-in-None-clause-words c =
    let text = c.args.line.now in
    let none = position_or_len_is (λ (b : ℕ). not (b == 32)) text (length text) 0 (omega arith) (search rules) (search rules) in
    sym (drop_all (position_or_len (λ (b : ℕ). not (b == 32)) text) text (omega (arith, none)))
