use Rattle.std.proofs.Common.{ℕ, ◌==◌, ap, sym, ◌∙◌, arith, length, rules, take}
use Rattle.std.proofs.lemmas.List.{take_all}
use Rattle.std.proofs.lemmas.List.Sums.{position_or_len_is}
use Rattle.std.specs.List.{position_or_len}
use Rattle.side_by_side.specs.SideBySide.{first_word}
use Rattle.side_by_side.proofs.line.first_word.Goals as goal

pub returns-in-Some : goal.returns-in-Some
unfolding first_word
returns-in-Some c =
    let text = c.args.text.now in
    let found = position_or_len_is (λ (b : ℕ). b == 32) text c.in-Some.at 0 (search rules) (search rules) (search rules) in
    c.split_at.ensures.front ∙ ap (λ n. take n text) (sym found)

pub returns-in-None : goal.returns-in-None
unfolding first_word
returns-in-None c =
    let text = c.args.text.now in
    let none = position_or_len_is (λ (b : ℕ). b == 32) text (length text) 0 (omega arith) (search rules) (search rules) in
    sym (take_all (position_or_len (λ (b : ℕ). b == 32) text) text (omega (arith, none)))
