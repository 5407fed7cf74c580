use Rattle.std.proofs.Common.{◌≡◌, ℕ, ◌+◌, ◌-◌, ◌≤◌, ◌==◌, not, ap, sym, ◌∙◌, arith, length, rules, take}
use Rattle.std.specs.List.{suffix_len}
use Rattle.std.proofs.lemmas.List.Sums.{suffix_len_is}
use Rattle.side_by_side.specs.SideBySide.{but_last_word}
use Rattle.side_by_side.proofs.line.but_last_word.Goals as goal

pub returns-in-Some : goal.returns-in-Some
unfolding but_last_word
returns-in-Some c =
    let text = c.args.text.now in
    let within : c.in-Some.at + 1 ≤ length text = search rules in
    let found = suffix_len_is (λ (b : ℕ). not (b == 32)) text (c.in-Some.at + 1) 0 within (search rules) (search rules) in
    let back : length text - suffix_len (λ (b : ℕ). not (b == 32)) text - 1 ≡ c.in-Some.at = omega (arith, found, within) in
    c.split_at.ensures.front ∙ ap (λ n. take n text) (sym back)

pub returns-in-None : goal.returns-in-None
unfolding but_last_word
returns-in-None c =
    let text = c.args.text.now in
    let none = suffix_len_is (λ (b : ℕ). not (b == 32)) text 0 0 (omega arith) (search rules) (search rules) in
    let back : length text - suffix_len (λ (b : ℕ). not (b == 32)) text - 1 ≡ 0 = omega (arith, none) in
    sym (ap (λ n. take n text) back)
