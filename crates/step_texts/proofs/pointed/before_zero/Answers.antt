use Rattle.std.proofs.Common.{ℕ, ◌==◌, ap, arith, length, rules, sym, take, ◌∙◌}
use Rattle.std.proofs.lemmas.List.Sums.{position_or_len_is}
use Rattle.ebc_base.proofs.Lists.{take-all}
use Rattle.step_texts.proofs.pointed.before_zero.Goals as goal

pub returns-in-Some : goal.returns-in-Some
returns-in-Some c =
    let cells = c.args.cells.now in
    let found = position_or_len_is (λ (u : ℕ). u == 0) cells c.in-Some.at 0 (search rules) (search rules) (search rules) in
    ap (λ n. take n cells) (sym found)

pub returns-in-None : goal.returns-in-None
returns-in-None c =
    let cells = c.args.cells.now in
    let none = position_or_len_is (λ (u : ℕ). u == 0) cells (length cells) 0 (omega arith) (search rules) (search rules) in
    sym (ap (λ n. take n cells) none ∙ take-all cells)
