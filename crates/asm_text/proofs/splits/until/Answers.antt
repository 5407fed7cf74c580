use Rattle.std.proofs.Common.{ℕ, ◌+◌, ◌==◌, length, sym, arith, rules}
use Rattle.std.proofs.lemmas.List.Sums.{position_or_len_is}
use Rattle.std.proofs.lemmas.List.{take_rest}
use Rattle.asm_text.proofs.Pieces.{until_at, until_gone}
use Rattle.asm_text.proofs.splits.until.Goals as goal

pub returns-in-Some : goal.returns-in-Some
returns-in-Some c =
    let text = c.args.text.now in
    let found = position_or_len_is (λ (b : ℕ). b == c.args.byte) text c.in-Some.at 0 (search rules) (search rules) (search rules) in
    rw (take_rest text (c.in-Some.at + 1)) (sym (until_at c.args.byte text c.in-Some.at found (search rules)))

pub returns-in-None : goal.returns-in-None
returns-in-None c =
    let text = c.args.text.now in
    let none = position_or_len_is (λ (b : ℕ). b == c.args.byte) text (length text) 0 (omega arith) (search rules) (search rules) in
    sym (until_gone c.args.byte text none)
