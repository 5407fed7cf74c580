use Rattle.std.proofs.Common.{◌==◌, arith, length, not, rules, sym, ℕ}
use Rattle.std.proofs.lemmas.List.Sums.{position_or_len_is}
use Rattle.std.proofs.lemmas.List.{take_rest}
use Rattle.asm_text.proofs.TrimLaws.{front_at, front_gone}
use Rattle.asm_text.proofs.splits.trim_front.Goals as goal

pub returns-in-Some : goal.returns-in-Some
returns-in-Some c =
    let text = c.args.text.now in
    let found = position_or_len_is (λ (b : ℕ). not (b == 32)) text c.in-Some.at 0 (search rules) (search rules) (search rules) in
    rw (take_rest text c.in-Some.at) (sym (front_at text c.in-Some.at found))

pub returns-in-None : goal.returns-in-None
returns-in-None c =
    let text = c.args.text.now in
    let none = position_or_len_is (λ (b : ℕ). not (b == 32)) text (length text) 0 (omega arith) (search rules) (search rules) in
    sym (front_gone text none)
