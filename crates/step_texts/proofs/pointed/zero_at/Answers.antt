use Rattle.std.proofs.Common.{ℕ, ◌==◌, arith, length, rules, sym}
use Rattle.std.proofs.lemmas.List.Sums.{position_or_len_is}
use Rattle.step_texts.proofs.pointed.zero_at.Goals as goal

pub returns-in-Some : goal.returns-in-Some
returns-in-Some c =
    sym (position_or_len_is (λ (b : ℕ). b == 0) c.args.bytes.now c.in-Some.at 0 (search rules) (search rules) (search rules))

pub returns-in-None : goal.returns-in-None
returns-in-None c =
    let bytes = c.args.bytes.now in
    sym (position_or_len_is (λ (b : ℕ). b == 0) bytes (length bytes) 0 (omega arith) (search rules) (search rules))
