-- The numbers among the words: which digits spell one within its limit.
use Rattle.ebc_cli.proofs.Common.{◌≡◌, ℕ, ◌^◌, ◌<◌, ◌≤◌, List, Some, refl, arith, decimal, number_in, pair_step_limit, step_limit}
use Rattle.note_texts.proofs.NumberRanges.{number_in-complete, number_in-sound}

-- a number that is read is spelled by its digits
pub number-read : (limit : ℕ) (digits : List ℕ) (n : ℕ) → number_in 0 limit digits ≡ Some n → (digits ≡ decimal n) × (n ≤ limit)
number-read limit digits n e = let is = number_in-sound 0 limit digits n e in (is.0, is.2)

pub number-spelled : (limit n : ℕ) → limit < 2 ^ 64 → n ≤ limit → number_in 0 limit (decimal n) ≡ Some n
number-spelled limit n small within = number_in-complete 0 limit (decimal n) n small (refl, omega arith, within)

pub step-number : (n : ℕ) → n ≤ step_limit → number_in 0 step_limit (decimal n) ≡ Some n
step-number n within = number-spelled step_limit n (omega arith) within

pub pair-step-number : (n : ℕ) → n ≤ pair_step_limit → number_in 0 pair_step_limit (decimal n) ≡ Some n
pair-step-number n within = number-spelled pair_step_limit n (omega arith) within
