-- What the first pass tells of the version of notes and scripts.
use Rattle.std.proofs.Common.{◌≡◌, ℕ, zero, suc, ◌≤◌, inl, inr, refl, arith}
use Rattle.note_types.specs.Limits.{IsVersion}

pub is_version : (n : ℕ) → 1 ≤ n → n ≤ 2 → IsVersion n
is_version zero low high = absurd (omega (arith, low))
is_version (suc zero) low high = inl refl
is_version (suc (suc zero)) low high = inr refl
is_version (suc (suc (suc n))) low high = absurd (omega (arith, high))
