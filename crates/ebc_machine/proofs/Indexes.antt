-- The fields of a spelled index are small.
use Rattle.std.proofs.Common.{inl, inr, ℕ, ◌-◌, ◌^◌, ◌<◌, ◌≤◌, arith}
use Rattle.std.proofs.Math.Pow.{pow_mono}
use Rattle.natural_index.specs.Index.{IsIndex, IsIndexSize, natural_bits}
use Rattle.natural_index.specs.declared.Index.{Index}

sixty : (bits : ℕ) → IsIndexSize bits → bits - 4 ≤ 60
sixty bits (inl is) = omega arith
sixty bits (inr (inl is)) = omega arith
sixty bits (inr (inr is)) = omega arith

below_power : (x k : ℕ) → x < 2 ^ k → k ≤ 60 → x < 2 ^ 63
below_power x k below small = omega (arith, pow_mono small)

pub units_below : (bits : ℕ) (i : Index) → IsIndexSize bits → IsIndex bits i → i.units < 2 ^ 63
units_below bits i size is =
    let few : bits - 4 ≤ 60 = sixty bits size in
    below_power i.units (natural_bits bits i.tag) is.units (omega (arith, is.split))

pub bytes_below : (bits : ℕ) (i : Index) → IsIndexSize bits → IsIndex bits i → i.bytes < 2 ^ 63
bytes_below bits i size is =
    let few : bits - 4 ≤ 60 = sixty bits size in
    below_power i.bytes (bits - 4 - natural_bits bits i.tag) is.bytes (omega arith)
