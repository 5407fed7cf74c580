-- What stands beside the operands of a well-formed instruction.
use Rattle.typing_laws.proofs.Common.{◌≡◌, ℕ, zero, suc, ◌-◌, ◌^◌, ◌<◌, ◌≤◌, Bool, true, false, Option, Some, None, refl, sym, ◌∙◌, arith}
use Rattle.typing_laws.proofs.Common.{inl, inr, option_map, pos, true≢false, signed, Index, LeftFits, Extra, Nothing, Imm, Idx, Operand}
use Rattle.typing_laws.proofs.Common.{Size, counted, index_distance, index_pair}
use Rattle.std.proofs.Math.Pow.{pow_mono}
use Rattle.natural_index.specs.Index.{HasRoom, IsIndex, IsIndexSize, natural_bits}
use Rattle.ebc_insn.specs.Spelling.{ExtraFits, RightFits, IsWordOrDword, MoveFits}
use Rattle.typing_laws.proofs.{ArithRow.BesideFits, ArithRow.nowhere_small, Operands.IsSmall, Pointed.IsBeside}

-- a part of an index is a number of 64 bits
part_small : (sign : Bool) (u n : ℕ) → u < 2 ^ 60 → signed sign u ≡ pos n → n < 2 ^ 64
part_small false u n l e = let q : u ≡ n = cc in omega (arith, q, l)
part_small true zero n l e = let q : 0 ≡ n = cc in omega (arith, q)
part_small true (suc u) n l e = absurd cc

room_small : (bits t n c : ℕ) → bits ≤ 64 → HasRoom bits t n c → (n < 2 ^ 60) × (c < 2 ^ 60)
room_small bits t n c l r =
    let a : natural_bits bits t ≤ 60 = omega (arith, r.split, l) in
    let b : bits - 4 - natural_bits bits t ≤ 60 = omega (arith, l) in
    let p = pow_mono a in
    let q = pow_mono b in
    (omega (arith, r.units, p), omega (arith, r.bytes, q))

size_most : (bits : ℕ) → IsIndexSize bits → bits ≤ 64
size_most bits (inl e) = omega (arith, e)
size_most bits (inr (inl e)) = omega (arith, e)
size_most bits (inr (inr e)) = omega (arith, e)

pub index_small : (bits : ℕ) (i : Index) → bits ≤ 64 → IsIndex bits i → IsSmall (counted i)
index_small bits i l r =
    let q = room_small bits i.tag i.units i.bytes l r in
    record { units = λ n e. part_small i.neg i.units n q.0 e; bytes = λ n e. part_small i.neg i.bytes n q.1 e }

-- an index that may be left out
pub left_beside : (idx : Option Index) → IsBeside (option_map index_pair idx) (index_distance idx)
left_beside None = (refl, refl)
left_beside (Some i) = (refl, refl)

pub left_small : (bits : ℕ) (o : Operand) (idx : Option Index) → bits ≤ 64 → LeftFits bits o idx → IsSmall (index_distance idx)
left_small bits o None l h = nowhere_small
left_small bits o (Some i) l h = index_small bits i l h.1

pub right_small : (bits : ℕ) (idx : Option Index) → bits ≤ 64 → RightFits bits idx → IsSmall (index_distance idx)
right_small bits None l h = nowhere_small
right_small bits (Some i) l h = index_small bits i l h

-- an immediate or an index
pub beside_fits : (bits : ℕ) (o : Operand) (extra : Extra) → bits ≤ 64 → o.reg < 8 → ExtraFits bits o extra → BesideFits o extra
beside_fits bits o Nothing l r h = record { register = r; memory = λ m. ((refl, refl), nowhere_small); direct = λ m i e. absurd cc }
beside_fits bits o (Imm v) l r h = record { register = r; memory = λ m. absurd (true≢false (sym m ∙ h.0)); direct = λ m i e. absurd cc }
beside_fits bits o (Idx j) l r h = record {
  register = r;
  memory = λ m. ((refl, refl), index_small bits j l h.1);
  direct = λ m i e. absurd (true≢false (sym h.0 ∙ m));
}

-- the sizes of indexes
pub word_most : (bits : ℕ) → IsWordOrDword bits → bits ≤ 64
word_most bits (inl e) = omega (arith, e)
word_most bits (inr e) = omega (arith, e)

pub move_most : (size : Size) (bits : ℕ) → MoveFits size bits → bits ≤ 64
move_most Size.Qword bits h = size_most bits h
move_most size bits h = word_most bits h
