-- Laws of the slots of a block.
use Rattle.std.proofs.Common.{◌≡◌, ℕ, zero, suc, ◌+◌, ◌-◌, ◌<◌, ◌≤◌, List, [], ◌∷◌, ◌++◌, length, map, replicate, set, refl, sym, ap, ap₂}
use Rattle.std.proofs.Common.{◌∙◌, arith, Option, Some, None}
use Rattle.std.specs.List.{refill, length_refill}
use Rattle.std.proofs.lemmas.List.{length-map, length-append, length-replicate, append-nil}
use Rattle.raw_region.specs.Slots.{written_bytes, AllWritten}
use Rattle.raw_region.specs.Lends.{cells_with}
use Rattle.raw_region.specs.Block.{IsFilled}
use Rattle.raw_region.specs.declared.parts.Base.{Base}
use Rattle.raw_region.specs.declared.parts.Cells.{Cells}
use Rattle.raw_region.specs.declared.parts.Deed.{Deed}

pub written_bytes-map : (xs : List ℕ) → written_bytes (map Some xs) ≡ xs
written_bytes-map [] = refl
written_bytes-map (x ∷ xs) = ap (λ ys. x ∷ ys) (written_bytes-map xs)

pub length-written_bytes : (cs : List (Option ℕ)) (len : ℕ) → AllWritten cs → length cs ≡ len → length (written_bytes cs) ≡ len
length-written_bytes cs len written long = sym (length-map (written_bytes cs) Some) ∙ sym (ap length written) ∙ long

-- slots are written where they are those of some bytes
pub written_of : (cs : List (Option ℕ)) (xs : List ℕ) → cs ≡ map Some xs → AllWritten cs
written_of cs xs e = e ∙ ap (map Some) (sym (written_bytes-map xs) ∙ sym (ap written_bytes e))

-- ---- zeros, and then as many slots that are not written

unfoldable pub zeroed : ℕ → ℕ → List (Option ℕ)
zeroed i n = map Some (replicate i 0) ++ replicate n None

pub zeroed_none : (n : ℕ) → replicate n None ≡ zeroed 0 n
unfolding zeroed
zeroed_none n = refl

set-zeroed : (i n : ℕ)
    → set (map {A = ℕ} Some (replicate i 0) ++ replicate (suc n) None) i (Some 0) ≡ map {A = ℕ} Some
    (replicate (suc i) 0) ++ replicate n None
set-zeroed zero n = refl
set-zeroed (suc i) n = ap (λ cs. Some 0 ∷ cs) (set-zeroed i n)

pub zeroed_one : (i len : ℕ) → i < len → set (zeroed i (len - i)) i (Some 0) ≡ zeroed (i + 1) (len - (i + 1))
unfolding zeroed
zeroed_one i len lt =
    let left : len - i ≡ suc (len - (i + 1)) = omega arith in let next : suc i ≡ i + 1 = omega arith in
    ap (λ n. set (map {A = ℕ} Some (replicate i 0) ++ replicate n None) i (Some 0)) left ∙ set-zeroed i (len - (i + 1))
    ∙ ap (λ k. map {A = ℕ} Some (replicate k 0) ++ replicate (len - (i + 1)) None) next

pub zeroed_all : (i len : ℕ) → i ≤ len → len ≤ i → zeroed i (len - i) ≡ map Some (replicate len 0)
unfolding zeroed
zeroed_all i len le ge =
    let none : len - i ≡ 0 = omega arith in let all : i ≡ len = omega arith in
    ap₂ (λ k n. map Some (replicate k 0) ++ replicate n None) all none ∙ append-nil (map Some (replicate len 0))

pub length-zeroed : (i len : ℕ) → i ≤ len → length (zeroed i (len - i)) ≡ len
unfolding zeroed
length-zeroed i len le =
    let none : Option ℕ = None in let zeros : List ℕ = replicate i 0 in let count : length zeros ≡ i = length-replicate i 0 in
    omega (arith, length-append (map Some zeros) (replicate (len - i) none), length-map zeros Some, count, length-replicate (len - i) none)

-- ---- all bytes are written over

-- a block with other bytes keeps what holds of it
module _ {A : Type 0} (base : Base) (len : ℕ) (cells : Cells) (deed : Deed A) (alloc : A) (kept : IsFilled base len cells deed alloc) where
  pub IsFilled-cells_with : (ws : List ℕ) → IsFilled base len (cells_with cells ws) deed alloc
  IsFilled-cells_with ws =
      let bytes = written_bytes cells.slots in let filled = refill (length bytes) bytes ws in let block = kept.block in
      let count : length filled ≡ len = sym (length_refill (length bytes) bytes ws refl)
      ∙ length-written_bytes cells.slots len kept.written block.long in
      record {
        block = record {
          cells_at = block.cells_at;
          long = length-map filled Some
              ∙ count;
          deed_at = block.deed_at;
          deed_len = block.deed_len;
          deed_alloc = block.deed_alloc;
        };
        written = written_of (map Some filled) filled refl;
      }
