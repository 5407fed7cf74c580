-- For proofs: what holds of the parts of a block: where it begins, how many bytes it has, its cells, and the right to give
-- it back.
use Rattle.std.specs.Prelude.{◌≡◌, ℕ, length, replicate, None}
use Rattle.raw_region.specs.Slots.{AllWritten}
use Rattle.raw_region.specs.declared.parts.Base.{Base}
use Rattle.raw_region.specs.declared.parts.Cells.{Cells}
use Rattle.raw_region.specs.declared.parts.Deed.{Deed}

-- The parts are those of one block, which alloc gave.
pub record IsBlock {A : Type 0} (base : Base) (len : ℕ) (cells : Cells) (deed : Deed A) (alloc : A) : Type 0 where
  pub cells_at : cells.at ≡ base.ptr
  pub long : length cells.slots ≡ len
  pub deed_at : deed.at ≡ base.ptr
  pub deed_len : deed.len ≡ len
  pub deed_alloc : deed.alloc ≡ alloc

-- They are those of a block of which no byte is written.
pub record IsNew {A : Type 0} (base : Base) (len : ℕ) (cells : Cells) (deed : Deed A) (alloc : A) : Type 0 where
  pub block : IsBlock base len cells deed alloc
  pub empty : cells.slots ≡ replicate len None

-- They are those of a block of which each byte is written, as a region keeps them.
pub record IsFilled {A : Type 0} (base : Base) (len : ℕ) (cells : Cells) (deed : Deed A) (alloc : A) : Type 0 where
  pub block : IsBlock base len cells deed alloc
  pub written : AllWritten cells.slots
