-- For proofs: what a block ends as, once a `&mut` to its bytes has ended.
use Rattle.std.specs.Prelude.{ℕ, List, length, map, Some}
use Rattle.std.specs.Borrow.{Fml, MutBor, Array, Lends}
use Rattle.std.specs.List.{refill}
use denote.Builtin.{u8}
use Rattle.raw_region.specs.Slots.{written_bytes}
use Rattle.raw_region.specs.declared.parts.Cells.{Cells}
use Rattle.raw_region.specs.contracts.parts.Cells.{the_row}

-- the block with these bytes from its first place on
abbrev pub cells_with : Cells → List ℕ → Cells
cells_with c ws = record { mark = c.mark; at = c.at; slots = map Some (refill (length (written_bytes c.slots)) (written_bytes c.slots) ws) }

-- the block ends with the bytes that were last written
abbrev pub lends_cells : MutBor Cells → MutBor (List ℕ) → Fml
lends_cells c r = Lends the_row (Array u8 0) c r (cells_with c.now)
