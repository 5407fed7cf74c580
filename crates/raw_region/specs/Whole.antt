-- For proofs: what a region ends as, once a `&mut` to its bytes has ended.
use Rattle.std.specs.Prelude.{ℕ, List, length}
use Rattle.std.specs.Borrow.{Fml, MutBor, Array, Lends}
use Rattle.std.specs.List.{refill}
use denote.Builtin.{u8}
use Rattle.raw_region.specs.contracts.Region.{the_row}

-- the region ends with the bytes that were last written
abbrev pub lends_bytes : MutBor (List ℕ) → MutBor (List ℕ) → Fml
lends_bytes m r = Lends the_row (Array u8 0) m r (λ ws. refill (length m.now) m.now ws)
