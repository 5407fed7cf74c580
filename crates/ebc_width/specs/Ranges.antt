-- Meaning: Ranges of addresses, and the bytes that one of them holds: an access lies in one range, and never in two. This is
-- a choice of this project (docs/DECISIONS.md, on the modelled host's memory); in words in docs/MACHINE.md, "The state".
use Rattle.std.specs.Prelude.{ℕ, ◌+◌, Bool, ◌&&◌, List, nat_le}
use Rattle.std.specs.List.{list_any}

-- A range: its first address, and how many bytes it has.
pub record Range : Type 0 where
  pub base : ℕ
  pub size : ℕ

-- whether a range has among its bytes the k bytes from address a on
abbrev pub covers : ℕ → ℕ → Range → Bool
covers a k r = nat_le r.base a && nat_le (a + k) (r.base + r.size)

-- whether one of these ranges holds the k bytes from address a on
unfoldable pub holds : List Range → ℕ → ℕ → Bool
holds ranges a k = list_any (covers a k) ranges
