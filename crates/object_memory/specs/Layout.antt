-- For proofs: how a memory of objects lies in the bytes of one region, its cells: the byte at an address is the cell at the
-- address less the first base. This is how the crate keeps a memory (docs/DECISIONS.md, on the modelled host's memory). No
-- caller sees it.
use Rattle.std.specs.Prelude.{◌≡◌, ℕ, ◌+◌, ◌-◌, ◌*◌, ◌/◌, ◌^◌, ◌<◌, ◌≤◌, List, length, map, take, drop, sum_by, All, AllPairs, slice_get}
use Rattle.std.specs.Prelude.{slice_index, Some, true}
use Rattle.ebc_width.specs.Width.{IsWidth}
use Rattle.ebc_width.specs.Ranges.{Range, covers, holds}
use Rattle.object_memory.specs.Memory.{Object, Memory, ranges, padded, first_base, next_base, top_limit}
use Rattle.object_memory.specs.declared.span.Span.{Span}

-- where a span lies
abbrev pub span_range : Span → Range
span_range s = record { base = s.base; size = s.size }

-- One span lies below another, with a gap of at least 16 bytes.
abbrev pub EndsBelow : Span → Span → Type 0
EndsBelow s t = s.base + padded s.size ≤ t.base

-- A span lies in as many cells, with its padding and gap.
pub record IsSpan (w count : ℕ) (s : Span) : Type 0 where
  pub above : first_base w ≤ s.base
  pub below : s.base + padded s.size ≤ first_base w + count
  pub some : 1 ≤ s.size

-- the object at a span
abbrev pub object_in : ℕ → List ℕ → Span → Object
object_in w cells s = record { base = s.base; size = s.size; bytes = take s.size (drop (s.base - first_base w) cells) }

-- the memory whose objects lie at these spans
abbrev pub memory_of : ℕ → List Span → List ℕ → ℕ → ℕ → Memory
memory_of w spans cells limit most = record { objects = map (object_in w cells) spans; byte_limit = limit; object_limit = most }

-- What holds of the parts of a memory, of whose cells the first `count` are taken; `room` is what is reserved for spans.
pub record IsLayout (w : ℕ) (spans : List Span) (cells : List ℕ) (count most room : ℕ) : Type 0 where
  pub width : IsWidth w
  pub inside : All (IsSpan w count) spans
  pub apart : AllPairs EndsBelow spans
  pub whole : count ≡ sum_by (λ s. padded s.size) spans
  pub within : count ≤ length cells
  pub few : length spans ≤ most
  pub bounded : length cells ≤ top_limit w
  pub bytes : (i : ℕ) → slice_index cells i < 256
  pub zeros : (i : ℕ) → count ≤ i → slice_index cells i ≡ 0
  pub small : most < 2 ^ 32
  pub spans_reserved : most ≤ room

-- Of each 16 cells the number of the span for which they were taken, with its padding and gap; the first cell lies at `first`,
-- and no span wraps.
pub record AreHomes (first : ℕ) (spans : List Span) (homes : List ℕ) : Type 0 where
  pub ends : All (λ s. s.base + s.size < 2 ^ 64) spans
  pub above : All (λ s. first ≤ s.base) spans
  pub numbers : All (λ n. n < length spans) homes
  pub found : (i a : ℕ) (s : Span) → slice_get spans i ≡ Some s → s.base ≤ a → a < s.base + padded s.size
      → slice_get homes ((a - first) / 16) ≡ Some i

-- What holds of all that a memory is kept in: a home for each 16 cells that are taken; `room` and `index_room` are what is
-- reserved for spans and for homes.
pub record IsKept (w : ℕ) (spans : List Span) (cells homes : List ℕ) (most room index_room : ℕ) : Type 0 where
  pub layout : IsLayout w spans cells (16 * length homes) most room
  pub are : AreHomes (first_base w) spans homes
  pub homes_reserved : length cells / 16 ≤ index_room

-- The span at this place of the list has among its bytes the k bytes from a on.
pub record IsSpanOf (spans : List Span) (a k place : ℕ) (s : Span) : Type 0 where
  pub at : slice_get spans place ≡ Some s
  pub covered : covers a k (span_range s) ≡ true

-- The object with this number lies at this span, which has among its bytes the k bytes from a on.
pub record IsFound (w : ℕ) (m : Memory) (a k number : ℕ) (s : Span) : Type 0 where
  pub object : (o : Object) × (slice_get m.objects number ≡ Some o) × (o.base ≡ s.base) × (o.size ≡ s.size)
  pub covered : covers a k (span_range s) ≡ true
  pub held : holds (ranges m) a k ≡ true
  pub above : first_base w ≤ s.base
  pub below : s.base + padded s.size ≤ next_base w m
  pub small : number < 2 ^ 32
