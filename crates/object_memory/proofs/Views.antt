-- The memory that lies in spans and cells: what it holds, and what a new span and new cells make of it.
use Rattle.std.proofs.Common.{◌≡◌, ℕ, zero, suc, ◌+◌, ◌-◌, ◌*◌, ◌/◌, ◌^◌, ◌<◌, ◌≤◌, ⊎_elim, Bool, true, false, cond, List, [], ◌∷◌, ◌++◌}
use Rattle.std.proofs.Common.{length, map, take, drop, replicate, get_or, refl, sym, ap, ap₂, subst, subst₂, ◌∙◌, arith, Option, Some}
use Rattle.std.proofs.Common.{length-append}
use Rattle.std.specs.Prelude.{All, sum_by, slice_get, slice_index}
use Rattle.std.specs.List.{find}
use Rattle.std.specs.Option.{option_map, option_map_or}
use Rattle.std.proofs.lemmas.Bool.{true≢false, or_cases, or_left, or_right}
use Rattle.std.proofs.lemmas.List.{ext_get_or, drop-take, drop-drop, get_or-take, get_or-drop, get_or-map, length-map, length-take-le}
use Rattle.std.proofs.lemmas.List.{map_push, length-drop, length-replicate, length_push}
use Rattle.std.proofs.lemmas.Option.{get_or_from_slice_get, slice_get_within, slice_get-map, same_Some}
use Rattle.std.proofs.lemmas.List.Elements.{All-head, All-tail, All-push, All-weaker, All-map}
use Rattle.std.proofs.lemmas.List.Quantifiers.{all_pairs_push}
use Rattle.std.proofs.lemmas.List.Sums.{sum_by_push}
use Rattle.ebc_width.specs.Bytes.{little_endian, put, overlaid, window}
use Rattle.object_memory.specs.Memory.{Object, Memory, ranges, has_byte, object_at, byte_of, byte_at, held_number, memory_after}
use Rattle.object_memory.specs.Memory.{memory_filled, rest_from, object_with, with_bytes, padded, used, first_base, next_base, placed}
use Rattle.object_memory.specs.Memory.{top_limit, IsPlaced, IsMemory}
use Rattle.ebc_width.specs.Width.{IsWidth}
use Rattle.ebc_width.specs.Ranges.{covers, holds}
use Rattle.object_memory.specs.declared.span.Span.{Span}
use Rattle.object_memory.specs.Layout.{span_range, EndsBelow, IsSpan, IsSpanOf, object_in, memory_of, IsLayout, IsKept, IsFound}
use Rattle.object_memory.proofs.Lists.{sum_by-map, get_or-zeros}
use Rattle.object_memory.proofs.Search.{AreHomes-next}
use Rattle.ebc_width.proofs.ByteLaws.{little_endian-moved, put-moved, overlaid-moved, length-window, get_or-window}
use Rattle.ebc_width.proofs.RangeLaws.{covers-bounds, holds-at, holds-within}
use Rattle.object_memory.proofs.Laws.{object_at-found, byte_at-none, held_number-held, memory_after-held, memory_filled-held}
use Rattle.object_memory.proofs.Laws.{rest_from-found, limit-below, limit-no_wrap}

-- ---- a new memory

zeros_below : (limit i : ℕ) (cells : List ℕ) → cells ≡ replicate limit 0 → slice_index cells i ≡ 0
zeros_below limit i cells is = ap (λ cs. slice_index cs i) is ∙ get_or-zeros limit i

pub IsKept-empty : (w limit most room index_room : ℕ) (spans : List Span) (cells homes : List ℕ) → IsWidth w → limit ≤ top_limit w
    → spans ≡ [] → cells ≡ replicate limit 0 → homes ≡ [] → most < 2 ^ 32 → most ≤ room → limit / 16 ≤ index_room
    → IsKept w spans cells homes most room index_room
IsKept-empty w limit most room index_room spans cells homes width bounded no_spans zeros no_homes small rooms indexes =
    let long : length cells ≡ limit = ap length zeros ∙ length-replicate limit 0 in
    subst₂ (λ ss hs. IsKept w ss cells hs most room index_room) (sym no_spans) (sym no_homes) (record {
      layout = record {
        width = width;
        inside = λ i d within. absurd (omega arith);
        apart = λ i j d less within. absurd (omega arith);
        whole = refl;
        within = omega arith;
        few = omega arith;
        bounded = omega (arith, long, bounded);
        bytes = λ i. rw (zeros_below limit i cells zeros) (omega arith);
        zeros = λ i from. zeros_below limit i cells zeros;
        small = small;
        spans_reserved = rooms;
      };
      are = record {
        ends = λ i d within. absurd (omega arith);
        above = λ i d within. absurd (omega arith);
        numbers = λ i d within. absurd (omega arith);
        found = λ i a s at from to. absurd (omega (arith, slice_get_within [] i s at));
      };
      homes_reserved = rw long indexes;
    })

pub memory_of-empty : (w limit most : ℕ) (spans : List Span) (cells : List ℕ) → spans ≡ [] → cells ≡ replicate limit 0
    → memory_of w spans cells (length cells) most ≡ record { objects = []; byte_limit = limit; object_limit = most }
memory_of-empty w limit most spans cells no_spans zeros =
    ap₂ (λ ss n. memory_of w ss cells n most) no_spans (ap length zeros ∙ length-replicate limit 0)

-- ---- a new span

-- what the objects take is what their spans take
pub used-memory_of : (w : ℕ) (spans : List Span) (cells : List ℕ) (limit most : ℕ)
    → used (memory_of w spans cells limit most) ≡ sum_by (λ s. padded s.size) spans
used-memory_of w spans cells limit most = sum_by-map (λ o. padded o.size) (object_in w cells) spans

-- the span behind the cells that are taken
abbrev pub next_span : ℕ → ℕ → ℕ → Span
next_span w count n = record { base = first_base w + count; size = n }

-- cells that are zeros from one on
zeros_taken : (cells : List ℕ) (count n : ℕ) → ((i : ℕ) → count ≤ i → slice_index cells i ≡ 0) → count + n ≤ length cells
    → take n (drop count cells) ≡ replicate n 0
zeros_taken cells count n zeros room =
    let long : length (take n (drop count cells)) ≡ n = length-take-le n (drop count cells) (rw (length-drop count cells) (omega arith)) in
    ext_get_or 0 (take n (drop count cells)) (replicate n 0) (long ∙ sym (length-replicate n 0)) (λ i within.
    let below : i < n = rw long at within in
    get_or-take n (drop count cells) i 0 below ∙ get_or-drop count cells i 0 ∙ zeros (count + i) (omega arith) ∙ sym (get_or-zeros n i))

object_in-next_span : (w : ℕ) (cells : List ℕ) (count n : ℕ) → ((i : ℕ) → count ≤ i → slice_index cells i ≡ 0)
    → count + padded n ≤ length cells
    → object_in w cells (next_span w count n) ≡ record { base = first_base w + count; size = n; bytes = replicate n 0 }
object_in-next_span w cells count n zeros room =
    let from : first_base w + count - first_base w ≡ count = omega arith in
    ap (λ bytes. record { base = first_base w + count; size = n; bytes = bytes }) (rw from (zeros_taken cells count n zeros (omega arith)))

pub memory_of-next_span : (w : ℕ) (spans : List Span) (cells : List ℕ) (limit most count room n : ℕ)
    → IsLayout w spans cells count most room → count + padded n ≤ length cells
    → memory_of w (spans ++ next_span w count n ∷ []) cells limit most ≡ placed w (memory_of w spans cells limit most) n
unfolding placed
memory_of-next_span w spans cells limit most count room n layout fits =
    let taken : used (memory_of w spans cells limit most) ≡ count = used-memory_of w spans cells limit most ∙ sym layout.whole in
    ap (λ objects. record { objects = objects; byte_limit = limit; object_limit = most })
    (map_push (object_in w cells) spans (next_span w count n)
    ∙ ap (λ o. map (object_in w cells) spans ++ o ∷ [])
    (object_in-next_span w cells count n layout.zeros fits ∙ ap (λ k. record { base = first_base w + k; size = n; bytes = replicate n 0 })
    (sym taken)))

IsLayout-next_span : (w : ℕ) (spans : List Span) (cells : List ℕ) (count most room more_room n : ℕ) → IsLayout w spans cells count most room
    → 1 ≤ n → count + padded n ≤ length cells → length spans < most → room ≤ more_room
    → IsLayout w (spans ++ next_span w count n ∷ []) cells (count + padded n) most more_room
IsLayout-next_span w spans cells count most room more_room n was some fits more rooms = record {
  width = was.width;
  inside = All-push (IsSpan w (count + padded n)) spans (next_span w count n)
      (All-weaker (IsSpan w count) (IsSpan w (count + padded n))
      (λ s inside. record { above = inside.above; below = omega (arith, inside.below); some = inside.some }) spans was.inside)
      (record { above = omega arith; below = omega arith; some = some });
  apart = all_pairs_push EndsBelow spans (next_span w count n) was.apart (λ k d within. (was.inside k d within).below);
  whole = ap (λ k. k + padded n) was.whole ∙ sym (sum_by_push (λ s. padded s.size) spans (next_span w count n));
  within = fits;
  few = rw (length_push spans (next_span w count n)) (omega arith);
  bounded = was.bounded;
  bytes = was.bytes;
  zeros = λ i from. was.zeros i (omega arith);
  small = was.small;
  spans_reserved = omega (arith, was.spans_reserved);
}

pub IsKept-next_span : (w : ℕ) (spans : List Span) (cells homes : List ℕ) (most room index_room more_room more_index n : ℕ)
    → IsKept w spans cells homes most room index_room → 1 ≤ n → 16 * length homes + padded n ≤ length cells → length spans < most
    → room ≤ more_room → index_room ≤ more_index
    → IsKept w (spans ++ next_span w (16 * length homes) n ∷ []) cells
    (homes ++ replicate (padded n / 16) (length spans)) most more_room more_index
IsKept-next_span w spans cells homes most room index_room more_room more_index n was some fits more rooms indexes =
    let places : length (homes ++ replicate (padded n / 16) (length spans)) ≡ length homes + padded n / 16 =
    length-append homes (replicate (padded n / 16) (length spans))
    ∙ ap (λ k. length homes + k) (length-replicate (padded n / 16) (length spans)) in
    let count : 16 * length homes + padded n ≡ 16 * length (homes ++ replicate (padded n / 16) (length spans)) = rw places (omega arith) in
    record {
      layout = subst (λ k. IsLayout w (spans ++ next_span w (16 * length homes) n ∷ []) cells k most more_room) count
          (IsLayout-next_span w spans cells (16 * length homes) most room more_room n was.layout some fits more rooms);
      are = AreHomes-next (first_base w) (16 * length homes) n spans homes was.are refl
          (omega (arith, fits, limit-below w (length cells) was.layout.width was.layout.bounded));
      homes_reserved = omega (arith, was.homes_reserved, indexes);
    }

-- ---- what is held

-- spans are inside all cells
pub inside_cells : (w : ℕ) (spans : List Span) (cells : List ℕ) (count most room : ℕ) → IsLayout w spans cells count most room
    → All (IsSpan w (length cells)) spans
inside_cells w spans cells count most room layout =
    All-weaker (IsSpan w count) (IsSpan w (length cells))
    (λ s inside. record {
      above = inside.above;
      below = omega (arith, inside.below, layout.within);
      some =
          inside.some;
    }) spans layout.inside

-- a span of the list is inside
pub span_inside : (w count : ℕ) (spans : List Span) (a k place : ℕ) (s : Span) → All (IsSpan w count) spans → IsSpanOf spans a k place s
    → IsSpan w count s
span_inside w count spans a k place s inside is =
    subst (IsSpan w count) (get_or_from_slice_get spans place s s is.at) (inside place s (slice_get_within spans place s is.at))

ranges-memory_of : (w : ℕ) (spans : List Span) (cells : List ℕ) (limit most : ℕ)
    → ranges (memory_of w spans cells limit most) ≡ map span_range spans
ranges-memory_of w [] cells limit most = refl
ranges-memory_of w (s ∷ spans) cells limit most = ap (λ rs. span_range s ∷ rs) (ranges-memory_of w spans cells limit most)

pub holds-memory_of : (w : ℕ) (spans : List Span) (cells : List ℕ) (limit most a k : ℕ)
    → holds (ranges (memory_of w spans cells limit most)) a k ≡ holds (map span_range spans) a k
holds-memory_of w spans cells limit most a k = ap (λ rs. holds rs a k) (ranges-memory_of w spans cells limit most)

-- the byte of the object at a span is a cell
byte_of-object_in : (w : ℕ) (cells : List ℕ) (x : ℕ) (s : Span) → IsSpan w (length cells) s → covers x 1 (span_range s) ≡ true
    → byte_of x (object_in w cells s) ≡ get_or cells (x - first_base w) 0
byte_of-object_in w cells x s inside covered =
    let above : first_base w ≤ s.base = inside.above in
    let from : s.base ≤ x = grind arith in
    let to : x - s.base < s.size = grind arith in
    let place : s.base - first_base w + (x - s.base) ≡ x - first_base w = omega arith in
    get_or-take s.size (drop (s.base - first_base w) cells) (x - s.base) 0 to
    ∙ get_or-drop (s.base - first_base w) cells (x - s.base) 0
    ∙ ap (λ i. get_or cells i 0) place

byte_found : (w : ℕ) (cells : List ℕ) (x : ℕ) (spans : List Span) → All (IsSpan w (length cells)) spans
    → holds (map span_range spans) x 1 ≡ true → option_map_or (byte_of x)
    (find (has_byte x) (map (object_in w cells) spans)) 0 ≡ get_or cells (x - first_base w) 0
unfolding holds
byte_found w cells x [] inside some = absurd (true≢false (sym some))
byte_found w cells x (s ∷ spans) inside some =
    chosen (covers x 1 (span_range s)) (object_in w cells s) (find (has_byte x) (map (object_in w cells) spans))
    (λ is. byte_of-object_in w cells x s (All-head (IsSpan w (length cells)) s spans inside) is)
    (λ is. byte_found w cells x spans (All-tail (IsSpan w (length cells)) s spans inside) (rw is at some))
  where
    chosen : (here : Bool) (o : Object) (there : Option Object) → (here ≡ true → byte_of x o ≡ get_or cells (x - first_base w) 0)
        → (here ≡ false → option_map_or (byte_of x) there 0 ≡ get_or cells (x - first_base w) 0)
        → option_map_or (byte_of x) (cond here (Some o) there) 0 ≡ get_or cells (x - first_base w) 0
    chosen true o there first rest = first refl
    chosen false o there first rest = rest refl

pub byte_at-memory_of : (w : ℕ) (spans : List Span) (cells : List ℕ) (limit most x : ℕ) → All (IsSpan w (length cells)) spans
    → holds (ranges (memory_of w spans cells limit most)) x 1 ≡ true
    → byte_at (memory_of w spans cells limit most) x ≡ get_or cells (x - first_base w) 0
unfolding byte_at object_at
byte_at-memory_of w spans cells limit most x inside held =
    byte_found w cells x spans inside (sym (holds-memory_of w spans cells limit most x 1) ∙ held)

-- ---- what is found

pub next_base-memory_of : (w : ℕ) (spans : List Span) (cells : List ℕ) (limit most count : ℕ) → count ≡ sum_by (λ s. padded s.size) spans
    → next_base w (memory_of w spans cells limit most) ≡ first_base w + count
next_base-memory_of w spans cells limit most count whole = ap (λ n. first_base w + n) (used-memory_of w spans cells limit most ∙ sym whole)

holds-found : (w : ℕ) (spans : List Span) (cells : List ℕ) (limit most a k place : ℕ) (s : Span) → slice_get spans place ≡ Some s
    → covers a k (span_range s) ≡ true → holds (ranges (memory_of w spans cells limit most)) a k ≡ true
holds-found w spans cells limit most a k place s at covered =
    holds-memory_of w spans cells limit most a k
    ∙ holds-at (map span_range spans) a k place (span_range s) (slice_get-map span_range spans place
    ∙ ap (option_map span_range) at) covered

pub IsFound-memory_of : (w : ℕ) (spans : List Span) (cells : List ℕ) (limit most count room a k place : ℕ) (s : Span)
    → IsLayout w spans cells count most room → IsSpanOf spans a k place s → IsFound w (memory_of w spans cells limit most) a k place s
IsFound-memory_of w spans cells limit most count room a k place s layout is =
    let inside : IsSpan w count s = span_inside w count spans a k place s layout.inside is in
    let next = next_base-memory_of w spans cells limit most count layout.whole in
    record {
      object = (object_in w cells s, slice_get-map (object_in w cells) spans place ∙ ap (option_map (object_in w cells)) is.at, refl, refl);
      covered = is.covered;
      held = holds-found w spans cells limit most a k place s is.at is.covered;
      above = inside.above;
      below = omega (arith, inside.below, next);
      small = omega (arith, slice_get_within spans place s is.at, layout.few, layout.small);
    }

-- any span, as what a read past the end gives
abbrev origin : Span
origin = record { base = 0; size = 0 }

pub IsMemory-memory_of : (w : ℕ) (spans : List Span) (cells : List ℕ) (most count room : ℕ) → IsLayout w spans cells count most room
    → IsMemory w (memory_of w spans cells (length cells) most)
IsMemory-memory_of w spans cells most count room layout = record {
  width = layout.width;
  placed = All-map (IsPlaced w memory) (object_in w cells) spans (λ i d within. is_placed (get_or spans i d) (layout.inside i d within));
  apart = λ i j d less within.
      let count : length (map (object_in w cells) spans) ≡ length spans = length-map spans (object_in w cells) in
      rw (get_or-map (object_in w cells) spans i origin d (omega arith), get_or-map (object_in w cells) spans j origin d (omega arith))
      (layout.apart i j origin less (omega arith));
  bytes = λ x. byte x (holds (ranges memory) x 1) refl;
  no_wrap = limit-no_wrap w (length cells) layout.width layout.bounded;
  bytes_kept = rw (used-memory_of w spans cells (length cells) most, ← layout.whole) layout.within;
  objects_kept = rw (length-map spans (object_in w cells)) layout.few;
}
  where
    memory : Memory
    memory = memory_of w spans cells (length cells) most

    is_placed : (s : Span) → IsSpan w count s → IsPlaced w (memory_of w spans cells (length cells) most) (object_in w cells s)
    is_placed s inside = record {
      above = inside.above;
      below = rw (next_base-memory_of w spans cells (length cells) most count layout.whole) inside.below;
      some = inside.some;
      whole = length-take-le s.size (drop (s.base - first_base w) cells)
          (rw (length-drop (s.base - first_base w) cells) (omega (arith, inside.above, inside.below, layout.within)));
    }

    byte : (x : ℕ) (held : Bool) → holds (ranges (memory_of w spans cells (length cells) most)) x 1 ≡ held
        → byte_at (memory_of w spans cells (length cells) most) x < 256
    byte x true is = rw (byte_at-memory_of w spans cells (length cells) most x (inside_cells w spans cells count most room layout) is)
        (layout.bytes (x - first_base w))
    byte x false is = rw (byte_at-none (memory_of w spans cells (length cells) most) x is) (omega arith)

-- ---- what is loaded

-- cells in their place spell what the bytes at their addresses spell
pub held_number-memory_of : (w : ℕ) (spans : List Span) (cells : List ℕ) (limit most a k place : ℕ) → All (IsSpan w (length cells)) spans
    → holds (ranges (memory_of w spans cells limit most)) a k ≡ true → first_base w + place ≡ a
    → held_number (memory_of w spans cells limit most) a k ≡ Some (little_endian (slice_index cells) place k)
held_number-memory_of w spans cells limit most a k place inside held is =
    held_number-held memory a k held ∙ ap Some (little_endian-moved (byte_at memory) (slice_index cells) a place k each)
  where
    memory : Memory
    memory = memory_of w spans cells limit most

    each : (i : ℕ) → i < k → byte_at (memory_of w spans cells limit most) (a + i) ≡ slice_index cells (place + i)
    each i below =
        byte_at-memory_of w spans cells limit most (a + i) inside
        (holds-within (ranges (memory_of w spans cells limit most)) a k (a + i) 1 held (omega arith) (omega arith))
        ∙ ap (slice_index cells) (omega arith)

-- ---- what is stored

object_in-written : (w : ℕ) (cells written : List ℕ) (b : ℕ → ℕ) (s : Span) → length written ≡ length cells → IsSpan w (length cells) s
    → ((x : ℕ) → covers x 1 (span_range s) ≡ true → b x ≡ slice_index written (x - first_base w))
    → object_in w written s ≡ object_with b (object_in w cells s)
object_in-written w cells written b s same inside bytes =
    ap (λ bs. record { base = s.base; size = s.size; bytes = bs })
    (ext_get_or 0 (take s.size (drop from written)) (window b s.base s.size) (count ∙ sym (length-window b s.base s.size)) each)
  where
    from : ℕ
    from = s.base - first_base w

    count : length (take s.size (drop (s.base - first_base w) written)) ≡ s.size
    count = length-take-le s.size (drop (s.base - first_base w) written)
        (rw (length-drop (s.base - first_base w) written, same) (omega (arith, inside.above, inside.below)))

    covered : (i : ℕ) → i < s.size → covers (s.base + i) 1 (span_range s) ≡ true
    covered i below = grind arith

    each : (i : ℕ) → i < length (take s.size (drop (s.base - first_base w) written))
        → get_or (take s.size (drop (s.base - first_base w) written)) i 0 ≡ get_or (window b s.base s.size) i 0
    each i within =
        let below : i < s.size = rw count at within in
        let above : first_base w ≤ s.base = inside.above in
        let place : s.base - first_base w + i ≡ s.base + i - first_base w = omega arith in
        get_or-take s.size (drop (s.base - first_base w) written) i 0 below
        ∙ (get_or-drop (s.base - first_base w) written i 0
        ∙ (ap (slice_index written) place
        ∙ (sym (bytes (s.base + i) (covered i below))
        ∙ sym (get_or-window b s.base s.size i 0 below))))

objects-written : (w : ℕ) (cells written : List ℕ) (b : ℕ → ℕ) (spans : List Span) → length written ≡ length cells
    → All (IsSpan w (length cells)) spans → ((x : ℕ) → holds (map span_range spans) x 1 ≡ true
    → b x ≡ slice_index written (x - first_base w)) → map (object_in w written) spans ≡ map (object_with b) (map (object_in w cells) spans)
unfolding holds
objects-written w cells written b [] same inside bytes = refl
objects-written w cells written b (s ∷ spans) same inside bytes =
    ap₂ (λ o os. o ∷ os)
    (object_in-written w cells written b s same (All-head (IsSpan w (length cells)) s spans inside) (λ x here. bytes x (or_left _ _ here)))
    (objects-written w cells written b spans same (All-tail (IsSpan w (length cells)) s spans inside)
    (λ x there. bytes x (or_right _ _ there)))

covered_above : (w count x : ℕ) (spans : List Span) → All (IsSpan w count) spans → holds (map span_range spans) x 1 ≡ true
    → first_base w ≤ x
unfolding holds
covered_above w count x [] inside some = absurd (true≢false (sym some))
covered_above w count x (s ∷ spans) inside some =
    ⊎_elim
    (λ here. span_above s (All-head (IsSpan w count) s spans inside) here)
    (λ there. covered_above w count x spans (All-tail (IsSpan w count) s spans inside) there)
    (or_cases (covers x 1 (span_range s)) (holds (map span_range spans) x 1) some)
  where
    span_above : (t : Span) → IsSpan w count t → covers x 1 (span_range t) ≡ true → first_base w ≤ x
    span_above t within here = let above : first_base w ≤ t.base = within.above in let from : t.base ≤ x = grind arith in omega arith

-- cells that are written are the bytes of the same objects
with_bytes-memory_of : (w : ℕ) (spans : List Span) (cells written : List ℕ) (limit most : ℕ) (b : ℕ → ℕ)
    → All (IsSpan w (length cells)) spans → length written ≡ length cells
    → ((y : ℕ) → byte_at (memory_of w spans cells limit most) (first_base w + y) ≡ slice_index cells y
    → b (first_base w + y) ≡ slice_index written y) → memory_of w spans written limit most ≡ with_bytes
    (memory_of w spans cells limit most) b
with_bytes-memory_of w spans cells written limit most b inside same bytes =
    ap (λ objects. record { objects = objects; byte_limit = limit; object_limit = most })
    (objects-written w cells written b spans same inside each)
  where
    cell : (y : ℕ) → holds (map span_range spans) (first_base w + y) 1 ≡ true
        → byte_at (memory_of w spans cells limit most) (first_base w + y) ≡ slice_index cells y
    cell y some =
        byte_at-memory_of w spans cells limit most (first_base w + y) inside
        (holds-memory_of w spans cells limit most (first_base w + y) 1 ∙ some) ∙ ap (slice_index cells) (omega arith)

    each : (x : ℕ) → holds (map span_range spans) x 1 ≡ true → b x ≡ slice_index written (x - first_base w)
    each x some =
        let above : first_base w ≤ x = covered_above w (length cells) x spans inside some in
        let from : first_base w + (x - first_base w) ≡ x = omega arith in
        subst (λ z. b z ≡ slice_index written (x - first_base w)) from
        (bytes (x - first_base w) (cell (x - first_base w) (subst (λ z. holds (map span_range spans) z 1 ≡ true) (sym from) some)))

pub memory_after-memory_of : (w : ℕ) (spans : List Span) (cells written : List ℕ) (limit most a k v place : ℕ)
    → All (IsSpan w (length cells)) spans → holds (ranges (memory_of w spans cells limit most)) a k ≡ true → first_base w + place ≡ a
    → length written ≡ length cells → ((i : ℕ) → slice_index written i ≡ put (slice_index cells) place k v i)
    → memory_of w spans written limit most ≡ memory_after (memory_of w spans cells limit most) a k v
memory_after-memory_of w spans cells written limit most a k v place inside held is same bytes =
    with_bytes-memory_of w spans cells written limit most (put (byte_at memory) a k v) inside same (λ y here.
    subst (λ c. put (byte_at memory) c k v (first_base w + y) ≡ slice_index written y) is
    (put-moved (byte_at memory) (slice_index cells) (first_base w) place k v y here ∙ sym (bytes y)))
    ∙ sym (memory_after-held memory a k v held)
  where
    memory : Memory
    memory = memory_of w spans cells limit most

pub memory_filled-memory_of : (w : ℕ) (spans : List Span) (cells written over : List ℕ) (limit most a place : ℕ)
    → All (IsSpan w (length cells)) spans → holds (ranges (memory_of w spans cells limit most)) a (length over) ≡ true
    → first_base w + place ≡ a → length written ≡ length cells → ((i : ℕ)
    → slice_index written i ≡ overlaid (slice_index cells) place over i)
    → memory_of w spans written limit most ≡ memory_filled (memory_of w spans cells limit most) a over
memory_filled-memory_of w spans cells written over limit most a place inside held is same bytes =
    with_bytes-memory_of w spans cells written limit most (overlaid (byte_at memory) a over) inside same (λ y here.
    subst (λ c. overlaid (byte_at memory) c over (first_base w + y) ≡ slice_index written y) is
    (overlaid-moved (byte_at memory) (slice_index cells) (first_base w) place over y here ∙ sym (bytes y)))
    ∙ sym (memory_filled-held memory a over held)
  where
    memory : Memory
    memory = memory_of w spans cells limit most

IsLayout-written : (w : ℕ) (spans : List Span) (cells written : List ℕ) (count most room : ℕ) → IsLayout w spans cells count most room
    → length written ≡ length cells → ((i : ℕ) → slice_index written i < 256)
    → ((i : ℕ) → count ≤ i → slice_index written i ≡ slice_index cells i) → IsLayout w spans written count most room
IsLayout-written w spans cells written count most room was same bytes behind = record {
  width = was.width;
  inside = was.inside;
  apart = was.apart;
  whole = was.whole;
  within = rw same was.within;
  few = was.few;
  bounded = rw same was.bounded;
  bytes = bytes;
  zeros = λ i from. behind i from ∙ was.zeros i from;
  small = was.small;
  spans_reserved = was.spans_reserved;
}

-- cells that are written, none behind those that are taken, change no span and no home
pub IsKept-written : (w : ℕ) (spans : List Span) (cells written homes : List ℕ) (most room index_room : ℕ)
    → IsKept w spans cells homes most room index_room → length written ≡ length cells → ((i : ℕ) → slice_index written i < 256)
    → ((i : ℕ) → 16 * length homes ≤ i → slice_index written i ≡ slice_index cells i) → IsKept w spans written homes most room index_room
IsKept-written w spans cells written homes most room index_room was same bytes behind = record {
  layout = IsLayout-written w spans cells written (16 * length homes) most room was.layout same bytes behind;
  are = was.are;
  homes_reserved = rw same was.homes_reserved;
}

-- ---- the rest of an object

-- each object's bytes are cells
bytes-memory_of : (w : ℕ) (cells : List ℕ) (spans : List Span) (i : ℕ) (o : Object) → slice_get (map (object_in w cells) spans) i ≡ Some o
    → o.bytes ≡ take o.size (drop (o.base - first_base w) cells)
bytes-memory_of w cells [] i o at = absurd (omega (arith, slice_get_within [] i o at))
bytes-memory_of w cells (s ∷ spans) zero o at = subst (λ (p : Object). p.bytes ≡ take p.size (drop (p.base - first_base w) cells))
    (same_Some (object_in w cells s) o at) refl
bytes-memory_of w cells (s ∷ spans) (suc i) o at = bytes-memory_of w cells spans i o at

rest_cells : (cells : List ℕ) (first base size x : ℕ) → first ≤ base → base ≤ x → x ≤ base + size
    → drop (x - base) (take size (drop (base - first) cells)) ≡ take (base + size - x) (drop (x - first) cells)
rest_cells cells first base size x above from to =
    let whole : x - base + (base + size - x) ≡ size = omega arith in
    let place : base - first + (x - base) ≡ x - first = omega arith in
    ap (λ n. drop (x - base) (take n (drop (base - first) cells))) (sym whole)
    ∙ drop-take (x - base) (base + size - x) (drop (base - first) cells)
    ∙ ap (take (base + size - x)) (drop-drop (x - base) (base - first) cells ∙ ap (λ n. drop n cells) place)

pub rest_from-memory_of : (w : ℕ) (spans : List Span) (cells : List ℕ) (limit most x i : ℕ) (s : Span)
    → IsMemory w (memory_of w spans cells limit most) → IsFound w (memory_of w spans cells limit most) x 1 i s
    → rest_from (memory_of w spans cells limit most) x ≡ Some (take (s.base + s.size - x) (drop (x - first_base w) cells))
rest_from-memory_of w spans cells limit most x i s memory found =
    let o : Object = found.object.0 in
    let at = found.object.1 in
    let base : o.base ≡ s.base = found.object.2 in
    let size : o.size ≡ s.size = found.object.3 in
    let covered : has_byte x o ≡ true = rw (base, size) found.covered in
    let from : s.base ≤ x = grind arith in
    let to : x ≤ s.base + s.size = grind arith in
    rest_from-found (memory_of w spans cells limit most) x o (object_at-found
    (memory_of w spans cells limit most) x i o memory.apart at covered)
    ∙ ap Some (ap (drop (x - o.base)) (bytes-memory_of w cells spans i o at)
    ∙ rw (base, size) (rest_cells cells (first_base w) s.base s.size x found.above from to))

-- ---- what the answers of the calls share

-- a range that is held lies in the cells that are taken
pub held_below : (w : ℕ) (spans : List Span) (cells : List ℕ) (count most room a k number place : ℕ) (s : Span) (m : Memory)
    → IsLayout w spans cells count most room → memory_of w spans cells (length cells) most ≡ m → IsFound w m a k number s
    → first_base w + place ≡ a → place + k ≤ count
held_below w spans cells count most room a k number place s m layout is found from =
    let next : next_base w m ≡ first_base w + count = ap (next_base w) (sym is) ∙ next_base-memory_of w spans cells
    (length cells) most count layout.whole in
    let bounds = covers-bounds (span_range s) a k found.covered in
    omega (arith, bounds.1, found.below, next)
