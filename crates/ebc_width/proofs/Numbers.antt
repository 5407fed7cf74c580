-- Numbers read from eight cells and written to them, and what `little_endian` and `put` say of the same cells.
use Rattle.std.proofs.Common.{◌≡◌, ℕ, zero, suc, ◌+◌, ◌-◌, ◌/◌, ◌%◌, ◌^◌, ◌<◌, ◌≤◌, inl, inr, ⊎_elim, List, ◌++◌, length, take, drop}
use Rattle.std.proofs.Common.{replicate, get_or, refl, sym, ap, ◌∙◌, arith, length-drop, ◌∷◌, []}
use Rattle.std.specs.Prelude.{slice_index}
use Rattle.std.specs.Int.{w64, byte_at, bytes_low_first, from_le_bytes, to_le_bytes}
use Rattle.std.proofs.lemmas.Bool.{cases_lt}
use Rattle.std.proofs.lemmas.List.{get_or-take, get_or-drop, get_or_append_left, get_or-append_right, get_or-replicate, length-take-le}
use Rattle.ebc_width.specs.Bytes.{little_endian, put, overlaid}
use Rattle.ebc_width.proofs.ByteLaws.{put-within, put-apart, overlaid-within, overlaid-apart, little_endian-moved, little_endian-zeros}
use borrow.Rule.Slice.PartMut.{put_mid}

-- ---- the cells after a part is written

put_mid-below : (xs ys : List ℕ) (a k i : ℕ) → a ≤ length xs → i < a → get_or (put_mid a k xs ys) i 0 ≡ get_or xs i 0
put_mid-below xs ys a k i within below =
    let front : length (take a xs) ≡ a = length-take-le a xs within in
    get_or_append_left (take a xs) (ys ++ drop k (drop a xs)) 0 i (omega arith) ∙ get_or-take a xs i 0 below

put_mid-within : (xs ys : List ℕ) (a k i : ℕ) → a ≤ length xs → a ≤ i → i < a + length ys
    → get_or (put_mid a k xs ys) i 0 ≡ get_or ys (i - a) 0
put_mid-within xs ys a k i within from to =
    get_or-append_right (take a xs) (ys ++ drop k (drop a xs)) a i 0 (length-take-le a xs within) from
    ∙ get_or_append_left ys (drop k (drop a xs)) 0 (i - a) (omega arith)

put_mid-above : (xs ys : List ℕ) (a k i : ℕ) → a ≤ length xs → length ys ≡ k → a + k ≤ i → get_or (put_mid a k xs ys) i 0 ≡ get_or xs i 0
put_mid-above xs ys a k i within whole above =
    let place : a + (k + (i - a - k)) ≡ i = omega arith in
    get_or-append_right (take a xs) (ys ++ drop k (drop a xs)) a i 0 (length-take-le a xs within) (omega arith)
    ∙ get_or-append_right ys (drop k (drop a xs)) k (i - a) 0 whole (omega arith)
    ∙ get_or-drop k (drop a xs) (i - a - k) 0
    ∙ get_or-drop a xs (k + (i - a - k)) 0
    ∙ ap (λ j. get_or xs j 0) place

-- ---- a number in eight bytes

from_le_bytes-little_endian : (bytes : List ℕ) → from_le_bytes w64 bytes ≡ little_endian (slice_index bytes) 0 8
unfolding little_endian
from_le_bytes-little_endian bytes = omega arith

byte_at-quotient : (i v : ℕ) → byte_at i v ≡ v / 256 ^ i % 256
byte_at-quotient zero v = omega arith
byte_at-quotient (suc i) v = refl

get_or-bytes : (from k v i : ℕ) → i < k → get_or (bytes_low_first from k v) i 0 ≡ v / 256 ^ (from + i) % 256
get_or-bytes from zero v i below = absurd (omega arith)
get_or-bytes from (suc k) v zero below = byte_at-quotient from v ∙ ap (λ j. v / 256 ^ j % 256) (omega arith)
get_or-bytes from (suc k) v (suc i) below = get_or-bytes (suc from) k v i (omega arith) ∙ ap (λ j. v / 256 ^ j % 256) (omega arith)

pub get_or-to_le_bytes : (v i : ℕ) → i < 8 → get_or (to_le_bytes w64 v) i 0 ≡ v / 256 ^ i % 256
get_or-to_le_bytes v i below = get_or-bytes 0 8 v i below ∙ ap (λ j. v / 256 ^ j % 256) (omega arith)

-- k cells copied to the front of eight zeros spell the number that they spell in their place
pub read_number : (cells word : List ℕ) (place k : ℕ) → k ≤ 8 → place + k ≤ length cells
    → word ≡ put_mid 0 k (replicate 8 0) (take (place + k - place) (drop place cells))
    → from_le_bytes w64 word ≡ little_endian (slice_index cells) place k
read_number cells word place k few within is =
    let part : List ℕ = take (place + k - place) (drop place cells) in
    let room : k ≤ length (drop place cells) = rw (length-drop place cells) (omega arith) in
    let count : place + k - place ≡ k = omega arith in
    let whole : length part ≡ k = rw count (length-take-le k (drop place cells) room) in
    from_le_bytes-little_endian word
    ∙ little_endian-zeros (slice_index word) 0 8 k few (λ i from to. rw is
    (put_mid-above (replicate 8 0) part 0 k (0 + i) (omega arith) whole (omega arith) ∙ get_or-replicate 8 (0 + i) 0 0 (omega arith)))
    ∙ little_endian-moved (slice_index word) (slice_index cells) 0 place k (λ i below.
    rw is (put_mid-within (replicate 8 0) part 0 k (0 + i) (omega arith) (omega arith) (omega arith)
    ∙ get_or-take (place + k - place) (drop place cells) (0 + i - 0) 0 (omega arith)
    ∙ get_or-drop place cells (0 + i - 0) 0
    ∙ ap (λ j. get_or cells j 0) (omega arith)))

-- cells over which others are copied
pub write_bytes : (cells part : List ℕ) (place count i : ℕ) → place + length part ≤ length cells → count ≡ length part
    → get_or (put_mid place count cells part) i 0 ≡ overlaid (slice_index cells) place part i
write_bytes cells part place count i within same =
    ⊎_elim
    (λ below. put_mid-below cells part place count i (omega arith) below
    ∙ sym (overlaid-apart (slice_index cells) place part i (inl below)))
    (λ from. ⊎_elim
    (λ to. put_mid-within cells part place count i (omega arith) from to ∙ sym (overlaid-within (slice_index cells) place part i from to))
    (λ above. put_mid-above cells part place count i (omega arith) (sym same) (omega arith)
    ∙ sym (overlaid-apart (slice_index cells) place part i (inr above)))
    (cases_lt i (place + length part)))
    (cases_lt i place)

-- the low bytes of a number, laid over others
pub overlaid-put : (b : ℕ → ℕ) (a k v : ℕ) (part : List ℕ) (x : ℕ) → k ≤ 8 → part ≡ take k (to_le_bytes w64 v)
    → overlaid b a part x ≡ put b a k v x
overlaid-put b a k v part x few is =
    let whole : length part ≡ k = rw is (length-take-le k (to_le_bytes w64 v) few) in
    ⊎_elim
    (λ below. overlaid-apart b a part x (inl below) ∙ sym (put-apart b a k v x (inl below)))
    (λ from. ⊎_elim
    (λ to. overlaid-within b a part x from (omega arith)
    ∙ (ap (λ xs. get_or xs (x - a) 0) is ∙ get_or-take k (to_le_bytes w64 v) (x - a) 0 (omega arith)
    ∙ get_or-to_le_bytes v (x - a) (omega arith))
    ∙ sym (put-within b a k v x from to))
    (λ above. overlaid-apart b a part x (inr (omega arith)) ∙ sym (put-apart b a k v x (inr above)))
    (cases_lt x (a + k)))
    (cases_lt x a)

pub number_8 : (b : ℕ → ℕ) (p x0 x1 x2 x3 x4 x5 x6 x7 : ℕ) → x0 ≡ b p → x1 ≡ b (p + 1) → x2 ≡ b (p + 2) → x3 ≡ b (p + 3) → x4 ≡ b (p + 4)
    → x5 ≡ b (p + 5) → x6 ≡ b (p + 6) → x7 ≡ b (p + 7)
    → from_le_bytes w64 (x0 ∷ x1 ∷ x2 ∷ x3 ∷ x4 ∷ x5 ∷ x6 ∷ x7 ∷ []) ≡ little_endian b p 8
unfolding little_endian
number_8 b p x0 x1 x2 x3 x4 x5 x6 x7 e0 e1 e2 e3 e4 e5 e6 e7 =
    let a2 : b (p + 1 + 1) ≡ b (p + 2) = ap b (omega arith) in
    let a3 : b (p + 1 + 1 + 1) ≡ b (p + 3) = ap b (omega arith) in
    let a4 : b (p + 1 + 1 + 1 + 1) ≡ b (p + 4) = ap b (omega arith) in
    let a5 : b (p + 1 + 1 + 1 + 1 + 1) ≡ b (p + 5) = ap b (omega arith) in
    let a6 : b (p + 1 + 1 + 1 + 1 + 1 + 1) ≡ b (p + 6) = ap b (omega arith) in
    let a7 : b (p + 1 + 1 + 1 + 1 + 1 + 1 + 1) ≡ b (p + 7) = ap b (omega arith) in
    omega arith
