-- The bytes of a row, one byte after the other, behind a text.
use Rattle.std.proofs.Common.{◌≡◌, ℕ, ◌+◌, List, ◌++◌, sym, append-nil, slice_index, slice_index_or}
use Rattle.step_texts.specs.RowTexts.{byte_part, changed_bytes_part}
use Rattle.step_texts.proofs.Parts as parts

-- no byte
pub none : (before after text : List ℕ) → text ≡ text ++ changed_bytes_part before after 0
unfolding changed_bytes_part
none before after text = sym (append-nil text)

-- one byte more
pub one_more : (before after : List ℕ) (n : ℕ) (text old new : List ℕ) → old ≡ text ++ changed_bytes_part before after n
    → new ≡ old ++ byte_part (slice_index_or before n 0) (slice_index after n) → new ≡ text ++ changed_bytes_part before after (n + 1)
unfolding changed_bytes_part
one_more before after n text old new so_far put =
    parts.one_more (λ k. byte_part (slice_index_or before k 0) (slice_index after k)) n text old new so_far put
