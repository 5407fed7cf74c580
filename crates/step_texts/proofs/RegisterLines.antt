-- The lines of registers, one register after the other, behind a text.
use Rattle.std.proofs.Common.{◌≡◌, ℕ, ◌+◌, List, ◌++◌, Option, None, sym, append-nil, slice_index_or}
use Rattle.note_types.specs.declared.notes.Notes.{Notes}
use Rattle.step_texts.specs.declared.step.Change.{Change}
use Rattle.step_texts.specs.StepTexts.{lines_below, register_line}
use Rattle.step_texts.proofs.Parts as parts

-- no register
pub none : (notes : Notes) (registers : List (Option Change)) (text : List ℕ) → text ≡ text ++ lines_below notes registers 0
unfolding lines_below
none notes registers text = sym (append-nil text)

-- one register more
pub one_more : (notes : Notes) (registers : List (Option Change)) (n : ℕ) (text old new : List ℕ)
    → old ≡ text ++ lines_below notes registers n →
    new ≡ old ++ register_line notes n (slice_index_or registers n None) → new ≡ text ++ lines_below notes registers (n + 1)
unfolding lines_below
one_more notes registers n text old new before put =
    parts.one_more (λ r. register_line notes r (slice_index_or registers r None)) n text old new before put
