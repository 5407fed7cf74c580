-- For proofs: the lines of bytes that a run has changed: docs/TRACE.md, "The state at the end".
use Rattle.std.specs.Prelude.{ℕ, List, [], ◌++◌, codes, length, map, nat_eq, if◌then◌else◌, slice_index, slice_index_or}
use Rattle.std.specs.Fmt.{decimal}
use Rattle.std.specs.List.{concat, range_with_len}
use Rattle.asm_text.specs.Numbers.{hex_text}
use Rattle.note_types.specs.declared.notes.Notes.{Notes}
use Rattle.step_texts.specs.StepTexts.{number_part}
use Rattle.step_texts.specs.declared.step.Change.{Change}

-- a byte that is another than before, or two dots
abbrev pub byte_part : ℕ → ℕ → List ℕ
byte_part old new = if nat_eq old new then codes ".." else hex_text 2 new

-- the first n of these bytes, each beside the old one, which was zero where there was none
unfoldable pub changed_bytes_part : List ℕ → List ℕ → ℕ → List ℕ
changed_bytes_part old new n = concat (map (λ k. byte_part (slice_index_or old k 0) (slice_index new k)) (range_with_len 0 n))

-- bytes from an address on, of which some are others than before
abbrev pub row_line : Notes → Change → (old new : List ℕ) → List ℕ
row_line notes at old new =
    codes "  bytes " ++ (number_part notes at ++ (codes " " ++ (changed_bytes_part old new (length new) ++ codes "\n")))

-- how many more rows there are, if any
abbrev pub more_line : ℕ → List ℕ
more_line rows = if nat_eq rows 0 then [] else codes "  more " ++ (decimal rows ++ codes "\n")
