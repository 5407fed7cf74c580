-- For proofs: the bytes of a run's objects that are others than at its start: docs/TRACE.md, "The state at the end".
use Rattle.std.specs.Prelude.{ℕ, suc, ◌+◌, ◌*◌, ◌-◌, ◌/◌, ◌%◌, ◌^◌, List, [], ◌∷◌, ◌++◌, Bool, not, drop, length, take, nat_eq}
use Rattle.std.specs.Prelude.{slice_index, slice_index_or}
use Rattle.std.specs.List.{filter, flat_map, list_all, range_with_len}
use Rattle.std.specs.Option.{option_map_or}
use Rattle.ebc_width.specs.Ranges.{Range}
use Rattle.host_model.specs.RunState.{RunState}
use Rattle.note_types.specs.Concrete.{Concrete, rest_from}
use Rattle.note_types.specs.declared.notes.Notes.{Notes}
use Rattle.step_texts.specs.declared.step.Change.{Change}
use Rattle.step_texts.specs.RowTexts.{more_line, row_line}
use Rattle.run_trace.specs.Addresses.{meaning_of}

-- ---- rows

-- the bytes of a row, which are 16 at most, from an offset on
abbrev pub row_of : List ℕ → ℕ → List ℕ
row_of bytes at = take 16 (drop at bytes)

-- whether a row has a byte that is another than before; what there wasn't was zero
abbrev pub rows_differ : (old new : List ℕ) → Bool
rows_differ old new = not (list_all (λ k. nat_eq (slice_index_or old k 0) (slice_index new k)) (range_with_len 0 (length new)))

-- ---- an object

-- the numbers of the rows that differ
abbrev pub differing : (old new : List ℕ) → List ℕ
differing old new = filter (λ k. rows_differ (row_of old (16 * k)) (row_of new (16 * k))) (range_with_len 0 ((length new + 15) / 16))

-- where a row of the object of that number lies, which begins at a base
abbrev pub row_place : Notes → (base object at : ℕ) → Change
row_place notes base object at =
    record { number = (base + at) % 2 ^ 64; meaning = meaning_of notes (record { object = object; offset = at }) }

-- row k of such an object
abbrev pub row_line_of : Notes → ℕ → ℕ → (old new : List ℕ) → ℕ → List ℕ
row_line_of notes base object old new k =
    row_line notes (row_place notes base object (16 * k)) (row_of old (16 * k)) (row_of new (16 * k))

-- the first eight rows that differ, and how many more do
unfoldable pub object_lines : Notes → ℕ → ℕ → (old new : List ℕ) → List ℕ
object_lines notes base object old new =
    flat_map (row_line_of notes base object old new) (take 8 (differing old new)) ++ more_line (length (differing old new) - 8)

-- ---- a memory

-- the bytes of the object that begins at a base; none where none does
abbrev pub bytes_at : Concrete → ℕ → List ℕ
bytes_at s base = option_map_or (λ bytes. bytes) (rest_from s base) []

-- the lines of objects, of which the first has this number
unfoldable pub objects_lines : Notes → (old new : Concrete) → ℕ → List Range → List ℕ
objects_lines notes old new object [] = []
objects_lines notes old new object (r ∷ rs) =
    object_lines notes r.base object (bytes_at old r.base) (bytes_at new r.base) ++ objects_lines notes old new (suc object) rs

-- from the state r to the state s: of the image and of the script's objects, which lie behind the native area and the stack
abbrev pub changed_lines : Notes → (r s : RunState) → List ℕ
changed_lines notes r s = objects_lines notes r.machine s.machine 2 (drop 2 s.machine.objects)
