-- Meaning: the texts of cells and of fields. docs/NOTES.md lists the cells.
use Rattle.std.specs.Prelude.{ℕ, ◌-◌, ◌^◌, List, Option, Some, None, true, false, bytes_eq, codes, if◌then◌else◌, option_map}
use Rattle.note_texts.specs.Numbers.{number_in}
use Rattle.note_texts.specs.Ranges.{count_of}
use Rattle.note_texts.specs.Splits.{◌>>=◌, parts_at, split_at}
use Rattle.note_texts.specs.declared.cell.CellText.{CellText}
use Rattle.note_texts.specs.declared.cell.CellText.TheVariants.{I8, I16, I32, I64, N, Stat, Handle, Entry, Ptr, P64, Method}
use Rattle.note_texts.specs.declared.cell.FieldText.{FieldText}
use Rattle.ebc_base.specs.Names.{name_of}

-- `S*K`, or `S` where K is 1: a shape and a count
unfoldable pub counted_of : List ℕ → Option (List ℕ × ℕ)
counted_of text = do
  shape ← name_of (parts_at 42 text).0
  count ← count_of (parts_at 42 text).1
  Some (shape, count)

-- a cell that is one word
unfoldable pub plain_cell : List ℕ → Option CellText
plain_cell word =
    if bytes_eq word (codes "i8") then Some I8
    else if bytes_eq word (codes "i16") then Some I16
    else if bytes_eq word (codes "i32") then Some I32
    else if bytes_eq word (codes "i64") then Some I64
    else if bytes_eq word (codes "n") then Some N
    else if bytes_eq word (codes "stat") then Some Stat
    else if bytes_eq word (codes "handle") then Some Handle
    else if bytes_eq word (codes "entry") then Some Entry
    else None

-- a cell by the word before its `:` and by what follows
unfoldable pub marked_cell : List ℕ → List ℕ → Option CellText
marked_cell word rest =
    if bytes_eq word (codes "ptr") then option_map (λ target. Ptr target.0 target.1 false) (counted_of rest)
    else if bytes_eq word (codes "ptr?") then option_map (λ target. Ptr target.0 target.1 true) (counted_of rest)
    else if bytes_eq word (codes "p64") then option_map (λ target. P64 target.0 target.1 false) (counted_of rest)
    else if bytes_eq word (codes "p64?") then option_map (λ target. P64 target.0 target.1 true) (counted_of rest)
    else if bytes_eq word (codes "method") then option_map (λ name. Method name) (name_of rest)
    else None

-- the parts of a cell: a word, and what follows a `:`
abbrev pub cell_by : List ℕ × Option (List ℕ) → Option CellText
cell_by (word, None) = plain_cell word
cell_by (word, Some rest) = marked_cell word rest

-- CELL
unfoldable pub cell_of : List ℕ → Option CellText
cell_of text = cell_by (parts_at 58 text)

-- `NAME N C CELL`
unfoldable pub field_of : List ℕ → Option FieldText
field_of text = do
  first ← split_at 32 text
  second ← split_at 32 first.1
  third ← split_at 32 second.1
  name ← name_of first.0
  n ← number_in 0 (2 ^ 32 - 1) second.0
  c ← number_in 0 (2 ^ 32 - 1) third.0
  cell ← cell_of third.1
  Some (record { name = name; n = n; c = c; cell = cell })
