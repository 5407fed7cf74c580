-- Meaning: the texts of types. docs/NOTES.md lists the types.
use Rattle.std.specs.Prelude.{ℕ, ◌+◌, ◌-◌, ◌*◌, ◌^◌, ℤ, pos, List, [], Option, Some, None, Bool, true, false, nat_lt, ◌==◌, bytes_eq, codes}
use Rattle.std.specs.Prelude.{if◌then◌else◌, option_map}
use Rattle.std.specs.List.{slice_split}
use Rattle.note_texts.specs.CellTexts.{cell_of, counted_of}
use Rattle.note_texts.specs.Names.{names_of}
use Rattle.note_texts.specs.Numbers.{number_in, number_of}
use Rattle.note_texts.specs.Ranges.{count_of, pair_of, range_of}
use Rattle.note_texts.specs.Splits.{◌>>=◌, parts_at, split_at}
use Rattle.note_texts.specs.declared.ty.TypeText.{TypeText}
use Rattle.note_texts.specs.declared.ty.TypeText.TheVariants.{Any, Int, Lin, Scaled, Ptr, Local, Lent, Status, SignedStatus, Mask, Handle}
use Rattle.note_texts.specs.declared.ty.TypeText.TheVariants.{Entry, Method, ThunkAt, Saved}
use Rattle.ebc_base.specs.Names.{name_of}

-- `LO..HI` or `LO..HI/DIV`
unfoldable pub int_of : List ℕ → Option TypeText
int_of text = do
  range ← range_of (parts_at 47 text).0
  div ← count_of (parts_at 47 text).1
  Some (Int range.0 range.1 div)

-- `N,C,HI`, where HI × (8N + C) is below 2^32
unfoldable pub scaled_of : List ℕ → Option TypeText
scaled_of text = do
  first ← split_at 44 text
  second ← split_at 44 first.1
  n ← number_in 1 (2 ^ 64 - 1) first.0
  c ← number_of second.0
  hi ← number_of second.1
  if nat_lt (hi * (8 * n + c)) (2 ^ 32) then Some (Scaled n c hi) else None

-- the offset of an address, (0, 0) where it is left out
abbrev pub offset_of : Option (List ℕ) → Option (ℤ × ℤ)
offset_of None = Some (pos 0, pos 0)
offset_of (Some text) = pair_of 0 text

-- `S*K+N,C`, with `*K` and `+N,C` left out or not
unfoldable pub pointer_of : Bool → List ℕ → Option TypeText
pointer_of null text = do
  target ← counted_of (parts_at 43 text).0
  offset ← offset_of (parts_at 43 text).1
  Some (Ptr target.0 target.1 offset.0 offset.1 null)

-- a type that is one word
unfoldable pub plain_type : List ℕ → Option TypeText
plain_type word =
    if bytes_eq word (codes "any") then Some Any
    else if bytes_eq word (codes "int") then Some (Int 0 (2 ^ 64 - 1) 1)
    else if bytes_eq word (codes "status") then Some (Status [])
    else if bytes_eq word (codes "sstatus") then Some (SignedStatus [])
    else if bytes_eq word (codes "mask") then Some Mask
    else if bytes_eq word (codes "handle") then Some Handle
    else if bytes_eq word (codes "entry") then Some Entry
    else None

-- a type by the word before its first `!` and by the fields named after it, one after each `!`
unfoldable pub granting_type : List ℕ → List ℕ → Option TypeText
granting_type word fields =
    if bytes_eq word (codes "status") then option_map (λ names. Status names) (names_of (slice_split (λ b. b == 33) fields))
    else if bytes_eq word (codes "sstatus") then option_map (λ names. SignedStatus names) (names_of (slice_split (λ b. b == 33) fields))
    else None

-- the parts of a type with no `:`: a word, and what follows a `!`
abbrev pub word_by : List ℕ × Option (List ℕ) → Option TypeText
word_by (word, None) = plain_type word
word_by (word, Some fields) = granting_type word fields

-- a type with no `:`
unfoldable pub word_type : List ℕ → Option TypeText
word_type text = word_by (parts_at 33 text)

-- a type by the word before its `:` and by what follows, where that is numbers
unfoldable pub number_type : List ℕ → List ℕ → Option TypeText
number_type word rest =
    if bytes_eq word (codes "int") then int_of rest
    else if bytes_eq word (codes "lin") then option_map (λ pair. Lin pair.0 pair.1) (pair_of 1 rest)
    else if bytes_eq word (codes "scaled") then scaled_of rest
    else if bytes_eq word (codes "thunk") then option_map (λ index. ThunkAt index) (number_in 0 (2 ^ 32 - 1) rest)
    else if bytes_eq word (codes "saved") then option_map (λ register. Saved register) (number_in 1 3 rest)
    else None

-- a type by the word before its `:` and by what follows
unfoldable pub marked_type : List ℕ → List ℕ → Option TypeText
marked_type word rest =
    if bytes_eq word (codes "ptr") then pointer_of false rest
    else if bytes_eq word (codes "ptr?") then pointer_of true rest
    else if bytes_eq word (codes "local") then option_map (λ name. Local name) (name_of rest)
    else if bytes_eq word (codes "lent") then option_map (λ cell. Lent cell) (cell_of rest)
    else if bytes_eq word (codes "method") then option_map (λ name. Method name) (name_of rest)
    else number_type word rest

-- the parts of a type: a word, and what follows a `:`
abbrev pub type_by : List ℕ × Option (List ℕ) → Option TypeText
type_by (word, None) = word_type word
type_by (word, Some rest) = marked_type word rest

-- TYPE
unfoldable pub type_of : List ℕ → Option TypeText
type_of text = type_by (parts_at 58 text)
