-- Meaning: the texts of what a native method takes and gives. docs/NOTES.md lists them.
use Rattle.std.specs.Prelude.{ℕ, ◌^◌, ℤ, pos, negsuc, List, [], Option, Some, None, Bool, true, false, nat_lt, ◌==◌, ◌&&◌, bytes_eq, codes}
use Rattle.std.specs.Prelude.{if◌then◌else◌, option_map}
use Rattle.note_texts.specs.CellTexts.{cell_of}
use Rattle.note_texts.specs.Ranges.{range_of, size_of}
use Rattle.note_texts.specs.SlotTexts.{parameter_kind}
use Rattle.note_texts.specs.Splits.{◌>>=◌, parts_at, split_at}
use Rattle.note_texts.specs.TypeTexts.{type_of}
use Rattle.note_texts.specs.declared.ty.TypeText.{TypeText}
use Rattle.note_texts.specs.declared.ty.TypeText.TheVariants as types
use Rattle.note_texts.specs.declared.want.ResultText.{ResultText}
use Rattle.note_texts.specs.declared.want.WantParamText.{WantParamText}
use Rattle.note_texts.specs.declared.want.WantText.{WantText}
use Rattle.note_texts.specs.declared.want.WantText.TheVariants.{Any, Int, Size, Ptr, Handle, Status, Entry, Out, Inout}

-- a want that is one word
unfoldable pub plain_want : List ℕ → Option WantText
plain_want word =
    if bytes_eq word (codes "any") then Some Any
    else if bytes_eq word (codes "ptr") then Some Ptr
    else if bytes_eq word (codes "handle") then Some Handle
    else if bytes_eq word (codes "status") then Some Status
    else if bytes_eq word (codes "entry") then Some Entry
    else None

-- a want by the word before its `:` and by what follows
unfoldable pub marked_want : List ℕ → List ℕ → Option WantText
marked_want word rest =
    if bytes_eq word (codes "int") then option_map (λ range. Int range.0 range.1) (range_of rest)
    else if bytes_eq word (codes "size") then option_map (λ size. Size size.0 size.1) (size_of rest)
    else if bytes_eq word (codes "out") then option_map (λ cell. Out cell) (cell_of rest)
    else if bytes_eq word (codes "inout") then option_map (λ cell. Inout cell) (cell_of rest)
    else None

-- the parts of a want: a word, and what follows a `:`
abbrev pub want_by : List ℕ × Option (List ℕ) → Option WantText
want_by (word, None) = plain_want word
want_by (word, Some rest) = marked_want word rest

-- WANT
unfoldable pub want_of : List ℕ → Option WantText
want_of text = want_by (parts_at 58 text)

-- `n WANT` or `q WANT`
unfoldable pub want_param_of : List ℕ → Option WantParamText
want_param_of text = do
  parts ← split_at 32 text
  kind ← parameter_kind parts.0
  want ← want_of parts.1
  Some (record { kind = kind; want = want })

-- the number 0
abbrev pub is_zero : ℤ → Bool
is_zero (pos n) = n == 0
is_zero (negsuc n) = false

-- what a native method may give: a status with no grants, a handle, numbers below 2^32, or the start of an instance
abbrev pub is_result : TypeText → Bool
is_result (types.Status []) = true
is_result types.Handle = true
is_result (types.Int lo hi div) = nat_lt hi (2 ^ 32)
is_result (types.Ptr shape count n c null) = is_zero n && is_zero c
is_result _ = false

-- the TYPE, where a native method may give it
abbrev pub given_type : TypeText → Option ResultText
given_type ty = if is_result ty then Some (record { ty = Some ty }) else None

-- `none`, or the TYPE of a result
unfoldable pub result_of : List ℕ → Option ResultText
result_of text =
    if bytes_eq text (codes "none") then Some (record { ty = None }) else type_of text >>= given_type
