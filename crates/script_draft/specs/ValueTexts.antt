-- Meaning: the texts of values and arguments. docs/SCRIPTS.md lists them.
use Rattle.std.specs.Prelude.{ℕ, ◌-◌, ◌^◌, List, Option, Some, None, bytes_eq, codes, if◌then◌else◌, option_map}
use Rattle.note_texts.specs.Numbers.{number_in, number_of}
use Rattle.note_texts.specs.Ranges.{size_of}
use Rattle.note_texts.specs.Splits.{◌>>=◌, parts_at, split_at}
use Rattle.script_draft.specs.declared.value.ArgumentText.{ArgumentText}
use Rattle.script_draft.specs.declared.value.ArgumentText.TheVariants.{Out, Lent, Given}
use Rattle.script_draft.specs.declared.value.ValueText.{ValueText}
use Rattle.script_draft.specs.declared.value.ValueText.TheVariants.{Int, Size, Ptr, Null, StatusOk, StatusError, Handle, Entry, Method, Any}
use Rattle.ebc_base.specs.Names.{name_of}

-- a value that is one word
unfoldable pub plain_value : List ℕ → Option ValueText
plain_value word =
    if bytes_eq word (codes "null") then Some Null
    else if bytes_eq word (codes "any") then Some Any
    else None

-- `OBJECT INSTANCE`
unfoldable pub instance_of : List ℕ → Option ValueText
instance_of text = do
  parts ← split_at 32 text
  object ← number_of parts.0
  instance ← number_of parts.1
  Some (Ptr object instance)

-- a status of a kind with a code
abbrev pub status_by : List ℕ → ℕ → Option ValueText
status_by kind code =
    if bytes_eq kind (codes "ok") then Some (StatusOk code)
    else if bytes_eq kind (codes "error") then Some (StatusError code)
    else None

-- `ok N` or `error N`
unfoldable pub status_of : List ℕ → Option ValueText
status_of text = do
  parts ← split_at 32 text
  code ← number_in 0 (2 ^ 31 - 1) parts.1
  status_by parts.0 code

-- a value by the word before its first space and by what follows
unfoldable pub marked_value : List ℕ → List ℕ → Option ValueText
marked_value word rest =
    if bytes_eq word (codes "int") then option_map (λ n. Int n) (number_of rest)
    else if bytes_eq word (codes "size") then option_map (λ size. Size size.0 size.1) (size_of rest)
    else if bytes_eq word (codes "ptr") then instance_of rest
    else if bytes_eq word (codes "status") then status_of rest
    else if bytes_eq word (codes "handle") then option_map (λ k. Handle k) (number_in 0 1023 rest)
    else if bytes_eq word (codes "entry") then option_map (λ name. Entry name) (name_of rest)
    else if bytes_eq word (codes "method") then option_map (λ name. Method name) (name_of rest)
    else None

-- the parts of a value: a word, and what follows a space
abbrev pub value_by : List ℕ × Option (List ℕ) → Option ValueText
value_by (word, None) = plain_value word
value_by (word, Some rest) = marked_value word rest

-- VALUE
unfoldable pub value_of : List ℕ → Option ValueText
value_of text = value_by (parts_at 32 text)

-- a text that is a value, as an argument
abbrev pub given_of : List ℕ → Option ArgumentText
given_of text = option_map (λ value. Given value) (value_of text)

-- the parts of an argument: a word, and what follows a space
abbrev pub argument_by : List ℕ → List ℕ × Option (List ℕ) → Option ArgumentText
argument_by text (word, None) = if bytes_eq word (codes "out") then Some Out else given_of text
argument_by text (word, Some rest) = if bytes_eq word (codes "lent") then option_map (λ value. Lent value) (value_of rest)
    else given_of text

-- ARGUMENT
unfoldable pub argument_of : List ℕ → Option ArgumentText
argument_of text = argument_by text (parts_at 32 text)
