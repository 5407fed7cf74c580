-- Meaning: the texts of values that reports print: those of scripts, with things of the notes by their names, and `wild`
-- with 16 hexadecimal digits. docs/SCRIPTS.md, "Texts".
use Rattle.std.specs.Prelude.{ℕ, ◌/◌, ◌%◌, zero, suc, List, [], ◌∷◌, ◌++◌, Option, Some, None, codes, if◌then◌else◌, option_map, slice_get}
use Rattle.std.specs.Option.{option_map_or}
use Rattle.note_types.specs.declared.notes.FnNote.{FnNote}
use Rattle.note_types.specs.declared.notes.Notes.{Notes}
use Rattle.note_types.specs.declared.seen.Seen.{Seen}
use Rattle.note_types.specs.declared.value.Value.{Value}
use Rattle.note_types.specs.declared.value.Value.TheVariants as value
use Rattle.note_texts.specs.KeyTexts.{hex_digit}
use Rattle.script_draft.specs.Grammar as grammar
use Rattle.script_draft.specs.declared.value.ValueText.{ValueText}
use Rattle.script_draft.specs.declared.value.ValueText.TheVariants as text

-- the names of a function and of a method by their numbers: none where there is no such thing
abbrev pub function_name : Notes → ℕ → Option (List ℕ)
function_name notes f = option_map (λ (g : FnNote). g.name) (slice_get notes.function f)

abbrev pub method_name : Notes → ℕ → Option (List ℕ)
method_name notes m = slice_get notes.methods m

-- a value as a script has it, where a script may have it
unfoldable pub named_value : Notes → Value → Option ValueText
named_value notes (value.Int n) = Some (text.Int n)
named_value notes (value.Size n c) = Some (text.Size n c)
named_value notes (value.Ptr object instance) = Some (text.Ptr object instance)
named_value notes value.Null = Some text.Null
named_value notes (value.StatusOk code) = Some (text.StatusOk code)
named_value notes (value.StatusError code) = Some (text.StatusError code)
named_value notes (value.Handle k) = Some (text.Handle k)
named_value notes (value.Entry f) = option_map (λ name. text.Entry name) (function_name notes f)
named_value notes (value.Method m) = option_map (λ name. text.Method name) (method_name notes m)
named_value notes value.Any = Some text.Any
named_value notes value.Out = None
named_value notes (value.Wild x) = None

-- a number in so many hexadecimal digits
abbrev pub hex_text : ℕ → ℕ → List ℕ
hex_text zero n = []
hex_text (suc count) n = hex_text count (n / 16) ++ hex_digit (n % 16) ∷ []

-- what is printed of a value: the text of a script; `out`; or `wild` and the number that has no reading, 16 digits in lower
-- case; nothing where it names a function or a method that isn't there
unfoldable pub value_text : Notes → Value → List ℕ
value_text notes value.Out = codes "out"
value_text notes (value.Wild x) = codes "wild " ++ hex_text 16 x
value_text notes v = option_map_or grammar.value_text (named_value notes v) []

-- what is printed of an argument
abbrev pub seen_text : Notes → Seen → List ℕ
seen_text notes s = if s.lent then codes "lent " ++ value_text notes s.value else value_text notes s.value
