-- Meaning: the grammar of values and arguments: what each text is made of, by what it stands for. docs/SCRIPTS.md,
-- "Texts".
use Rattle.std.specs.Prelude.{◌≡◌, ℕ, ◌^◌, ◌<◌, ◌≤◌, List, ◌++◌, codes, ⊤}
use Rattle.std.specs.Fmt.{decimal}
use Rattle.note_texts.specs.Grammar.{IsName}
use Rattle.script_draft.specs.declared.value.ArgumentText.{ArgumentText}
use Rattle.script_draft.specs.declared.value.ArgumentText.TheVariants.{Out, Lent, Given}
use Rattle.script_draft.specs.declared.value.ValueText.{ValueText}
use Rattle.script_draft.specs.declared.value.ValueText.TheVariants as value

-- the text of a value
abbrev pub value_text : ValueText → List ℕ
value_text (value.Int n) = codes "int " ++ decimal n
value_text (value.Size n c) = codes "size " ++ (decimal n ++ (codes "," ++ decimal c))
value_text (value.Ptr object instance) = codes "ptr " ++ (decimal object ++ (codes " " ++ decimal instance))
value_text value.Null = codes "null"
value_text (value.StatusOk code) = codes "status ok " ++ decimal code
value_text (value.StatusError code) = codes "status error " ++ decimal code
value_text (value.Handle k) = codes "handle " ++ decimal k
value_text (value.Entry name) = codes "entry " ++ name
value_text (value.Method name) = codes "method " ++ name
value_text value.Any = codes "any"

-- each number and each name of a value is one that a text may have
abbrev pub IsWritable : ValueText → Type 0
IsWritable (value.Int n) = n < 2 ^ 64
IsWritable (value.Size n c) = (n ≤ 2 ^ 20) × (c ≤ 2 ^ 20)
IsWritable (value.Ptr object instance) = (object < 2 ^ 64) × (instance < 2 ^ 64)
IsWritable value.Null = ⊤
IsWritable (value.StatusOk code) = code < 2 ^ 31
IsWritable (value.StatusError code) = code < 2 ^ 31
IsWritable (value.Handle k) = k < 1024
IsWritable (value.Entry name) = IsName name
IsWritable (value.Method name) = IsName name
IsWritable value.Any = ⊤

-- VALUE
abbrev pub IsValueText : List ℕ → ValueText → Type 0
IsValueText text v = (text ≡ value_text v) × IsWritable v

-- ARGUMENT
abbrev pub IsArgumentText : List ℕ → ArgumentText → Type 0
IsArgumentText text Out = text ≡ codes "out"
IsArgumentText text (Lent v) = (text ≡ codes "lent " ++ value_text v) × IsWritable v
IsArgumentText text (Given v) = IsValueText text v
