-- Meaning: the binds that a text stands for under the notes of two images, or the first fault in it. docs/PAIRS.md, "Binds".
use Rattle.std.specs.Prelude.{ℕ, List, [], ◌∷◌, ◌++◌, not, Result, Ok, codes, map, take}
use Rattle.bind_texts.specs.declared.draft.BindDraft.{BindDraft}
use Rattle.ebc_base.specs.Names.{name_of}
use Rattle.ebc_base.specs.Steps.{◌>>=◌, or_else, passes}
use Rattle.ebc_base.specs.Tables.{is_named}
use Rattle.note_texts.specs.Keys.{document, item_path, number_at, only_keys, row_prefix, text_at}
use Rattle.note_texts.specs.Lists.{tables_at}
use Rattle.note_types.specs.declared.fault.TomlFault.{TomlFault}
use Rattle.note_types.specs.declared.fault.TomlFault.TheVariants.{Name, Range, Twice}
use Rattle.note_types.specs.declared.notes.Notes.{Notes}
use Rattle.pair_model.specs.Binds.{bind_agrees}
use Rattle.pair_model.specs.declared.bind.Bind.{Bind}
use Rattle.protocol_script.specs.Numbers.{function_number, method_number}
use Rattle.script_draft.specs.Drafts.{most_items}
use Rattle.script_draft.specs.Lists.{all_pass, each_of}
use Rattle.toml.specs.Data.{Members}

-- ---- 1. tables and keys

-- what a table of the list of binds has
unfoldable pub bind_row : List ℕ → Members → Result BindDraft TomlFault
bind_row prefix table = do
  method ← text_at name_of prefix (codes "method") table
  function ← text_at name_of prefix (codes "function") table
  _ ← only_keys prefix (codes "method" ∷ codes "function" ∷ []) table
  Ok (record { method = method; function = function })

-- the version is 1, and the list of binds may be left out
unfoldable pub draft_of : Members → Result (List BindDraft) TomlFault
draft_of table = do
  version ← number_at [] (codes "version") 1 1 table
  rows ← tables_at bind_row [] (codes "bind") most_items table
  _ ← only_keys [] (codes "version" ∷ codes "bind" ∷ []) table
  Ok rows

-- ---- 2. a method again

-- the methods of the binds before that of a number
abbrev pub methods_before : List BindDraft → ℕ → List (List ℕ)
methods_before rows i = map (λ (y : BindDraft). y.method) (take i rows)

-- a bind is of another method than each before it
abbrev pub bound_once : List BindDraft → ℕ → BindDraft → Result (Unit {0}) TomlFault
bound_once rows i x =
    passes (not (is_named x.method (methods_before rows i))) (Twice (row_prefix (codes "bind") i ++ codes "method"))

-- ---- 3. names

-- a method of A and a function of B, by their numbers
abbrev pub bind_of : (a b : Notes) → ℕ → BindDraft → Result Bind TomlFault
bind_of a b i x = do
  method ← or_else (Name (row_prefix (codes "bind") i ++ codes "method")) (method_number a x.method)
  function ← or_else (Name (row_prefix (codes "bind") i ++ codes "function")) (function_number b x.function)
  Ok (record { method = method; function = function })

-- ---- 4. the condition

-- a bind agrees with the notes of both images
abbrev pub bind_passes : (a b : Notes) → ℕ → Bind → Result (Unit {0}) TomlFault
bind_passes a b i x = passes (bind_agrees a b x) (Range (item_path (codes "bind") i))

-- ---- the whole

-- the binds that a draft stands for, or its first fault: a method again; then a name that isn't there; then a bind that doesn't agree
unfoldable pub binds_in : (a b : Notes) → List BindDraft → Result (List Bind) TomlFault
binds_in a b rows = do
  _ ← all_pass (bound_once rows) 0 rows
  binds ← each_of (bind_of a b) 0 rows
  _ ← all_pass (bind_passes a b) 0 binds
  Ok binds

-- the binds that a text stands for, or its first fault: of the document, of a table and its keys; then of the draft
unfoldable pub binds_of : (a b : Notes) → List ℕ → Result (List Bind) TomlFault
binds_of a b text = do
  table ← document text
  rows ← draft_of table
  binds_in a b rows
