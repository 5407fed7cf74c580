-- Meaning: the link plan that a text stands for, or the first fault in it, key by key. docs/LINKING.md, "Plans".
use Rattle.std.specs.Prelude.{ℕ, ◌-◌, ◌^◌, ◌%◌, ◌==◌, ◌&&◌, List, [], ◌∷◌, length, Option, Some, None, is_none, Result, Ok, codes}
use Rattle.std.specs.Prelude.{nat_eq, nat_le, if◌then◌else◌}
use Rattle.toml.specs.Data.{Items, Members, as_array}
use Rattle.note_types.specs.declared.fault.TomlFault.{TomlFault}
use Rattle.note_types.specs.declared.fault.TomlFault.TheVariants.{Kind, Range, Twice}
use Rattle.ebc_base.specs.Names.{name_of}
use Rattle.ebc_base.specs.Steps.{◌>>=◌, or_else, passes}
use Rattle.note_texts.specs.Keys.{document, field, number_at, only_keys, text_at}
use Rattle.note_texts.specs.Lists.{count, texts_of}
use Rattle.ebc_link.specs.declared.plan.LinkPlan.{LinkPlan}
use Rattle.ebc_link.specs.Symbols.{first_again}

-- ---- the objects

-- a text, unless it is empty
abbrev pub some_text : List ℕ → Option (List ℕ)
some_text text = if length text == 0 then None else Some text

-- the items of the list of the objects, which may not be left out
unfoldable pub object_list : Members → Result Items TomlFault
object_list table = field [] (codes "objects") table >>= λ d. or_else (Kind (codes "objects")) (as_array d)

-- 1 to 256 of them
unfoldable pub object_items : Members → Result Items TomlFault
object_items table = do
  ds ← object_list table
  _ ← passes (nat_le 1 (count ds) && nat_le (count ds) 256) (Range (codes "objects"))
  Ok ds

-- the names of the objects' files: texts that aren't empty
unfoldable pub objects_at : Members → Result (List (List ℕ)) TomlFault
objects_at table = object_items table >>= texts_of some_text (codes "objects")

-- each object stands there once
abbrev pub objects_once : List (List ℕ) → Result (Unit {0}) TomlFault
objects_once objects = passes (is_none (first_again [] objects)) (Twice (codes "objects"))

-- ---- the base: a multiple of 64 KiB of 32 bits

unfoldable pub base_at : Members → Result ℕ TomlFault
base_at table = do
  base ← number_at [] (codes "base") 0 (2 ^ 32 - 1) table
  _ ← passes (nat_eq (base % 65536) 0) (Range (codes "base"))
  Ok base

-- ---- all

-- the keys of a plan
abbrev pub plan_keys : List (List ℕ)
plan_keys = codes "objects" ∷ codes "entry" ∷ codes "subsystem" ∷ codes "base" ∷ []

-- the plan that a table stands for
unfoldable pub plan_in : Members → Result LinkPlan TomlFault
plan_in table = do
  objects ← objects_at table
  entry ← text_at name_of [] (codes "entry") table
  subsystem ← number_at [] (codes "subsystem") 10 12 table
  base ← base_at table
  _ ← only_keys [] plan_keys table
  _ ← objects_once objects
  Ok (record { objects = objects; entry = entry; subsystem = subsystem; base = base })

-- the plan that a text stands for
unfoldable pub plan_of : List ℕ → Result LinkPlan TomlFault
plan_of text = document text >>= plan_in
