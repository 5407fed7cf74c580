-- Meaning: what the tables of scripts stand for, each by the path before its keys, and what the whole text stands for,
-- things of the notes by their names; or the first fault in it, key by key. docs/SCRIPTS.md has it in words.
use Rattle.std.specs.Prelude.{ℕ, ◌-◌, ◌^◌, List, [], ◌∷◌, Result, Ok, codes, if◌then◌else◌, nat_eq}
use Rattle.toml.specs.Data.{Members}
use Rattle.note_types.specs.declared.fault.TomlFault.{TomlFault}
use Rattle.ebc_base.specs.Steps.{◌>>=◌}
use Rattle.note_texts.specs.Keys.{number_at, text_at, only_keys}
use Rattle.note_texts.specs.Lists.{texts_at, tables_at}
use Rattle.script_draft.specs.PartTexts.{callback_of, cell_value_of, out_of, write_of}
use Rattle.script_draft.specs.ValueTexts.{argument_of, value_of}
use Rattle.script_draft.specs.declared.draft.CallDraft.{CallDraft}
use Rattle.script_draft.specs.declared.draft.NotifyDraft.{NotifyDraft}
use Rattle.script_draft.specs.declared.draft.ObjectDraft.{ObjectDraft}
use Rattle.script_draft.specs.declared.draft.ScriptDraft.{ScriptDraft}
use Rattle.script_draft.specs.declared.reading.Reply.{Reply}
use Rattle.ebc_base.specs.Names.{name_of}

-- the most items of a list
abbrev pub most_items : ℕ
most_items = 2 ^ 32 - 1

-- a table of the list `object` or `make`
unfoldable pub object_draft : List ℕ → Members → Result ObjectDraft TomlFault
object_draft prefix table = do
  shape ← text_at name_of prefix (codes "shape") table
  count ← number_at prefix (codes "count") 1 (2 ^ 64 - 1) table
  cells ← texts_at cell_value_of prefix (codes "cells") most_items table
  _ ← only_keys prefix (codes "shape" ∷ codes "count" ∷ codes "cells" ∷ []) table
  Ok (record { shape = shape; count = count; cells = cells })

-- what the firmware leaves and gives where it replies
unfoldable pub reply_of : List ℕ → Members → Result Reply TomlFault
reply_of prefix table = do
  out ← texts_at out_of prefix (codes "out") most_items table
  write ← texts_at write_of prefix (codes "write") most_items table
  result ← text_at value_of prefix (codes "result") table
  Ok (record { out = out; write = write; result = result })

-- the keys of a table of the list `call`
abbrev pub call_keys : List (List ℕ)
call_keys = codes "signature" ∷ codes "args" ∷ codes "enter" ∷ codes "make" ∷ codes "out" ∷ codes "write" ∷ codes "result" ∷ []

-- a table of the list `call`
unfoldable pub call_of : List ℕ → Members → Result CallDraft TomlFault
call_of prefix table = do
  signature ← text_at name_of prefix (codes "signature") table
  args ← texts_at argument_of prefix (codes "args") most_items table
  enter ← texts_at callback_of prefix (codes "enter") most_items table
  make ← tables_at object_draft prefix (codes "make") most_items table
  reply ← reply_of prefix table
  _ ← only_keys prefix call_keys table
  Ok (record {
    signature = signature;
    args = args;
    enter = enter;
    make = make;
    out = reply.out;
    write = reply.write;
    result = reply.result;
  })

-- a table of the list `notify`
unfoldable pub notify_of : List ℕ → Members → Result NotifyDraft TomlFault
notify_of prefix table = do
  at ← number_at prefix (codes "at") 0 10000000 table
  function ← text_at name_of prefix (codes "function") table
  args ← texts_at value_of prefix (codes "args") most_items table
  _ ← only_keys prefix (codes "at" ∷ codes "function" ∷ codes "args" ∷ []) table
  Ok (record { at = at; function = function; args = args })

-- the list `notify`, which is one of version 2
unfoldable pub notifications_of : ℕ → Members → Result (List NotifyDraft) TomlFault
notifications_of version table = if nat_eq version 2 then tables_at notify_of [] (codes "notify") most_items table else Ok []

-- the keys of the whole text, by its version
abbrev pub script_keys : ℕ → List (List ℕ)
script_keys version =
    codes "version" ∷ codes "args" ∷ codes "object" ∷ codes "call" ∷ (if nat_eq version 2 then codes "notify" ∷ [] else [])

-- the whole text
unfoldable pub draft_of : Members → Result ScriptDraft TomlFault
draft_of table = do
  version ← number_at [] (codes "version") 1 2 table
  args ← texts_at value_of [] (codes "args") most_items table
  object ← tables_at object_draft [] (codes "object") most_items table
  call ← tables_at call_of [] (codes "call") most_items table
  notify ← notifications_of version table
  _ ← only_keys [] (script_keys version) table
  Ok (record { version = version; args = args; object = object; call = call; notify = notify })
