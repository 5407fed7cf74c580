-- Meaning: Cells that stand twice in a table of a script. docs/SCRIPTS.md has it in words.
use Rattle.std.specs.Prelude.{ℕ, List, ◌++◌, Bool, not, ◌&&◌, Result, bytes_eq, codes, nat_eq}
use Rattle.note_types.specs.declared.fault.TomlFault.{TomlFault}
use Rattle.note_types.specs.declared.fault.TomlFault.TheVariants.{Twice}
use Rattle.ebc_base.specs.Steps.{◌>>=◌, passes}
use Rattle.note_draft.specs.Repeats.{has_repeat}
use Rattle.note_texts.specs.Keys.{row_prefix}
use Rattle.script_draft.specs.Lists.{all_pass}
use Rattle.script_draft.specs.declared.draft.CallDraft.{CallDraft}
use Rattle.script_draft.specs.declared.draft.ObjectDraft.{ObjectDraft}
use Rattle.script_draft.specs.declared.draft.ScriptDraft.{ScriptDraft}
use Rattle.script_draft.specs.declared.parts.CellValueText.{CellValueText}

-- whether two texts give one cell
abbrev pub same_cell : CellValueText → CellValueText → Bool
same_cell a b = nat_eq a.instance b.instance && bytes_eq a.field b.field

-- whether a table gives a cell twice
abbrev pub repeats_cell : ObjectDraft → Bool
repeats_cell o = has_repeat same_cell o.cells

-- a table that is an item of the list at a path gives each cell once
abbrev pub object_once : List ℕ → ℕ → ObjectDraft → Result (Unit {0}) TomlFault
object_once path i o = passes (not (repeats_cell o)) (Twice (row_prefix path i ++ codes "cells"))

-- so does each table of the list
unfoldable pub objects_once : List ℕ → List ObjectDraft → Result (Unit {0}) TomlFault
objects_once path objects = all_pass (object_once path) 0 objects

-- so does each object that a call makes
abbrev pub call_once : ℕ → CallDraft → Result (Unit {0}) TomlFault
call_once i c = objects_once (row_prefix (codes "call") i ++ codes "make") c.make

-- so does each table of the whole text
unfoldable pub once : ScriptDraft → Result (Unit {0}) TomlFault
once d = do
  _ ← objects_once (codes "object") d.object
  all_pass call_once 0 d.call
