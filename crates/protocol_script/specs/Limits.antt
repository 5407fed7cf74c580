-- Meaning: the limits of a script: on its objects, its calls and its callbacks. docs/SCRIPTS.md, "What the reader refuses".
use Rattle.std.specs.Prelude.{◌≡◌, ℕ, ◌+◌, ◌^◌, ◌≤◌, List, ◌++◌, length, take, nat_le, nat_lt, Result, codes}
use Rattle.std.specs.List.{sum_by}
use Rattle.note_types.specs.declared.fault.TomlFault.{TomlFault}
use Rattle.note_types.specs.declared.fault.TomlFault.TheVariants.{Range}
use Rattle.note_types.specs.declared.notes.Notes.{Notes}
use Rattle.note_types.specs.declared.script.Script.{Script}
use Rattle.note_types.specs.declared.script.ScriptObject.{ScriptObject}
use Rattle.ebc_base.specs.Steps.{◌>>=◌, passes}
use Rattle.note_texts.specs.Keys.{row_prefix}
use Rattle.host_model.specs.Objects.{placed_objects}
use Rattle.host_model.specs.Scripts.{callbacks_of, have_room, room_of}
use Rattle.script_draft.specs.Lists.{all_pass}
use Rattle.protocol_script.specs.declared.limits.Load.{Load}
use Rattle.protocol_script.specs.declared.limits.Tally.{Tally}

-- with the object of that number at the start, those up to it keep the limits
abbrev pub object_limit : Notes → List ScriptObject → ℕ → Result (Unit {0}) TomlFault
object_limit notes objects i = passes (have_room notes (take (i + 1) objects)) (Range (row_prefix (codes "object") i ++ codes "count"))

-- the objects at the start keep the limits
unfoldable pub objects_limit : Notes → List ScriptObject → Result (Unit {0}) TomlFault
objects_limit notes objects = all_pass (λ i o. object_limit notes objects i) 0 objects

-- with the call of that number, those up to it keep the limits: 16,384 calls, the objects, and 16,384 callbacks
unfoldable pub call_limit : Notes → Script → ℕ → Result (Unit {0}) TomlFault
call_limit notes script i = do
  _ ← passes (nat_lt i 16384) (Range (row_prefix (codes "call") i ++ codes "signature"))
  _ ← passes (have_room notes (placed_objects script (i + 1))) (Range (row_prefix (codes "call") i ++ codes "make"))
  passes (nat_le (sum_by callbacks_of (take (i + 1) script.call)) 16384) (Range (row_prefix (codes "call") i ++ codes "enter"))

-- the calls keep the limits
unfoldable pub calls_limit : Notes → Script → Result (Unit {0}) TomlFault
calls_limit notes script = all_pass (λ i c. call_limit notes script i) 0 script.call

-- all limits, of the objects at the start and then call by call
unfoldable pub limits : Notes → Script → Result (Unit {0}) TomlFault
limits notes script = do
  _ ← objects_limit notes script.object
  calls_limit notes script

-- ---- what was counted

-- what objects take and how many they are, within the limits
pub record IsLoad (notes : Notes) (loaded : List ScriptObject) (load : Load) : Type 0 where
  pub room : load.room ≡ sum_by (room_of notes) loaded
  pub objects : load.objects ≡ length loaded
  pub within : (load.room ≤ 2 ^ 23) × (load.objects ≤ 4096)

-- what a script has up to so many of its calls, within the limits
pub record IsTally (notes : Notes) (script : Script) (calls : ℕ) (tally : Tally) : Type 0 where
  pub load : IsLoad notes (placed_objects script calls) tally.load
  pub callbacks : tally.callbacks ≡ sum_by callbacks_of (take calls script.call)
  pub within : tally.callbacks ≤ 16384
