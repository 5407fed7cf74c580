-- For proofs: the law that a script which was read gives what the laws of the host's steps and of a run's start ask of it.
-- docs/HOST.md, "Laws of its steps".
use Rattle.std.specs.Prelude.{ℕ, ◌≤◌, ◌<◌, length}
use Rattle.note_types.specs.Records.{Each, IsNotes}
use Rattle.note_types.specs.declared.notes.Notes.{Notes}
use Rattle.note_types.specs.declared.script.Script.{Script}
use Rattle.note_types.specs.declared.script.ScriptObject.{ScriptObject}
use Rattle.host_model.specs.Objects.{placed_objects}
use Rattle.host_model.specs.Scripts.{IsScript}
use Rattle.host_model.specs.Values.{Cells}
use Rattle.host_model.specs.World.{World}
use Rattle.host_laws.specs.ScriptGiven.{ScriptGiven}
use Rattle.host_laws.specs.StartGiven.{StartGiven}

-- the values and the cells of each call, and the values of each notification
abbrev pub CallsAreGiven : Type 0
CallsAreGiven = (notes : Notes) (script : Script) → IsScript notes script → ScriptGiven notes script

-- the cells at the start, and that the entry function can be entered
abbrev pub StartIsGiven : Type 0
StartIsGiven = (w : ℕ) (world : World) (statics : Cells) → IsNotes world.notes → IsScript world.notes world.script
    → StartGiven w world statics

-- each object that the script has or makes has instances of a shape of the notes
abbrev pub ObjectsAreGiven : Type 0
ObjectsAreGiven =
    (notes : Notes) (script : Script) → IsScript notes script → (n : ℕ)
    → Each (λ (o : ScriptObject). (o.shape < length notes.shape) × (1 ≤ o.count)) (placed_objects script n)
