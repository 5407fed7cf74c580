-- For proofs: what each plan of the host needs of a configuration to be carried out alike in the neutral machine and at a
-- width. The host plans only what it saw, so the law of the host's steps meets all of it. docs/HOST.md, "Steps".
use Rattle.std.specs.Prelude.{◌≡◌, ℕ, ◌+◌, ◌≤◌, List, [], ◌∷◌, ◌++◌, map, length, Some, slice_get, ⊤}
use Rattle.std.specs.List.{AllByRecursion, AllZip}
use Rattle.note_types.specs.declared.notes.FnNote.{FnNote}
use Rattle.note_types.specs.declared.script.ScriptCall.{ScriptCall}
use Rattle.note_types.specs.declared.shape.Field.{Field}
use Rattle.note_types.specs.declared.value.Value.{Value}
use Rattle.neutral_machine.specs.Config.{Config, Frame, Host, HostFrame, call_under_way}
use Rattle.host_model.specs.HostPlans.{Store, Plan, Finishes, Leaves, Accepts, Enters, Replies, Resumes, Notifies, Ends}
use Rattle.host_model.specs.HostSteps as width
use Rattle.neutral_machine.specs.Layout.{addresses, total}
use Rattle.neutral_machine.specs.Memory.{memory_of, cell_field}
use Rattle.neutral_machine.specs.NeutralHost.{target_place, slots_asked, with_objects}
use Rattle.host_model.specs.Objects.{script_object, made_objects}
use Rattle.host_model.specs.Placements.{Placement, return_cell, params_bytes, stack_bytes}
use Rattle.host_model.specs.Progress.{one_entry, copied}
use Rattle.host_model.specs.RunState.{RunState}
use Rattle.host_model.specs.Values.{Neutral, CellPlace, Shows}
use Rattle.host_model.specs.World.{World}
use Rattle.neutral_machine.specs.WrittenLaw.{IsValue}
use Rattle.host_model.specs.declared.object.TypedObject.{TypedObject}

-- A store goes to a cell that is there, of its kind, and its value is one that a reader gives.
pub record StoreNames (world : World) (a : Config) (slots : List Neutral) (v : Store) : Type 0 where
  pub place : CellPlace
  pub there : target_place slots v.target ≡ Some place
  pub field : Field
  pub is_field : cell_field world.notes (memory_of world a) place ≡ Some field
  pub cell : field.cell ≡ v.cell
  pub value : IsValue world.notes v.value

-- the top frame is one of the host
pub record TopHost (a : Config) : Type 0 where
  pub frame : HostFrame
  pub rest : List Frame
  pub is : a.frames ≡ Host frame ∷ rest

-- A function is there, takes as many values, each is one that a reader gives, and the stack has room for its parameters and
-- its return cell.
pub record CanEnter (w : ℕ) (world : World) (a : Config) (f : ℕ) (values : List Value) : Type 0 where
  pub note : FnNote
  pub there : slice_get world.notes.function f ≡ Some note
  pub as_many : length note.params ≡ length values
  pub fit : AllByRecursion (IsValue world.notes) values
  pub room : return_cell + (params_bytes w note.params + total w a.frames) ≤ stack_bytes w world.notes

-- the configuration with the objects of a script's call more, whose cells hold null
unfoldable pub with_new : World → Config → ScriptCall → Config
with_new world a c =
    let made = made_objects world.notes world.script a.script.entries in
    record a { script = one_entry a.script; cells = with_objects world.notes (made ++ map script_object c.make) (length made) a.cells }

-- The next call of the script makes these objects, the stores go to their cells, and the argument slots that are copied show as
-- the numbers that are.
pub record CanAccept (w : ℕ) (world : World) (P : Placement) (a : Config) (r : RunState) (entry : ℕ) (objects : List TypedObject)
    (stores : List Store) : Type 0 where
  pub call : ScriptCall
  pub there : slice_get world.script.call a.script.entries ≡ Some call
  pub entry_is : a.script.entries ≡ entry
  pub objects_are : map script_object call.make ≡ objects
  pub names : AllByRecursion (StoreNames world (with_new world a call) []) stores
  pub shown : AllZip (Shows w (addresses w world.notes P a.frames)) (slots_asked world a (call_under_way a.frames))
      (width.slots_asked w world r (width.call_under_way r.hosts))

-- what each plan needs
abbrev pub PlanFits : ℕ → World → Placement → Config → RunState → Plan → Type 0
PlanFits w world P a r (Finishes v) = TopHost a
PlanFits w world P a r (Leaves e) = TopHost a
PlanFits w world P a r (Accepts e entry objects stores) = CanAccept w world P a r entry objects stores
PlanFits w world P a r (Enters e entry f values) = CanEnter w world a f values
PlanFits w world P a r (Replies e stores kind v) = AllByRecursion (StoreNames world a (copied (call_under_way a.frames))) stores
    × IsValue world.notes v
PlanFits w world P a r (Resumes e) = TopHost a
PlanFits w world P a r (Notifies e f values) = CanEnter w world a f values
PlanFits w world P a r (Ends es e) = ⊤
