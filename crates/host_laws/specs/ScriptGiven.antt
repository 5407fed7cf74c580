-- For proofs: what a reader's conditions on a script give the laws of the host's steps: the cells that made objects name are
-- there, and each value is one that a reader gives.
use Rattle.std.specs.Prelude.{◌≡◌, ℕ, ◌+◌, List, length, Some, slice_get}
use Rattle.std.specs.List.{AllByRecursion}
use Rattle.host_model.specs.HostPlans.{Target, InObject, InArgument, Store, field_at, filling}
use Rattle.host_model.specs.declared.object.TypedObject.{TypedObject}
use Rattle.host_model.specs.Objects.{made_objects}
use Rattle.note_types.specs.declared.notes.Notes.{Notes}
use Rattle.note_types.specs.declared.script.Callback.{Callback}
use Rattle.note_types.specs.declared.script.Notify.{Notify}
use Rattle.note_types.specs.declared.script.OutValue.{OutValue}
use Rattle.note_types.specs.declared.script.Script.{Script}
use Rattle.note_types.specs.declared.script.ScriptCall.{ScriptCall}
use Rattle.note_types.specs.declared.script.WriteValue.{WriteValue}
use Rattle.note_types.specs.declared.shape.Field.{Field}
use Rattle.neutral_machine.specs.WrittenLaw.{IsValue}

-- a store in a cell of an object that is there, of its kind
abbrev pub TargetGiven : Notes → List TypedObject → Target → Store → Type 0
TargetGiven notes made (InObject k i f) v = (x : Field) × (field_at notes made k i f ≡ Some x) × (x.cell ≡ v.cell)
TargetGiven notes made (InArgument j) v = ⊥

pub record StoreGiven (notes : Notes) (made : List TypedObject) (v : Store) : Type 0 where
  pub target : TargetGiven notes made v.target v
  pub value : IsValue notes v.value

-- what is given of the script's call of that number
pub record CallGiven (notes : Notes) (script : Script) (n : ℕ) (c : ScriptCall) : Type 0 where
  pub made : AllByRecursion (StoreGiven notes (made_objects notes script (n + 1)))
      (filling notes (length (made_objects notes script n)) c.make)
  pub callbacks : (j : ℕ) (b : Callback) → slice_get c.enter j ≡ Some b → AllByRecursion (IsValue notes) b.values
  pub outs : AllByRecursion (λ (o : OutValue). IsValue notes o.value) c.out
  pub writes : AllByRecursion (λ (v : WriteValue). IsValue notes v.value) c.write
  pub result : IsValue notes c.result

-- what is given of all calls and all notifications of a script
pub record ScriptGiven (notes : Notes) (script : Script) : Type 0 where
  pub calls : (n : ℕ) (c : ScriptCall) → slice_get script.call n ≡ Some c → CallGiven notes script n c
  pub notified : (n : ℕ) (x : Notify) → slice_get script.notify n ≡ Some x → AllByRecursion (IsValue notes) x.args
