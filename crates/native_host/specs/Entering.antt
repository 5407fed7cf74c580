-- For proofs: which functions the host may enter with which values. docs/HOST.md, "Steps", on the enter step.
use Rattle.std.specs.Prelude.{ℕ, Bool, ◌&&◌, List}
use Rattle.note_types.specs.declared.notes.Notes.{Notes}
use Rattle.note_types.specs.declared.value.Value.{Value}
use Rattle.host_model.specs.HostPlans.{function_params, may_enter}
use Rattle.host_model.specs.ScriptValues.{fits_each}
use Rattle.host_model.specs.declared.object.TypedObject.{TypedObject}

-- the firmware may enter the function with these values, where these typed objects are made
abbrev pub can_enter : Notes → List TypedObject → ℕ → List Value → Bool
can_enter notes made f values = may_enter notes f && fits_each made (function_params notes f) values
