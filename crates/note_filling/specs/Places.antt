-- For proofs: the place that a text at a key names, or the fault that is told. docs/LABELS.md, "What is answered".
use Rattle.std.specs.Prelude.{ℕ, ◌+◌, Bool, not, ◌&&◌, List, Option, Some, None, Result, Ok, Err, nat_eq}
use Rattle.ebc_base.specs.Steps.{◌>>=◌, or_else, passes}
use Rattle.label_places.specs.References.{reference_of}
use Rattle.label_places.specs.Sought.{position_of}
use Rattle.label_places.specs.declared.label.Label.{Label}
use Rattle.label_places.specs.declared.label.Position.{Position}
use Rattle.label_places.specs.declared.seeking.NotFound.{NotFound}
use Rattle.label_places.specs.declared.seeking.NotFound.TheVariants.{Unknown, Several}
use Rattle.note_types.specs.declared.fault.TomlFault.{TomlFault}
use Rattle.note_types.specs.declared.fault.TomlFault.TheVariants as toml
use Rattle.note_filling.specs.declared.end.Flaw.{Flaw}
use Rattle.note_filling.specs.declared.label.LabelFault.{LabelFault}
use Rattle.note_filling.specs.declared.label.LabelFault.TheVariants as faults
use Rattle.note_filling.specs.declared.label.Placed.{Placed}

-- where a label stands, or that none has the name, or several have it
abbrev pub found_position : Result Position NotFound → Result Position LabelFault
found_position (Ok position) = Ok position
found_position (Err Unknown) = Err faults.Unknown
found_position (Err Several) = Err faults.Several

-- the place that a text names, of a label of the code where that is wanted
unfoldable pub placed_by : Bool → List (List ℕ) → List Label → List ℕ → Result Placed LabelFault
placed_by code names labels text = do
  r ← or_else faults.Form (reference_of text)
  position ← found_position (position_of names labels r)
  _ ← passes (not (code && nat_eq position.section 2)) faults.Data
  Ok (record { position = position; place = position.place + r.addend })

-- the fault that is told at a path
abbrev pub fault_at : List ℕ → LabelFault → TomlFault
fault_at path faults.Form = toml.Range path
fault_at path faults.Unknown = toml.Name path
fault_at path faults.Several = toml.Twice path
fault_at path faults.Data = toml.Kind path

abbrev pub told_at : {A : Type 0} → List ℕ → Result A LabelFault → Result A TomlFault
told_at path (Ok x) = Ok x
told_at path (Err fault) = Err (fault_at path fault)

-- the place that a text at a path names
unfoldable pub placed_in : Bool → List (List ℕ) → List Label → List ℕ → List ℕ → Result Placed TomlFault
placed_in code names labels path text = told_at path (placed_by code names labels text)

-- a fault of a label, told with the text
abbrev pub flawed : {A : Type 0} → List ℕ → Result A TomlFault → Result A Flaw
flawed text (Ok x) = Ok x
flawed text (Err fault) = Err (record { fault = fault; label = Some text })

-- the place that the text at a path names, where one is there
abbrev pub labelled_place : Bool → List (List ℕ) → List Label → List ℕ → Option (List ℕ) → Result (Option Placed) Flaw
labelled_place code names labels path None = Ok None
labelled_place code names labels path (Some text) = flawed text (placed_in code names labels path text) >>= (λ p. Ok (Some p))
