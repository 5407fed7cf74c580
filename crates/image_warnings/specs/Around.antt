-- For proofs: what is around an instruction, as far as departures hang on it: docs/FIRMWARE.md, "Warnings".
use Rattle.std.specs.Prelude.{◌≡◌, ◌↔◌, ℕ, IsTrue, List, Option, Some, pos}
use Rattle.ebc_insn.specs.declared.Insn.{Insn}
use Rattle.note_types.specs.declared.notes.FnNote.{FnNote}
use Rattle.note_types.specs.declared.notes.Notes.{Notes}
use Rattle.note_types.specs.declared.notes.Static.{Static}
use Rattle.note_types.specs.declared.state.State.{State}
use Rattle.pe_image.specs.declared.image.Image.{Image}
use Rattle.state_walk.specs.Standing.{DecodesIfAny, HasDecoded}
use Rattle.image_warnings.specs.Effects.{lists, stores_listed}
use Rattle.departures.specs.Fields.{loaded_field}
use Rattle.image_warnings.specs.ImageEffects.{Does}
use Rattle.image_warnings.specs.Marks.{IsUncut}
use Rattle.departures.specs.Texts.{hands_text, unended_texts}
use Rattle.departures.specs.declared.departure.Around.{Around}
use Rattle.image_warnings.specs.declared.effect.Effect.{Effect}
use Rattle.image_warnings.specs.declared.effect.Effect.TheVariants.{Store, Call}
use Rattle.departures.specs.declared.field.ObjectField.{ObjectField}
use Rattle.departures.specs.declared.above.Uncut.{Uncut}

-- an instruction of the image stores into the field that an instruction loads
pub record LoadsStored (image : Image) (notes : Notes) (f : FnNote) (s : State) (insn : Insn) : Type 0 where
  pub field : ObjectField
  pub loads : loaded_field notes f s insn ≡ Some field
  pub stored : Does image notes (Store field)

-- one calls the function
abbrev pub IsCalled : Image → Notes → FnNote → Type 0
IsCalled image notes f = Does image notes (Call (pos f.place))

-- it is what decodes where an instruction ends
pub record StandsBehind (image : Image) (f : FnNote) (next : ℕ) (behind : Option (Insn × ℕ)) : Type 0 where
  pub decodes : DecodesIfAny image f next behind
  pub whole : HasDecoded image f next behind

-- it is what is around an instruction in a state, at a place of a function and before `next`
pub record IsAround (image : Image) (notes : Notes) (f : FnNote) (place : ℕ) (s : State) (insn : Insn) (next : ℕ) (around : Around)
    : Type 0 where
  pub uncut : IsUncut image notes f place around.uncut
  pub stored : IsTrue around.stored ↔ LoadsStored image notes f s insn
  pub called : IsTrue around.called ↔ IsCalled image notes f
  pub unended : around.unended ≡ hands_text (unended_texts image notes) notes place s
  pub behind : StandsBehind image f next around.behind

-- where these are the effects of the image's instructions and its texts without a zero, and this stands behind it
abbrev pub around_of : List Effect → List Static → Uncut → Option (Insn × ℕ) → Notes → FnNote → ℕ → State → Insn → Around
around_of effects texts uncut behind notes f place s insn = record {
  uncut = uncut;
  stored = stores_listed effects (loaded_field notes f s insn);
  called = lists effects (Call (pos f.place));
  unended = hands_text texts notes place s;
  behind = behind;
}
