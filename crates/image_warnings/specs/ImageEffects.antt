-- For proofs: what the instructions of an image do that counts at other places: docs/FIRMWARE.md, "Warnings", `unwritten` and `status`.
use Rattle.std.specs.Prelude.{◌≡◌, ◌↔◌, ℕ, ◌<◌, List, Option, Some, slice_get}
use Rattle.std.specs.List.{Contains}
use Rattle.ebc_insn.specs.declared.Insn.{Insn}
use Rattle.note_types.specs.declared.notes.FnNote.{FnNote}
use Rattle.note_types.specs.declared.notes.Notes.{Notes}
use Rattle.note_types.specs.declared.state.State.{State}
use Rattle.pe_image.specs.declared.image.Image.{Image}
use Rattle.rules_image.specs.Images.{IsDecoded}
use Rattle.width_checker.specs.StatesAt.{StateAt}
use Rattle.image_warnings.specs.Effects.{effect_of, list_with}
use Rattle.image_warnings.specs.declared.effect.Effect.{Effect}

-- what stands at a place of function `func`: an instruction, and the state before it
pub record InsnAt (image : Image) (notes : Notes) (func : ℕ) (f : FnNote) (place : ℕ) : Type 0 where
  pub insn : Insn
  pub next : ℕ
  pub decode : IsDecoded image f place insn next
  pub state : State
  pub has_state : StateAt image notes func f place state

-- the instruction there does so
pub record DoesAt (image : Image) (notes : Notes) (func : ℕ) (f : FnNote) (place : ℕ) (x : Effect) : Type 0 where
  pub at : InsnAt image notes func f place
  pub does : effect_of image notes f at.state at.insn at.next ≡ Some x

-- an instruction of the image does so
pub record Does (image : Image) (notes : Notes) (x : Effect) : Type 0 where
  pub func : ℕ
  pub f : FnNote
  pub there : slice_get notes.function func ≡ Some f
  pub place : ℕ
  pub done : DoesAt image notes func f place x

-- these are all effects of the image's instructions
abbrev pub AreEffects : Image → Notes → List Effect → Type 0
AreEffects image notes effects = (x : Effect) → Contains effects x ↔ Does image notes x

-- ---- how far they are gathered

-- the effects, with that of what stands at a place
abbrev pub with_effect : List Effect → Image → Notes → FnNote → Option State → Option (Insn × ℕ) → List Effect
with_effect effects image notes f (Some s) (Some (i, next)) = list_with effects (effect_of image notes f s i next)
with_effect effects image notes f s insn = effects

-- Effects are those of the functions before one.
pub record EffectsBefore (image : Image) (notes : Notes) (func : ℕ) (effects : List Effect) : Type 0 where
  pub sound : (x : Effect) → Contains effects x → Does image notes x
  pub whole : (k : ℕ) (f : FnNote) → k < func → slice_get notes.function k ≡ Some f → (place : ℕ) (x : Effect)
      → DoesAt image notes k f place x → Contains effects x

-- They are those, and the function's before a place.
pub record EffectsTo (image : Image) (notes : Notes) (func : ℕ) (f : FnNote) (place : ℕ) (effects : List Effect) : Type 0 where
  pub before : EffectsBefore image notes func effects
  pub here : (p : ℕ) (x : Effect) → DoesAt image notes func f p x → p < place → Contains effects x
