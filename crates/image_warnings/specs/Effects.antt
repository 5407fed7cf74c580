-- For proofs: what an instruction does that counts at other places: docs/FIRMWARE.md, "Warnings", `unwritten` and `status`.
use Rattle.std.specs.Prelude.{ℕ, ℤ, Bool, false, if◌then◌else◌, List, [], ◌∷◌, ◌++◌, Option, None, Some}
use Rattle.std.specs.Ordering.{int_eq}
use Rattle.std.specs.List.{list_any}
use Rattle.ebc_insn.specs.declared.Insn.{Insn}
use Rattle.ebc_insn.specs.declared.Insn.TheVariants as insns
use Rattle.note_infer.specs.Leaders.{jump_names}
use Rattle.note_types.specs.declared.notes.FnNote.{FnNote}
use Rattle.note_types.specs.declared.notes.Notes.{Notes}
use Rattle.note_types.specs.declared.state.State.{State}
use Rattle.pe_image.specs.declared.image.Image.{Image}
use Rattle.rules_image.specs.Images.{reloc_at}
use Rattle.departures.specs.Fields.{is_same_field, stored_field}
use Rattle.image_warnings.specs.declared.effect.Effect.{Effect}
use Rattle.image_warnings.specs.declared.effect.Effect.TheVariants.{Store, Call}
use Rattle.departures.specs.declared.field.ObjectField.{ObjectField}

-- ---- the effect of an instruction

abbrev pub store_of : Option ObjectField → Option Effect
store_of None = None
store_of (Some x) = Some (Store x)

abbrev pub call_of : Option ℤ → Option Effect
call_of None = None
call_of (Some place) = Some (Call place)

-- what an instruction before `next` does in a state: it stores into a field of an object, or calls the function at a place
abbrev pub effect_of : Image → Notes → FnNote → State → Insn → ℕ → Option Effect
effect_of image notes f s (insns.Call far false rel op extra) next = call_of (jump_names next (reloc_at image next) far rel op extra)
effect_of image notes f s i next = store_of (stored_field notes f s i)

-- ---- lists of effects

-- two are one
abbrev pub is_same : Effect → Effect → Bool
is_same (Store x) (Store y) = is_same_field x y
is_same (Call x) (Call y) = int_eq x y
is_same (Store x) (Call y) = false
is_same (Call x) (Store y) = false

-- the list has the effect
unfoldable pub lists : List Effect → Effect → Bool
lists effects x = list_any (is_same x) effects

-- it has a store into a field, where there is one
abbrev pub stores_listed : List Effect → Option ObjectField → Bool
stores_listed effects None = false
stores_listed effects (Some x) = lists effects (Store x)

-- the list with the effect, if there is one
abbrev pub list_with : List Effect → Option Effect → List Effect
list_with effects None = effects
list_with effects (Some x) = if lists effects x then effects else effects ++ x ∷ []
