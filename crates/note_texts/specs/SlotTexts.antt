-- Meaning: the texts of parameters, registers and items of the stack. docs/NOTES.md says what they are.
use Rattle.std.specs.Prelude.{ℕ, List, [], ◌∷◌, Option, Some, None, ◌==◌, bytes_eq, codes, if◌then◌else◌}
use Rattle.note_types.specs.declared.cell.SlotKind.{SlotKind}
use Rattle.note_types.specs.declared.cell.SlotKind.TheVariants as kinds
use Rattle.note_texts.specs.Numbers.{number_in}
use Rattle.note_texts.specs.Splits.{◌>>=◌, split_at}
use Rattle.note_texts.specs.TypeTexts.{type_of}
use Rattle.note_texts.specs.declared.slot.ItemText.{ItemText}
use Rattle.note_texts.specs.declared.slot.ItemText.TheVariants.{Slot, Locals}
use Rattle.note_texts.specs.declared.slot.ParamText.{ParamText}
use Rattle.note_texts.specs.declared.slot.RegisterText.{RegisterText}

-- the kind of a parameter's slot: `n` or `q`
unfoldable pub parameter_kind : List ℕ → Option SlotKind
parameter_kind word =
    if bytes_eq word (codes "n") then Some kinds.N
    else if bytes_eq word (codes "q") then Some kinds.Q
    else None

-- the kind of a slot: `n`, `q` or `d`
unfoldable pub slot_kind : List ℕ → Option SlotKind
slot_kind word = if bytes_eq word (codes "d") then Some kinds.D else parameter_kind word

-- `n TYPE` or `q TYPE`
unfoldable pub param_of : List ℕ → Option ParamText
param_of text = do
  parts ← split_at 32 text
  kind ← parameter_kind parts.0
  ty ← type_of parts.1
  Some (record { kind = kind; ty = ty })

-- `R1` to `R7`
unfoldable pub register_number : List ℕ → Option ℕ
register_number [] = None
register_number (b ∷ digits) = if b == 82 then number_in 1 7 digits else None

-- `R1 TYPE` to `R7 TYPE`
unfoldable pub register_of : List ℕ → Option RegisterText
register_of text = do
  parts ← split_at 32 text
  register ← register_number parts.0
  ty ← type_of parts.1
  Some (record { register = register; ty = ty })

-- `n TYPE`, `q TYPE` or `d TYPE`
unfoldable pub slot_of : List ℕ → Option ItemText
slot_of text = do
  parts ← split_at 32 text
  kind ← slot_kind parts.0
  ty ← type_of parts.1
  Some (Slot kind ty)

-- a slot, or `locals`
unfoldable pub item_of : List ℕ → Option ItemText
item_of text = if bytes_eq text (codes "locals") then Some Locals else slot_of text
