-- Meaning: the grammar of the texts of parameters, registers and items of the stack. docs/NOTES.md has it in words.
use Rattle.std.specs.Prelude.{◌≡◌, ℕ, ◌≤◌, List, ◌++◌, codes}
use Rattle.std.specs.Fmt.{decimal}
use Rattle.note_types.specs.declared.cell.SlotKind.{SlotKind}
use Rattle.note_types.specs.declared.cell.SlotKind.TheVariants as kinds
use Rattle.note_types.specs.Passing.{IsParameterKind}
use Rattle.note_texts.specs.TypeGrammar.{IsTypeText}
use Rattle.note_texts.specs.declared.slot.ItemText.{ItemText}
use Rattle.note_texts.specs.declared.slot.ItemText.TheVariants.{Slot, Locals}
use Rattle.note_texts.specs.declared.slot.ParamText.{ParamText}
use Rattle.note_texts.specs.declared.slot.RegisterText.{RegisterText}

-- the letter of a slot's kind
abbrev pub kind_text : SlotKind → List ℕ
kind_text kinds.N = codes "n"
kind_text kinds.Q = codes "q"
kind_text kinds.D = codes "d"

-- `n TYPE` or `q TYPE`
abbrev pub IsParamText : List ℕ → ParamText → Type 0
IsParamText text p = (ty : List ℕ) × (text ≡ kind_text p.kind ++ (codes " " ++ ty)) × IsParameterKind p.kind × IsTypeText ty p.ty

-- `R1 TYPE` to `R7 TYPE`
abbrev pub IsRegisterText : List ℕ → RegisterText → Type 0
IsRegisterText text r =
    (ty : List ℕ) × (text ≡ codes "R" ++ (decimal r.register ++ (codes " " ++ ty)))
    × (1 ≤ r.register) × (r.register ≤ 7) × IsTypeText ty r.ty

-- `n TYPE`, `q TYPE` or `d TYPE`; or `locals`
abbrev pub IsItemText : List ℕ → ItemText → Type 0
IsItemText text (Slot kind ty) = (rest : List ℕ) × (text ≡ kind_text kind ++ (codes " " ++ rest)) × IsTypeText rest ty
IsItemText text Locals = text ≡ codes "locals"
