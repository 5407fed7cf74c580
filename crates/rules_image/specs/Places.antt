-- Meaning: the places of a function: those to which the lengths of instructions lead from its start. docs/RULES.md, "Places
-- and states".
use Rattle.std.specs.Prelude.{ℕ, ◌<◌, ◌≡◌, zero, suc}
use Rattle.ebc_insn.specs.declared.Insn.{Insn}
use Rattle.note_types.specs.declared.notes.FnNote.{FnNote}
use Rattle.pe_image.specs.declared.image.Image.{Image}
use Rattle.rules_image.specs.Images.{IsDecoded}

-- a place that is the next one after an instruction at one of these places, before the function's end
pub record IsNext (image : Image) (f : FnNote) (before : ℕ → Type 0) (place : ℕ) : Type 0 where
  pub last : ℕ
  pub reached : before last
  pub insn : Insn
  pub decode : IsDecoded image f last insn place
  pub within : place < f.end

-- the lengths of so many instructions lead from the function's start to a place
unfoldable pub Leads : Image → FnNote → ℕ → ℕ → Type 0
Leads image f zero place = place ≡ f.place
Leads image f (suc n) place = IsNext image f (Leads image f n) place

-- the place is one of the function's: lengths lead to it
abbrev pub IsPlaceOf : Image → FnNote → ℕ → Type 0
IsPlaceOf image f place = (n : ℕ) × Leads image f n place
