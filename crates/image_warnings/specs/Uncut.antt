-- For proofs: where bits of R7 may be as a native call left them: docs/FIRMWARE.md, "Warnings", `status` and `narrow`.
use Rattle.std.specs.Prelude.{◌≡◌, ◌⊎◌, ℕ, zero, suc, ◌<◌, ◌≤◌, Bool, true, ◌&&◌, Some, pos}
use Rattle.departures.specs.Above.{keeps, leaves}
use Rattle.departures.specs.Calls.{calls_native, signature_at}
use Rattle.departures.specs.declared.above.Above.{Above}
use Rattle.ebc_insn.specs.declared.Insn.{Insn}
use Rattle.note_infer.specs.Leaders.{names_place}
use Rattle.note_types.specs.declared.notes.FnNote.{FnNote}
use Rattle.note_types.specs.declared.notes.Notes.{Notes}
use Rattle.pe_image.specs.declared.image.Image.{Image}
use Rattle.rules_image.specs.Images.{IsDecoded, falls, reloc_at}
use Rattle.rules_image.specs.Places.{IsPlaceOf}

-- a path begins behind some instructions, by their places, and goes on over some
pub record Way : Type 0 where
  pub begins : ℕ → Insn → Bool
  pub goes_on : Insn → Bool

-- from a native call over what leaves such bits of R7 as they are
abbrev pub way_of : Notes → Above → Way
way_of notes a = record { begins = λ place i. calls_native i && leaves a (signature_at notes place); goes_on = keeps a }

-- an instruction before `next` leads to a place of the function: control falls through to it, or a jump names it
pub record LeadsWithin (image : Image) (f : FnNote) (next : ℕ) (i : Insn) (place : ℕ) : Type 0 where
  pub goes : ((falls i ≡ true) × (place ≡ next)) ⊎ (names_place next (reloc_at image next) i ≡ Some (pos place))
  pub first : f.place ≤ place
  pub within : place < f.end

-- such an instruction at such a place leads to a place
pub record ComesFromSuch (image : Image) (f : FnNote) (IsSuch : ℕ → Insn → Type 0) (place : ℕ) : Type 0 where
  pub last : ℕ
  pub insn : Insn
  pub next : ℕ
  pub decode : IsDecoded image f last insn next
  pub is_such : IsSuch last insn
  pub leads : LeadsWithin image f next insn place

-- an instruction at a place of the function behind which a path begins
abbrev pub BeginsAt : Image → FnNote → Way → ℕ → Insn → Type 0
BeginsAt image f way place i = IsPlaceOf image f place × (way.begins place i ≡ true)

-- an instruction at one of these places over which it goes on
abbrev pub GoesOn : Way → (ℕ → Type 0) → ℕ → Insn → Type 0
GoesOn way before place i = before place × (way.goes_on i ≡ true)

-- a path leads to a place over so many instructions
unfoldable pub ComesUncut : Image → FnNote → Way → ℕ → ℕ → Type 0
ComesUncut image f way zero place = ComesFromSuch image f (BeginsAt image f way) place
ComesUncut image f way (suc n) place = ComesFromSuch image f (GoesOn way (ComesUncut image f way n)) place

-- some path does: such bits of R7 may be there as a native call left them
abbrev pub UncutAt : Image → FnNote → Way → ℕ → Type 0
UncutAt image f way place = (n : ℕ) × ComesUncut image f way n place
