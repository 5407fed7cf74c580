-- For proofs: how the leaders are found, function by function and instruction by instruction.
use Rattle.std.specs.Prelude.{◌≡◌, ◌⊎◌, ◌↔◌, ℕ, ◌^◌, ◌<◌, ◌≤◌, List, Some, pos, slice_get}
use Rattle.std.specs.List.{Contains}
use Rattle.ebc_insn.specs.declared.Insn.{Insn}
use Rattle.note_types.specs.declared.notes.FnNote.{FnNote}
use Rattle.note_types.specs.declared.notes.Notes.{Notes}
use Rattle.pe_image.specs.declared.image.Image.{Image}
use Rattle.rules_image.specs.Images.{IsDecoded, reloc_at}
use Rattle.rules_image.specs.Places.{IsPlaceOf}
use Rattle.rules_image.specs.Tables.{HasHome}
use Rattle.note_infer.specs.Leaders.{IsLeaderOf, names_place}

-- a function's code lies inside the bytes of a section
pub record HasCode (image : Image) (f : FnNote) : Type 0 where
  pub range : f.place < f.end
  pub home : HasHome image f
  pub small : f.end ≤ 2 ^ 22

-- an instruction before `next` names a place of the function's code
pub record IsNamedIn (image : Image) (f : FnNote) (next : ℕ) (i : Insn) (place : ℕ) : Type 0 where
  pub names : names_place next (reloc_at image next) i ≡ Some (pos place)
  pub first : f.place ≤ place
  pub within : place < f.end

-- an instruction before a place of the function names a place of it
pub record IsNamedBefore (image : Image) (f : FnNote) (at place : ℕ) : Type 0 where
  pub from : ℕ
  pub reached : IsPlaceOf image f from
  pub before : from < at
  pub insn : Insn
  pub next : ℕ
  pub decode : IsDecoded image f from insn next
  pub named : IsNamedIn image f next insn place

-- a list has what another one has, and what a test says
abbrev pub Adds : (ℕ → Type 0) → List ℕ → List ℕ → Type 0
Adds P old new = (p : ℕ) → Contains new p ↔ (Contains old p ⊎ P p)

-- a leader of one of the functions before this one
pub record IsLeaderBelow (image : Image) (notes : Notes) (count leader : ℕ) : Type 0 where
  pub number : ℕ
  pub below : number < count
  pub f : FnNote
  pub there : slice_get notes.function number ≡ Some f
  pub of : IsLeaderOf image f leader
