-- For proofs: the ways through a function's code, and how much lies on the stack where they come. docs/LABELS.md, "A refusal".
use Rattle.std.specs.Prelude.{◌≡◌, ◌⊎◌, ℕ, zero, suc, Some, pos, true, slice_get}
use Rattle.ebc_insn.specs.declared.Insn.{Insn}
use Rattle.note_infer.specs.Leaders.{names_place}
use Rattle.note_types.specs.declared.notes.FnNote.{FnNote}
use Rattle.note_types.specs.declared.notes.Notes.{Notes}
use Rattle.pe_image.specs.declared.image.Image.{Image}
use Rattle.rules_image.specs.Images.{IsDecoded, falls, reloc_at}
use Rattle.stack_needs.specs.Depths.{after, no_depth}
use Rattle.stack_needs.specs.declared.depth.Depth.{Depth}

-- an instruction before `next` leads to a place: it falls to the next one, or its jump names it
abbrev pub LeadsToPlace : Image → ℕ → Insn → ℕ → Type 0
LeadsToPlace image next i place = ((falls i ≡ true) × (place ≡ next)) ⊎ (names_place next (reloc_at image next) i ≡ Some (pos place))

-- an instruction at one of these places, with so much on the stack, leads to a place
pub record ComesFrom (image : Image) (f : FnNote) (before : ℕ → Depth → Type 0) (place : ℕ) (depth : Depth) : Type 0 where
  pub from : ℕ
  pub lies : Depth
  pub comes : before from lies
  pub insn : Insn
  pub next : ℕ
  pub decode : IsDecoded image f from insn next
  pub leads : LeadsToPlace image next insn place
  pub is : depth ≡ after lies insn

-- a way of so many instructions from the function's start comes to a place, and so much lies on the stack then
unfoldable pub ComesBy : Image → FnNote → ℕ → ℕ → Depth → Type 0
ComesBy image f zero place depth = (place ≡ f.place) × (depth ≡ no_depth)
ComesBy image f (suc n) place depth = ComesFrom image f (ComesBy image f n) place depth

-- some way comes there so
abbrev pub HasWay : Image → FnNote → ℕ → Depth → Type 0
HasWay image f place depth = (n : ℕ) × ComesBy image f n place depth

-- two ways come to a place of a function with different amounts on the stack
pub record IsUneven (image : Image) (f : FnNote) (place : ℕ) : Type 0 where
  pub one : Depth
  pub other : Depth
  pub comes_one : HasWay image f place one
  pub comes_other : HasWay image f place other
  pub apart : one ≡ other → ⊥

pub record IsUnevenIn (image : Image) (notes : Notes) (place : ℕ) : Type 0 where
  pub number : ℕ
  pub f : FnNote
  pub there : slice_get notes.function number ≡ Some f
  pub uneven : IsUneven image f place
