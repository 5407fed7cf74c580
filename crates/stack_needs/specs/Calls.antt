-- For proofs: which functions call which, and that calls lead back. docs/LABELS.md, "What may be left out".
use Rattle.std.specs.Prelude.{◌≡◌, ℕ, zero, suc, Option, Some, None, ℤ, pos, false, slice_get}
use Rattle.ebc_insn.specs.declared.Insn.{Insn}
use Rattle.ebc_insn.specs.declared.Insn.TheVariants as insn
use Rattle.note_infer.specs.Leaders.{jump_names}
use Rattle.note_types.specs.declared.notes.FnNote.{FnNote}
use Rattle.note_types.specs.declared.notes.Notes.{Notes}
use Rattle.pe_image.specs.declared.image.Image.{Image}
use Rattle.rules_image.specs.Images.{IsDecoded, reloc_at}
use Rattle.stack_needs.specs.Ways.{HasWay, IsUnevenIn}
use Rattle.stack_needs.specs.declared.depth.Depth.{Depth}
use Rattle.stack_needs.specs.declared.outcome.NotFound.{NotFound}
use Rattle.stack_needs.specs.declared.outcome.NotFound.TheVariants as ends

-- the place that an instruction before `next` calls, where it calls byte code
abbrev pub called_place : ℕ → Option ℕ → Insn → Option ℤ
called_place next reloc (insn.Call far false relative op extra) = jump_names next reloc far relative op extra
called_place next reloc i = None

-- a function calls the function of this number, at a place to which some way comes
pub record CallsFrom (image : Image) (notes : Notes) (f : FnNote) (callee : ℕ) : Type 0 where
  pub from : ℕ
  pub lies : Depth
  pub comes : HasWay image f from lies
  pub insn : Insn
  pub next : ℕ
  pub decode : IsDecoded image f from insn next
  pub g : FnNote
  pub there : slice_get notes.function callee ≡ Some g
  pub calls : called_place next (reloc_at image next) insn ≡ Some (pos g.place)

-- a function calls another, by their numbers
pub record CallsFunction (image : Image) (notes : Notes) (caller callee : ℕ) : Type 0 where
  pub f : FnNote
  pub there : slice_get notes.function caller ≡ Some f
  pub calls : CallsFrom image notes f callee

-- so many steps more than one lead from one number to another
unfoldable pub LeadsIn : (ℕ → ℕ → Type 0) → ℕ → ℕ → ℕ → Type 0
LeadsIn R zero k j = R k j
LeadsIn R (suc n) k j = (m : ℕ) × (LeadsIn R n k m × R m j)

abbrev pub HasChain : (ℕ → ℕ → Type 0) → ℕ → ℕ → Type 0
HasChain R k j = (n : ℕ) × LeadsIn R n k j

-- the calls of a function lead back to it
abbrev pub IsRecursive : Image → Notes → ℕ → Type 0
IsRecursive image notes k = HasChain (CallsFunction image notes) k k

-- why levels and needs aren't found
abbrev pub HasStackCause : Image → Notes → NotFound → Type 0
HasStackCause image notes (ends.Recursion function) = IsRecursive image notes function
HasStackCause image notes (ends.Uneven place) = IsUnevenIn image notes place
HasStackCause image notes ends.NoMemory = Unit {0}
