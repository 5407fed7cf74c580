-- For proofs: the rule `decode` by the bytes that spell an instruction. docs/RULES.md, "The image".
use Rattle.std.specs.Prelude.{◌≡◌, ℕ, ◌+◌, ◌≤◌, length}
use Rattle.ebc_insn.specs.Spelling.{WellFormed, spelling}
use Rattle.ebc_insn.specs.declared.Insn.{Insn}
use Rattle.ebc_width.specs.Bytes.{window}
use Rattle.note_types.specs.declared.notes.FnNote.{FnNote}
use Rattle.pe_image.specs.Mapped.{image_byte}
use Rattle.pe_image.specs.declared.image.Image.{Image}

-- an instruction is spelled at a place of a function, up to `next`, within the function
pub record IsSpelledAt (image : Image) (f : FnNote) (place : ℕ) (i : Insn) (next : ℕ) : Type 0 where
  pub well_formed : WellFormed i
  pub spelled : spelling i ≡ window (image_byte image) place (length (spelling i))
  pub next_is : next ≡ place + length (spelling i)
  pub within : next ≤ f.end
