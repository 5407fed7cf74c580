-- For proofs: which bits of R7 may be as a native call left them, at a place: docs/FIRMWARE.md, "Warnings", `status` and `narrow`.
use Rattle.std.specs.Prelude.{◌↔◌, ℕ, IsTrue}
use Rattle.note_types.specs.declared.notes.FnNote.{FnNote}
use Rattle.note_types.specs.declared.notes.Notes.{Notes}
use Rattle.pe_image.specs.declared.image.Image.{Image}
use Rattle.image_warnings.specs.Spreading.{AreUncut}
use Rattle.image_warnings.specs.Uncut.{UncutAt, way_of}
use Rattle.image_warnings.specs.declared.spread.Marks.{Marks}
use Rattle.departures.specs.declared.above.Uncut.{Uncut}
use Rattle.departures.specs.declared.above.Above.TheVariants as above

-- it says so of a place
pub record IsUncut (image : Image) (notes : Notes) (f : FnNote) (place : ℕ) (u : Uncut) : Type 0 where
  pub natural : IsTrue u.natural ↔ UncutAt image f (way_of notes above.Natural) place
  pub byte : IsTrue u.byte ↔ UncutAt image f (way_of notes above.Byte) place
  pub word : IsTrue u.word ↔ UncutAt image f (way_of notes above.Word) place
  pub dword : IsTrue u.dword ↔ UncutAt image f (way_of notes above.Dword) place

-- these say so of each byte of a function's code
pub record AreMarks (image : Image) (notes : Notes) (f : FnNote) (m : Marks) : Type 0 where
  pub natural : AreUncut image f (way_of notes above.Natural) m.natural.items
  pub byte : AreUncut image f (way_of notes above.Byte) m.byte.items
  pub word : AreUncut image f (way_of notes above.Word) m.word.items
  pub dword : AreUncut image f (way_of notes above.Dword) m.dword.items
