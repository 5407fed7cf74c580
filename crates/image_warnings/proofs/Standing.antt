-- What stands at a place of a typed image is one.
use Rattle.std.proofs.Common.{◌≡◌, ℕ}
use Rattle.note_types.specs.declared.notes.FnNote.{FnNote}
use Rattle.note_types.specs.declared.notes.Notes.{Notes}
use Rattle.pe_image.specs.declared.image.Image.{Image}
use Rattle.rules_image.specs.Places.{IsPlaceOf}
use Rattle.rules_image.proofs.Decoding.{decoded_once}
use Rattle.width_checker.proofs.Leading.{OnePoint, leads_of, state_one}
use Rattle.image_warnings.specs.ImageEffects.{InsnAt}

module _ (image : Image) (notes : Notes) (func : ℕ) (f : FnNote) (place : ℕ) where
  -- it is a place of the function
  pub place_of : InsnAt image notes func f place → IsPlaceOf image f place
  place_of a = let s = a.has_state in (s.count, leads_of image notes func f s.count place s.come s.comes)

  pub one_insn : (a b : InsnAt image notes func f place) → a.insn ≡ b.insn
  one_insn a b = (decoded_once image f place a.insn b.insn a.next b.next a.decode b.decode).0

  pub one_next : (a b : InsnAt image notes func f place) → a.next ≡ b.next
  one_next a b = (decoded_once image f place a.insn b.insn a.next b.next a.decode b.decode).1

  pub one_state : OnePoint notes → (a b : InsnAt image notes func f place) → a.state ≡ b.state
  one_state one a b = state_one image notes func f one place a.state b.state a.has_state b.has_state
