-- Meaning: what the bytes of two files are, as an image and the notes of its check: docs/COMMANDS.md, "The answer".
use Rattle.std.specs.Prelude.{◌≡◌, ℕ, List, Ok, Err}
use Rattle.note_types.specs.declared.fault.TomlFault.{TomlFault}
use Rattle.note_types.specs.declared.notes.Notes.{Notes}
use Rattle.note_types.specs.declared.rule.RuleName.{RuleName}
use Rattle.pe_image.specs.declared.image.Image.{Image}
use Rattle.pe_image.specs.Images.{image_of}
use Rattle.type_notes.specs.Notes.{notes_of}
use Rattle.width_checker.specs.Typed.{Typed}
use Rattle.width_checker.specs.Verdicts.{IsRefused}
use Rattle.ebc_cli.specs.declared.checking.Checked.{Checked}
use Rattle.ebc_cli.specs.declared.checking.Checked.TheVariants as checked

-- the bytes stand for this image, and the text for these notes
pub record StandFor (bytes text : List ℕ) (image : Image) (notes : Notes) : Type 0 where
  pub image_is : image_of bytes ≡ Ok image
  pub notes_are : notes_of text ≡ Ok notes

-- they stand for an image that is typed under the notes
pub record AreTyped (bytes text : List ℕ) : Type 0 where
  pub image : Image
  pub notes : Notes
  pub stand : StandFor bytes text image notes
  pub typed : Typed image notes

-- they stand for an image of which this is the first place at which a rule fails, and the first rule that fails there
pub record AreRefused (bytes text : List ℕ) (place : ℕ) (rule : RuleName) : Type 0 where
  pub image : Image
  pub notes : Notes
  pub stand : StandFor bytes text image notes
  pub refused : IsRefused image notes place rule

-- the bytes stand for an image, and the text for no notes, by this first fault
pub record HasNoNotes (bytes text : List ℕ) (fault : TomlFault) : Type 0 where
  pub image : Image
  pub image_is : image_of bytes ≡ Ok image
  pub none : notes_of text ≡ Err fault

-- what a check of them tells
abbrev pub IsToldAs : List ℕ → List ℕ → Checked → Type 0
IsToldAs bytes text checked.Neutral = AreTyped bytes text
IsToldAs bytes text (checked.Refused place rule) = AreRefused bytes text place rule
IsToldAs bytes text (checked.NoImage kind offset) = image_of bytes ≡ Err (kind, offset)
IsToldAs bytes text (checked.NoNotes fault) = HasNoNotes bytes text fault
