-- For proofs: complete notes, which say all that a text of notes with labels says, and the first fault of a label. docs/LABELS.md.
use Rattle.std.specs.Prelude.{◌≡◌, ◌⊎◌, ℕ, ◌≤◌, List, length, Option, None, Result, Ok, Err, string_bytes, ⊤}
use Rattle.ebc_base.specs.Steps.{◌>>=◌}
use Rattle.label_places.specs.declared.label.Label.{Label}
use Rattle.note_filling.specs.Kept.{IsTextKept}
use Rattle.note_filling.specs.Rows.{text_labels}
use Rattle.note_filling.specs.declared.end.Flaw.{Flaw}
use Rattle.note_texts.specs.Keys.{document}
use Rattle.note_types.specs.declared.fault.TomlFault.{TomlFault}
use Rattle.note_types.specs.declared.notes.Notes.{Notes}
use Rattle.pe_image.specs.declared.image.Image.{Image}
use Rattle.toml.specs.Data.{Data, Members}
use Rattle.type_notes.specs.Notes.{notes_of}
use Rattle.width_checker.specs.Typed.{Typed}
use Rattle.note_completion.specs.declared.completion.Completion.{Completion}
use Rattle.note_completion.specs.declared.completion.Completion.TheVariants as completions

-- What is printed stands for notes under which the image is typed, and says all that the text says, a label by its place, with some
-- points and sites that the text doesn't have. It has at most 1 MiB.
pub record IsComplete (image : Image) (place : List ℕ → Option ℕ) (text printed : List ℕ) : Type 0 where
  pub notes : Notes
  pub stands : notes_of printed ≡ Ok notes
  pub typed : Typed image notes
  pub fits : length printed ≤ 1048576
  pub old : Members
  pub new : Members
  pub read : document text ≡ Ok old
  pub shown : document printed ≡ Ok new
  pub points : List Data
  pub sites : List Data
  pub kept : IsTextKept place points sites old new

-- what comes of a text is complete notes, where it is notes
abbrev pub Completes : Image → (List ℕ → Option ℕ) → List ℕ → Completion → Type 0
Completes image place text (completions.Whole printed) = IsComplete image place text (string_bytes printed)
Completes image place text completion = ⊤

-- a fault that is no label's, told without a label
abbrev pub flaw_without_label : {A : Type 0} → Result A TomlFault → Result A Flaw
flaw_without_label (Ok x) = Ok x
flaw_without_label (Err fault) = Err (record { fault = fault; label = None })

-- the first fault of a label in a text, over the labels of objects whose files have these names; or that the text isn't TOML
unfoldable pub label_faults : List (List ℕ) → List Label → List ℕ → Result (Unit {0}) Flaw
label_faults names labels text = flaw_without_label (document text) >>= text_labels names labels

-- what comes of a text is the first fault of a label, where it has one
abbrev pub TellsFirstFlaw : Result (Unit {0}) Flaw → Completion → Type 0
TellsFirstFlaw read (completions.Fault flaw) = (read ≡ Err flaw) ⊎ (read ≡ Ok tt)
TellsFirstFlaw read completion = read ≡ Ok tt
