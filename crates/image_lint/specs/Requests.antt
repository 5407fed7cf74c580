-- For proofs: what the words of `ebc_lint` ask for, read file by file. docs/FIRMWARE.md, "Warnings".
use Rattle.std.specs.Prelude.{ℕ, List, [], ◌∷◌, Option, Some, None, Err, codes}
use Rattle.ebc_outside.specs.Files.{Files}
use Rattle.note_types.specs.declared.notes.Notes.{Notes}
use Rattle.pe_image.specs.declared.image.Image.{Image}
use Rattle.cli_base.specs.declared.outcome.Outcome.TheVariants.{BadWords}
use Rattle.cli_base.specs.declared.reply.Reply.{Reply}
use Rattle.cli_base.specs.Outputs.{prints}
use Rattle.cli_base.specs.Readings.{FileReading, told}
use Rattle.file_inputs.specs.Inputs.{image_with_notes}

-- the files of the words: an image and its notes
abbrev pub files_named : List (List ℕ) → Option (List ℕ × List ℕ)
files_named ((b ∷ image) ∷ (c ∷ notes) ∷ []) = Some (b ∷ image, c ∷ notes)
files_named words = None

-- the answer to other words
abbrev pub usage_reply : Reply
usage_reply = prints BadWords (codes "usage: IMAGE NOTES\n")

abbrev pub request_for : Option (List ℕ × List ℕ) → Files → FileReading (Image × Notes)
request_for None files = told (Err usage_reply)
request_for (Some (image, notes)) files = image_with_notes 0 image notes files

-- the image and the notes that the words ask for, or the reply at which the reading stops
unfoldable pub request_of : List (List ℕ) → Files → FileReading (Image × Notes)
request_of words files = request_for (files_named words) files
