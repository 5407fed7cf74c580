-- For proofs: the answer to the words of the program: docs/COMMANDS.md, "The places of an image".
use Rattle.std.specs.Prelude.{◌≡◌, ℕ, ◌≤◌, List, [], ◌∷◌, ◌++◌, length, Result, Ok, Err, Option, Some, None, codes}
use Rattle.std.specs.FinMap.{get}
use Rattle.ebc_outside.specs.Files.{Files}
use Rattle.pe_image.specs.declared.image.Image.{Image}
use Rattle.pe_image.specs.Images.{image_of}
use Rattle.cli_base.specs.declared.outcome.Outcome.{Outcome}
use Rattle.cli_base.specs.declared.outcome.Outcome.TheVariants.{BadWords, Done}
use Rattle.cli_base.specs.declared.reply.Reply.{Reply}
use Rattle.cli_base.specs.Inputs.{image_limit, image_meaning}
use Rattle.cli_base.specs.Outcomes.{IsCommandAnswer}
use Rattle.cli_base.specs.Outputs.{printed, prints, text_of, written_name}
use Rattle.cli_base.specs.Readings.{FileReading, AsksPart, ◌>>=◌, done, file, told}
use Rattle.code_places.specs.Places.{places_text}

-- the answer to words that aren't the name of a file
abbrev pub usage_reply : Reply
usage_reply = prints BadWords (codes "usage: IMAGE\n")

-- the answer to an image
abbrev pub places_reply : Image → Reply
places_reply image = prints Done (places_text image)

-- the answer to the name of a file: it is missing, too large or no image, or these are its places
unfoldable pub answer_of : List ℕ → Files → FileReading Reply
answer_of name files = do
  bytes ← file 0 name image_limit files
  image ← told (image_meaning 0 name bytes)
  done (places_reply image)

-- the one word, where it isn't empty, names the file
abbrev pub file_named : List (List ℕ) → Option (List ℕ)
file_named ((b ∷ name) ∷ []) = Some (b ∷ name)
file_named words = None

abbrev pub answer_to : Option (List ℕ) → Files → FileReading Reply
answer_to (Some name) files = answer_of name files
answer_to None files = told (Err usage_reply)

-- what the words ask for
unfoldable pub answer_to_words : List (List ℕ) → Files → FileReading Reply
answer_to_words words files = answer_to (file_named words) files

-- the reply of a reading, whether it went on or stopped
abbrev pub reply_of_reading : Result Reply Reply → Reply
reply_of_reading (Ok reply) = reply
reply_of_reading (Err reply) = reply

-- the text of the answer to the words, over these files
abbrev pub answer_text : List (List ℕ) → Files → List ℕ
answer_text words files = text_of (reply_of_reading (answer_to_words words files).value).output

-- a reply that was decided is that of the run, and all its names were asked for; where a read failed or memory ran out, a first part
-- of them
abbrev pub Decides : List (List ℕ) → List (List ℕ) → Result Reply Outcome → FileReading Reply → Type 0
Decides before now (Ok reply) run = (reply ≡ reply_of_reading run.value) × (now ≡ before ++ run.asked)
Decides before now (Err outcome) run = AsksPart before run.asked now

-- the outcome is that of the run, and its text was printed
pub record Answers (run : FileReading Reply) (outcome : Outcome) (before now : Option (List ℕ)) : Type 0 where
  pub same : outcome ≡ (reply_of_reading run.value).outcome
  pub text : now ≡ printed (text_of (reply_of_reading run.value).output) before

-- an outcome of words that name a file, or don't
abbrev pub IsOutcomeOf : Option (List ℕ) → Outcome → Type 0
IsOutcomeOf (Some name) outcome = IsCommandAnswer outcome
IsOutcomeOf None outcome = outcome ≡ BadWords

-- a reply prints, and has an outcome of the words
pub record IsPrinted (words : List (List ℕ)) (reply : Reply) : Type 0 where
  pub outcome : IsOutcomeOf (file_named words) reply.outcome
  pub output : written_name reply.output ≡ None

-- the one word names a file of the folder, within the limit, that stands for this image
pub record ShowsImage (words : List (List ℕ)) (files : Files) (image : Image) : Type 0 where
  pub name : List ℕ
  pub bytes : List ℕ
  pub named : file_named words ≡ Some name
  pub there : get files name ≡ Some bytes
  pub fits : length bytes ≤ image_limit
  pub image_is : image_of bytes ≡ Ok image
