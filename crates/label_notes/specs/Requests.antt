-- For proofs: what the words of `ebc_notes` ask for, read file by file. docs/LABELS.md, "Notes with labels".
use Rattle.std.specs.Prelude.{ℕ, List, [], ◌∷◌, Option, Some, None, Err, codes}
use Rattle.ebc_link.specs.declared.plan.LinkPlan.{LinkPlan}
use Rattle.ebc_object.specs.declared.object.Object.{Object}
use Rattle.ebc_outside.specs.Files.{Files}
use Rattle.pe_image.specs.declared.image.Image.{Image}
use Rattle.cli_base.specs.declared.outcome.Outcome.TheVariants.{BadWords}
use Rattle.cli_base.specs.declared.reply.Reply.{Reply}
use Rattle.cli_base.specs.Outputs.{prints}
use Rattle.cli_base.specs.Readings.{FileReading, ◌>>=◌, done, file, told}
use Rattle.file_inputs.specs.Inputs.{input, link_meaning, notes_limit, plan_limit, plan_meaning}
use Rattle.file_inputs.specs.Linkings.{each_object}
use Rattle.label_notes.specs.declared.request.Request.{Request}
use Rattle.label_notes.specs.declared.request.Request.TheVariants as requests

-- the files of the words: a plan, and a text or none
abbrev pub files_named : List (List ℕ) → Option (List ℕ × Option (List ℕ))
files_named ((b ∷ plan) ∷ []) = Some (b ∷ plan, None)
files_named ((b ∷ plan) ∷ (c ∷ text) ∷ []) = Some (b ∷ plan, Some (c ∷ text))
files_named words = None

-- the answer to other words
abbrev pub usage_reply : Reply
usage_reply = prints BadWords (codes "usage: PLAN | PLAN NOTES\n")

-- a plan and the objects that it names
unfoldable pub plan_files : List ℕ → Files → FileReading (LinkPlan × List Object)
plan_files name files = do
  plan ← input plan_limit plan_meaning 0 name files
  objects ← each_object 0 plan.objects files
  done (plan, objects)

-- `PLAN`: the labels
unfoldable pub map_request : List ℕ → Files → FileReading Request
map_request name files = do
  read ← plan_files name files
  done (requests.Map read.0 read.1)

-- a text, and what the objects of a plan are linked to, of which a fault is told of the plan
unfoldable pub text_with_image : List ℕ → LinkPlan → List Object → List ℕ → Files → FileReading (List ℕ × Image)
text_with_image plan_name plan objects name files = do
  text ← file 1 name notes_limit files
  image ← told (link_meaning 0 plan_name objects plan)
  done (text, image)

-- `PLAN NOTES`: complete notes
unfoldable pub notes_request : List ℕ → List ℕ → Files → FileReading Request
notes_request plan_name name files = do
  read ← plan_files plan_name files
  more ← text_with_image plan_name read.0 read.1 name files
  done (requests.Notes read.0 read.1 more.1 name more.0)

abbrev pub request_for : Option (List ℕ × Option (List ℕ)) → Files → FileReading Request
request_for None files = told (Err usage_reply)
request_for (Some (plan, None)) files = map_request plan files
request_for (Some (plan, Some text)) files = notes_request plan text files

-- the files that the words ask for, and what is asked of them, or the reply at which the reading stops
unfoldable pub request_of : List (List ℕ) → Files → FileReading Request
request_of words files = request_for (files_named words) files
