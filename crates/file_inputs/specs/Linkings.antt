-- Meaning: the image that objects are linked to by a link plan, read file by file: docs/COMMANDS.md, "The answer".
use Rattle.std.specs.Prelude.{ℕ, List, [], ◌∷◌}
use Rattle.ebc_link.specs.declared.plan.LinkPlan.{LinkPlan}
use Rattle.ebc_object.specs.declared.object.Object.{Object}
use Rattle.ebc_outside.specs.Files.{Files}
use Rattle.pe_image.specs.declared.image.Image.{Image}
use Rattle.file_inputs.specs.Inputs.{input, link_meaning, object_limit, object_meaning, plan_limit, plan_meaning}
use Rattle.cli_base.specs.Readings.{FileReading, done, ◌>>=◌, told}

-- the objects of these names, each read whole before the next; a fault of one is told by its own name
unfoldable pub each_object : ℕ → List (List ℕ) → Files → FileReading (List Object)
each_object word [] files = done []
each_object word (name ∷ names) files = do
  object ← input object_limit object_meaning word name files
  objects ← each_object word names files
  done (object ∷ objects)

-- what the objects of a plan are linked to; a fault is told of the plan, by its name
unfoldable pub linked_by : ℕ → List ℕ → LinkPlan → Files → FileReading Image
linked_by word plan_name plan files = do
  objects ← each_object word plan.objects files
  told (link_meaning word plan_name objects plan)

-- what the plan of this name says
unfoldable pub linked_image : ℕ → List ℕ → Files → FileReading Image
linked_image word plan_name files = do
  plan ← input plan_limit plan_meaning word plan_name files
  linked_by word plan_name plan files
