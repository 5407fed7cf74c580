-- For proofs: the world of a run of what was read: an image, notes and a script such as their readers give, where the image
-- keeps the rules on shapes, functions, static objects and thunk cells. docs/SIMULATION.md, "What the laws ask".
use Rattle.std.specs.Prelude.{◌≡◌, ℕ}
use Rattle.note_types.specs.Records.{IsNotes}
use Rattle.pe_image.specs.Images.{IsImage}
use Rattle.pe_image.specs.Mapped.{AreBytes}
use Rattle.pe_image.specs.declared.image.Image.{Image}
use Rattle.rules_image.specs.Images.{ShapeHolds, FunctionHolds, StaticHolds, ThunkHolds}
use Rattle.host_model.specs.Scripts.{IsScript}
use Rattle.host_model.specs.World.{World}

-- The world of a run of what was read. The first five fields are what the readers promise and how a world is made of that; the
-- others are rules that the image has to keep with its notes.
pub record IsReadWorld (image : Image) (world : World) : Type 0 where
  -- the image is well formed, as `read_image` gives one
  pub well_formed : IsImage image
  -- each of its places has a byte
  pub bytes : AreBytes image
  -- the world has the image's size
  pub size : world.image_size ≡ image.size
  -- the notes are as `read_notes` gives them
  pub notes : IsNotes world.notes
  -- the script is as `read_script` gives one under these notes
  pub script : IsScript world.notes world.script
  -- the fields of each shape fit it (docs/RULES.md, the rule `shape`)
  pub shapes : (k : ℕ) → ShapeHolds world.notes k
  -- each function lies in code, apart from the others, and the entry function where the image is entered (the rule `function`)
  pub functions : (k : ℕ) → FunctionHolds image world.notes k
  -- each static object lies in the image apart from the others, and its bytes are of its type (the rule `static`)
  pub statics : (k : ℕ) → StaticHolds image world.notes k
  -- so does each thunk cell, and it names its function (the rule `static`)
  pub thunks : (k : ℕ) → ThunkHolds image world.notes k
