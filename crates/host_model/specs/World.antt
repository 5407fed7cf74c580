-- Meaning: what a run is about, the same at both widths: the notes, the script, and how many bytes the image takes in
-- memory. docs/HOST.md, "What a run is made of".
use Rattle.std.specs.Prelude.{ℕ, Option, slice_get}
use Rattle.std.specs.Option.{option_and_then}
use Rattle.note_types.specs.Known.{locals_of}
use Rattle.note_types.specs.declared.notes.Notes.{Notes}
use Rattle.note_types.specs.declared.script.Script.{Script}
use Rattle.note_types.specs.declared.shape.Shape.{Shape}

pub record World : Type 0 where
  pub notes : Notes
  pub script : Script
  pub image_size : ℕ

-- the shape of the locals of the function of that number, where it has any
abbrev pub frame_locals : Notes → ℕ → Option Shape
frame_locals notes func = option_and_then (locals_of notes) (slice_get notes.function func)
