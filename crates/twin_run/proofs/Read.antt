-- The placement that this project takes is valid for what was read.
use Rattle.twin_run.proofs.Common.{IsWidth, Image, IsPlacement, own_placement, World, ℕ, IsTypedWorld}
use Rattle.step_sound.specs.ReadWorld.{IsReadWorld}
use Rattle.step_sound.proofs.Read.{objects_have_room}
use Rattle.twin_run.proofs.OwnPlacement.{own_placement_is_valid}

pub read_is_placed : (w : ℕ) (image : Image) (world : World) → IsWidth w → IsReadWorld image world
    → IsPlacement w world (own_placement w world)
read_is_placed w image world h r = own_placement_is_valid w image world h r.well_formed r.size r.notes
    (objects_have_room world.notes world.script r.script)

-- what was read and is typed keeps the rules on shapes, functions, static objects and thunk cells
pub typed_is_read : (image : Image) (world : World) → IsTypedWorld image world → IsReadWorld image world
typed_is_read image world t = record {
  well_formed = t.well_formed;
  bytes = t.bytes;
  size = t.size;
  notes = t.notes;
  script = t.script;
  shapes = t.typed.tables.shapes;
  functions = t.typed.tables.functions;
  statics = t.typed.tables.statics;
  thunks = t.typed.tables.thunks;
}
