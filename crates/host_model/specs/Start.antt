-- Meaning: where a run starts at a width of w bytes: inside the entry function, with the script's arguments, in the host's
-- first frame. docs/HOST.md, "The start".
use Rattle.std.specs.Prelude.{ℕ, ◌-◌, false, [], ◌∷◌, map, length, if◌then◌else◌}
use Rattle.ebc_width.specs.Ranges.{covers}
use Rattle.note_types.specs.Concrete.{Concrete}
use Rattle.host_model.specs.HostPlans.{filling}
use Rattle.host_model.specs.HostSteps.{written_number, after_stores, with_objects, entered}
use Rattle.host_model.specs.World.{World}
use Rattle.host_model.specs.Objects.{script_object, made_objects}
use Rattle.host_model.specs.Placements.{Placement, stack_end, native_range, stack_range, image_range}
use Rattle.host_model.specs.Progress.{script_start}
use Rattle.host_model.specs.RunState.{RunState}
use Rattle.host_model.specs.Values.{word}
use Rattle.note_types.specs.declared.ending.Ending.TheVariants.{Running}

-- the byte at an address where only the image is mapped, which has these bytes at its places
abbrev pub image_byte : World → Placement → (ℕ → ℕ) → ℕ → ℕ
image_byte world P mapped x =
    if covers x 1 (image_range world P) then mapped (x - P.image) else 0

-- the machine with the native area, the stack and the image: R0 past the stack, all else 0, and control at the gate
unfoldable pub bare_machine : ℕ → World → Placement → (ℕ → ℕ) → Concrete
bare_machine w world P mapped =
    record {
      registers = word (stack_end w world.notes P) ∷ 0 ∷ 0 ∷ 0 ∷ 0 ∷ 0 ∷ 0 ∷ 0 ∷ [];
      ip = P.native;
      flags = 0;
      gate = P.native;
      objects = native_range world.notes P ∷ stack_range w world.notes P ∷ image_range world P ∷ [];
      byte = image_byte world P mapped;
    }

-- the machine before the entry function is entered: with the script's objects, and what their cells hold
unfoldable pub start_machine : ℕ → World → Placement → (ℕ → ℕ) → Concrete
start_machine w world P mapped =
    let first = length world.notes.statics in
    after_stores w world.notes P (made_objects world.notes world.script 0) [] (filling world.notes first world.script.object)
    (with_objects w world.notes P first (map script_object world.script.object) (bare_machine w world P mapped))

-- the run before its first step; `mapped` has the bytes of the image at its base
unfoldable pub run_start : ℕ → World → Placement → (ℕ → ℕ) → RunState
run_start w world P mapped =
    entered false w world P
    (record { machine = start_machine w world P mapped; hosts = []; script = script_start; trace = []; ending = Running })
    world.notes.entry (map (written_number w world.notes P (made_objects world.notes world.script 0)) world.script.args)
