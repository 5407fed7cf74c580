-- Meaning: the headline's second half: every run of an image, at either width and under every valid placement, shows one behaviour, memory
-- and all. So the 32-bit and the 64-bit run stand at the same instruction, have made the same calls with the same replies, hold the same
-- in memory, and have raised no exception but a division by zero that both raise. docs/SIMULATION.md, "The headline".
use Rattle.std.specs.Prelude.{◌≡◌, ℕ}
use Rattle.ebc_width.specs.Width.{IsWidth}
use Rattle.note_types.specs.declared.ending.Ending.TheVariants.{Running}
use Rattle.note_types.specs.declared.notes.Notes.{Notes}
use Rattle.note_types.specs.declared.script.Script.{Script}
use Rattle.pe_image.specs.declared.image.Image.{Image}
use Rattle.host_model.specs.Placements.{Placement, IsPlacement}
use Rattle.host_model.specs.RunState.{RunState}
use Rattle.host_model.specs.Scripts.{IsScript}
use Rattle.host_model.specs.World.{World}
use Rattle.invariant_laws.specs.Endings.{RaisesOnlyDivideError}
use Rattle.host_model.specs.Runs.{SameRun, run_of, world_of}
use Rattle.twin_run.specs.Behaviour.{Behaviour, IsShown, cell_seen, lent_seen}

-- ---- one behaviour

-- After each number of steps every run shows this, at whatever width and under whatever valid placement, and it raised nothing but a
-- division by zero.
pub record ShowsAlways (image : Image) (world : World) (b : ℕ → Behaviour) : Type 0 where
  pub shown : (w : ℕ) (P : Placement) (k : ℕ) → IsWidth w → IsPlacement w world P
      → IsShown w world P (run_of w world P image k) (b k)
  pub raised : (k : ℕ) → RaisesOnlyDivideError (b k).ending

-- For each script under the notes there is one such behaviour.
abbrev pub RunsAsOne : Image → Notes → Type 0
RunsAsOne image notes =
    (script : Script) → IsScript notes script → (b : ℕ → Behaviour) × ShowsAlways image (world_of image notes script) b

-- ---- two runs

-- Two runs, at 4 bytes an address under a placement and at 8 under another, have the same cells: each field of each instance of each typed
-- object that is made is read alike.
abbrev pub SameCells : (world : World) (P : Placement) (r : RunState) (Q : Placement) (s : RunState) → Type 0
SameCells world P r Q s =
    (object instance field : ℕ) → cell_seen 4 world P r object instance field ≡ cell_seen 8 world Q s object instance field

-- So it is, while they go on, with each cell that the native call under way was lent to be read.
abbrev pub SameLent : (world : World) (P : Placement) (r : RunState) (Q : Placement) (s : RunState) → Type 0
SameLent world P r Q s = r.ending ≡ Running → (argument : ℕ) → lent_seen 4 world P r argument ≡ lent_seen 8 world Q s argument

-- The runs after so many steps, at 4 bytes an address under a placement and at 8 under another: they are the same, have the same cells, and
-- raised nothing but a division by zero. As they are the same, both raised it.
pub record AreSameAfter (world : World) (image : Image) (P Q : Placement) (k : ℕ) : Type 0 where
  pub same : SameRun world P (run_of 4 world P image k) Q (run_of 8 world Q image k)
  pub cells : SameCells world P (run_of 4 world P image k) Q (run_of 8 world Q image k)
  pub lent : SameLent world P (run_of 4 world P image k) Q (run_of 8 world Q image k)
  pub raised : RaisesOnlyDivideError (run_of 4 world P image k).ending

-- So they are for every script under the notes, all valid placements and every number of steps.
abbrev pub SameAtBothWidths : Image → Notes → Type 0
SameAtBothWidths image notes =
    (script : Script) (P Q : Placement) (k : ℕ) → IsScript notes script
    → IsPlacement 4 (world_of image notes script) P → IsPlacement 8 (world_of image notes script) Q
    → AreSameAfter (world_of image notes script) image P Q k
