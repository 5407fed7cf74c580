-- For proofs: what each frame of the host takes of the stack. docs/HOST.md, "Memory".
use Rattle.std.specs.Prelude.{◌≡◌, ℕ, ◌+◌, ◌≤◌, List, [], ◌∷◌, drop, Option, Some, None, slice_get}
use Rattle.ebc_width.specs.Width.{IsWidth}
use Rattle.note_types.specs.declared.notes.FnNote.{FnNote}
use Rattle.note_types.specs.declared.notes.Notes.{Notes}
use Rattle.neutral_machine.specs.Config.{Frame, Function, Host, HostFrame, Config}
use Rattle.neutral_machine.specs.Layout.{height}
use Rattle.host_model.specs.Placements.{frame_bytes, return_cell}
use Rattle.host_model.specs.World.{World}
use Rattle.invariant_laws.specs.Sound.{SoundBelow}

-- the host's frame on top
abbrev pub top_host : List Frame → Option HostFrame
top_host [] = None
top_host (Host h ∷ fs) = Some h
top_host (Function f ∷ fs) = top_host fs

-- the bytes of the host's frame on top, with the functions that stand upon it: its parameters, and for each function a return cell and
-- its items
abbrev pub top_bytes : ℕ → List Frame → ℕ
top_bytes w [] = 0
top_bytes w (Host h ∷ fs) = height w h.params
top_bytes w (Function f ∷ fs) = height w f.items + (return_cell + top_bytes w fs)

-- it takes at most the parameters, a return cell and what its function needs
abbrev pub TopHostFits : ℕ → Notes → List Frame → Type 0
TopHostFits w notes fs = (h : HostFrame) (note : FnNote) → top_host fs ≡ Some h → slice_get notes.function h.func ≡ Some note
    → top_bytes w fs ≤ frame_bytes w note

-- So does each frame of the host in a sound configuration, at either width: whatever frames are taken off the top.
abbrev pub HostFramesFit : Type 0
HostFramesFit = (w : ℕ) (world : World) (a : Config) → IsWidth w → SoundBelow world a → (n : ℕ)
    → TopHostFits w world.notes (drop n a.frames)
