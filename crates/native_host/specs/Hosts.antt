-- For proofs: when a host is the host of a run, and what else it has to have at a step. docs/HOST.md, "The state".
use Rattle.std.specs.Prelude.{◌≡◌, ℕ, ◌+◌, ◌-◌, ◌*◌, ◌^◌, ◌≤◌, false, List, [], Some, length, min, nat_eq, slice_get, take, vec_capacity}
use Rattle.std.specs.Option.{option_map_or}
use Rattle.std.specs.List.{sum_by}
use Rattle.ebc_width.specs.Ranges.{Range}
use Rattle.object_memory.specs.Memory.{Memory, padded, ranges}
use Rattle.note_types.specs.Records.{IsNotes}
use Rattle.note_types.specs.declared.notes.FnNote.{FnNote}
use Rattle.note_types.specs.declared.notes.Notes.{Notes}
use Rattle.note_types.specs.declared.script.Script.{Script}
use Rattle.note_types.specs.declared.types.Ty.TheVariants as ty
use Rattle.host_model.specs.Objects.{made_objects}
use Rattle.host_model.specs.Placements.{Placement, all_ranges, own_placement, placed_ranges, stack_range}
use Rattle.host_model.specs.Readings.{Sort, sort_of_type}
use Rattle.host_model.specs.RunState.{RunState, SavedFrame}
use Rattle.host_model.specs.Scripts.{IsScript, all_made, callbacks_of}
use Rattle.host_model.specs.World.{World}
use Rattle.frame_stack.specs.declared.Frame.{Frame}
use Rattle.callex_thunk.specs.declared.TheConstants.{NO_ENTRY}
use Rattle.entry_thunk.specs.Cells.{with_memory}
use Rattle.native_host.specs.declared.host.Host.{Host}
use Rattle.native_host.specs.Kept.{IsOf, placement_of}

-- ---- the host of a run

-- A host of a run: its things lie where this project places them, it keeps what it needs of the notes, and the typed objects
-- are those that are made once so many calls of the script were accepted as it has counted.
pub record IsHost (w : ℕ) (world : World) (h : Host w) : Type 0 where
  pub placement : placement_of h.places ≡ own_placement w world
  pub size : h.places.image_size ≡ world.image_size
  pub notes : IsOf w world.notes h.places
  pub made : h.made.items ≡ made_objects world.notes world.script h.entries

-- the world of a host's run, under notes and with a script
abbrev pub host_world : {w : ℕ} → Notes → Script → Host w → World
host_world notes script h = record { notes = notes; script = script; image_size = h.places.image_size }

-- A host that serves under notes and with a script: both were read, it is the host of their run, and there is room for all
-- typed objects that are ever made.
pub record IsServing (w : ℕ) (notes : Notes) (script : Script) (h : Host w) : Type 0 where
  pub read : IsNotes notes
  pub scripted : IsScript notes script
  pub host : IsHost w (host_world notes script h) h
  pub reserved : length (all_made notes script) ≤ vec_capacity h.made

-- A memory has what a host has placed once so many calls of the script were accepted, and room for what it is still to place.
pub record IsMemoryOf (w : ℕ) (world : World) (P : Placement) (entries : ℕ) (m : Memory) : Type 0 where
  pub objects : ranges m ≡ placed_ranges w world P entries
  pub bytes : m.byte_limit ≡ sum_by (λ (r : Range). padded r.size) (all_ranges w world P)
  pub count : m.object_limit ≡ length (all_ranges w world P)

-- The stack lies in a memory.
abbrev pub HasStack : ℕ → Notes → Placement → Memory → Type 0
HasStack w notes P m = slice_get (ranges m) 1 ≡ Some (stack_range w notes P)

-- A host has room for so many events more.
abbrev pub HasRoom : {w : ℕ} → Host w → ℕ → Type 0
HasRoom h n = length h.trace.items + n ≤ vec_capacity h.trace

-- the most events that a script can give: a native call and its reply, a callback and a notification and their returns, and one
-- more call, which ends the run
abbrev pub all_events : Script → ℕ
all_events script = 1 + 2 * length script.call + 2 * sum_by callbacks_of script.call + 2 * length script.notify

-- ---- the state of its run

-- A host counts the thunks that were served, up to 2^64 - 1.
abbrev pub CountsThunks : {w : ℕ} → Host w → RunState → Type 0
CountsThunks h r = h.thunks ≡ min r.script.thunks (2 ^ 64 - 1)

-- What a host counts and tells is what a run in this state has.
pub record Tells {w : ℕ} (h : Host w) (r : RunState) : Type 0 where
  pub entries : r.script.entries ≡ h.entries
  pub notifications : r.script.notifications ≡ h.notifications
  pub thunks : CountsThunks h r
  pub trace : r.trace ≡ h.trace.items

-- the state of a run with what else a host counts and tells, with a memory, and with these frames of the host
abbrev pub shown : {w : ℕ} → Host w → Memory → List SavedFrame → RunState → RunState
shown h m hosts r = record r {
  machine = with_memory r.machine m;
  hosts = hosts;
  script = record r.script { entries = h.entries; notifications = h.notifications };
  trace = h.trace.items;
}

-- A native call that the script answers is under way above the top frame.
pub record IsCalled (frames : List Frame) : Type 0 where
  pub top : Frame
  pub there : slice_get frames 0 ≡ Some top
  pub under : nat_eq top.entry NO_ENTRY ≡ false

-- the slots of its arguments, and how many there are
abbrev pub top_slots : List Frame → List ℕ
top_slots frames = option_map_or (λ (f : Frame). take f.count f.slots) (slice_get frames 0) []

abbrev pub top_count : List Frame → ℕ
top_count frames = option_map_or (λ (f : Frame). f.count) (slice_get frames 0) 0

-- what the result of the function of that number is read as
abbrev pub result_sort : Notes → ℕ → Sort
result_sort notes f =
    option_map_or (λ (g : FnNote). sort_of_type g.result) (slice_get notes.function f) (sort_of_type ty.Any)
