-- For proofs: when the state of a run at a width stands for a configuration: under a placement, each number of it is that of
-- the value there. Numbers are taken modulo 2 ^ 64. `mapped` has the bytes of the image at its base, by their places.
-- docs/SIMULATION.md, "When a state stands for a configuration".
use Rattle.std.specs.Prelude.{◌≡◌, ◌≢◌, ℕ, ◌+◌, ◌-◌, ◌*◌, ◌<◌, ◌≤◌, ◌^◌, List, [], ◌∷◌, length, Option, Some, None, nat_eq, if◌then◌else◌}
use Rattle.std.specs.Prelude.{slice_get, slice_index, ⊤}
use Rattle.std.specs.List.{AllZip}
use Rattle.std.specs.Option.{option_map}
use Rattle.ebc_width.specs.Bytes.{little_endian}
use Rattle.ebc_width.specs.Ranges.{covers}
use Rattle.note_types.specs.Cells.{cell_size}
use Rattle.note_types.specs.Concrete.{Concrete, register}
use Rattle.note_types.specs.Shapes.{size_at, start_at}
use Rattle.note_types.specs.declared.notes.FnNote.{FnNote}
use Rattle.note_types.specs.declared.notes.Notes.{Notes}
use Rattle.note_types.specs.declared.notes.Thunk.{Thunk}
use Rattle.note_types.specs.declared.shape.Field.{Field}
use Rattle.note_types.specs.declared.spot.Spot.{Spot}
use Rattle.note_types.specs.declared.spot.Spot.TheVariants as spot
use Rattle.host_model.specs.Values.{Neutral, Addresses, CellPlace, FieldOf, FieldOfLocals, Shows, ShowsIn, minus}
use Rattle.neutral_machine.specs.Config.{StackItem, Pushed, LocalsOf, HostFrame, Frame, Function, Host, Config, locals_among}
use Rattle.host_model.specs.Progress.{NativeCall, NoCall, Asked, Accepted}
use Rattle.host_model.specs.RunState.{SavedFrame, RunState}
use Rattle.host_model.specs.World.{World, frame_locals}
use Rattle.host_model.specs.Objects.{shape_of, made_objects}
use Rattle.host_model.specs.declared.object.TypedObject.{TypedObject}
use Rattle.host_model.specs.Placements.{Placement, image_range, slot_bytes, stack_end, object_address, entry_address, placed_ranges}
use Rattle.host_model.specs.Placements.{return_cell}
use Rattle.neutral_machine.specs.Layout.{item_size, height, total, top_of, local_address, addresses}
use Rattle.neutral_machine.specs.Memory.{memory_of, cell_field}
use Rattle.neutral_machine.specs.Rows.{flags_of}

-- where a run stands whose next instruction is at an address, the gate being the native area's base
abbrev pub spot_at : World → Placement → ℕ → Spot
spot_at world P ip =
    if nat_eq ip P.native then spot.Gate
    else if covers ip 1 (image_range world P) then spot.Place (ip - P.image)
    else spot.Wild ip

-- ---- the stack

-- a slot shows at an address; the fields of locals are cells
abbrev pub ItemShows : ℕ → Addresses → (ℕ → ℕ) → ℕ → StackItem → Type 0
ItemShows w A b x (Pushed kind v) = ShowsIn w A (slot_bytes w kind) v (little_endian b x (slot_bytes w kind))
ItemShows w A b x (LocalsOf s) = ⊤

-- items show that lie upon so many bytes of the stack
abbrev pub ItemsShow : ℕ → Addresses → (ℕ → ℕ) → ℕ → ℕ → List StackItem → Type 0
ItemsShow w A b end under [] = ⊤
ItemsShow w A b end under (i ∷ is) = ItemShows w A b (minus end (item_size w i + (height w is + under))) i × ItemsShow w A b end under is

-- a return cell: the return address and eight zero bytes
pub record ReturnShows (b : ℕ → ℕ) (x back : ℕ) : Type 0 where
  pub address : little_endian b x 8 ≡ back
  pub zeros : little_endian b (x + 8) 8 ≡ 0

-- where a function goes back to: the gate where the host entered it, else a place
abbrev pub return_address : Placement → ℕ → List Frame → ℕ
return_address P ret [] = P.native
return_address P ret (Host h ∷ fs) = P.native
return_address P ret (Function f ∷ fs) = P.image + ret

-- the frames show: the slots, the parameters that the host stored and the return cells
abbrev pub FramesShow : ℕ → Addresses → (ℕ → ℕ) → ℕ → Placement → List Frame → Type 0
FramesShow w A b end P [] = ⊤
FramesShow w A b end P (Function f ∷ fs) =
    ItemsShow w A b end (return_cell + total w fs) f.items
    × ReturnShows b (minus end (return_cell + total w fs)) (return_address P f.ret fs)
    × FramesShow w A b end P fs
FramesShow w A b end P (Host h ∷ fs) = ItemsShow w A b end (total w fs) h.params × FramesShow w A b end P fs

-- ---- locals

-- among the items of a function there are at most its own locals, once
abbrev pub OwnLocals : Notes → ℕ → List StackItem → Type 0
OwnLocals notes func [] = ⊤
OwnLocals notes func (Pushed kind v ∷ is) = OwnLocals notes func is
OwnLocals notes func (LocalsOf s ∷ is) = (frame_locals notes func ≡ Some s) × (locals_among is ≡ None)

-- the locals in each frame are its function's, as a configuration has them
abbrev pub OwnLocalsAll : Notes → List Frame → Type 0
OwnLocalsAll notes [] = ⊤
OwnLocalsAll notes (Function f ∷ fs) = OwnLocals notes f.func f.items × OwnLocalsAll notes fs
OwnLocalsAll notes (Host h ∷ fs) = OwnLocalsAll notes fs

-- ---- cells

-- the address of a field of an instance, in an object that is at an address
abbrev pub field_address : ℕ → World → ℕ → Field → TypedObject → ℕ → ℕ
field_address w world i z o base = base + (i * size_at w (shape_of world.notes o.shape) + start_at w z)

abbrev pub in_object : ℕ → World → ℕ → Field → Option TypedObject → Option ℕ → Option ℕ
in_object w world i z None base = None
in_object w world i z (Some o) base = option_map (field_address w world i z o) base

-- the address of a cell
abbrev pub cell_address : ℕ → World → Placement → Config → CellPlace → Field → Option ℕ
cell_address w world P a (FieldOf k i f) z = in_object w world i z (slice_get (made_objects world.notes world.script a.script.entries) k)
    (object_address world.notes P k)
cell_address w world P a (FieldOfLocals d f) z = local_address w (stack_end w world.notes P) a.frames d f

-- a value shows in a cell
pub record CellShows (w : ℕ) (A : Addresses) (b : ℕ → ℕ) (at : Option ℕ) (size : ℕ) (v : Neutral) : Type 0 where
  pub address : ℕ
  pub there : at ≡ Some address
  pub shows : ShowsIn w A size v (little_endian b address size)

-- each typed cell and each written local shows
abbrev pub CellsShow : ℕ → World → Placement → Addresses → Config → (ℕ → ℕ) → Type 0
CellsShow w world P A a b =
    (p : CellPlace) (z : Field) (v : Neutral) → cell_field world.notes (memory_of world a) p ≡ Some z → a.cells p ≡ Some v
    → CellShows w A b (cell_address w world P a p z) (cell_size w z.cell) v

-- ---- the image

-- a made thunk cell holds its thunk's address, and another one what was loaded
abbrev pub ThunkShows : ℕ → World → Placement → (ℕ → ℕ) → (ℕ → ℕ) → ℕ → ℕ → Thunk → Type 0
ThunkShows w world P mapped b made i t =
    (i < made → entry_address world.notes P t.function ≡ Some (little_endian b (P.image + t.place) w))
    × (made ≤ i → (x : ℕ) → x < 8 → b (P.image + (t.place + x)) ≡ mapped (t.place + x))

-- all thunk cells show but one that may be left out
abbrev pub ThunksShow : ℕ → World → Placement → (ℕ → ℕ) → (ℕ → ℕ) → ℕ → Option ℕ → Type 0
ThunksShow w world P mapped b made but =
    (i : ℕ) (t : Thunk) → slice_get world.notes.thunk i ≡ Some t → but ≢ Some i → ThunkShows w world P mapped b made i t

-- the functions' bytes are those that were loaded
abbrev pub CodeStands : World → Placement → (ℕ → ℕ) → (ℕ → ℕ) → Type 0
CodeStands world P mapped b =
    (j : ℕ) (f : FnNote) (x : ℕ) → slice_get world.notes.function j ≡ Some f → f.place ≤ x → x < f.end
    → b (P.image + x) ≡ mapped x

-- ---- the machine

-- A machine and its memory stand for a configuration, but for a thunk cell that may be left out.
pub record MachineStands (w : ℕ) (world : World) (P : Placement) (mapped : ℕ → ℕ) (but : Option ℕ) (a : Config)
    (s : Concrete) : Type 0 where
  pub eight : length s.registers ≡ 8
  pub words : (r : ℕ) → register s r < 2 ^ 64
  pub small : (x : ℕ) → s.byte x < 256
  pub registers : (r : ℕ) → 0 < r → r < 8 → Shows w (addresses w world.notes P a.frames) (a.registers r) (register s r)
  pub locals : OwnLocalsAll world.notes a.frames
  pub top : register s 0 ≡ top_of w (stack_end w world.notes P) a.frames
  pub frames : FramesShow w (addresses w world.notes P a.frames) s.byte (stack_end w world.notes P) P a.frames
  pub cells : CellsShow w world P (addresses w world.notes P a.frames) a s.byte
  pub thunks : ThunksShow w world P mapped s.byte a.made but
  pub code : CodeStands world P mapped s.byte
  pub objects : s.objects ≡ placed_ranges w world P a.script.entries
  pub flags : s.flags ≡ flags_of a.c
  pub gate : s.gate ≡ P.native
  pub spot : spot_at world P s.ip ≡ a.spot

-- ---- the host

-- the marks of a native call are the same, a target and slots showing as the numbers there
abbrev pub CallShows : ℕ → Addresses → NativeCall Neutral → NativeCall ℕ → Type 0
CallShows w A NoCall NoCall = ⊤
CallShows w A (Asked p v) (Asked q x) = (p ≡ q) × Shows w A v x
CallShows w A (Accepted e n vs) (Accepted f m xs) = (e ≡ f) × (n ≡ m) × AllZip (Shows w A) vs xs
CallShows w A _ _ = ⊥

-- a host frame shows as one that was saved, where R0 was at an address
pub record HostShows (w : ℕ) (world : World) (P : Placement) (A : Addresses) (top : ℕ) (h : HostFrame) (s : SavedFrame) : Type 0 where
  pub func : s.func ≡ h.func
  pub notified : s.notified ≡ h.notified
  pub eight : length s.registers ≡ 8
  pub registers : (r : ℕ) → 0 < r → r < 8 → Shows w A (h.saved r) (slice_index s.registers r)
  pub words : (r : ℕ) → slice_index s.registers r < 2 ^ 64
  pub top_is : slice_index s.registers 0 ≡ top
  pub flags : s.flags ≡ flags_of h.c
  pub spot : spot_at world P s.ip ≡ h.spot
  pub call : CallShows w A h.call s.call

-- the host frames show as those that were saved, R0 having been at the end of the frame below, or at the stack's end
abbrev pub HostsShow : ℕ → World → Placement → Addresses → List Frame → List SavedFrame → Type 0
HostsShow w world P A [] [] = ⊤
HostsShow w world P A [] (s ∷ ss) = ⊥
HostsShow w world P A (Function f ∷ fs) ss = HostsShow w world P A fs ss
HostsShow w world P A (Host h ∷ fs) [] = ⊥
HostsShow w world P A (Host h ∷ fs) (s ∷ ss) = HostShows w world P A (top_of w (stack_end w world.notes P) fs) h s
    × HostsShow w world P A fs ss

-- A run's state stands for a configuration, but for a thunk cell that may be left out.
pub record StandsBut (w : ℕ) (world : World) (P : Placement) (mapped : ℕ → ℕ) (but : Option ℕ) (a : Config) (s : RunState) : Type 0 where
  pub machine : MachineStands w world P mapped but a s.machine
  pub hosts : HostsShow w world P (addresses w world.notes P a.frames) a.frames s.hosts
  pub script : s.script ≡ a.script
  pub trace : s.trace ≡ a.trace
  pub ending : s.ending ≡ a.ending

-- A run's state stands for a configuration.
abbrev pub Stands : ℕ → World → Placement → (ℕ → ℕ) → Config → RunState → Type 0
Stands w world P mapped a s = StandsBut w world P mapped None a s
