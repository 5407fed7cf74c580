-- The law of views: what the host sees of a configuration it sees of each run that stands for it, at either width. Here are
-- the parts of standing for a configuration that the law needs.
use Rattle.host_laws.proofs.Common.{◌≡◌, ℕ, ◌^◌, ◌<◌, true, List, [], ◌∷◌, Some, slice_get, AllZip, little_endian, cell_size, holds}
use Rattle.host_laws.proofs.Common.{register, View, field_at, spot_of, cell_address, host_view, slots_of, World, Placement, in_stack}
use Rattle.host_laws.proofs.Common.{SavedFrame, RunState, Notes, Field, Shape, HostFrame, Frame, Config, hosts, locals_at, objects_at}
use Rattle.host_laws.proofs.Common.{TypedObject, content_value, Named, CallShows, Neutral, Addresses, LocalOf, FieldOfLocals, Cells, Shows}
use Rattle.std.specs.Prelude.{⊤}
use Rattle.neutral_machine.specs.NeutralHost.{host_view as neutral_view, slots_of as neutral_slots_of}

-- The locals of frames lie in the stack, and the written ones show there.
pub record LocalsStand (w : ℕ) (notes : Notes) (P : Placement) (made : List TypedObject) (A : Addresses) (frames : List Frame)
    (cells : Cells) (byte : ℕ → ℕ) : Type 0 where
  pub small : (d f x : ℕ) → A.anchor (LocalOf d f) ≡ Some x → x < 2 ^ 64
  pub inside : (d f x : ℕ) (s : Shape) (z : Field) → locals_at frames d ≡ Some s → slice_get s.fields f ≡ Some z
      → A.anchor (LocalOf d f) ≡ Some x
      → in_stack w notes P z.cell x ≡ true
  pub shows : (d f x : ℕ) (s : Shape) (z : Field) (u : Neutral) → locals_at frames d ≡ Some s → slice_get s.fields f ≡ Some z
      → A.anchor (LocalOf d f) ≡ Some x
      → cells (FieldOfLocals d f) ≡ Some u → Shows w A (content_value notes made z.cell u) (little_endian byte x (cell_size w z.cell))

-- the host frames are of the same functions, entered as notifications or not, and have the same marks
abbrev pub HostsAlike : ℕ → Addresses → List HostFrame → List SavedFrame → Type 0
HostsAlike w A [] [] = ⊤
HostsAlike w A (h ∷ hs) (s ∷ ss) = (s.func ≡ h.func) × (s.notified ≡ h.notified) × CallShows w A h.call s.call × HostsAlike w A hs ss
HostsAlike w A _ _ = ⊥

-- The parts of standing for a configuration that what the host sees depends on.
pub record SeenAlike (w : ℕ) (world : World) (P : Placement) (A : Addresses) (a : Config) (r : RunState) : Type 0 where
  pub named : Named w world.notes P (objects_at world a) A
  pub script : r.script ≡ a.script
  pub result : Shows w A (a.registers 7) (register r.machine 7)
  pub spot : spot_of world P r.machine ≡ a.spot
  pub hosts : HostsAlike w A (hosts a.frames) r.hosts
  pub locals : LocalsStand w world.notes P (objects_at world a) A a.frames a.cells r.machine.byte
  pub slots : (g : ℕ) (vs : List Neutral) → neutral_slots_of world a g ≡ Some vs → (xs : List ℕ) × (slots_of w world r g ≡ Some xs)
      × AllZip (Shows w A) vs xs
  pub mapped : (k i f : ℕ) (x : Field) → field_at world.notes (objects_at world a) k i f ≡ Some x
      → holds r.machine.objects (cell_address w world.notes P (objects_at world a) k i x) (cell_size w x.cell) ≡ true

-- What the host sees of a configuration it sees of the run.
abbrev pub ViewsAlike : ℕ → World → Placement → Config → RunState → Type 0
ViewsAlike w world P a r = (v : View) → neutral_view world a a.spot ≡ Some v → host_view w world P r ≡ Some v
