-- For proofs: what a placement at a width of w bytes makes of the things that values name, and what holds of the typed
-- objects there: under it readings are alike. And the law that a valid placement makes this of them, where typed objects are
-- as the rules on an image and the reader of scripts have them. docs/HOST.md, "The neutral machine".
use Rattle.std.specs.Prelude.{◌≡◌, ◌≢◌, ℕ, ◌+◌, ◌*◌, ◌^◌, ◌<◌, ◌≤◌, List, Some, length, slice_get}
use Rattle.ebc_width.specs.Ranges.{Range}
use Rattle.ebc_width.specs.Width.{IsWidth}
use Rattle.neutral_machine.specs.Config.{Frame}
use Rattle.neutral_machine.specs.Layout.{addresses}
use Rattle.host_model.specs.declared.object.TypedObject.{TypedObject}
use Rattle.host_model.specs.Objects.{shape_of, static_object, made_objects}
use Rattle.host_model.specs.Placements.{Placement, IsPlacement, area_bytes, handle_count, object_bytes, method_at, thunk_at, handle_at}
use Rattle.host_model.specs.Placements.{object_at, object_range}
use Rattle.host_model.specs.World.{World}
use Rattle.note_types.specs.Concrete.{AreDisjoint}
use Rattle.note_types.specs.Shapes.{IsShape, size_at}
use Rattle.note_types.specs.declared.notes.Notes.{Notes}
use Rattle.note_types.specs.declared.notes.Static.{Static}
use Rattle.host_model.specs.Values.{Addresses, ObjectOf}

-- a typed object has instances of a shape that takes bytes
pub record HasInstances (w : ℕ) (notes : Notes) (o : TypedObject) : Type 0 where
  pub some : 1 ≤ o.count
  pub wide : 0 < size_at w (shape_of notes o.shape)

pub record Named (w : ℕ) (notes : Notes) (P : Placement) (made : List TypedObject) (A : Addresses) : Type 0 where
  pub width : IsWidth w
  pub native : 0 < P.native
  pub area : P.native + area_bytes notes ≤ 2 ^ (8 * w)
  pub handle : (k x : ℕ) → A.handle k ≡ Some x → (k < handle_count) × (x ≡ handle_at notes P k)
  pub method : (k x : ℕ) → A.method k ≡ Some x → (k < length notes.methods) × (x ≡ method_at P k)
  pub entry : (k x : ℕ) → A.entry k ≡ Some x → (k < length notes.function) × (x ≡ thunk_at notes P k)
  pub handles : (k : ℕ) → k < handle_count → A.handle k ≡ Some (handle_at notes P k)
  pub methods : (k : ℕ) → k < length notes.methods → A.method k ≡ Some (method_at P k)
  pub entries : (k : ℕ) → k < length notes.function → A.entry k ≡ Some (thunk_at notes P k)
  pub objects : (k : ℕ) (o : TypedObject) → slice_get made k ≡ Some o → A.anchor (ObjectOf k) ≡ Some (object_at notes P k)
  pub sized : (k : ℕ) (o : TypedObject) → slice_get made k ≡ Some o → HasInstances w notes o
  pub within : (k : ℕ) (o : TypedObject) → slice_get made k ≡ Some o → (0 < object_at notes P k)
      × (object_at notes P k + object_bytes w notes o ≤ 2 ^ (8 * w))
  pub apart : (j k : ℕ) (o q : TypedObject) → slice_get made j ≡ Some o → slice_get made k ≡ Some q → j ≢ k
      → AreDisjoint (object_range w notes P j o) (object_range w notes P k q)

-- ---- where it holds

-- the places of a static object, as it lies at width 8
abbrev pub static_range : Notes → Static → Range
static_range notes s = record { base = s.place; size = object_bytes 8 notes (static_object s) }

-- Each typed object of a run has instances of a well-formed shape; the static ones lie in the image and apart.
pub record HasObjects (world : World) : Type 0 where
  pub shaped : (entries k : ℕ) (o : TypedObject) → slice_get (made_objects world.notes world.script entries) k ≡ Some o
      → IsShape (shape_of world.notes o.shape)
  pub counted : (entries k : ℕ) (o : TypedObject) → slice_get (made_objects world.notes world.script entries) k ≡ Some o → 1 ≤ o.count
  pub inside : (k : ℕ) (s : Static) → slice_get world.notes.statics k ≡ Some s
      → s.place + object_bytes 8 world.notes (static_object s) ≤ world.image_size
  pub apart : (j k : ℕ) (s t : Static) → slice_get world.notes.statics j ≡ Some s → slice_get world.notes.statics k ≡ Some t → j ≢ k
      → AreDisjoint (static_range world.notes s) (static_range world.notes t)

-- Under a valid placement things are named, after each number of calls and whatever frames stand.
abbrev pub ThingsAreNamed : Type 0
ThingsAreNamed =
    (w : ℕ) (world : World) (P : Placement) → IsWidth w → HasObjects world → IsPlacement w world P
    → (entries : ℕ) (fs : List Frame) → Named w world.notes P (made_objects world.notes world.script entries) (addresses w world.notes P fs)
