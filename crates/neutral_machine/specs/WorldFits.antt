-- For proofs: what is the same for every run of notes that meet the rules on shapes, functions and statics: what the laws of
-- a step need of the notes and of the script. The rules say it of an image; these parts follow from them.
use Rattle.std.specs.Prelude.{◌≡◌, ◌≢◌, ◌⊎◌, ℕ, ◌+◌, ◌*◌, ◌%◌, ◌<◌, ◌≤◌, length, Some, slice_get}
use Rattle.note_types.specs.Shapes.{IsShape, size_at}
use Rattle.note_types.specs.declared.notes.FnNote.{FnNote}
use Rattle.note_types.specs.declared.notes.Static.{Static}
use Rattle.note_types.specs.declared.notes.Thunk.{Thunk}
use Rattle.note_types.specs.declared.shape.Shape.{Shape}
use Rattle.host_model.specs.World.{World}
use Rattle.host_model.specs.Objects.{shape_of, made_objects}
use Rattle.host_model.specs.declared.object.TypedObject.{TypedObject}
use Rattle.rules_image.specs.Images.{AreApart}

-- Notes and script fit: shapes are well formed and typed objects have one each; statics, thunk cells and functions lie in the
-- image and apart.
pub record WorldFits (world : World) : Type 0 where
  pub shapes : (s : ℕ) (x : Shape) → slice_get world.notes.shape s ≡ Some x → IsShape x
  pub objects : (n k : ℕ) (o : TypedObject) → slice_get (made_objects world.notes world.script n) k ≡ Some o
      → (o.shape < length world.notes.shape) × (1 ≤ o.count)
  pub statics_inside : (k : ℕ) (s : Static) → slice_get world.notes.statics k ≡ Some s
      → s.place + s.count * size_at 8 (shape_of world.notes s.shape) ≤ world.image_size
  pub statics_apart : (k j : ℕ) (s t : Static) → slice_get world.notes.statics k ≡ Some s → slice_get world.notes.statics j ≡ Some t → k ≢ j
      → AreApart s.place (s.count * size_at 8 (shape_of world.notes s.shape)) t.place (t.count * size_at 8 (shape_of world.notes t.shape))
  pub thunks_inside : (i : ℕ) (t : Thunk) → slice_get world.notes.thunk i ≡ Some t → t.place + 8 ≤ world.image_size
  pub thunks_apart : (i j : ℕ) (t u : Thunk) → slice_get world.notes.thunk i ≡ Some t → slice_get world.notes.thunk j ≡ Some u → i ≢ j
      → AreApart t.place 8 u.place 8
  pub statics_thunks : (k i : ℕ) (s : Static) (t : Thunk) → slice_get world.notes.statics k ≡ Some s
      → slice_get world.notes.thunk i ≡ Some t
      → AreApart s.place (s.count * size_at 8 (shape_of world.notes s.shape)) t.place 8
  pub code_inside : (j : ℕ) (f : FnNote) → slice_get world.notes.function j ≡ Some f → (f.place < f.end) × (f.end ≤ world.image_size)
      × (f.place % 2 ≡ 0)
  pub code_statics : (j k : ℕ) (f : FnNote) (s : Static) → slice_get world.notes.function j ≡ Some f
      → slice_get world.notes.statics k ≡ Some s
      → (f.end ≤ s.place) ⊎ (s.place + s.count * size_at 8 (shape_of world.notes s.shape) ≤ f.place)
  pub code_thunks : (j i : ℕ) (f : FnNote) (t : Thunk) → slice_get world.notes.function j ≡ Some f → slice_get world.notes.thunk i ≡ Some t
      → (f.end ≤ t.place) ⊎ (t.place + 8 ≤ f.place)
