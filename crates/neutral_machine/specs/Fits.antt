-- For proofs: which neutral values fit a type. Most types mean the same in every frame; a local, a status with grants and
-- what the caller left in a register mean something of one frame. docs/NOTES.md, "Types", has the types in words.
use Rattle.std.specs.Prelude.{◌≡◌, ◌⊎◌, ℕ, ◌+◌, ◌*◌, ◌<◌, ◌≤◌, Bool, true, false, List, Some, slice_get, ℤ, ⊤}
use Prim.Native.Nat.{◌∣◌}
use Rattle.ebc_width.specs.Width.{wrap64}
use Rattle.note_types.specs.declared.cell.Cell.{Cell}
use Rattle.note_types.specs.declared.notes.Notes.{Notes}
use Rattle.note_types.specs.declared.shape.Field.{Field}
use Rattle.note_types.specs.declared.types.Ty.{Ty}
use Rattle.note_types.specs.declared.types.Ty.TheVariants as ty
use Rattle.host_model.specs.Values.{Neutral, At, Num, Handle, Method, Entry, Error, SignedError, ObjectOf, ThunkOf, LocalOf, FieldOfLocals}
use Rattle.host_model.specs.Values.{number, null, mask, pair, word, IsCode}
use Rattle.neutral_machine.specs.Config.{Registers}
use Rattle.host_model.specs.declared.object.TypedObject.{TypedObject}
use Rattle.host_model.specs.Objects.{shape_of}
use Rattle.neutral_machine.specs.Memory.{Memory, cell_field, AreWritten, IsFieldWritten}

-- ---- the forms of values

-- a plain number in a range that a divisor divides
pub record IsNumber (lo hi div : ℕ) (v : Neutral) : Type 0 where
  pub x : ℕ
  pub is : v ≡ number x
  pub from : lo ≤ x
  pub to : x ≤ hi
  pub divided : div ∣ x

-- i times a pair, for one i from 0 to hi
pub record IsMultiple (n c hi : ℕ) (v : Neutral) : Type 0 where
  pub i : ℕ
  pub is : v ≡ Num (i * n) (i * c)
  pub to : i ≤ hi

-- the address of instance j of a typed object of a shape, with so many instances from there on, plus a pair
pub record IsPointer (notes : Notes) (objects : List TypedObject) (s count : ℕ) (n c : ℤ) (v : Neutral) : Type 0 where
  pub k : ℕ
  pub j : ℕ
  pub object : TypedObject
  pub is : v ≡ At (ObjectOf k) (word (j * (shape_of notes s).n + wrap64 n)) (word (j * (shape_of notes s).c + wrap64 c))
  pub there : slice_get objects k ≡ Some object
  pub shape : object.shape ≡ s
  pub room : j + count ≤ object.count

-- a status that is no error
pub record IsSuccess (v : Neutral) : Type 0 where
  pub code : ℕ
  pub is : v ≡ number code
  pub small : IsCode code

-- an error, and a sign-extended one
pub record IsError (v : Neutral) : Type 0 where
  pub code : ℕ
  pub is : v ≡ Error code
  pub small : IsCode code

pub record IsSignedError (v : Neutral) : Type 0 where
  pub code : ℕ
  pub is : v ≡ SignedError code
  pub small : IsCode code

-- a handle, and a function's thunk
pub record IsHandle (v : Neutral) : Type 0 where
  pub k : ℕ
  pub is : v ≡ Handle k

pub record IsEntry (v : Neutral) : Type 0 where
  pub func : ℕ
  pub is : v ≡ Entry func

-- null where it is allowed, or something else
abbrev pub OrNull : Bool → Neutral → Type 0 → Type 0
OrNull true v P = P ⊎ (v ≡ null)
OrNull false v P = P

-- ---- of one frame

-- the address of a field of the locals of the frame at depth d
pub record IsLocal (notes : Notes) (m : Memory) (d f : ℕ) (v : Neutral) : Type 0 where
  pub is : v ≡ At (LocalOf d f) 0 0
  pub field : Field
  pub there : cell_field notes m (FieldOfLocals d f) ≡ Some field

-- the address of a local of a cell, in a frame below depth d
pub record IsCellBelow (notes : Notes) (m : Memory) (d : ℕ) (cell : Cell) (v : Neutral) : Type 0 where
  pub e : ℕ
  pub f : ℕ
  pub is : v ≡ At (LocalOf e f) 0 0
  pub lower : e < d
  pub field : Field
  pub there : cell_field notes m (FieldOfLocals e f) ≡ Some field
  pub cell_is : field.cell ≡ cell

-- the address of a written local of a cell, in a frame below depth d
pub record IsLent (notes : Notes) (m : Memory) (d : ℕ) (cell : Cell) (v : Neutral) : Type 0 where
  pub cell_below : IsCellBelow notes m d cell v
  pub written : IsFieldWritten m cell_below.e cell_below.f

-- A value fits a type in every frame: here a status grants nothing.
abbrev pub FitsPlain : Notes → List TypedObject → Ty → Neutral → Type 0
FitsPlain notes objects ty.Any v = ⊤
FitsPlain notes objects (ty.Int lo hi div) v = IsNumber lo hi div v
FitsPlain notes objects (ty.Lin n c) v = v ≡ pair n c
FitsPlain notes objects (ty.Scaled n c hi) v = IsMultiple n c hi v
FitsPlain notes objects (ty.Ptr s k n c may) v = OrNull may v (IsPointer notes objects s k n c v)
FitsPlain notes objects (ty.Local f) v = ⊥
FitsPlain notes objects (ty.Lent cell) v = ⊥
FitsPlain notes objects (ty.Status g) v = IsError v ⊎ IsSuccess v
FitsPlain notes objects (ty.SignedStatus g) v = IsSignedError v ⊎ IsSuccess v
FitsPlain notes objects ty.Mask v = v ≡ mask
FitsPlain notes objects ty.Handle v = IsHandle v ⊎ (v ≡ null)
FitsPlain notes objects ty.Entry v = IsEntry v ⊎ (v ≡ null)
FitsPlain notes objects (ty.Method m) v = v ≡ Method m
FitsPlain notes objects (ty.ThunkAt i) v = v ≡ At (ThunkOf i) 0 0
FitsPlain notes objects (ty.Saved i) v = ⊥

-- A value fits a type, said of the frame at depth d, which keeps these registers of its entry.
abbrev pub Fits : Notes → Memory → ℕ → Registers → Ty → Neutral → Type 0
Fits notes m d saved ty.Any v = FitsPlain notes m.objects ty.Any v
Fits notes m d saved (ty.Int lo hi div) v = FitsPlain notes m.objects (ty.Int lo hi div) v
Fits notes m d saved (ty.Lin n c) v = FitsPlain notes m.objects (ty.Lin n c) v
Fits notes m d saved (ty.Scaled n c hi) v = FitsPlain notes m.objects (ty.Scaled n c hi) v
Fits notes m d saved (ty.Ptr s k n c may) v = FitsPlain notes m.objects (ty.Ptr s k n c may) v
Fits notes m d saved (ty.Local f) v = IsLocal notes m d f v
Fits notes m d saved (ty.Lent cell) v = IsLent notes m d cell v
Fits notes m d saved (ty.Status g) v = IsError v ⊎ (IsSuccess v × AreWritten m d g)
Fits notes m d saved (ty.SignedStatus g) v = IsSignedError v ⊎ (IsSuccess v × AreWritten m d g)
Fits notes m d saved ty.Mask v = FitsPlain notes m.objects ty.Mask v
Fits notes m d saved ty.Handle v = FitsPlain notes m.objects ty.Handle v
Fits notes m d saved ty.Entry v = FitsPlain notes m.objects ty.Entry v
Fits notes m d saved (ty.Method k) v = FitsPlain notes m.objects (ty.Method k) v
Fits notes m d saved (ty.ThunkAt i) v = FitsPlain notes m.objects (ty.ThunkAt i) v
Fits notes m d saved (ty.Saved i) v = v ≡ saved i
