-- Meaning: the conditions on notes: on each record, and on all together. docs/NOTES.md has them in words: the table of the
-- keys has the limits of numbers and lists, and "The conditions" the rest.
use Rattle.std.specs.Prelude.{◌≡◌, ℕ, ◌+◌, ◌-◌, ◌*◌, ◌^◌, ◌<◌, ◌≤◌, Bool, true, ◌&&◌, nat_le, nat_lt, List, Option, Some, None, IfSome}
use Rattle.std.specs.Prelude.{length, map, slice_get, sum_by, ⊤}
use Rattle.std.specs.List.{find}
use Rattle.std.specs.List.Sorted.{IsStrictlyIncreasing}
use Rattle.note_types.specs.Known.{AreFields, IsKnown, IsKnownCell, IsState, local_fields}
use Rattle.note_types.specs.Limits.{IsVersion, code_limit, point_limit, stack_limit}
use Rattle.note_types.specs.Passing.{IsGiven, IsHandedBack, IsHandedIn, IsKept, IsKeptWant, IsParameterKind, IsPassed, IsReturned}
use Rattle.note_types.specs.declared.cell.SlotKind.TheVariants.{N}
use Rattle.note_types.specs.declared.notes.FnNote.{FnNote}
use Rattle.note_types.specs.declared.notes.Notes.{Notes}
use Rattle.note_types.specs.declared.notes.Param.{Param}
use Rattle.note_types.specs.declared.notes.Point.{Point}
use Rattle.note_types.specs.declared.notes.Signature.{Signature}
use Rattle.note_types.specs.declared.notes.Site.{Site}
use Rattle.note_types.specs.declared.notes.Static.{Static}
use Rattle.note_types.specs.declared.notes.Thunk.{Thunk}
use Rattle.note_types.specs.declared.notes.Want.{Want}
use Rattle.note_types.specs.declared.notes.Want.TheVariants as want
use Rattle.note_types.specs.declared.notes.WantParam.{WantParam}
use Rattle.note_types.specs.declared.shape.Field.{Field}
use Rattle.note_types.specs.declared.shape.Shape.{Shape}
use Rattle.note_types.specs.declared.types.Ty.{Ty}

-- P holds of each item of a list
abbrev pub Each : {A : Type 0} → (A → Type 0) → List A → Type 0
Each {A} P xs = (k : ℕ) (x : A) → slice_get xs k ≡ Some x → P x

-- ---- numbers and names

-- a name has 1 to 63 bytes
abbrev pub HasNameLength : List ℕ → Type 0
HasNameLength name = (1 ≤ length name) × (length name ≤ 63)

-- a place lies in an image, which has at most 4 MiB
abbrev pub IsPlace : ℕ → Type 0
IsPlace place = place < 2 ^ 22

-- ---- shapes, static objects and thunk cells

pub record IsFieldNote (notes : Notes) (x : Field) : Type 0 where
  pub name : HasNameLength x.name
  pub units : x.n < 2 ^ 32
  pub bytes : x.c < 2 ^ 32
  pub cell : IsKnownCell notes x.cell

pub record IsShapeNote (notes : Notes) (s : Shape) : Type 0 where
  pub name : HasNameLength s.name
  pub units : s.n < 2 ^ 32
  pub bytes : s.c < 2 ^ 32
  pub few : length s.fields ≤ 256
  pub fields : Each (IsFieldNote notes) s.fields

pub record IsStaticNote (notes : Notes) (o : Static) : Type 0 where
  pub place : IsPlace o.place
  pub shape : o.shape < length notes.shape
  pub count : (1 ≤ o.count) × (o.count < 2 ^ 64)

pub record IsThunkNote (notes : Notes) (o : Thunk) : Type 0 where
  pub place : IsPlace o.place
  pub function : o.function < length notes.function

-- ---- functions

-- a parameter: one that is natural has a type that a move of natural size keeps
pub record IsParamNote (notes : Notes) (f : FnNote) (p : Param) : Type 0 where
  pub kind : IsParameterKind p.kind
  pub known : IsKnown notes f p.ty
  pub kept : p.kind ≡ N → IsKept p.ty
  pub passed : IsPassed p.ty

-- the bytes of stack that a function that the firmware enters takes where a pointer has 8 bytes: its parameters, its
-- return cell and its need
abbrev pub frame_size : FnNote → ℕ
frame_size f = 8 * length f.params + 16 + (8 * f.need.n + f.need.c)

-- what holds of a function that the firmware enters: nine of its frames fit the stack
pub record CanBeEntered (f : FnNote) : Type 0 where
  pub takes : Each (λ (p : Param). IsHandedIn p.ty) f.params
  pub gives : IsHandedBack f.result
  pub stack : 9 * frame_size f ≤ stack_limit

pub record IsFunctionNote (notes : Notes) (f : FnNote) : Type 0 where
  pub name : HasNameLength f.name
  pub place : IsPlace f.place
  pub end : f.end ≤ 2 ^ 22
  pub level : f.level < 2 ^ 64
  pub need : (f.need.n < 2 ^ 64) × (f.need.c < 2 ^ 64)
  pub locals : IfSome f.locals (λ s. s < length notes.shape)
  pub fields : length (local_fields notes f) ≤ 64
  pub few : length f.params ≤ 16
  pub params : Each (IsParamNote notes f) f.params
  pub result : IsKnown notes f f.result
  pub returned : IsReturned f.result
  pub entered : f.enter ≡ true → CanBeEntered f

-- how many bytes of code a function has
abbrev pub code_size : FnNote → ℕ
code_size f = f.end - f.place

-- ---- points

-- whether a function's code, from its place up to its end, has the place
abbrev pub has_place : ℕ → FnNote → Bool
has_place place f = nat_le f.place place && nat_lt place f.end

-- the function that a place belongs to: the first one, in the notes' order, whose code has it
unfoldable pub function_at : Notes → ℕ → Option FnNote
function_at notes place = find (has_place place) notes.function

-- a point lies in a function, and gives a state of that function, with no fact; what is written are fields of its locals
pub record IsPointNote (notes : Notes) (p : Point) : Type 0 where
  pub place : IsPlace p.place
  pub owner : FnNote
  pub there : function_at notes p.place ≡ Some owner
  pub state : IsState notes owner p.state
  pub written : AreFields notes owner p.state.written
  pub set : p.state.written < 2 ^ 64
  pub made : p.state.made < 2 ^ 32
  pub fact : p.state.fact ≡ None

-- ---- signatures and sites

-- what a native method takes is within its bounds, and its cells are known
abbrev pub IsKnownWant : Notes → Want → Type 0
IsKnownWant notes (want.Int lo hi) = (lo ≤ hi) × (hi < 2 ^ 64)
IsKnownWant notes (want.Size n c) = (n ≤ 2 ^ 20) × (c ≤ 2 ^ 20)
IsKnownWant notes (want.Out cell) = IsKnownCell notes cell
IsKnownWant notes (want.Inout cell) = IsKnownCell notes cell
IsKnownWant notes _ = ⊤

pub record IsWantNote (notes : Notes) (p : WantParam) : Type 0 where
  pub kind : IsParameterKind p.kind
  pub known : IsKnownWant notes p.want
  pub kept : p.kind ≡ N → IsKeptWant p.want

-- a native method's result names nothing of a function, so it is known in each
pub record IsResultNote (notes : Notes) (t : Ty) : Type 0 where
  pub given : IsGiven t
  pub known : (f : FnNote) → IsKnown notes f t

pub record IsSignatureNote (notes : Notes) (g : Signature) : Type 0 where
  pub name : HasNameLength g.name
  pub method : g.method < length notes.methods
  pub few : length g.params ≤ 16
  pub params : Each (IsWantNote notes) g.params
  pub result : IfSome g.result (IsResultNote notes)

pub record IsSiteNote (notes : Notes) (o : Site) : Type 0 where
  pub place : IsPlace o.place
  pub signature : o.signature < length notes.signature

-- ---- all together

-- there are at most so many of each thing, and fewer than 2^32 where no limit is set
pub record HasFewThings (notes : Notes) : Type 0 where
  pub shapes : length notes.shape ≤ 1024
  pub statics : length notes.statics < 2 ^ 32
  pub thunks : length notes.thunk < 2 ^ 32
  pub functions : length notes.function ≤ 4096
  pub points : length notes.point ≤ point_limit notes.version
  pub signatures : length notes.signature < 2 ^ 32
  pub sites : length notes.site < 2 ^ 32
  pub methods : length notes.methods ≤ 1024

-- functions, points and sites ascend by place, no two of a kind at one place
pub record Ascends (notes : Notes) : Type 0 where
  pub functions : IsStrictlyIncreasing (map (λ (f : FnNote). f.place) notes.function)
  pub points : IsStrictlyIncreasing (map (λ (p : Point). p.place) notes.point)
  pub sites : IsStrictlyIncreasing (map (λ (o : Site). o.place) notes.site)

-- The conditions on notes, as docs/NOTES.md lists them. They don't ask that shapes are well formed, nor anything of code.
pub record IsNotes (notes : Notes) : Type 0 where
  pub version : IsVersion notes.version
  pub few : HasFewThings notes
  pub entry : (f : FnNote) × (slice_get notes.function notes.entry ≡ Some f) × CanBeEntered f
  pub shapes : Each (IsShapeNote notes) notes.shape
  pub statics : Each (IsStaticNote notes) notes.statics
  pub thunks : Each (IsThunkNote notes) notes.thunk
  pub functions : Each (IsFunctionNote notes) notes.function
  pub points : Each (IsPointNote notes) notes.point
  pub signatures : Each (IsSignatureNote notes) notes.signature
  pub sites : Each (IsSiteNote notes) notes.site
  pub methods : Each HasNameLength notes.methods
  pub ascends : Ascends notes
  pub code : sum_by code_size notes.function ≤ code_limit notes.version
