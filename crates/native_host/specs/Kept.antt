-- For proofs: where the things of a host lie, as it keeps them, and which notes it keeps that of. docs/HOST.md, "Memory".
use Rattle.std.specs.Prelude.{◌≡◌, ℕ, ◌+◌, ◌-◌, length, map, nat_lt, if◌then◌else◌, slice_index}
use Rattle.note_types.specs.Shapes.{size_at}
use Rattle.note_types.specs.declared.notes.Notes.{Notes}
use Rattle.note_types.specs.declared.notes.Static.{Static}
use Rattle.host_model.specs.Placements.{Placement, stack_bytes}
use Rattle.native_host.specs.declared.places.Places.{Places}

-- the placement that a host keeps
abbrev pub placement_of : Places → Placement
placement_of p = record { native = p.native; stack = p.stack; image = p.image; objects = p.objects }

-- What a host keeps of notes where an address has w bytes: how many bytes the stack has, how many methods and functions there
-- are, where the static objects lie in the image, and how many bytes an instance of each shape has.
pub record IsOf (w : ℕ) (notes : Notes) (p : Places) : Type 0 where
  pub stack_bytes : p.stack_bytes ≡ stack_bytes w notes
  pub methods : p.methods ≡ length notes.methods
  pub functions : p.functions ≡ length notes.function
  pub statics : p.statics ≡ map (λ (s : Static). s.place) notes.statics
  pub sizes : p.sizes ≡ map (size_at w) notes.shape

-- the base of a typed object, as a host keeps it: a static one lies in the image
abbrev pub object_base : Places → ℕ → ℕ
object_base p k =
    if nat_lt k (length p.statics) then p.image + slice_index p.statics k else slice_index p.objects (k - length p.statics)

-- the bytes of an instance of a shape, as a host keeps them
abbrev pub instance_bytes : Places → ℕ → ℕ
instance_bytes p s = slice_index p.sizes s
