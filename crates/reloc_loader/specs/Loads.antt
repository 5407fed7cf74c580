-- For proofs: an object of memory in which an image is loaded: docs/IMAGES.md, "What is loaded".
use Rattle.std.specs.Prelude.{◌≡◌, ℕ, ◌+◌, ◌-◌, ◌&&◌, Some, nat_le, nat_lt, slice_get, if◌then◌else◌}
use Rattle.object_memory.specs.Memory.{Memory, Object, byte_at, with_bytes}
use Rattle.object_memory.specs.declared.ObjId.{ObjId}
use Rattle.pe_image.specs.declared.image.Image.{Image}
use Rattle.pe_image.specs.Mapped.{mapped}

-- The object with this number lies at this base and has so many bytes.
abbrev pub IsPlacedAt : Memory → ObjId → ℕ → ℕ → Type 0
IsPlacedAt m id base size =
    (o : Object) × (slice_get m.objects id.number ≡ Some o) × (o.base ≡ base) × (o.size ≡ size) × (id.base ≡ base)

-- bytes by their addresses: those of an object at a base, by their offsets in it, and all others as a memory has them
unfoldable pub within : Memory → ℕ → ℕ → (ℕ → ℕ) → ℕ → ℕ
within m base size bytes x = if nat_le base x && nat_lt x (base + size) then bytes (x - base) else byte_at m x

-- the memory once an image is loaded at a base: the image's bytes lie there, and nothing else changes
abbrev pub loaded_at : Memory → Image → ℕ → Memory
loaded_at m image base = with_bytes m (within m base image.size (mapped image base))

-- ---- what the loader relies on; no caller sees it

-- From one memory to another, the bytes of some memory of the same objects became others.
abbrev pub Becomes : Memory → Memory → ((ℕ → ℕ) → ℕ → ℕ) → Type 0
Becomes old new change = (m : Memory) (bytes : ℕ → ℕ) → old ≡ with_bytes m bytes → new ≡ with_bytes m (change bytes)
