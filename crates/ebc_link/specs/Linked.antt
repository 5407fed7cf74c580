-- For proofs: linked images, said of each byte, each relocation and the entry. docs/LINKING.md, "Linked images".
use Rattle.std.specs.Prelude.{◌≡◌, ◌≢◌, ◌↔◌, ◌⊎◌, ℕ, ◌+◌, ◌*◌, ◌%◌, ◌<◌, ◌≤◌, Bool, true, false, ◌&&◌, List, length, nat_eq, nat_le}
use Rattle.std.specs.Prelude.{nat_lt, slice_get, slice_index, Some, pos, ◌+ℤ◌, ◌*ℤ◌}
use Rattle.std.specs.List.{Contains, list_any}
use Rattle.ebc_width.specs.Bytes.{little_endian}
use Rattle.ebc_width.specs.Width.{signed_at}
use Rattle.ebc_object.specs.Objects.{section_bytes, width}
use Rattle.ebc_object.specs.declared.object.Fixup.{Fixup}
use Rattle.ebc_object.specs.declared.object.Object.{Object}
use Rattle.ebc_object.specs.declared.object.Symbol.{Symbol}
use Rattle.pe_image.specs.Linked.{IsLinked, linked_sections}
use Rattle.pe_image.specs.Mapped.{laid}
use Rattle.pe_image.specs.declared.image.Image.{Image}
use Rattle.ebc_link.specs.declared.plan.LinkPlan.{LinkPlan}
use Rattle.ebc_link.specs.Layout.{Laid, code_end, code_start, contents_end, contents_start, laid_objects, place_in}
use Rattle.ebc_link.specs.Symbols.{is_definition}
use Rattle.ebc_link.specs.Fixups.{place_of}

-- ---- bytes that no fixup fills in

-- whether a fixup fills in the byte at an offset of a section
abbrev pub fills : ℕ → ℕ → Fixup → Bool
fills section i f = nat_eq f.section section && (nat_le f.offset i && nat_lt i (f.offset + width f.kind))

abbrev pub own_bytes : Laid → ℕ → List ℕ
own_bytes l section = section_bytes l.object.code l.object.contents section

-- The bytes of a section of an object that no fixup fills in are the object's, where it stands.
abbrev pub HasOwn : Image → Laid → ℕ → Type 0
HasOwn image l section =
    (i : ℕ) → i < length (own_bytes l section) → list_any (fills section i) l.object.fixups ≡ false →
    laid image.sections (place_in l.home section i) ≡ slice_index (own_bytes l section) i

-- Neither the code nor the data of an object is at a place.
abbrev pub IsOutside : ℕ → Laid → Type 0
IsOutside x l =
    ((x < l.home.code) ⊎ (l.home.code + length l.object.code ≤ x))
    × ((x < l.home.contents) ⊎ (l.home.contents + length l.object.contents ≤ x))

-- ---- fixups

-- A symbol of an object stands at a place: its own, or that of the definition that another object has of its name.
pub data StandsAt (ls : List Laid) (l : Laid) (s : Symbol) (place : ℕ) : Type 0 where
  own : s.kind ≢ 0 → place ≡ place_in l.home s.kind s.offset → StandsAt ls l s place
  other : s.kind ≡ 0 → (m : Laid) → (t : Symbol) → Contains ls m → Contains m.object.symbols t → is_definition t ≡ true → t.name ≡ s.name
      → place ≡ place_in m.home t.kind t.offset → StandsAt ls l s place

-- the number in n bytes at a place of an image
abbrev pub number_at : Image → ℕ → ℕ → ℕ
number_at image place n = little_endian (laid image.sections) place n

-- A fixup holds an address, base and place, or a distance: how many words or bytes the place is behind that from which the
-- distance counts, as a signed number.
pub data Holds (base : ℕ) (image : Image) (l : Laid) (f : Fixup) (place : ℕ) : Type 0 where
  address : f.kind ≡ 5 → number_at image (place_of l.home f) 8 ≡ base + place → Holds base image l f place
  words : f.kind ≡ 1
      → pos place ≡ pos (place_in l.home f.section f.from) +ℤ (signed_at 8 (number_at image (place_of l.home f) 1) *ℤ pos 2)
      → Holds base image l f place
  bytes : 2 ≤ f.kind → f.kind ≤ 4
      → pos place ≡ pos (place_in l.home f.section f.from)
      +ℤ signed_at (8 * width f.kind) (number_at image (place_of l.home f) (width f.kind))
      → Holds base image l f place

-- A fixup holds what the place of its symbol makes of it.
abbrev pub IsFilled : ℕ → Image → List Laid → Laid → Fixup → Type 0
IsFilled base image ls l f =
    (s : Symbol) × (place : ℕ) × (slice_get l.object.symbols f.symbol ≡ Some s) × StandsAt ls l s place × Holds base image l f place

-- ---- relocations, and the entry

-- A place is that of an address.
abbrev pub IsAddress : List Laid → ℕ → Type 0
IsAddress ls x = (l : Laid) × (f : Fixup) × Contains ls l × Contains l.object.fixups f × (f.kind ≡ 5) × (x ≡ place_of l.home f)

-- A place is that of a definition of a name in the code, at an even offset below the length of its object's code.
abbrev pub IsEntry : List Laid → List ℕ → ℕ → Type 0
IsEntry ls name x =
    (l : Laid) × (s : Symbol) × Contains ls l × Contains l.object.symbols s × (is_definition s ≡ true) × (s.name ≡ name) × (s.kind ≡ 1)
    × (s.offset % 2 ≡ 0) × (s.offset < length l.object.code) × (x ≡ place_in l.home 1 s.offset)

-- ---- all

-- An image is what objects are linked to by a plan: it is in the linker's layout; its sections end where the code and the data
-- of the objects end; the base and the subsystem are the plan's; each byte of an object that no fixup fills in stands where the
-- object does, bytes of no object are zeros, and each fixup holds what its symbol makes of it; the relocations are the places
-- of addresses; and the image is entered at the symbol that the plan names.
pub record Linked (objects : List Object) (plan : LinkPlan) (image : Image) : Type 0 where
  pub layout : IsLinked image
  pub ends : (text contents : List ℕ) → image.sections ≡ linked_sections text contents
      → (code_start + length text ≡ code_end code_start objects)
      × (contents_start objects + length contents ≡ contents_end (contents_start objects) objects)
  pub base : image.base ≡ plan.base
  pub subsystem : image.subsystem ≡ plan.subsystem
  pub code : (l : Laid) → Contains (laid_objects objects) l → HasOwn image l 1
  pub contents : (l : Laid) → Contains (laid_objects objects) l → HasOwn image l 2
  pub between : (x : ℕ) → ((l : Laid) → Contains (laid_objects objects) l → IsOutside x l) → laid image.sections x ≡ 0
  pub fixups : (l : Laid) (f : Fixup) → Contains (laid_objects objects) l → Contains l.object.fixups f
      → IsFilled plan.base image (laid_objects objects) l f
  pub relocs : (x : ℕ) → Contains image.relocs x ↔ IsAddress (laid_objects objects) x
  pub entry : IsEntry (laid_objects objects) plan.entry image.entry
