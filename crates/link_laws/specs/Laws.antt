-- For proofs: which images are linked again from their listings, and that they are. docs/ASSEMBLY.md, "Listings", says what is
-- listed and what a source stands for; docs/LINKING.md, what objects are linked to.
use Rattle.std.specs.Prelude.{◌≡◌, ℕ, ◌+◌, ◌%◌, ◌^◌, ◌<◌, ◌≤◌, true, false, List, [], ◌∷◌, length, All, Ok}
use Rattle.ebc_object.specs.Objects.{IsObject}
use Rattle.ebc_object.specs.declared.object.Object.{Object}
use Rattle.asm_text.specs.Names.{label_text}
use Rattle.ebc_asm.specs.Sources.{object_of}
use Rattle.pe_image.specs.Linked.{IsLinked, linked_sections}
use Rattle.pe_image.specs.Mapped.{AreBytes, named_place}
use Rattle.pe_image.specs.declared.image.Image.{Image}
use Rattle.ebc_disasm.specs.Listings.{in_section, is_cut, listing_of}
use Rattle.ebc_link.specs.declared.plan.LinkPlan.{LinkPlan}
use Rattle.ebc_link.specs.Links.{links}

-- An image in the linker's layout whose listing is linked to it again. It is one of some code and some data, each of 1 MiB at
-- most; its base and its subsystem are those of a plan; it is entered in the code; each relocated number names a place in a
-- section; and no label lies inside the eight bytes of a relocated number.
pub record IsListable (image : Image) : Type 0 where
  pub linked : IsLinked image
  pub text : List ℕ
  pub contents : List ℕ
  pub sections : image.sections ≡ linked_sections text contents
  pub text_size : length text ≤ 2 ^ 20
  pub contents_size : length contents ≤ 2 ^ 20
  pub bytes : AreBytes image
  pub base : image.base % 65536 ≡ 0
  pub base_small : image.base < 2 ^ 32
  pub subsystem : (10 ≤ image.subsystem) × (image.subsystem ≤ 12)
  pub entry : (0x1000 ≤ image.entry) × (image.entry < 0x1000 + length text)
  pub named : All (λ r. in_section image (named_place image r) ≡ true) image.relocs
  pub uncut : All (λ r. is_cut image r 8 ≡ false) image.relocs

-- The listing of such an image is a source: it stands for an object, and that object alone is linked to the very image, by a plan
-- with its base, its subsystem and, as the entry, the label of the place where it is entered.
abbrev pub ListsAgain : Type 0
ListsAgain =
    (image : Image) → IsListable image → (o : Object) × (object_of (listing_of image) ≡ Ok o) × IsObject o
    × ((plan : LinkPlan) → plan.base ≡ image.base → plan.subsystem ≡ image.subsystem → plan.entry ≡ label_text image.entry
    → links (o ∷ []) plan ≡ Ok image)
