-- For proofs: what is listed at each place of the code of an image, label lines aside: docs/ASSEMBLY.md, "What is listed".
use Rattle.std.specs.Prelude.{[], ℕ, zero, suc, ◌+◌, ◌-◌, ◌<◌, ◌^◌, List, ◌∷◌, Bool, true, false, if◌then◌else◌}
use Rattle.std.specs.List.{flat_map}
use Rattle.pe_image.specs.declared.image.Image.{Image}
use Rattle.pe_image.specs.declared.image.Section.{Section}
use Rattle.asm_text.specs.declared.listing.Listed.{Listed}
use Rattle.asm_text.specs.declared.listing.Listed.TheVariants as listed
use Rattle.asm_text.specs.Writing.{ListedFits}
use Rattle.ebc_disasm.specs.declared.code.Item.{Item}
use Rattle.ebc_disasm.specs.Listings.{bytes_of, has_code, item_at}

-- what is listed at a place
abbrev pub item_of : ℕ → Listed × ℕ → Item
item_of x item = record { place = x; count = item.1; line = item.0 }

-- What is listed of the code from a place on up to the end of its section, of which the first `inside` bytes belong to what is
-- listed before them.
unfoldable pub items_from : Image → ℕ → ℕ → List ℕ → List Item
items_from image inside x [] = []
items_from image (suc inside) x (b ∷ bytes) = items_from image inside (x + 1) bytes
items_from image zero x (b ∷ bytes) =
    item_of x (item_at image true x (b ∷ bytes)) ∷ items_from image ((item_at image true x (b ∷ bytes)).1 - 1) (x + 1) bytes

-- what is listed of a section, where it has code
unfoldable pub section_items : Image → Section → List Item
section_items image s = if has_code s then items_from image 0 s.place (bytes_of s) else []

-- what is listed of the code of an image
unfoldable pub items_of : Image → List Item
items_of image = flat_map (section_items image) image.sections

-- a line says bytes: it names no section and no place
abbrev pub says_bytes : Listed → Bool
says_bytes listed.Code = false
says_bytes listed.Data = false
says_bytes (listed.Label place) = false
says_bytes (listed.Global place) = false
says_bytes line = true

-- the line of an item
abbrev pub line_of : Item → Listed
line_of item = item.line

-- An item may be printed, and lies where images do.
pub record IsItem (item : Item) : Type 0 where
  pub line : ListedFits item.line
  pub end : item.place + item.count < 2 ^ 23
