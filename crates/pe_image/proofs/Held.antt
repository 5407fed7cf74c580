-- An image that is read of a file's bytes has a byte at each place.
use Rattle.std.proofs.Common.{◌≡◌, ℕ, suc, ◌+◌, ◌-◌, ◌<◌, Bool, true, false, if◌then◌else◌, List, [], ◌∷◌, take, drop, min, get_or, subst}
use Rattle.std.proofs.Common.{arith, Option, Some, None, Ok}
use Rattle.std.specs.Prelude.{All}
use Rattle.std.specs.List.{filter, find}
use Rattle.std.specs.Option.{option_map_or}
use Rattle.std.proofs.lemmas.Grind.{common_steps}
use Rattle.std.proofs.lemmas.List.Elements.{All-map}
use Rattle.pe_image.specs.declared.fault.ImageFault.{ImageFault}
use Rattle.pe_image.specs.declared.image.Image.{Image}
use Rattle.pe_image.specs.declared.image.Section.{Section}
use Rattle.pe_image.specs.declared.section.SectionHeader.{SectionHeader}
use Rattle.pe_image.specs.Conditions.{conditions, first_fault}
use Rattle.pe_image.specs.Fields.{bytes_at}
use Rattle.pe_image.specs.Headers.{extent, sections}
use Rattle.pe_image.specs.Images.{image_in, image_of, image_unless, is_kept, kept_sections, section_of}
use Rattle.pe_image.specs.Mapped.{AreBytes, has_place, laid, section_byte}
use Rattle.pe_image.proofs.Sound.{ok_is}

-- ---- lists of bytes

abbrev pub IsBytes : List ℕ → Type 0
IsBytes bytes = (i : ℕ) → get_or bytes i 0 < 256

of_rest : (n : ℕ) (bytes : List ℕ) → IsBytes bytes → IsBytes (drop n bytes)
of_rest n bytes each i = grind (arith, common_steps, each (n + i))

of_front : (n : ℕ) (bytes : List ℕ) → IsBytes bytes → IsBytes (take n bytes)
of_front n bytes each i = grind (arith, common_steps, each i)

-- ---- sections

section_bytes : (file : List ℕ) (s : SectionHeader) → IsBytes file → IsBytes (section_of file s).bytes
unfolding section_of bytes_at
section_bytes file s each = of_front (min s.raw_size (extent s)) (drop s.raw_at file) (of_rest s.raw_at file each)

kept_bytes : (file : List ℕ) → IsBytes file → All (λ (s : Section). IsBytes s.bytes) (kept_sections file)
unfolding kept_sections
kept_bytes file each = All-map (λ (s : Section). IsBytes s.bytes) (section_of file) (filter (is_kept file) (sections file))
    (λ i d within. section_bytes file _ each)

-- the byte at a place of sections whose bytes are bytes
pub laid_byte : (ss : List Section) → All (λ (s : Section). IsBytes s.bytes) ss → (x : ℕ) → laid ss x < 256
unfolding laid
laid_byte [] all x = omega arith
laid_byte (s ∷ ss) all x = go (has_place x s) (laid_byte ss (λ i d within. all (suc i) d (omega (arith, within))) x)
  where
    go : (b : Bool) → option_map_or (section_byte x) (find (has_place x) ss) 0 < 256
        → option_map_or (section_byte x) (if b then Some s else find (has_place x) ss) 0 < 256
    go true rest = all 0 s (omega arith) (x - s.place)
    go false rest = rest

-- ---- all

pub AreBytes-of : (file : List ℕ) (image : Image) → IsBytes file → image_of file ≡ Ok image → AreBytes image
unfolding image_of image_in
AreBytes-of file image each is = by_fault (first_fault (conditions file)) is
  where
    by_fault : (f : Option (ImageFault × ℕ)) → image_unless file f ≡ Ok image → AreBytes image
    by_fault None e = subst AreBytes (ok_is (image_in file) image e) (laid_byte (kept_sections file) (kept_bytes file each))
    by_fault (Some x) e = absurd cc
