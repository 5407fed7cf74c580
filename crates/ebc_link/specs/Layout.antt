-- Meaning: where the code and the data of objects stand in an image. docs/LINKING.md, "Layout". A place is an offset from the
-- image's base. Code begins at a multiple of 0x1000, and so do data: a place is a multiple of 2 or 8 where its offset in the
-- section is.
use Rattle.std.specs.Prelude.{ℕ, ◌+◌, ◌-◌, List, [], ◌∷◌, ◌++◌, length, nat_eq, if◌then◌else◌}
use Rattle.ebc_object.specs.declared.object.Object.{Object}
use Rattle.pe_image.specs.Files.{rounded, zeros}
use Rattle.ebc_link.specs.declared.layout.Home.{Home}

-- where the code begins
abbrev pub code_start : ℕ
code_start = 0x1000

-- where the code of objects ends that stands behind a place, each from an even place on
unfoldable pub code_end : ℕ → List Object → ℕ
code_end code [] = code
code_end code (o ∷ os) = code_end (rounded 2 code + length o.code) os

-- where their data end that stand behind a place, each from a multiple of 8 on
unfoldable pub contents_end : ℕ → List Object → ℕ
contents_end contents [] = contents
contents_end contents (o ∷ os) = contents_end (rounded 8 contents + length o.contents) os

-- where the data begin: at the next multiple of 0x1000 behind the code
unfoldable pub contents_start : List Object → ℕ
contents_start objects = rounded 0x1000 (code_end code_start objects)

-- where each object stands behind these places
unfoldable pub homes_from : ℕ → ℕ → List Object → List Home
homes_from code contents [] = []
homes_from code contents (o ∷ os) =
    record { code = rounded 2 code; contents = rounded 8 contents }
    ∷ homes_from (rounded 2 code + length o.code) (rounded 8 contents + length o.contents) os

unfoldable pub homes_of : List Object → List Home
homes_of objects = homes_from code_start (contents_start objects) objects

-- An object, and where it stands.
pub record Laid : Type 0 where
  pub object : Object
  pub home : Home

abbrev pub laid_with : List Object → List Home → List Laid
laid_with (o ∷ os) (h ∷ hs) = record { object = o; home = h } ∷ laid_with os hs
laid_with os hs = []

-- objects, and where they stand
unfoldable pub laid_objects : List Object → List Laid
laid_objects objects = laid_with objects (homes_of objects)

-- where a section of an object begins: 2 is the data, and any other the code
abbrev pub start_of : Home → ℕ → ℕ
start_of h section = if nat_eq section 2 then h.contents else h.code

-- the place of an offset in a section of an object
abbrev pub place_in : Home → ℕ → ℕ → ℕ
place_in h section offset = start_of h section + offset

-- ---- bytes

-- the bytes of a section of each object, where the object stands, from a place on, with zeros between
unfoldable pub section_from : ℕ → (Laid → List ℕ) → ℕ → List Laid → List ℕ
section_from section bytes end [] = []
section_from section bytes end (l ∷ ls) =
    zeros (start_of l.home section - end)
    ++ (bytes l ++ section_from section bytes (start_of l.home section + length (bytes l)) ls)

-- those of the code, and those of the data
abbrev pub text_from : (Laid → List ℕ) → ℕ → List Laid → List ℕ
text_from bytes end ls = section_from 1 bytes end ls

abbrev pub contents_from : (Laid → List ℕ) → ℕ → List Laid → List ℕ
contents_from bytes end ls = section_from 2 bytes end ls
