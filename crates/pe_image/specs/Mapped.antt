-- Meaning: the bytes of an image in memory: its sections at their places, zeros elsewhere, and relocated numbers. PE/COFF
-- specification, "Section Table (Section Headers)" and "The .reloc Section (Image Only)".
use Rattle.std.specs.Prelude.{ℕ, ◌+◌, ◌-◌, ◌/◌, ◌%◌, ◌^◌, ◌<◌, Bool, ◌&&◌, List, nat_le, nat_lt, slice_index, Option}
use Rattle.std.specs.List.{find}
use Rattle.std.specs.Option.{option_map_or}
use Rattle.ebc_width.specs.Bytes.{little_endian}
use Rattle.pe_image.specs.declared.image.Image.{Image}
use Rattle.pe_image.specs.declared.image.Section.{Section}
use Rattle.ebc_width.specs.Width.{distance_of}

-- whether a section has the byte at a place
abbrev pub has_place : ℕ → Section → Bool
has_place x s = nat_le s.place x && nat_lt x (s.place + s.size)

-- a byte of a section, by its place: zeros follow the section's bytes
abbrev pub section_byte : ℕ → Section → ℕ
section_byte x s = slice_index s.bytes (x - s.place)

-- the byte at a place as the sections have it: 0 in no section
unfoldable pub laid : List Section → ℕ → ℕ
laid sections x = option_map_or (section_byte x) (find (has_place x) sections) 0

-- each place of an image has a byte
abbrev pub AreBytes : Image → Type 0
AreBytes image = (x : ℕ) → laid image.sections x < 256

-- whether a byte is one of the eight at a place
abbrev pub is_of : ℕ → ℕ → Bool
is_of x place = nat_le place x && nat_lt x (place + 8)

-- a byte of the number in the eight bytes at a place, once a distance is added to it modulo 2^64
abbrev pub moved_byte : (ℕ → ℕ) → ℕ → ℕ → ℕ → ℕ
moved_byte bytes distance x place = (little_endian bytes place 8 + distance) % 2 ^ 64 / 256 ^ (x - place) % 256

-- bytes once a distance is added to the number at each of these places
unfoldable pub moved : (ℕ → ℕ) → List ℕ → ℕ → ℕ → ℕ
moved bytes places distance x = option_map_or (moved_byte bytes distance x) (find (is_of x) places) (bytes x)

-- the byte at a place of an image that is loaded at a base
unfoldable pub mapped : Image → ℕ → ℕ → ℕ
mapped image base = moved (laid image.sections) image.relocs (distance_of base image.base)

-- the section that has the byte at a place
unfoldable pub section_with : Image → ℕ → Option Section
section_with image place = find (has_place place) image.sections

-- the byte at a place, as the file has it
abbrev pub image_byte : Image → ℕ → ℕ
image_byte image = laid image.sections

-- the place that the relocated eight bytes at a place name
unfoldable pub named_place : Image → ℕ → ℕ
named_place image p = distance_of (little_endian (image_byte image) p 8) image.base
