-- Meaning: what fixups fill in. docs/LINKING.md, "Fixups"; docs/OBJECTS.md has the kinds of fixups: 1 to 4 are distances, of
-- which 1 counts words of two bytes, and 5 is an address.
use Rattle.std.specs.Prelude.{ℕ, ◌+◌, ◌-◌, ◌*◌, ◌^◌, Bool, true, not, ◌&&◌, List, [], ◌∷◌, ◌++◌, length, map, filter, take, drop, Option}
use Rattle.std.specs.Prelude.{nat_eq, slice_index, ℤ, pos, negsuc, ◌-ℤ◌, int_div, int_rem, int_le, if◌then◌else◌}
use Rattle.std.specs.Int.{w64, to_le_bytes}
use Rattle.std.specs.List.{find, flat_map}
use Rattle.std.specs.Option.{option_map}
use Rattle.std.specs.Ordering.{int_eq}
use Rattle.ebc_width.specs.Width.{wrap64}
use Rattle.ebc_object.specs.Objects.{section_bytes, width}
use Rattle.ebc_object.specs.declared.object.Fixup.{Fixup}
use Rattle.ebc_link.specs.declared.layout.Home.{Home}
use Rattle.ebc_link.specs.Layout.{Laid, place_in}
use Rattle.ebc_link.specs.Symbols.{Definition, places_of}

-- where a fixup fills in bytes
abbrev pub place_of : Home → Fixup → ℕ
place_of h f = place_in h f.section f.offset

-- the place of the symbol of a fixup, by the places of all symbols
abbrev pub target_of : List ℕ → Fixup → ℕ
target_of places f = slice_index places f.symbol

-- how far the symbol is from where the distance counts
abbrev pub distance_to : List ℕ → Home → Fixup → ℤ
distance_to places h f = pos (target_of places f) -ℤ pos (place_in h f.section f.from)

-- a distance as a kind of fixup counts it
abbrev pub counted : ℕ → ℤ → ℤ
counted kind d = if nat_eq kind 1 then int_div d (pos 2) else d

-- whether a distance is a whole number of what a kind of fixup counts
abbrev pub is_whole : ℕ → ℤ → Bool
is_whole kind d = if nat_eq kind 1 then int_eq (int_rem d (pos 2)) (pos 0) else true

-- the largest signed number of n bytes; the smallest is one further from 0
abbrev pub largest : ℕ → ℕ
largest n = 2 ^ (8 * n - 1) - 1

-- whether n bytes hold a signed number
abbrev pub holds_signed : ℕ → ℤ → Bool
holds_signed n v = int_le (negsuc (largest n)) v && int_le v (pos (largest n))

-- whether the bytes of a fixup hold its distance; an address has none
unfoldable pub is_near : List ℕ → Home → Fixup → Bool
is_near places h f =
    if nat_eq f.kind 5 then true
    else is_whole f.kind (distance_to places h f) && holds_signed (width f.kind) (counted f.kind (distance_to places h f))

-- where the first fixup of an object is that isn't near
abbrev pub far_in : List Definition → Laid → Option ℕ
far_in ds l = option_map (place_of l.home) (find (λ (f : Fixup). not (is_near (places_of ds l) l.home f)) l.object.fixups)

-- ---- bytes

-- what a fixup fills in, as a number: an address in an image for this base, or a distance
unfoldable pub value_of : ℕ → List ℕ → Home → Fixup → ℤ
value_of base places h f = if nat_eq f.kind 5 then pos (base + target_of places f) else counted f.kind (distance_to places h f)

-- and as bytes, the lowest first: two's complement
unfoldable pub bytes_for : ℕ → List ℕ → Home → Fixup → List ℕ
bytes_for base places h f = take (width f.kind) (to_le_bytes w64 (wrap64 (value_of base places h f)))

-- bytes with others over them from an offset on
unfoldable pub put_at : List ℕ → ℕ → List ℕ → List ℕ
put_at bytes at over = take at bytes ++ (over ++ drop (at + length over) bytes)

-- bytes with those of fixups over them
unfoldable pub with_fixups : (Fixup → List ℕ) → List ℕ → List Fixup → List ℕ
with_fixups over bytes [] = bytes
with_fixups over bytes (f ∷ fs) = with_fixups over (put_at bytes f.offset (over f)) fs

-- the fixups of a section, by its number
abbrev pub in_section : ℕ → List Fixup → List Fixup
in_section section fs = filter (λ (f : Fixup). nat_eq f.section section) fs

-- the bytes of a section of an object once its fixups are filled in
abbrev pub filled_section : ℕ → ℕ → List Definition → Laid → List ℕ
filled_section section base ds l =
    with_fixups (bytes_for base (places_of ds l) l.home) (section_bytes l.object.code l.object.contents section)
    (in_section section l.object.fixups)

-- those of the code, and those of the data
abbrev pub code_of : ℕ → List Definition → Laid → List ℕ
code_of base ds l = filled_section 1 base ds l

abbrev pub contents_of : ℕ → List Definition → Laid → List ℕ
contents_of base ds l = filled_section 2 base ds l

-- ---- relocations: the places of addresses

-- whether a fixup fills in an address in a section
abbrev pub is_address : ℕ → Fixup → Bool
is_address section f = nat_eq f.kind 5 && nat_eq f.section section

abbrev pub relocs_in : ℕ → Laid → List ℕ
relocs_in section l = map (place_of l.home) (filter (is_address section) l.object.fixups)

-- those of the code of all objects, and behind them those of the data
unfoldable pub relocs_of : List Laid → List ℕ
relocs_of ls = flat_map (relocs_in 1) ls ++ flat_map (relocs_in 2) ls
