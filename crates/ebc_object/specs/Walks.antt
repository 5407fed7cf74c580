-- For proofs: what the reading of symbols and fixups keeps, and the conditions as they are tried. No caller sees it.
use Rattle.std.specs.Prelude.{◌≡◌, ℕ, ◌-◌, ◌≤◌, ◌^◌, Bool, true, ◌&&◌, List, length, nat_le, nat_lt, slice_get}
use Rattle.std.specs.List.{list_all}
use Rattle.std.specs.Option.{option_map_or}
use Rattle.ebc_object.specs.declared.head.Head.{Head}
use Rattle.ebc_object.specs.declared.object.Fixup.{Fixup}
use Rattle.ebc_object.specs.declared.object.Object.{Object}
use Rattle.ebc_object.specs.declared.object.Symbol.{Symbol}
use Rattle.ebc_base.specs.Names.{is_name}
use Rattle.ebc_object.specs.Objects.{most, section_bytes, width}
use Rattle.ebc_object.specs.Readings.{ends_before, has_zeros}

-- A head names no part that is too large.
pub record IsSmall (h : Head) : Type 0 where
  pub code : h.code ≤ most
  pub contents : h.contents ≤ most
  pub symbols : h.symbols ≤ most
  pub fixups : h.fixups ≤ most

-- whether the last of some fixups, where there is one, ends before an offset of a section
abbrev pub last_ends_before : ℕ → ℕ → List Fixup → Bool
last_ends_before section offset fixups = option_map_or (ends_before section offset) (slice_get fixups (length fixups - 1)) true

-- All of these fixups end where the last of them ends.
pub record HasLast (fixups : List Fixup) : Type 0 where
  pub last : (section offset : ℕ) → list_all (ends_before section offset) fixups ≡ last_ends_before section offset fixups

-- ---- the conditions on an object, as tests

abbrev pub are_few : Object → Bool
are_few o =
    nat_le (length o.code) most && (nat_le (length o.contents) most && (nat_le (length o.symbols) most && nat_le (length o.fixups) most))

unfoldable pub is_symbol : List ℕ → List ℕ → Symbol → Bool
is_symbol code contents s =
    is_name s.name && (nat_le s.kind 2 && (nat_le s.global 1 && nat_le s.offset (length (section_bytes code contents s.kind))))

unfoldable pub is_fixup : List ℕ → List ℕ → ℕ → Fixup → Bool
is_fixup code contents symbols f =
    nat_le 1 f.section && (nat_le f.section 2 && (nat_le 1 f.kind && (nat_le f.kind 5
    && (has_zeros (section_bytes code contents f.section) f.offset (width f.kind) && (nat_lt f.symbol symbols && nat_lt f.from (2 ^ 32))))))
