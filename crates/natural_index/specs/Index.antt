-- Meaning: Natural indexes: the raw numbers that spell them, and what they count. UEFI specification, chapter "EFI Byte Code
-- Virtual Machine", section "Natural Indexing".
use Rattle.std.specs.Prelude.{◌≡◌, ◌⊎◌, ℕ, ◌+◌, ◌-◌, ◌*◌, ◌/◌, ◌%◌, ◌^◌, ◌<◌, ◌≤◌, Bool, true, false, ◌==◌, nat_le, Option, Some, None}
use Rattle.std.specs.Prelude.{if◌then◌else◌, ℤ, pos, neg_ℤ, ◌+ℤ◌, ◌*ℤ◌}
use Rattle.natural_index.specs.declared.Index.{Index}

-- An index has 16, 32 or 64 bits.
abbrev pub IsIndexSize : ℕ → Type 0
IsIndexSize bits = (bits ≡ 16) ⊎ (bits ≡ 32) ⊎ (bits ≡ 64)

-- a sign or another flag as the bit that holds it
abbrev pub bit : Bool → ℕ
bit false = 0
bit true = 1

-- how many of the low bits count natural units
abbrev pub natural_bits : ℕ → ℕ → ℕ
natural_bits bits tag = tag * bits / 8

-- At this size the fields under a tag t hold n natural units and c bytes.
pub record HasRoom (bits t n c : ℕ) : Type 0 where
  pub tag : t < 8
  pub split : natural_bits bits t ≤ bits - 4
  pub units : n < 2 ^ natural_bits bits t
  pub bytes : c < 2 ^ (bits - 4 - natural_bits bits t)

-- An index has a spelling of this size.
abbrev pub IsIndex : ℕ → Index → Type 0
IsIndex bits i = HasRoom bits i.tag i.units i.bytes

-- the raw number of an index: natural units lowest, then bytes, then the tag, and the sign on top
abbrev pub raw_of : ℕ → Index → ℕ
raw_of bits i =
    i.units + 2 ^ natural_bits bits i.tag * i.bytes + 2 ^ (bits - 4) * i.tag
    + 2 ^ (bits - 1) * bit i.neg

-- A raw number of this size spells an index.
pub record IsSpelled (bits raw : ℕ) (i : Index) : Type 0 where
  pub room : IsIndex bits i
  pub sum : raw ≡ raw_of bits i

-- the number in so many bits of a raw number, from a place on
abbrev pub field_at : ℕ → ℕ → ℕ → ℕ
field_at raw place width = raw / 2 ^ place % 2 ^ width

-- the tag of a raw number
abbrev pub tag_at : ℕ → ℕ → ℕ
tag_at bits raw = field_at raw (bits - 4) 3

-- the index whose sign, tag, units and bytes are the fields of a raw number
unfoldable pub fields_of : ℕ → ℕ → Index
fields_of bits raw = record {
  neg = field_at raw (bits - 1) 1 == 1;
  tag = tag_at bits raw;
  units = field_at raw 0 (natural_bits bits (tag_at bits raw));
  bytes =
      field_at raw (natural_bits bits (tag_at bits raw)) (bits - 4 - natural_bits bits (tag_at bits raw));
}

-- the index that a raw number spells: none where the tag wants too many bits, as tag 7 of 16 bits
abbrev pub index_of : ℕ → ℕ → Option Index
index_of bits raw =
    if nat_le (natural_bits bits (tag_at bits raw)) (bits - 4) then Some (fields_of bits raw) else None

-- No two indexes are spelled by one raw number.
abbrev pub OneIndex : Type 0
OneIndex =
    (bits raw : ℕ) (i j : Index) → IsIndexSize bits → IsSpelled bits raw i → IsSpelled bits raw j → i ≡ j

-- An index is read from the number that spells it.
abbrev pub ReadsSpelled : Type 0
ReadsSpelled =
    (bits raw : ℕ) (i : Index) → IsIndexSize bits → IsSpelled bits raw i → index_of bits raw ≡ Some i

-- A number spells the index that is read from it.
abbrev pub SpellsRead : Type 0
SpellsRead =
    (bits raw : ℕ) (i : Index) → IsIndexSize bits → raw < 2 ^ bits → index_of bits raw ≡ Some i
    → IsSpelled bits raw i

-- a number, negated under a sign
abbrev pub signed : Bool → ℕ → ℤ
signed false n = pos n
signed true n = neg_ℤ (pos n)

-- natural units and bytes, both negated under a sign
abbrev pub pair_of : Index → ℤ × ℤ
pair_of i = (signed i.neg i.units, signed i.neg i.bytes)

-- the bytes that an index stands for where a natural unit has so many
abbrev pub index_value : ℕ → Index → ℤ
index_value width i = ((pair_of i).0 *ℤ pos width) +ℤ (pair_of i).1
