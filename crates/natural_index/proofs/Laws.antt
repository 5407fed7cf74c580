-- A raw number is read as the index that it spells, and spells the index that is read from it.
use Rattle.std.proofs.Common.{◌≡◌, ℕ, ◌+◌, ◌-◌, ◌*◌, ◌/◌, ◌%◌, ◌^◌, ◌<◌, ◌≤◌, Bool, true, false, eqb, bit_or, refl, arith, ap, sym, subst}
use Rattle.std.proofs.Common.{◌∙◌, Some, None, if◌then◌else◌}
use Rattle.std.proofs.Math.Nat.{mod-eq_of_lt}
use Rattle.std.proofs.lemmas.Bool.{le-leb, leb-true}
use Rattle.std.proofs.lemmas.Nat.{mod_below, pow_pos}
use Rattle.natural_index.specs.Index.{bit, natural_bits, IsIndexSize, HasRoom, IsIndex, IsSpelled, OneIndex, ReadsSpelled, SpellsRead}
use Rattle.natural_index.specs.Index.{raw_of, field_at, tag_at, fields_of, index_of}
use Rattle.natural_index.specs.declared.Index.{Index}
use Rattle.natural_index.proofs.Fields.{joined, joined_below, field_at-joined, field_at-below, field_at-lowest, mod-fields, kept_below}

some_same : (i j : Index) → Some i ≡ Some j → i ≡ j
some_same i j e = cc

chosen : (room : Bool) (i j : Index) → (if room then Some i else None) ≡ Some j → (room ≡ true) × (i ≡ j)
chosen true i j e = (refl, some_same i j e)
chosen false i j e = cc

bit_below : (b : Bool) → bit b < 2 ^ 1
bit_below true = omega arith
bit_below false = omega arith

bit_again : (b : Bool) → eqb (bit b) 1 ≡ b
bit_again true = refl
bit_again false = refl

bit_of_field : (n : ℕ) → n < 2 ^ 1 → bit (eqb n 1) ≡ n
bit_of_field n below = grind arith

-- units and bytes alone
counts : ℕ → Index → ℕ
counts bits i = i.units + 2 ^ natural_bits bits i.tag * i.bytes

counts_below : (bits : ℕ) (i : Index) → IsIndex bits i → counts bits i < 2 ^ (bits - 4)
unfolding counts
counts_below bits i room =
    let k : ℕ = natural_bits bits i.tag in
    joined_below i.units k i.bytes (bits - 4 - k) (bits - 4) (omega (arith, room.split)) room.units room.bytes

unsigned_below : (bits : ℕ) (i : Index) → 4 ≤ bits → IsIndex bits i → counts bits i + 2 ^ (bits - 4) * i.tag < 2 ^ (bits - 1)
unsigned_below bits i some room =
    joined_below (counts bits i) (bits - 4) i.tag 3 (bits - 1) (omega arith) (counts_below bits i room) (omega (arith, room.tag))

-- a raw number has no more than its bits
pub raw_below : (bits : ℕ) (i : Index) → 4 ≤ bits → IsIndex bits i → raw_of bits i < 2 ^ bits
unfolding counts
raw_below bits i some room =
    joined_below (counts bits i + 2 ^ (bits - 4) * i.tag) (bits - 1) (bit i.neg) 1 bits (omega arith) (unsigned_below bits i some room)
    (bit_below i.neg)

sign_again : (bits : ℕ) (i : Index) → 4 ≤ bits → IsIndex bits i → field_at (raw_of bits i) (bits - 1) 1 ≡ bit i.neg
unfolding counts
sign_again bits i some room =
    field_at-joined (counts bits i + 2 ^ (bits - 4) * i.tag) (bits - 1) (bit i.neg) 1 (unsigned_below bits i some room) (bit_below i.neg)

tag_again : (bits : ℕ) (i : Index) → 4 ≤ bits → IsIndex bits i → tag_at bits (raw_of bits i) ≡ i.tag
unfolding counts
tag_again bits i some room =
    field_at-below (counts bits i + 2 ^ (bits - 4) * i.tag) (bits - 1) (bit i.neg) (bits - 4) 3 (omega arith)
    ∙ field_at-joined (counts bits i) (bits - 4) i.tag 3 (counts_below bits i room) (omega (arith, room.tag))

-- a field among units and bytes
count_again : (bits : ℕ) (i : Index) (place width : ℕ) → 4 ≤ bits → width + place ≤ bits - 4
    → field_at (raw_of bits i) place width ≡ field_at (counts bits i) place width
unfolding counts
count_again bits i place width some within =
    field_at-below (counts bits i + 2 ^ (bits - 4) * i.tag) (bits - 1) (bit i.neg) place width (omega arith)
    ∙ field_at-below (counts bits i) (bits - 4) i.tag place width within

units_again : (bits : ℕ) (i : Index) → 4 ≤ bits → IsIndex bits i → field_at (raw_of bits i) 0 (natural_bits bits i.tag) ≡ i.units
unfolding counts
units_again bits i some room =
    let k : ℕ = natural_bits bits i.tag in
    count_again bits i 0 k some (omega (arith, room.split))
    ∙ (field_at-below i.units k i.bytes 0 k (omega arith) ∙ (field_at-lowest i.units k ∙ mod-eq_of_lt room.units))

bytes_again : (bits : ℕ) (i : Index) → 4 ≤ bits → IsIndex bits i
    → field_at (raw_of bits i) (natural_bits bits i.tag) (bits - 4 - natural_bits bits i.tag) ≡ i.bytes
unfolding counts
bytes_again bits i some room =
    let k : ℕ = natural_bits bits i.tag in
    count_again bits i k (bits - 4 - k) some (omega (arith, room.split))
    ∙ field_at-joined i.units k i.bytes (bits - 4 - k) room.units room.bytes

fields_again : (bits : ℕ) (i : Index) → 4 ≤ bits → IsIndex bits i → fields_of bits (raw_of bits i) ≡ i
unfolding fields_of
fields_again bits i some room =
    rw (
      tag_again bits i some room,
      sign_again bits i some room,
      bit_again i.neg,
      units_again bits i some room,
      bytes_again bits i some room,
    ) refl

-- an index is read from the number that it is written as
pub index_again : (bits : ℕ) (i : Index) → 4 ≤ bits → IsIndex bits i → index_of bits (raw_of bits i) ≡ Some i
index_again bits i some room =
    rw (tag_again bits i some room, le-leb _ _ room.split) (ap Some (fields_again bits i some room))

-- An index is read from the number that spells it.
pub reads_spelled : ReadsSpelled
reads_spelled bits raw i size spelling = rw spelling.sum (index_again bits i (omega (arith, size)) spelling.room)

-- a number spells the index of its fields
pub spelled : (bits raw : ℕ) → 4 ≤ bits → raw < 2 ^ bits → natural_bits bits (tag_at bits raw) ≤ bits - 4
    → IsSpelled bits raw (fields_of bits raw)
unfolding fields_of
spelled bits raw some within split =
    let k : ℕ = natural_bits bits (tag_at bits raw) in
    let sign : field_at raw (bits - 1) 1 < 2 ^ 1 = mod_below _ (2 ^ 1) (pow_pos 1) in
    let all : raw ≡ raw % 2 ^ (bits - 1) + 2 ^ (bits - 1) * field_at raw (bits - 1) 1 = sym (mod-eq_of_lt within)
    ∙ mod-fields raw (bits - 1) 1 bits (omega arith) in
    let unsigned : raw % 2 ^ (bits - 1) ≡ raw % 2 ^ (bits - 4) + 2 ^ (bits - 4) * tag_at bits raw =
    mod-fields raw (bits - 4) 3 (bits - 1) (omega arith) in
    let both : raw % 2 ^ (bits - 4) ≡ field_at raw 0 k + 2 ^ k * field_at raw k (bits - 4 - k) =
    mod-fields raw k (bits - 4 - k) (bits - 4) (omega (arith, split))
    ∙ ap (λ low. low + 2 ^ k * field_at raw k (bits - 4 - k)) (sym (field_at-lowest raw k)) in
    record {
      room = record {
        tag = mod_below _ (2 ^ 3) (pow_pos 3);
        split = split;
        units = mod_below _ (2 ^ k) (pow_pos k);
        bytes = mod_below _ (2 ^ (bits - 4 - k)) (pow_pos (bits - 4 - k));
      };
      sum = all ∙ rw (bit_of_field _ sign, unsigned, both) refl;
    }

-- A number spells the index that is read from it.
pub spells_read : SpellsRead
spells_read bits raw i size within reading =
    let read = chosen _ (fields_of bits raw) i reading in
    subst (IsSpelled bits raw) read.1 (spelled bits raw (omega (arith, size)) within (leb-true _ _ read.0))

-- a tag that leaves room is one of eight
tag_below : (bits t : ℕ) → IsIndexSize bits → natural_bits bits t ≤ bits - 4 → t < 8
tag_below bits t size split = grind (arith, size, split)

-- the fields put together
pub packed : (bits : ℕ) (i : Index) → 4 ≤ bits → bits ≤ 64 → IsIndex bits i
    → bit_or (bit_or (bit_or i.units (i.bytes * 2 ^ natural_bits bits i.tag % 2 ^ 64)) (i.tag * 2 ^ (bits - 4) % 2 ^ 64))
    (bit i.neg * 2 ^ (bits - 1) % 2 ^ 64) ≡ raw_of bits i
unfolding counts
packed bits i some most room =
    let k : ℕ = natural_bits bits i.tag in
    let both = joined i.units k i.bytes (bits - 4 - k) room.units room.bytes (omega (arith, room.split)) in
    let unsigned = joined (counts bits i) (bits - 4) i.tag 3 (counts_below bits i room) (omega (arith, room.tag)) (omega arith) in
    let all = joined (counts bits i + 2 ^ (bits - 4) * i.tag) (bits - 1) (bit i.neg) 1 (unsigned_below bits i some room) (bit_below i.neg)
    (omega arith) in
    rw (both, unsigned) all

-- fields whose upper bits are zero have room
pub has_room : (bits t n c : ℕ) → IsIndexSize bits → natural_bits bits t ≤ bits - 4 → n / 2 ^ natural_bits bits t ≡ 0
    → c / 2 ^ (bits - 4 - natural_bits bits t) ≡ 0 → HasRoom bits t n c
has_room bits t n c size split units bytes = record {
  tag = tag_below bits t size split;
  split = split;
  units = kept_below n _ units;
  bytes = kept_below c _ bytes;
}

-- No two indexes are spelled by one raw number.
pub one_index : OneIndex
one_index bits raw i j size a b =
    let first = reads_spelled bits raw i size a in
    let second = reads_spelled bits raw j size b in
    some_same i j (sym first ∙ second)
