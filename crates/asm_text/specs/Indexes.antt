-- Meaning: Natural indexes as they are written and read: docs/ASSEMBLY.md, "Indexes".
use Rattle.std.specs.Prelude.{ℕ, ◌+◌, ◌-◌, ◌^◌, ◌/◌, zero, suc, List, [], ◌∷◌, ◌++◌, length, Option, Some, None, option_map, Bool, true}
use Rattle.std.specs.Prelude.{false, not, nat_le, nat_lt, ◌==◌, ◌&&◌, ◌||◌, if◌then◌else◌, Result, Err}
use Rattle.std.specs.Fmt.{decimal}
use Rattle.natural_index.specs.declared.Index.{Index}
use Rattle.natural_index.specs.Index.{natural_bits, raw_of, index_of}
use Rattle.ebc_base.specs.Steps.{◌>>=◌, or_else}
use Rattle.asm_text.specs.declared.fault.AsmFault.{AsmFault}
use Rattle.asm_text.specs.declared.fault.AsmFault.TheVariants as faults
use Rattle.asm_text.specs.Faults.{both}
use Rattle.asm_text.specs.Numbers.{digits_from, count, hex_text}
use Rattle.asm_text.specs.Splits.{is_empty, lacks, until}

-- ---- the smallest spelling

-- whether the fields under a tag hold both numbers
abbrev pub has_room : ℕ → ℕ → ℕ → ℕ → Bool
has_room bits t n c =
    nat_le (natural_bits bits t) (bits - 4) && nat_lt n (2 ^ natural_bits bits t)
    && nat_lt c (2 ^ (bits - 4 - natural_bits bits t))

-- the least of so many tags, from one on, whose fields hold both
unfoldable pub least_tag : ℕ → ℕ → ℕ → ℕ → ℕ → Option ℕ
least_tag zero t bits n c = None
least_tag (suc k) t bits n c = if has_room bits t n c then Some t else least_tag k (t + 1) bits n c

-- the index with both numbers and the least tag that has room for them
unfoldable pub smallest_of : ℕ → Bool → ℕ → ℕ → Option Index
smallest_of bits neg n c =
    option_map (λ t. record { neg = neg; tag = t; units = n; bytes = c }) (least_tag 8 0 bits n c)

abbrev pub is_tag : ℕ → Option Index → Bool
is_tag t None = false
is_tag t (Some i) = i.tag == t

abbrev pub is_minus_zero : Bool → ℕ → ℕ → Bool
is_minus_zero neg n c = neg && n == 0 && c == 0

-- whether an index is written by its numbers: it is what they spell, and not minus zero
abbrev pub by_numbers : ℕ → Index → Bool
by_numbers bits i =
    not (is_minus_zero i.neg i.units i.bytes) && is_tag i.tag (smallest_of bits i.neg i.units i.bytes)

-- ---- writing

abbrev pub sign : Bool → ℕ
sign false = 43
sign true = 45

-- `(+n,+c)` or `(-n,-c)`
abbrev pub pair_text : Bool → ℕ → ℕ → List ℕ
pair_text neg n c = 40 ∷ sign neg ∷ (decimal n ++ (44 ∷ sign neg ∷ (decimal c ++ 41 ∷ [])))

-- `#0x` and all the digits of the raw number
abbrev pub raw_text : ℕ → ℕ → List ℕ
raw_text bits n = 35 ∷ 48 ∷ 120 ∷ hex_text (bits / 4) n

-- an index by its numbers where they spell it, and else by its raw number
unfoldable pub index_text : ℕ → Index → List ℕ
index_text bits i =
    if by_numbers bits i then pair_text i.neg i.units i.bytes else raw_text bits (raw_of bits i)

-- ---- reading

-- all the digits of a raw number
abbrev pub raw_index : ℕ → List ℕ → Result Index AsmFault
raw_index bits digits =
    if length digits == bits / 4
    then or_else faults.Operand (digits_from 16 0 digits) >>= (λ n. or_else faults.Index (index_of bits n))
    else Err faults.Operand

-- the smallest spelling of both numbers
abbrev pub pair_index : ℕ → Bool → ℕ × ℕ → Result Index AsmFault
pair_index bits neg p =
    if is_minus_zero neg p.0 p.1 then Err faults.Index else or_else faults.Index (smallest_of bits neg p.0 p.1)

-- one sign, twice
abbrev pub are_signs : ℕ → ℕ → Bool
are_signs s t = s == t && (s == 43 || s == 45)

-- behind the second sign: the bytes, the closing parenthesis and nothing more
abbrev pub bytes_part : ℕ → ℕ → List ℕ → ℕ → List ℕ × List ℕ → Result Index AsmFault
bytes_part bits s n t (c, after) =
    if is_empty after && are_signs s t && lacks 40 n && lacks 41 n && lacks 40 c && lacks 44 c
    then both (count n) (count c) >>= pair_index bits (s == 45)
    else Err faults.Operand

-- behind the comma: the second sign and what follows it
abbrev pub second_part : ℕ → ℕ → List ℕ × List ℕ → Result Index AsmFault
second_part bits s (n, []) = Err faults.Operand
second_part bits s (n, t ∷ tail) = or_else faults.Operand (until 41 tail) >>= bytes_part bits s n t

-- behind the opening parenthesis: the first sign, the units and the comma
abbrev pub first_part : ℕ → List ℕ → Result Index AsmFault
first_part bits [] = Err faults.Operand
first_part bits (s ∷ rest) = or_else faults.Operand (until 44 rest) >>= second_part bits s

-- behind `#`
abbrev pub raw_part : ℕ → List ℕ → Result Index AsmFault
raw_part bits (z ∷ x ∷ digits) = if z == 48 && x == 120 then raw_index bits digits else Err faults.Operand
raw_part bits _ = Err faults.Operand

-- an index of so many bits, in either way
unfoldable pub index : ℕ → List ℕ → Result Index AsmFault
index bits [] = Err faults.Operand
index bits (b ∷ bs) =
    if b == 35 then raw_part bits bs else if b == 40 then first_part bits bs else Err faults.Operand
