-- Meaning: numbers as they are written and read: docs/ASSEMBLY.md, "Numbers".
use Rattle.std.specs.Prelude.{ℕ, ◌+◌, ◌-◌, ◌*◌, ◌^◌, ◌/◌, ◌%◌, zero, suc, List, [], ◌∷◌, ◌++◌, Option, Some, None, option_and_then, is_some}
use Rattle.std.specs.Prelude.{Bool, true, false, not, nat_le, nat_lt, ◌==◌, ◌&&◌, if◌then◌else◌, ℤ, pos, negsuc, neg_ℤ, Result, Ok}
use Rattle.std.specs.Prelude.{bytes_eq, codes}
use Rattle.std.specs.List.{list_all}
use Rattle.ebc_base.specs.Steps.{or_else}
use Rattle.asm_text.specs.declared.fault.AsmFault.{AsmFault}
use Rattle.asm_text.specs.declared.fault.AsmFault.TheVariants as faults

-- ---- digits

-- what a digit counts: in decimal, or in hexadecimal in either case
abbrev pub digit_of : ℕ → ℕ → Option ℕ
digit_of radix b =
    if nat_le 48 b && nat_le b 57 then Some (b - 48)
    else if radix == 16 && nat_le 97 b && nat_le b 102 then Some (b - 87)
    else if radix == 16 && nat_le 65 b && nat_le b 70 then Some (b - 55)
    else None

-- the number with one more digit, below 2 ^ 64
abbrev pub with_digit : ℕ → ℕ → ℕ → Option ℕ
with_digit radix n b =
    option_and_then (λ d. if nat_lt (radix * n + d) (2 ^ 64) then Some (radix * n + d) else None) (digit_of radix b)

-- the number that goes on with these digits
unfoldable pub digits_from : ℕ → ℕ → List ℕ → Option ℕ
digits_from radix n [] = Some n
digits_from radix n (b ∷ bs) = option_and_then (λ m. digits_from radix m bs) (with_digit radix n b)

-- all of them are digits
abbrev pub are_digits : ℕ → List ℕ → Bool
are_digits radix text = list_all (λ b. is_some (digit_of radix b)) text

-- ---- reading

-- decimal digits, with a 0 in front only where it stands alone
unfoldable pub decimal_value : List ℕ → Option ℕ
decimal_value [] = None
decimal_value (b ∷ []) = digits_from 10 0 (b ∷ [])
decimal_value (b ∷ c ∷ bs) = if b == 48 then None else digits_from 10 0 (b ∷ c ∷ bs)

-- hexadecimal digits
unfoldable pub hex_value : List ℕ → Option ℕ
hex_value [] = None
hex_value (b ∷ bs) = digits_from 16 0 (b ∷ bs)

-- a number below 2 ^ 64 without a sign: in decimal, or after 0x in hexadecimal
unfoldable pub plain_value : List ℕ → Option ℕ
plain_value [] = None
plain_value (b ∷ []) = decimal_value (b ∷ [])
plain_value (b ∷ c ∷ bs) = if b == 48 && c == 120 then hex_value bs else decimal_value (b ∷ c ∷ bs)

-- a number from -2 ^ (bits - 1) to 2 ^ bits - 1, as a signed one of so many bits
abbrev pub fit : ℕ → Bool → ℕ → Option ℤ
fit bits false n =
    if nat_lt n (2 ^ (bits - 1)) then Some (pos n)
    else if nat_lt n (2 ^ bits) then Some (negsuc (2 ^ bits - 1 - n))
    else None
fit bits true n = if nat_le n (2 ^ (bits - 1)) then Some (neg_ℤ (pos n)) else None

-- a number of so many bits: a minus stands only before decimal digits
unfoldable pub number_value : ℕ → List ℕ → Option ℤ
number_value bits [] = None
number_value bits (b ∷ bs) =
    if b == 45 then option_and_then (λ n. fit bits true n) (decimal_value bs)
    else option_and_then (λ n. fit bits false n) (plain_value (b ∷ bs))

-- a number of so many bits, or its fault
abbrev pub number : ℕ → List ℕ → Result ℤ AsmFault
number bits text = or_else faults.Number (number_value bits text)

-- a number below 2 ^ 64 without a sign, or its fault
abbrev pub count : List ℕ → Result ℕ AsmFault
count text = or_else faults.Number (plain_value text)

-- how many zeros, or its fault: a number below 2 ^ 64 without a sign, or -0, which is 0
abbrev pub zeros_of : List ℕ → Result ℕ AsmFault
zeros_of text = if bytes_eq text (codes "-0") then Ok 0 else count text

-- ---- the form of a number, whatever its size

abbrev pub is_decimal : List ℕ → Bool
is_decimal [] = false
is_decimal (b ∷ []) = are_digits 10 (b ∷ [])
is_decimal (b ∷ c ∷ bs) = not (b == 48) && are_digits 10 (b ∷ c ∷ bs)

abbrev pub is_hexadecimal : List ℕ → Bool
is_hexadecimal [] = false
is_hexadecimal (b ∷ bs) = are_digits 16 (b ∷ bs)

abbrev pub is_plain : List ℕ → Bool
is_plain [] = false
is_plain (b ∷ []) = is_decimal (b ∷ [])
is_plain (b ∷ c ∷ bs) = if b == 48 && c == 120 then is_hexadecimal bs else is_decimal (b ∷ c ∷ bs)

unfoldable pub is_numeral : List ℕ → Bool
is_numeral [] = false
is_numeral (b ∷ bs) = if b == 45 then is_decimal bs else is_plain (b ∷ bs)

-- ---- writing

-- the digits 0 to 9 and a to f
abbrev pub hex_glyph : ℕ → ℕ
hex_glyph d = if nat_lt d 10 then 48 + d else 87 + d

-- the low hexadecimal digits of a number, so many of them
unfoldable pub hex_text : ℕ → ℕ → List ℕ
hex_text zero n = []
hex_text (suc k) n = hex_text k (n / 16) ++ hex_glyph (n % 16) ∷ []
