-- Meaning: the numbers and the widths among the words: docs/COMMANDS.md, "Commands". Words are seen as their bytes.
use Rattle.std.specs.Prelude.{ℕ, ◌+◌, ◌-◌, ◌*◌, List, [], ◌∷◌, Option, Some, None, Bool, false, not, nat_le, ◌==◌, ◌&&◌, if◌then◌else◌}
use Rattle.std.specs.Prelude.{bytes_eq, codes}
use Rattle.std.specs.List.{list_all}
use Rattle.ebc_base.specs.Names.{is_digit}
use Rattle.ebc_cli.specs.declared.width.Width.{Width}
use Rattle.ebc_cli.specs.declared.width.Width.TheVariants.{Bits32, Bits64}

-- ---- identifiers of vendors and devices

-- what a digit counts: `0` to `9`, `a` to `f`
abbrev pub digit_value : ℕ → Option ℕ
digit_value b =
    if nat_le 48 b && nat_le b 57 then Some (b - 48)
    else if nat_le 97 b && nat_le b 102 then Some (b - 87)
    else None

-- the number of four digits, the highest first
abbrev pub of_digits : Option ℕ → Option ℕ → Option ℕ → Option ℕ → Option ℕ
of_digits (Some a) (Some b) (Some c) (Some d) = Some (4096 * a + 256 * b + 16 * c + d)
of_digits a b c d = None

-- the identifier that four lower-case hexadecimal digits spell
unfoldable pub identifier_of : List ℕ → Option ℕ
identifier_of (a ∷ b ∷ c ∷ d ∷ []) = of_digits (digit_value a) (digit_value b) (digit_value c) (digit_value d)
identifier_of word = None

-- ---- numbers of images in option ROMs, of steps, and of functions

-- decimal digits, the first of several no `0`
unfoldable pub is_decimal_number : List ℕ → Bool
is_decimal_number [] = false
is_decimal_number (b ∷ []) = list_all is_digit (b ∷ [])
is_decimal_number (b ∷ c ∷ bs) = not (b == 48) && list_all is_digit (b ∷ c ∷ bs)

-- a number that isn't 0: how many functions a sample has
abbrev pub is_count : List ℕ → Bool
is_count word = is_decimal_number word && not (bytes_eq word (codes "0"))

-- ---- widths

-- the width of a run, as how many bits an address has
abbrev pub width_of : List ℕ → Option Width
width_of word = if bytes_eq word (codes "32") then Some Bits32 else if bytes_eq word (codes "64") then Some Bits64 else None

-- how many bytes an address has
abbrev pub address_bytes : Width → ℕ
address_bytes Bits32 = 4
address_bytes Bits64 = 8
