-- Numbers in hexadecimal digits, as they are printed.
use Rattle.std.proofs.Common.{◌≡◌, ℕ, zero, suc, ◌<◌, ◌^◌, ◌-◌, ◌/◌, ◌%◌, [], ◌∷◌, ◌++◌, false, codes, ap, refl}
use Rattle.std.specs.Fmt.{digits, padded_integral, format_spec}
use Rattle.asm_text.proofs.HexLaws.{raw32, raw64}
use Rattle.asm_text.specs.Numbers.{hex_glyph, hex_text}
use Rattle.note_types.specs.declared.notes.Notes.{Notes}
use Rattle.note_types.specs.declared.value.Value.TheVariants as value
use Rattle.script_draft.specs.Printed as printed
use Rattle.printed_texts.specs.RunTexts.{place_text, wild_text}

-- `{:08x}` of a number below 2 ^ 32 is its place text
pub place : (n : ℕ) → n < 2 ^ 32 → padded_integral (format_spec 32 0 4 8 (2 ^ 64 - 1)) false [] (digits 16 false n) ≡ place_text n
unfolding place_text
place n small = raw32 n small

-- `{:016x}` of a number below 2 ^ 64, after `wild`, is its wild text
pub wild : (n : ℕ) → n < 2 ^ 64
    → codes "wild " ++ padded_integral (format_spec 32 0 4 16 (2 ^ 64 - 1)) false [] (digits 16 false n) ≡ wild_text n
unfolding wild_text
wild n small = ap (λ t. codes "wild " ++ t) (raw64 n small)

-- the digits of printed values are these
same_digits : (k n : ℕ) → hex_text k n ≡ printed.hex_text k n
unfolding hex_text
same_digits zero n = refl
same_digits (suc k) n = ap (λ t. t ++ hex_glyph (n % 16) ∷ []) (same_digits k (n / 16))

-- a value that has no reading is printed so
pub wild_value : (notes : Notes) (n : ℕ) → wild_text n ≡ printed.value_text notes (value.Wild n)
unfolding wild_text printed.value_text
wild_value notes n = ap (λ t. codes "wild " ++ t) (same_digits 16 n)
