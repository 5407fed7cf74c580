-- Numbers in hexadecimal digits, as they are printed.
use Rattle.ebc_cli.proofs.Common.{◌≡◌, ℕ, ◌<◌, ◌^◌, ◌-◌, []}
use Rattle.std.proofs.Common.{false}
use Rattle.std.specs.Fmt.{digits, padded_integral, format_spec}
use Rattle.asm_text.proofs.HexLaws.{raw16}
use Rattle.ebc_cli.specs.RomTexts.{machine_text}

-- `{:04x}` of a number below 2 ^ 16 is its machine text
pub machine : (n : ℕ) → n < 2 ^ 16 → padded_integral (format_spec 32 0 4 4 (2 ^ 64 - 1)) false [] (digits 16 false n) ≡ machine_text n
unfolding machine_text
machine n small = raw16 n small
