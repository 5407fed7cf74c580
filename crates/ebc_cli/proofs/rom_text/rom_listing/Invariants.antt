use Rattle.ebc_cli.proofs.Common.{◌≡◌, ◌++◌, drop, rom_lines}
use Rattle.ebc_cli.proofs.rom_text.rom_listing.Given as goal

abbrev pub invariant-loop-number : goal.invariant-loop-number
invariant-loop-number l = l.text.items ++ rom_lines l.number (drop l.number l.images) ≡ rom_lines 0 l.images
