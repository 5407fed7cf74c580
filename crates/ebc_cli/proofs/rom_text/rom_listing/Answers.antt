use Rattle.ebc_cli.proofs.RomLemmas.{lines-done}
use Rattle.ebc_cli.proofs.rom_text.rom_listing.Goals as goal

pub returns : goal.returns
returns c = lines-done _ _ _ c.loop-number-test.false c.loop-number.invariant
