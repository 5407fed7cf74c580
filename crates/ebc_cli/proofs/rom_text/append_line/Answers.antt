use Rattle.ebc_cli.proofs.Common.{◌∙◌}
use Rattle.ebc_cli.proofs.RomLemmas.{line-appended}
use Rattle.ebc_cli.proofs.rom_text.append_line.Goals as goal

pub returns : goal.returns
returns c =
    line-appended c.args.images.now c.args.number _ c.args.text.now.items c.as_bytes.result.now c.extend_from_slice.new.self.items
    c.requires
    c.in_ok-extend_from_slice.ensures.items (c.as_bytes.ensures.value ∙ rw c.last_mark-mark.ensures at c.in_ok-line.ensures)
