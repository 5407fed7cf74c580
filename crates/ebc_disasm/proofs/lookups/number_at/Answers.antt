use Rattle.std.proofs.Common.{ap, ◌∙◌}
use Rattle.ebc_width.specs.Bytes.{little_endian}
use Rattle.ebc_width.proofs.Numbers.{number_8}
use Rattle.pe_image.specs.Mapped.{image_byte}
use Rattle.ebc_disasm.proofs.lookups.number_at.Goals as goal

pub returns : goal.returns
returns c =
    c.from_le_bytes.ensures
    ∙ number_8 (image_byte c.args.image.now) c.from-p.result _ _ _ _ _ _ _ _
    c.byte_at.ensures c.byte_at-2.ensures c.byte_at-3.ensures c.byte_at-4.ensures c.byte_at-5.ensures c.byte_at-6.ensures
    c.byte_at-7.ensures c.byte_at-8.ensures
    ∙ ap (λ p. little_endian (image_byte c.args.image.now) p 8) c.from-p.ensures
