use Rattle.std.proofs.Common.{ap, ◌∙◌}
use Rattle.ebc_width.specs.Bytes.{little_endian}
use Rattle.rules_image.proofs.ThunkLaws.{number_4}
use Rattle.pe_image.specs.Mapped.{image_byte}
use Rattle.rules_image.proofs.thunks.half_at.Goals as goal

pub returns : goal.returns
returns c =
    c.from_le_bytes.ensures
    ∙ number_4
    (image_byte c.args.image.now) c.from-p.result _ _ _ _ c.byte_at.ensures c.byte_at-2.ensures c.byte_at-3.ensures c.byte_at-4.ensures
    ∙ ap (λ p. little_endian (image_byte c.args.image.now) p 4) c.from-p.ensures
