use Rattle.std.proofs.Common.{ap, take, ◌∙◌, arith}
use Rattle.std.specs.Prelude.{slice_index}
use Rattle.ebc_width.proofs.Numbers.{overlaid-put}
use Rattle.raw_region.proofs.number.write_sized.Goals as goal

pub returns : goal.returns
returns c = λ i.
    c.write_bytes.ensures i
    ∙ overlaid-put (slice_index c.args.bytes.now) c.args.offset c.args.count c.args.value _ i (omega (arith, c.requires.count))
    (ap (take c.args.count) c.to_le_bytes.ensures)
