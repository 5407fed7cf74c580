use Rattle.std.proofs.Common.{◌+◌, ◌-◌, length, get_or, arith, ap, ◌∙◌}
use Rattle.ebc_width.proofs.Numbers.{write_bytes}
use Rattle.raw_region.proofs.number.write_bytes.Goals as goal
use borrow.Rule.Slice.PartMut.{put_mid}

pub returns : goal.returns
returns c = λ i.
    let bytes = c.args.bytes.now in let part = c.args.part.now in let offset = c.args.offset in
    let count = offset + length part - offset in
    ap (λ ps. get_or (put_mid offset count bytes ps) i 0) c.copy_from_slice.ensures.after
    ∙ write_bytes bytes part offset count i c.requires (omega arith)
