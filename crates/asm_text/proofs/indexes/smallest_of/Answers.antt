use Rattle.asm_text.proofs.Smallest.{smallest_is}
use Rattle.asm_text.proofs.indexes.smallest_of.Goals as goal

pub returns : goal.returns
returns c =
    smallest_is c.args.bits c.args.neg c.args.units c.args.bytes c.smallest.result c.smallest.ensures.fits c.smallest.ensures.numbers
    c.smallest.ensures.least c.smallest.ensures.none
