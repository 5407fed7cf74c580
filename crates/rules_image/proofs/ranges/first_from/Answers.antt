use Rattle.rules_image.proofs.RangesLemmas.{is_first, is_none}
use Rattle.rules_image.proofs.ranges.first_from.Goals as goal

pub returns-clause-some : goal.returns-clause-some
returns-clause-some c =
    is_first c.args.image.now c.requires c.args.from c.first_reloc.result c.first_reloc.ensures c.reloc_numbered.result
    c.reloc_numbered.ensures

pub returns-clause-none : goal.returns-clause-none
returns-clause-none c =
    is_none c.args.image.now c.requires c.args.from c.first_reloc.result c.first_reloc.ensures c.reloc_numbered.result
    c.reloc_numbered.ensures
