use Rattle.std.proofs.Common.{rules, arith}
use Rattle.natural_index.specs.Index.{fields_of}
use Rattle.natural_index.proofs.Laws.{spelled}
use Rattle.natural_index.proofs.read.Goals as goal

pub returns-clause-fields : goal.returns-clause-fields
unfolding fields_of
returns-clause-fields c = search rules

pub returns-clause-spelled : goal.returns-clause-spelled
returns-clause-spelled c = rw (returns-clause-fields c) (spelled c.args.bits c.args.raw
    (omega (arith, c.requires.size)) c.requires.within c.requires.split)
