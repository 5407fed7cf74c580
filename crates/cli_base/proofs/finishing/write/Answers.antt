use Rattle.cli_base.proofs.OutputLemmas.{written-others}
use Rattle.cli_base.proofs.finishing.write.Goals as goal

pub returns-in-Ok-clause-others : goal.returns-in-Ok-clause-others
returns-in-Ok-clause-others g c = written-others _ _ _ _ c.in-Ok.ensures.written
