use Rattle.instruction_laws.proofs.Kept.{run_kept}
use Rattle.instruction_laws.proofs.run_kept.Goals as goal

pub returns : goal.returns
returns c = run_kept
