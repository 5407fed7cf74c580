use Rattle.twin_run.proofs.Common.{subst, sym, arith, IsFree}
use Rattle.twin_run.proofs.SteppingOn.{free_quiet}
use Rattle.twin_run.proofs.runner.Runner.free.Goals as goal

pub returns-else-self-clause-free : goal.returns-else-self-clause-free
returns-else-self-clause-free g c = λ script some quiet.
    let is = c.saturating_sub.ensures in
    subst (IsFree script c.args.self.now) (sym is) (free_quiet script c.args.self.now quiet (omega (arith, some, is)))
