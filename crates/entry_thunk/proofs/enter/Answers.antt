use Rattle.entry_thunk.proofs.EnterLaws.{saved-frame}
use Rattle.entry_thunk.proofs.enter.Goals as goal

pub returns-clause-saved : goal.returns-clause-saved
returns-clause-saved g c = saved-frame g.row.W c.args.m.now c.args.mem.now c.args.func c.requires.func
