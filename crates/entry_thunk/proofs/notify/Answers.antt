use Rattle.entry_thunk.proofs.EnterLaws.{marked-frame}
use Rattle.entry_thunk.proofs.notify.Goals as goal

pub returns-clause-saved : goal.returns-clause-saved
returns-clause-saved g c = marked-frame g.row.W c.args.m.now c.args.mem.now c.args.func c.requires.func
