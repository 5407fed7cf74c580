use Rattle.entry_thunk.proofs.CellLaws.{stored-memory, keeps-stored}
use Rattle.entry_thunk.proofs.cells.store.Goals as goal

pub returns-clause-stored : goal.returns-clause-stored
returns-clause-stored g c s =
    stored-memory s c.args.mem.now c.store.new.self c.args.addr c.args.count c.args.value c.requires.held c.store.ensures.after

pub returns-clause-objects : goal.returns-clause-objects
returns-clause-objects g c = keeps-stored c.args.mem.now c.store.new.self c.args.addr c.args.count c.args.value c.requires.held
    c.store.ensures.after
