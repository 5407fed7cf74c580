use Rattle.native_host.proofs.Common.{placement_of}
use Rattle.native_host.proofs.{StoreLaws.after-number, ThunkLaws.keeps-any}
use Rattle.native_host.proofs.host.Host.store_number.Goals as goal

pub returns-clause-after : goal.returns-clause-after
returns-clause-after g c s =
    after-number g.row.W c.args.notes.now (placement_of c.args.self.now.places) c.args.self.now.made.items s c.args.mem.now
    c.store.new.self c.args.at
    c.cell_bytes.result c.number_of.result c.args.cell.now c.args.value.now c.cell_bytes.ensures.bytes
    (c.number_of.ensures c.args.notes.now c.requires.notes) c.store.ensures.after

pub returns-clause-objects : goal.returns-clause-objects
returns-clause-objects g c =
    keeps-any c.args.mem.now c.store.new.self c.args.at c.cell_bytes.result c.number_of.result c.store.ensures.after
