use Rattle.native_host.proofs.Common.{◌∙◌, placement_of}
use Rattle.native_host.proofs.StoreLaws.{cell-is-write}
use Rattle.native_host.proofs.host.Host.fill_cell.Goals as goal

pub returns-clause-after : goal.returns-clause-after
returns-clause-after g c s slots =
    cell-is-write g.row.W c.args.notes.now (placement_of c.args.self.now.places) c.args.self.now.made.items slots c.args.number
    c.args.object.now c.args.cell.now s c.args.mem.now
    c.requires.width c.holds.ensures.memory c.requires.made
    ∙ c.write.ensures.after s slots
