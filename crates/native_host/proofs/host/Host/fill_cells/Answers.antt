use Rattle.native_host.proofs.Common.{refl, sym, ◌∙◌, with_memory, keeps-more, keeps-none, placement_of, cell_store}
use Rattle.native_host.proofs.StoreLaws.{stores-end, stores-next}
use Rattle.native_host.proofs.host.Host.fill_cells.Goals as goal

pub loop-cell-init : goal.loop-cell-init
loop-cell-init g c = record { stores = λ s slots. refl; objects = keeps-none c.args.mem.now }

pub loop-cell-preserved : goal.loop-cell-preserved
loop-cell-preserved g c = record {
  stores = λ s slots.
      sym (stores-next g.row.W c.args.notes.now (placement_of c.args.self.now.places) c.args.self.now.made.items slots
      (cell_store c.args.notes.now c.args.number c.args.object.now) c.args.cells.now
      c.loop-cell.cell-index _ (with_memory s c.loop-cell.mem) (with_memory s c.fill_cell.new.mem) c.loop-cell-test.true
      (c.fill_cell.ensures.after s slots))
      ∙ c.loop-cell.invariant.stores s slots;
  objects = keeps-more c.args.mem.now c.loop-cell.mem c.fill_cell.new.mem c.loop-cell.invariant.objects c.fill_cell.ensures.objects;
}

pub returns-clause-after : goal.returns-clause-after
returns-clause-after g c s slots =
    sym (c.loop-cell.invariant.stores s slots)
    ∙ stores-end g.row.W c.args.notes.now (placement_of c.args.self.now.places) c.args.self.now.made.items slots
    (cell_store c.args.notes.now c.args.number c.args.object.now) c.args.cells.now
    c.loop-cell.cell-index (with_memory s c.loop-cell.mem) c.loop-cell-test.false

pub returns-clause-objects : goal.returns-clause-objects
returns-clause-objects g c = c.loop-cell.invariant.objects
