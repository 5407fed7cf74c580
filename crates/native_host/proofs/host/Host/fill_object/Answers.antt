use Rattle.native_host.proofs.Common.{sym, ap, ◌∙◌, flat_map, with_memory, cell_store, after_stores, placement_of}
use Rattle.native_host.proofs.host.Host.fill_object.Goals as goal

pub returns-clause-after : goal.returns-clause-after
returns-clause-after g c s slots =
    ap (λ cells. after_stores g.row.W c.args.notes.now (placement_of c.args.self.now.places) c.args.self.now.made.items slots
    (flat_map (cell_store c.args.notes.now c.args.number c.args.object.now) cells)
    (with_memory s c.args.mem.now)) (sym c.as_slice.ensures)
    ∙ c.fill_cells.ensures.after s slots
