use Rattle.native_host.proofs.Common.{sym, ap, ◌∙◌, option_copied, field_at, cell_size, ranges, placement_of}
use Rattle.native_host.proofs.StoreLaws.{absent-past, cell-some, mapped-some}
use Rattle.native_host.proofs.host.Host.is_mapped.Goals as goal

pub returns-in-None : goal.returns-in-None
returns-in-None g c =
    sym (mapped-some g.row.W c.args.notes.now (placement_of c.args.self.now.places) c.args.self.now.made.items (ranges c.args.mem.now)
    c.args.write.now c.in-Some.field.now
    (ap option_copied (sym c.in-Some.is) ∙ (c.field_at-found.ensures
    ∙ ap (λ made. field_at c.args.notes.now made c.args.write.now.object c.args.write.now.instance c.args.write.now.field)
    c.as_slice.ensures.value))
    ∙ absent-past g.row.W c.args.mem.now _ (cell_size g.row.W c.in-Some.field.now.cell) c.requires.width c.holds.ensures.memory
    (cell-some g.row.W c.in-Some.field.now.cell c.requires.width) c.in-None.ensures.past)
