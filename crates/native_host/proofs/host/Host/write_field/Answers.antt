use Rattle.native_host.proofs.Common.{sym, ap, ◌∙◌, cell_size, with_memory, placement_of, after_number}
use Rattle.native_host.proofs.StoreLaws.{absent-past, after-absent, cell-some, write-some}
use Rattle.native_host.proofs.host.Host.write_field.Goals as goal

pub returns-in-Some-clause-after : goal.returns-in-Some-clause-after
returns-in-Some-clause-after g c s slots =
    write-some g.row.W c.args.notes.now (placement_of c.args.self.now.places) c.args.self.now.made.items slots c.args.write.now
    (with_memory s c.args.mem.now) c.args.field.now (sym c.requires.field)
    ∙ (ap (λ a. after_number g.row.W c.args.notes.now (placement_of c.args.self.now.places) c.args.self.now.made.items (with_memory s
    c.args.mem.now) a c.args.field.now.cell c.args.write.now.value)
    (sym c.in-Some.ensures.at)
    ∙ c.store_number.ensures.after s)

pub returns-in_default-clause-after : goal.returns-in_default-clause-after
returns-in_default-clause-after g c s slots =
    write-some g.row.W c.args.notes.now (placement_of c.args.self.now.places) c.args.self.now.made.items slots c.args.write.now
    (with_memory s c.args.mem.now) c.args.field.now (sym c.requires.field)
    ∙ after-absent g.row.W c.args.notes.now (placement_of c.args.self.now.places) c.args.self.now.made.items s c.args.mem.now _
    c.args.field.now.cell c.args.write.now.value
    (absent-past g.row.W c.args.mem.now _ (cell_size g.row.W c.args.field.now.cell) c.requires.width c.holds.ensures.memory
    (cell-some g.row.W c.args.field.now.cell c.requires.width) c.in_default.ensures.past)
