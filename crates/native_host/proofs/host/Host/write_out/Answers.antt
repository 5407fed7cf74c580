use Rattle.native_host.proofs.Common.{sym, ap, ◌∙◌, with_memory, top_slots, placement_of, after_number}
use Rattle.native_host.proofs.StoreLaws.{out-none, out-some}
use Rattle.native_host.proofs.host.Host.write_out.Goals as goal

pub returns-in-Some-clause-after : goal.returns-in-Some-clause-after
returns-in-Some-clause-after g c s =
    out-some g.row.W c.args.notes.now (placement_of c.args.self.now.places) c.args.self.now.made.items (top_slots c.args.frames.now)
    c.args.params.now c.args.out.now (with_memory s c.args.mem.now) c.in-Some.cell
    (sym c.in-Some.is ∙ c.lent_at.ensures)
    ∙ (ap (λ a. after_number g.row.W c.args.notes.now (placement_of c.args.self.now.places) c.args.self.now.made.items (with_memory s
    c.args.mem.now) a c.in-Some.cell c.args.out.now.value)
    (sym c.argument_slot.ensures)
    ∙ c.store_number.ensures.after s)

pub returns-in_default-clause-after : goal.returns-in_default-clause-after
returns-in_default-clause-after g c s =
    out-none g.row.W c.args.notes.now (placement_of c.args.self.now.places) c.args.self.now.made.items (top_slots c.args.frames.now)
    c.args.params.now c.args.out.now (with_memory s c.args.mem.now)
    (sym c.in_default.is ∙ c.lent_at.ensures)
