use Rattle.native_host.proofs.Common.{sym, ap, ◌∙◌, option_copied, with_memory, field_at, placement_of}
use Rattle.native_host.proofs.StoreLaws.{write-none}
use Rattle.native_host.proofs.host.Host.write.Goals as goal

pub returns-in_default-clause-after : goal.returns-in_default-clause-after
returns-in_default-clause-after g c s slots =
    write-none g.row.W c.args.notes.now (placement_of c.args.self.now.places) c.args.self.now.made.items slots c.args.write.now
    (with_memory s c.args.mem.now)
    (ap option_copied (sym c.in_default.is) ∙ (c.field_at-found.ensures
    ∙ ap (λ made. field_at c.args.notes.now made c.args.write.now.object c.args.write.now.instance c.args.write.now.field)
    c.as_slice.ensures.value))
