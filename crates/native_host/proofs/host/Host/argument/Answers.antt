use Rattle.native_host.proofs.Common.{sym, ap, ◌∙◌, byte_at, argument_read, role_of, placement_of}
use Rattle.note_types.specs.declared.notes.Want.{Want}
use Rattle.native_host.proofs.host.Host.argument.Goals as goal

pub returns-in-Out : goal.returns-in-Out
returns-in-Out g c =
    c.out_argument.ensures (byte_at c.args.mem.now)
    ∙ ap (λ (want : Want). argument_read g.row.W c.args.notes.now (placement_of c.args.self.now.places) c.args.self.now.made.items
    (byte_at c.args.mem.now) (role_of want) c.args.x) (sym c.in-Out.is)
