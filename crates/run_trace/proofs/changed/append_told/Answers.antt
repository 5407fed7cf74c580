use Rattle.std.proofs.Common.{◌++◌, ap, sym, ◌∙◌}
use Rattle.run_trace.specs.Changes.{object_lines}
use Rattle.run_trace.proofs.BeforeLaws.{on-ok}
use Rattle.run_trace.proofs.ChangedLaws.{bytes-there, no-bytes}
use Rattle.run_trace.proofs.changed.append_told.Goals as goal

pub returns-in-Some-clause-told : goal.returns-in-Some-clause-told
returns-in-Some-clause-told g c = λ least.
    on-ok c.append_object.result c.append_object.ensures (λ put world r is.
    put ∙ ap (λ bytes. c.args.out.now.items ++ object_lines c.args.notes.now c.args.base c.args.object bytes c.args.new.now)
    (sym (bytes-there r.machine c.args.base c.in-Some.old.now (c.in-Some.ensures.found world r is))))

pub returns-in-None-clause-told : goal.returns-in-None-clause-told
returns-in-None-clause-told g c = λ least.
    on-ok c.append_object-in-None.result c.append_object-in-None.ensures (λ put world r is.
    put ∙ ap (λ bytes. c.args.out.now.items ++ object_lines c.args.notes.now c.args.base c.args.object bytes c.args.new.now)
    (sym (no-bytes r.machine c.args.base (c.in-None.ensures.none world r is))))
