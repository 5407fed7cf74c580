use Rattle.std.proofs.Common.{◌-◌, Some, ap, sym, ◌∙◌}
use Rattle.object_memory.proofs.Laws.{offset_of-held, offset_of-absent, offset_of-alone}
use Rattle.object_memory.proofs.ObjMem.offset.Goals as goal

pub returns-in_err-find-clause-offset : goal.returns-in_err-find-clause-offset
returns-in_err-find-clause-offset g c = c.from_residual.ensures ∙ sym
    (offset_of-absent g.row.W c.args.self.now c.args.addr c.in_err-find.ensures.none)

pub returns-clause-offset : goal.returns-clause-offset
returns-clause-offset g c = ap (λ n. Some (c.args.addr - n)) c.first.ensures ∙ sym
    (offset_of-held g.row.W c.args.self.now c.args.addr c.in_ok-find.ensures.found.held)

pub returns-clause-alone : goal.returns-clause-alone
returns-clause-alone g c = λ x at. offset_of-alone g.row.W c.args.self.now x c.args.addr _ c.in_ok-find.ensures.memory at
    (sym (returns-clause-offset g c))
