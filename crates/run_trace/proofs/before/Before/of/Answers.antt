use Rattle.std.proofs.Common.{ap, length, ◌∙◌}
use Rattle.run_trace.proofs.BeforeLaws.{before-is}
use Rattle.run_trace.proofs.before.Before.of.Goals as goal

pub returns-clause-before : goal.returns-clause-before
returns-clause-before g c = λ world r script is.
    before-is g.row.W world r c.spot.result c.next_insn-insn.result c.next_store.result c.registers-registers.result c.has_c.result
    c.len.result (c.spot.ensures world r is) (c.next_insn-insn.ensures.insn world r script is) c.next_store.ensures.store
    (c.registers-registers.ensures world r is) (c.has_c.ensures world r is)
    (c.len.ensures ∙ (c.trace.result.now.ok.0 ∙ ap (λ es. length es) (c.trace.ensures world r is)))
