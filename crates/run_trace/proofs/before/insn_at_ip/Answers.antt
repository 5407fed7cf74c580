use Rattle.std.proofs.Common.{◌≡◌, None, Some, subst}
use Rattle.note_types.specs.Concrete.{rest_from}
use Rattle.run_trace.proofs.BeforeLaws.{none-found}
use Rattle.run_trace.proofs.before.insn_at_ip.Goals as goal

pub returns-in-Some-clause-insn : goal.returns-in-Some-clause-insn
returns-in-Some-clause-insn g c = λ world r is.
    c.insn_in.ensures.insn r.machine
    (subst (λ a. rest_from r.machine a ≡ Some c.in-Some.bytes.now) (c.ip.ensures world r is) (c.in-Some.ensures.found world r is))

pub returns-in-None-clause-insn : goal.returns-in-None-clause-insn
returns-in-None-clause-insn g c = λ world r is.
    none-found r.machine (subst (λ a. rest_from r.machine a ≡ None) (c.ip.ensures world r is) (c.in-None.ensures.none world r is))
