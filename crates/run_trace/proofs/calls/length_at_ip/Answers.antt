use Rattle.std.proofs.Common.{◌≡◌, None, Some, subst}
use Rattle.note_types.specs.Concrete.{rest_from}
use Rattle.run_trace.proofs.CallLaws.{no-call}
use Rattle.run_trace.proofs.calls.length_at_ip.Goals as goal

pub returns-in-Some : goal.returns-in-Some
returns-in-Some g c = λ world r is.
    c.call_length.ensures r.machine
    (subst (λ a. rest_from r.machine a ≡ Some c.in-Some.bytes.now) (c.ip.ensures world r is) (c.in-Some.ensures.found world r is))

pub returns-in-None : goal.returns-in-None
returns-in-None g c = λ world r is.
    no-call r.machine (subst (λ a. rest_from r.machine a ≡ None) (c.ip.ensures world r is) (c.in-None.ensures.none world r is))
