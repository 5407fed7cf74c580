use Rattle.std.proofs.Common.{refl, sym, ◌∙◌}
use Rattle.std.proofs.lemmas.Bool.{false≢true}
use Rattle.run_trace.proofs.traced.TracedRun.goes_on.Goals as goal

pub returns-in-Running : goal.returns-in-Running
returns-in-Running g c = λ world r is. (λ goes. sym (c.in-Running.ensures world r is), λ on. refl)

pub returns-in_default : goal.returns-in_default
returns-in_default g c = λ world r is.
    (λ goes. absurd (false≢true goes), λ on. absurd (c.in_default.not-Running (c.ending.ensures world r is ∙ on)))
