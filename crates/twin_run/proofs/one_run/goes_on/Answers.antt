use Rattle.twin_run.proofs.Common.{sym, ◌∙◌}
use Rattle.twin_run.proofs.one_run.goes_on.Goals as goal

pub returns : goal.returns
returns g c = λ world r is.
    let e = is.at.ending in
    (λ t. sym e ∙ c.is_running.ensures.0 t, λ x. c.is_running.ensures.1 (e ∙ x))
