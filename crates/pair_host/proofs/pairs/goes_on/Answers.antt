use Rattle.pair_host.proofs.Common.{sym, ◌∙◌}
use Rattle.pair_host.proofs.pairs.goes_on.Goals as goal

pub returns : goal.returns
returns g c = λ world p is.
    let e = c.ending.ensures world p is in
    (λ t. sym e ∙ c.same_ending.ensures.0 t, λ x. c.same_ending.ensures.1 (e ∙ x))
