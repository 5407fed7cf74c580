-- What a row unfolds to compute a run of a pair: every definition of such a run that isn't an abbreviation.
use Rattle.pair_laws.proofs.Common.{⊤, is_below, neutral_bound_reply, neutral_pair_run, bound_to, bound_at, bind_agrees, bound_reply}
use Rattle.pair_laws.proofs.Common.{pair_step_at, pair_run, parameter_refused, provider_refused, reply_refused, provider_step, call_step}
use Rattle.pair_laws.proofs.Common.{caller_step, enter_step, function_step, reply_step, pair_step}
use Rattle.neutral_machine.proofs.Computing.{runs_compute}

unfoldable pub pairs_compute : ⊤
unfolding runs_compute is_below bound_to bound_at bind_agrees parameter_refused provider_refused reply_refused provider_step call_step
    caller_step enter_step function_step reply_step pair_step bound_reply pair_step_at pair_run neutral_bound_reply neutral_pair_run
pairs_compute = tt
