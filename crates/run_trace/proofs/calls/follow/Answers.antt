use Rattle.std.proofs.Common.{◌++◌, ◌∙◌, ap}
use Rattle.std.specs.Prelude.{nat_le, slice_index}
use Rattle.std.specs.List.{filter}
use Rattle.std.proofs.lemmas.Result.{on_ok_weaker}
use Rattle.run_trace.specs.Calls.{call_of}
use Rattle.run_trace.specs.declared.calls.InnerCall.{InnerCall}
use Rattle.run_trace.proofs.calls.follow.Goals as goal

pub returns : goal.returns
returns g c =
    on_ok_weaker c.add_call.result (λ h world s is. h world s is
    ∙ ap (λ t. t ++ call_of s c.args.back) (c.keep_from.ensures ∙ ap (λ registers. filter
    (λ (k : InnerCall). nat_le (slice_index registers 0) k.stack) c.args.calls.now.items) (c.registers.ensures world s is)))
    c.add_call.ensures
