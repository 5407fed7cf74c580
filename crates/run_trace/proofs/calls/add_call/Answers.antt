use Rattle.std.proofs.Common.{◌++◌, ◌∙◌, ap, sym}
use Rattle.std.proofs.lemmas.Result.{on_ok_weaker}
use Rattle.run_trace.specs.Calls.{call_of}
use Rattle.run_trace.proofs.calls.add_call.Goals as goal

pub returns : goal.returns
returns g c =
    on_ok_weaker c.push_call.result (λ h world s is. h world s is (sym (c.in-Running.ensures world s is))
    ∙ ap (λ b. c.args.calls.now.items ++ call_of s b) (sym c.in-Some.is)) c.push_call.ensures
