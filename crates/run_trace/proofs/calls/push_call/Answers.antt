use Rattle.std.proofs.Common.{◌++◌, ◌∙◌, ap}
use Rattle.run_trace.proofs.CallLaws.{call-is}
use Rattle.run_trace.proofs.calls.push_call.Goals as goal

pub returns : goal.returns
returns g c = λ world s is on.
    c.in_ok-push.ensures.items ∙ ap (λ t. c.args.calls.now.items ++ t)
    (call-is s c.frames.result.0 c.frames.result.1.now c.registers.result c.depth.result c.args.back (c.frames.ensures world s is)
    c.depth.ensures.count (c.registers.ensures world s is) on)
