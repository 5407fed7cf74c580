use Rattle.native_host.proofs.Common.{sym, ◌∙◌}
use Rattle.native_host.proofs.BoundLaws.{parameters-end}
use Rattle.native_host.proofs.bound.parameter_refused.Goals as goal

pub returns : goal.returns
returns c = record {
  refused = sym (parameters-end c.args.made.now c.args.params.now c.args.args.now c.loop-k.k c.loop-k-test.false) ∙ c.loop-k.invariant;
}
