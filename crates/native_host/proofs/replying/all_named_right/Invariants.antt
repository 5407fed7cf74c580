use Rattle.native_host.proofs.Common.{◌≡◌, drop, all_named_right}
use Rattle.native_host.proofs.replying.all_named_right.Given as goal

abbrev pub invariant-loop-k : goal.invariant-loop-k
invariant-loop-k l = all_named_right l.error l.k (drop l.k l.params) l.outs ≡ all_named_right l.error 0 l.params l.outs
