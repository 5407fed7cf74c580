use Rattle.std.proofs.Common.{◌≡◌, ◌+◌, ◌*◌, ◌≤◌, ◌^◌}
use Rattle.departures.specs.Texts.{has_no_zero}
use Rattle.departures.proofs.text.has_no_zero.Given as goal

abbrev pub invariant-units : goal.invariant-units
invariant-units l = record {
  same : has_no_zero l.image l.place l.count ≡ has_no_zero l.image l.at l.left;
  far : l.at + 2 * l.left ≤ 2 ^ 34;
}

abbrev pub decreases-units : goal.decreases-units
decreases-units l = l.left
