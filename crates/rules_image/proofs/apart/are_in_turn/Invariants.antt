use Rattle.std.proofs.Common.{◌≤◌, ◌+◌, ◌^◌}
use Rattle.rules_image.proofs.Disjoint.{InTurnTo, ReachTo}
use Rattle.rules_image.proofs.apart.are_in_turn.Given as goal

abbrev pub invariant-loop-number : goal.invariant-loop-number
invariant-loop-number l = record {
  bound : l.reach ≤ 2 ^ 32 + 2 ^ 40;
  reach : ReachTo l.notes l.order l.number-index l.reach;
  turn : InTurnTo l.notes l.order l.number-index;
}
