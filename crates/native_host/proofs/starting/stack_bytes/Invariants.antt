use Rattle.native_host.proofs.Common.{◌≡◌, ◌*◌, ◌^◌, ◌≤◌, drop, most_bytes}
use Rattle.std.proofs.Common.{max}
use Rattle.native_host.proofs.starting.stack_bytes.Given as goal

abbrev pub invariant-loop-k : goal.invariant-loop-k
invariant-loop-k g l = record {
  most : max l.most (most_bytes g.row.W l.notes.entry l.k (drop l.k l.notes.function))
      ≡ most_bytes g.row.W l.notes.entry 0 l.notes.function;
  small : 9 * l.most ≤ 2 ^ 20;
}
