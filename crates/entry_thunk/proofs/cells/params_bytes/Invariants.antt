use Rattle.entry_thunk.proofs.Common.{◌≡◌, ◌+◌, ◌≤◌, drop, params_bytes, params_of}
use Rattle.std.proofs.Common.{◌*◌}
use Rattle.entry_thunk.proofs.cells.params_bytes.Given as goal

abbrev pub invariant-loop-kind : goal.invariant-loop-kind
invariant-loop-kind g l = record {
  sum : l.bytes + params_bytes g.row.W (params_of (drop l.kind-index l.kinds)) ≡ params_bytes g.row.W (params_of l.kinds);
  small : l.bytes ≤ 8 * l.kind-index;
}
