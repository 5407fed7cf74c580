use Rattle.entry_thunk.proofs.Common.{arith}
use Rattle.entry_thunk.proofs.CellLaws.{bytes-next, bytes-end}
use Rattle.entry_thunk.proofs.cells.params_bytes.Goals as goal

pub loop-kind-preserved : goal.loop-kind-preserved
loop-kind-preserved g c =
    let next = bytes-next g.row.W c.loop-kind.kind-index c.slot_bytes.result c.args.kinds.now _ c.loop-kind-test.true
    c.slot_bytes.ensures.bytes in
    record {
      sum = omega (arith, next, c.loop-kind.invariant.sum);
      small = omega (arith, c.loop-kind.invariant.small, c.slot_bytes.ensures.most);
    }

pub returns-clause-bytes : goal.returns-clause-bytes
returns-clause-bytes g c =
    let none = bytes-end g.row.W c.loop-kind.kind-index c.args.kinds.now c.loop-kind-test.false in
    omega (arith, none, c.loop-kind.invariant.sum)
