use Rattle.std.proofs.Common.{arith, length-drop}
use Rattle.std.proofs.lemmas.List.{take_rest}
use Rattle.ebc_outside.proofs.PieceLemmas.{appended}
use Rattle.ebc_outside.proofs.whole.write_whole.Goals as goal

pub loop-done-preserved : goal.loop-done-preserved
loop-done-preserved g c =
    let piece = rw (take_rest c.args.bytes.now c.loop-done.done) at c.in-Ok.ensures in
    record {
      within = omega (arith, piece.bound, length-drop c.loop-done.done c.args.bytes.now);
      given = appended _ _ _ c.args.bytes.now c.loop-done.done c.in-Ok.count c.loop-done.invariant.given piece.bytes;
    }
