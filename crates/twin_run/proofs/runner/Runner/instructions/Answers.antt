use Rattle.twin_run.proofs.Common.{◌-◌, refl, arith}
use Rattle.twin_run.proofs.SteppingOn.{all_taken, none_taken, one_taken}
use Rattle.twin_run.proofs.runner.Runner.instructions.Goals as goal

pub loop-next-init : goal.loop-next-init
loop-next-init g c = record {
  left = omega arith;
  first = λ e. (refl, c.requires.inside);
  taken = none_taken g.row.W c.args.notes.now c.args.most c.args.self.now;
}

pub loop-next-preserved : goal.loop-next-preserved
loop-next-preserved g c =
    let was = c.loop-next.invariant in
    let some = c.if-left-gt0.true in
    let most = was.left in
    record {
      left = omega (arith, most);
      first = λ e. absurd (omega (arith, e, most, some));
      taken = one_taken g.row.W c.args.notes.now c.args.most c.loop-next.left c.args.self.now c.loop-next.self c.instruction-next.new.self _
          _ was.taken c.loop-next-test.true most some c.if-self.true c.instruction-next.ensures.at c.instruction-next.ensures.next
          c.instruction-next.ensures.done c.instruction-next.ensures.trace c.instruction-next.ensures.quiet;
    }

pub returns-clause-done : goal.returns-clause-done
returns-clause-done g c =
    all_taken g.row.W c.args.notes.now c.args.most (c.args.most - c.loop-next.left) _ c.args.self.now c.loop-next.self _
    c.loop-next.invariant.taken c.saturating_add-self.ensures
