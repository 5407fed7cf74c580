use Rattle.std.proofs.Common.{inl, inr, arith}
use Rattle.twin_trace.proofs.BothLaws.{stopped}
use Rattle.twin_trace.proofs.runs.BothRuns.pass.Goals as goal

pub loop-number-init : goal.loop-number-init
loop-number-init c = record { at = c.requires; least = omega arith; most = omega arith }

pub loop-number-preserved : goal.loop-number-preserved
loop-number-preserved c =
    let at = c.loop-number.invariant.at in
    let under = c.loop-number-test.true in
    record {
      at = record {
        at4 = c.in_ok-step.ensures.after c.loop-number.number at.at4;
        at8 = c.in_ok-step-2.ensures.after c.loop-number.number at.at8;
      };
      least = omega (arith, c.loop-number.invariant.least);
      most = omega (arith, under);
    }

pub returns-else-go_on : goal.returns-else-go_on
returns-else-go_on c =
    let p = c.args.program in
    stopped p c.args.taken c.args.last c.loop-number.number c.loop-number.self c.loop-number.invariant.least
    c.loop-number.invariant.most
    (inl (c.go_on.ensures p c.loop-number.number c.loop-number.invariant.at c.if-go_on.false)) c.loop-number.invariant.at

pub returns-after-loop-number : goal.returns-after-loop-number
returns-after-loop-number c =
    stopped c.args.program c.args.taken c.args.last c.loop-number.number c.loop-number.self c.loop-number.invariant.least
    c.loop-number.invariant.most
    (inr c.loop-number-test.false) c.loop-number.invariant.at
