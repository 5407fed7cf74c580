use Rattle.std.proofs.Common.{inl, inr, sym, ap, ◌∙◌, ◌++◌, arith, append-nil}
use Rattle.run_trace.specs.Following.{world_under}
use Rattle.twin_trace.proofs.BothLaws.{none-beside, stopped, stopped-beside, told-more}
use Rattle.twin_trace.proofs.runs.BothRuns.tell.Goals as goal

pub loop-number-init : goal.loop-number-init
loop-number-init c =
    let p = c.args.program in
    record {
      at = c.requires.before;
      least = omega arith;
      most = omega arith;
      text = sym (ap (λ t. c.args.out.now.items ++ t) (none-beside p.image.now (world_under p) c.args.taken)
          ∙ append-nil c.args.out.now.items);
    }

pub loop-number-preserved : goal.loop-number-preserved
loop-number-preserved c =
    let p = c.args.program in
    let under = c.loop-number-test.true in
    record {
      at = c.in_ok-tell_next.ensures.after;
      least = omega (arith, c.loop-number.invariant.least);
      most = omega (arith, under);
      text = told-more p.image.now (world_under p) c.args.taken c.loop-number.number c.args.out.now.items c.loop-number.out.items
          c.tell_next.new.out.items c.loop-number.invariant.least c.loop-number.invariant.text c.in_ok-tell_next.ensures.text;
    }

pub returns-else-go_on-clause-after : goal.returns-else-go_on-clause-after
returns-else-go_on-clause-after c =
    let p = c.args.program in
    stopped p c.args.taken c.args.last c.loop-number.number c.loop-number.self c.loop-number.invariant.least
    c.loop-number.invariant.most
    (inl (c.go_on.ensures p c.loop-number.number c.loop-number.invariant.at c.if-go_on.false)) c.loop-number.invariant.at

pub returns-else-go_on-clause-text : goal.returns-else-go_on-clause-text
returns-else-go_on-clause-text c =
    let p = c.args.program in
    c.loop-number.invariant.text ∙ ap (λ t. c.args.out.now.items ++ t)
    (stopped-beside p.image.now (world_under p) c.args.taken c.args.last c.loop-number.number
    c.loop-number.invariant.least c.loop-number.invariant.most
    (inl (c.go_on.ensures p c.loop-number.number c.loop-number.invariant.at c.if-go_on.false)))

pub returns-after-loop-number-clause-after : goal.returns-after-loop-number-clause-after
returns-after-loop-number-clause-after c =
    stopped c.args.program c.args.taken c.args.last c.loop-number.number c.loop-number.self c.loop-number.invariant.least
    c.loop-number.invariant.most
    (inr c.loop-number-test.false) c.loop-number.invariant.at

pub returns-after-loop-number-clause-text : goal.returns-after-loop-number-clause-text
returns-after-loop-number-clause-text c =
    let p = c.args.program in
    c.loop-number.invariant.text ∙ ap (λ t. c.args.out.now.items ++ t)
    (stopped-beside p.image.now (world_under p) c.args.taken c.args.last c.loop-number.number
    c.loop-number.invariant.least c.loop-number.invariant.most
    (inr c.loop-number-test.false))
