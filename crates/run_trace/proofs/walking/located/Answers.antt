use Rattle.std.proofs.Common.{arith, length, subst, sym, ◌+◌}
use Rattle.object_memory.specs.Memory.{padded, ranges}
use Rattle.run_trace.specs.Walks.{AreInRow, IsWalk}
use Rattle.run_trace.proofs.RunnerLaws.{runner-in-row, runner-objects}
use Rattle.run_trace.proofs.WalkLaws.{walk-above, walk-finds, walk-on, walk-over, walk-starts}
use Rattle.run_trace.proofs.walking.located.Goals as goal

pub loop-base-init : goal.loop-base-init
loop-base-init g c =
    walk-starts c.first_base-base.result (ranges c.args.runner.now.mem) c.args.address
    (subst (λ b. AreInRow b (ranges c.args.runner.now.mem)) (sym c.first_base-base.ensures)
    (runner-in-row g.row.W c.args.runner.now c.requires.runs c.requires.width))

pub returns-in_default-clause-located : goal.returns-in_default-clause-located
returns-in_default-clause-located g c =
    let runs = c.requires.runs in
    walk-over runs.state.machine (ranges c.args.runner.now.mem) (runner-objects g.row.W c.args.runner.now runs) c.args.address
    c.loop-base.base c.loop-base.object c.loop-base.invariant (c.in_default.ensures.none runs.world runs.state runs.is)

pub returns-then-address-base-clause-located : goal.returns-then-address-base-clause-located
returns-then-address-base-clause-located g c =
    let runs = c.requires.runs in
    walk-finds runs.state.machine (ranges c.args.runner.now.mem) (runner-objects g.row.W c.args.runner.now runs) c.args.address
    c.loop-base.base c.loop-base.object c.in-Some.bytes.now c.loop-base.invariant
    (c.in-Some.ensures.found runs.world runs.state runs.is) c.loop-base-test.true c.if-address-base.true

pub returns-in_default-next_base-clause-located : goal.returns-in_default-next_base-clause-located
returns-in_default-next_base-clause-located g c =
    let runs = c.requires.runs in
    let past = c.in_default-next_base.ensures.past in
    walk-above (ranges c.args.runner.now.mem) c.args.address (c.loop-base.base + padded (length c.in-Some.bytes.now))
    (c.loop-base.object + 1)
    (walk-on runs.state.machine (ranges c.args.runner.now.mem) (runner-objects g.row.W c.args.runner.now runs) c.args.address
    c.loop-base.base c.loop-base.object c.in-Some.bytes.now c.loop-base.invariant
    (c.in-Some.ensures.found runs.world runs.state runs.is) c.loop-base-test.true c.if-address-base.false) (omega (arith, past))

pub loop-base-preserved : goal.loop-base-preserved
loop-base-preserved g c =
    let runs = c.requires.runs in
    subst (λ b. IsWalk (ranges c.args.runner.now.mem) c.args.address b (c.loop-base.object + 1)) (sym c.in-Some-next_base.ensures.next)
    (walk-on runs.state.machine (ranges c.args.runner.now.mem) (runner-objects g.row.W c.args.runner.now runs) c.args.address
    c.loop-base.base c.loop-base.object c.in-Some.bytes.now c.loop-base.invariant
    (c.in-Some.ensures.found runs.world runs.state runs.is) c.loop-base-test.true c.if-address-base.false)

pub returns-clause-located : goal.returns-clause-located
returns-clause-located g c =
    walk-above (ranges c.args.runner.now.mem) c.args.address c.loop-base.base c.loop-base.object c.loop-base.invariant
    (let past = c.loop-base-test.false in omega (arith, past))
