use Rattle.std.proofs.Common.{ap, arith, length, subst, sym, ◌+◌, ◌∙◌}
use Rattle.object_memory.specs.Memory.{padded, ranges}
use Rattle.run_trace.specs.Pointed.{IsReached, base_of}
use Rattle.run_trace.proofs.PointingLaws.{ends, lie-in, reached-base, reached-far, reached-first, reached-next, reached-none}
use Rattle.run_trace.proofs.RunnerLaws.{runner-in-row, runner-objects}
use Rattle.run_trace.specs.Walks.{AreInRow}
use Rattle.run_trace.proofs.pointing.base_of.Goals as goal

pub loop-reached-init : goal.loop-reached-init
loop-reached-init g c = (
  omega arith,
  reached-first c.first_base-base.result (ranges c.args.runner.now.mem)
      (subst (λ b. AreInRow b (ranges c.args.runner.now.mem)) (sym c.first_base-base.ensures)
      (runner-in-row g.row.W c.args.runner.now c.requires.runs c.requires.width)),
)

pub returns-in_default : goal.returns-in_default
returns-in_default g c = λ image world s read size is.
    reached-none s.machine (ranges c.args.runner.now.mem) (lie-in g.row.W image world c.args.runner.now s c.requires.width read size is)
    c.loop-reached.base c.loop-reached.reached c.args.number c.loop-reached.invariant.0 c.loop-reached.invariant.1
    (c.in_default.ensures.none world s is)

pub returns-then-reached-number : goal.returns-then-reached-number
returns-then-reached-number g c = λ image world s read size is.
    sym (ap (base_of s.machine) (sym c.if-reached-number.true)
    ∙ reached-base s.machine (ranges c.args.runner.now.mem) (lie-in g.row.W image world c.args.runner.now s c.requires.width read size is)
    c.loop-reached.base c.loop-reached.reached c.in-Some.bytes.now c.loop-reached.invariant.1 (c.in-Some.ensures.found world s is))

pub returns-in_default-next_base : goal.returns-in_default-next_base
returns-in_default-next_base g c = λ image world s read size is.
    let far = c.in_default-next_base.ensures.past in
    let most = c.loop-reached.invariant.0 in
    let other = c.if-reached-number.false in
    let same = lie-in g.row.W image world c.args.runner.now s c.requires.width read size is in
    reached-far s.machine (ranges c.args.runner.now.mem) same
    (c.loop-reached.base + padded (length c.in-Some.bytes.now)) (c.loop-reached.reached + 1) c.args.number (omega (arith, most, other))
    (reached-next s.machine (ranges c.args.runner.now.mem) same
    c.loop-reached.base c.loop-reached.reached c.in-Some.bytes.now c.loop-reached.invariant.1 (c.in-Some.ensures.found world s is))
    (ends g.row.W image world c.args.runner.now s c.requires.width read size is) (omega (arith, far))

pub loop-reached-preserved : goal.loop-reached-preserved
loop-reached-preserved g c =
    let runs = c.requires.runs in
    let most = c.loop-reached.invariant.0 in
    let other = c.if-reached-number.false in (
      omega (arith, most, other),
      subst (λ b. IsReached (ranges c.args.runner.now.mem) (c.loop-reached.reached + 1) b) (sym c.in-Some-next_base.ensures.next)
          (reached-next runs.state.machine (ranges c.args.runner.now.mem) (runner-objects g.row.W c.args.runner.now runs)
          c.loop-reached.base c.loop-reached.reached c.in-Some.bytes.now c.loop-reached.invariant.1
          (c.in-Some.ensures.found runs.world runs.state runs.is)),
    )

pub returns : goal.returns
returns g c =
    let most = c.loop-reached.invariant.0 in
    let over = c.loop-reached-test.false in
    absurd (omega (arith, most, over))
