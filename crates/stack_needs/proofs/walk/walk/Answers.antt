use Rattle.stack_needs.proofs.Common.{subst, sym, err_from_is_err_and, AreCalls, HasWay, Depth}
use Rattle.stack_needs.specs.declared.walk.Course.{Course}
use Rattle.stack_needs.proofs.{WayLaws.comes-first, walk.walk.Goals.else-loop-test, walk.walk.Goals.then-loop-test+in_default}
use Rattle.stack_needs.proofs.walk.walk.Goals as goal

pub reach-requires-clause-course : goal.reach-requires-clause-course
reach-requires-clause-course c = c.in_ok-course.ensures.begun c.args.image.now c.args.notes.now c.args.f.now

pub reach-requires-clause-comes : goal.reach-requires-clause-comes
reach-requires-clause-comes c =
    let f = c.args.f.now in
    subst (λ (d : Depth). HasWay c.args.image.now f f.place d) (sym c.none.ensures) (comes-first c.args.image.now f)

pub returns-in_err-course-clause-ends : goal.returns-in_err-course-clause-ends
returns-in_err-course-clause-ends c =
    let p = err_from_is_err_and c.from_residual.result c.from_residual.ensures.1 in
    rw (p.1, p.2) (c.in_err-course.ensures.ends c.args.image.now c.args.f.now)

pub returns-clause-calls : goal.returns-clause-calls
returns-clause-calls c =
    let P : Course → Type 0 = λ x. AreCalls c.args.image.now c.args.notes.now c.args.f.now x.walked.calls.items in
    elim c.loop-test.branch [
      | else-loop-test w ↦ subst P (sym w.course-is) c.loop.invariant.calls
      | then-loop-test+in_default w ↦ subst P (sym w.course-is) w.next.ensures.course.calls
    ]
