use Rattle.ebc_link.proofs.Common.{[], arith, refl}
use Rattle.std.proofs.lemmas.Grind.{common_steps}
use Rattle.ebc_link.proofs.PlanLaws.{again_here, again_later, all_once, apart_from}
use Rattle.ebc_link.proofs.plan_text.objects_once.Goals as goal

pub returns-then-not-branch-clause-once : goal.returns-then-not-branch-clause-once
returns-then-not-branch-clause-once c =
    let seen = c.loop-object in
    let item = c.object-item in
    let again = again_here seen.names c.args.objects.now seen.object-index item.result _ c.loop-object-test.true item.is
    seen.invariant.so_far c.in_ok-add.ensures.new c.if-not-branch.true in
    rw (again, c.in_ok-objects_path.ensures) refl

pub loop-object-preserved : goal.loop-object-preserved
loop-object-preserved c =
    let seen = c.loop-object in
    let item = c.object-item in
    record {
      so_far = again_later seen.names c.args.objects.now seen.object-index item.result _ c.loop-object-test.true item.is
          seen.invariant.so_far c.in_ok-add.ensures.new c.add.new.self c.if-not-branch.false c.in_ok-add.ensures.ok;
      few = grind (arith, common_steps, seen.invariant.few, c.in_ok-add.ensures.ok);
    }

pub returns-clause-once : goal.returns-clause-once
returns-clause-once c =
    let seen = c.loop-object in
    rw (all_once seen.names c.args.objects.now seen.object-index c.loop-object-test.false seen.invariant.so_far) refl

pub returns-clause-apart : goal.returns-clause-apart
returns-clause-apart c =
    let seen = c.loop-object in
    (apart_from [] c.args.objects.now
    (all_once seen.names c.args.objects.now seen.object-index c.loop-object-test.false seen.invariant.so_far)).1
