use Rattle.twin_run.proofs.Common.{◌≡◌, ◌-◌, ◌&&◌, refl, arith, true, and_parts}
use Rattle.twin_run.proofs.{InStep.none_same, InStep.one_same, SteppingOn.all_taken, SteppingOn.none_taken, SteppingOn.one_taken}
use Rattle.twin_run.proofs.in_step.instructions.Goals as goal

pub loop-next-init : goal.loop-next-init
loop-next-init c = record {
  left = omega arith;
  first = λ e. refl;
  inside4 = λ e. c.requires.inside4;
  inside8 = λ e. c.requires.inside8;
  taken4 = none_taken 4 c.args.notes.now c.args.most c.args.at4.now;
  taken8 = none_taken 8 c.args.notes.now c.args.most c.args.at8.now;
  same = none_same c.args.notes.now c.args.most c.args.at4.now c.args.at8.now;
}

pub loop-next-preserved : goal.loop-next-preserved
loop-next-preserved c =
    let was = c.loop-next.invariant in
    let goes_on = c.loop-next-test.true in
    let some = c.if-left-gt0.true in
    let most = was.left in
    let parts : (c.instruction-next4.result && c.instruction-next8.result && c.is_one_place.result) ≡ true
    → (c.instruction-next4.result ≡ true) × (c.instruction-next8.result ≡ true) × (c.is_one_place.result ≡ true) =
    λ e. let p = and_parts _ _ e in let q = and_parts _ _ p.0 in (q.0, q.1, p.1) in
    let taken4 = one_taken 4 c.args.notes.now c.args.most c.loop-next.left c.args.at4.now c.loop-next.at4 c.instruction-next4.new.self _
    (c.instruction-next4.result && c.instruction-next8.result && c.is_one_place.result)
    was.taken4 goes_on most some (was.inside4 goes_on) c.instruction-next4.ensures.at (λ e. c.instruction-next4.ensures.next (parts e).0)
    c.instruction-next4.ensures.done c.instruction-next4.ensures.trace c.instruction-next4.ensures.quiet in
    let taken8 = one_taken 8 c.args.notes.now c.args.most c.loop-next.left c.args.at8.now c.loop-next.at8 c.instruction-next8.new.self _
    (c.instruction-next4.result && c.instruction-next8.result && c.is_one_place.result)
    was.taken8 goes_on most some (was.inside8 goes_on) c.instruction-next8.ensures.at (λ e. c.instruction-next8.ensures.next (parts e).1)
    c.instruction-next8.ensures.done c.instruction-next8.ensures.trace c.instruction-next8.ensures.quiet in
    record {
      left = omega (arith, most);
      first = λ e. absurd (omega (arith, e, most, some));
      inside4 = λ e. c.is_one_place.ensures.inside4 (parts e).2;
      inside8 = λ e. c.is_one_place.ensures.inside8 (parts e).2;
      taken4 = taken4;
      taken8 = taken8;
      same = one_same c.args.notes.now c.args.most c.loop-next.left c.args.at4.now c.instruction-next4.new.self c.args.at8.now
          c.instruction-next8.new.self _ _ was.same goes_on most some taken4 taken8
          (λ world r s d e t. c.is_one_place.ensures.spot world r s d e (parts t).2);
    }

pub returns-clause-done4 : goal.returns-clause-done4
returns-clause-done4 c =
    all_taken 4 c.args.notes.now c.args.most (c.args.most - c.loop-next.left) _ c.args.at4.now c.loop-next.at4 _
    c.loop-next.invariant.taken4 c.saturating_add-at4.ensures

pub returns-clause-done8 : goal.returns-clause-done8
returns-clause-done8 c =
    all_taken 8 c.args.notes.now c.args.most (c.args.most - c.loop-next.left) _ c.args.at8.now c.loop-next.at8 _
    c.loop-next.invariant.taken8 c.saturating_add-at8.ensures

pub returns-clause-same : goal.returns-clause-same
returns-clause-same c = λ world r s its free4 free8 on at4 at8 same.
    (c.loop-next.invariant.same world r s its free4 free8 on at4 at8 same).0
