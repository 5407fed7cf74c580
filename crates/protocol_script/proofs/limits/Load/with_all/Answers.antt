use Rattle.protocol_script.proofs.Common.{◌+◌, arith, inl, inr, sym, ◌∙◌, ⊎_elim, room_of}
use Rattle.protocol_script.proofs.LimitLaws.{kept, past, sum-one, sum-within}
use Rattle.protocol_script.proofs.limits.Load.with_all.Goals as goal

pub loop-object-preserved : goal.loop-object-preserved
loop-object-preserved c =
    let so_far = c.loop-object.invariant in
    let one =
    sum-one (room_of c.args.notes.now) c.args.objects.now c.loop-object.object-index c.object-item.result c.loop-object-test.true
    c.object-item.is in
    record {
      room = omega (arith, so_far.room, one, c.with-load.ensures.room);
      objects = omega (arith, so_far.objects, c.with-load.ensures.objects);
      within = kept _ _ (sym c.is_kept.ensures ∙ c.if-not-is_kept.false);
    }

pub returns-then-not-is_kept-clause-past : goal.returns-then-not-is_kept-clause-past
returns-then-not-is_kept-clause-past c =
    let so_far = c.loop-object.invariant in
    let one =
    sum-one (room_of c.args.notes.now) c.args.objects.now c.loop-object.object-index c.object-item.result c.loop-object-test.true
    c.object-item.is in
    let all = sum-within (room_of c.args.notes.now) c.args.objects.now (c.loop-object.object-index + 1) in
    ⊎_elim
    (λ h. inl (omega (arith, h, so_far.room, one, all, c.with-load.ensures.room)))
    (λ h. inr (omega (arith, h, so_far.objects, c.with-load.ensures.objects, c.loop-object-test.true)))
    (past c.with-load.result.room c.with-load.result.objects (sym c.is_kept.ensures ∙ c.if-not-is_kept.true))
