use Rattle.stack_needs.proofs.Common.{ℕ, List, [], ◌∷◌, ap, arith, length, subst, sym, err_from_is_err_and, CallsFunction, Sees, Walked}
use Rattle.std.proofs.Common.{length-append}
use Rattle.note_infer.proofs.Gathering.{function_there, has_code}
use Rattle.stack_needs.proofs.WayLaws.{cause-walk, sees-more, sees-none}
use Rattle.stack_needs.proofs.needs.walk_all.Goals as goal

pub walk-requires-clause-code : goal.walk-requires-clause-code
walk-requires-clause-code c =
    let there = function_there c.args.notes.now c.as_slice-f-items.result.now c.loop-f.f-index c.f-item.result c.as_slice-f-items.ensures
    c.loop-f-test.true c.f-item.is in
    has_code c.args.image.now c.args.notes.now c.loop-f.f-index c.f-item.result c.requires.functions c.requires.notes there

pub loop-f-init : goal.loop-f-init
loop-f-init c = record {
  count = ap length c.new-walks.ensures.items;
  calls = subst (λ (ws : List Walked). (k j : ℕ) → Sees ws k j → CallsFunction c.args.image.now c.args.notes.now k j)
      (sym c.new-walks.ensures.items) (sees-none c.args.image.now c.args.notes.now);
}

pub loop-f-preserved : goal.loop-f-preserved
loop-f-preserved c =
    let image = c.args.image.now in
    let notes = c.args.notes.now in
    let walks = c.loop-f.walks.items in
    let there = function_there notes c.as_slice-f-items.result.now c.loop-f.f-index c.f-item.result c.as_slice-f-items.ensures
    c.loop-f-test.true c.f-item.is in
    let more = length-append walks (c.in_ok-walk.field-0 ∷ []) in
    let whole = ap length c.in_ok-push.ensures.items in
    record {
      count = let before = c.loop-f.invariant.count in omega (arith, more, whole);
      calls = subst (λ (ws : List Walked). (k j : ℕ) → Sees ws k j → CallsFunction image notes k j) (sym c.in_ok-push.ensures.items)
          (sees-more image notes walks c.in_ok-walk.field-0 c.f-item.result c.loop-f.f-index c.loop-f.invariant.count there
          c.in_ok-walk.ensures.calls c.loop-f.invariant.calls);
    }

pub returns-in_err-walk-clause-cause : goal.returns-in_err-walk-clause-cause
returns-in_err-walk-clause-cause c =
    let there = function_there c.args.notes.now c.as_slice-f-items.result.now c.loop-f.f-index c.f-item.result c.as_slice-f-items.ensures
    c.loop-f-test.true c.f-item.is in
    let p = err_from_is_err_and c.from_residual.result c.from_residual.ensures.1 in
    rw (p.1, p.2) (cause-walk c.args.image.now c.args.notes.now c.f-item.result c.loop-f.f-index _ there c.in_err-walk.ensures.ends)
