use Rattle.std.proofs.Common.{◌≡◌, ◌∙◌}
use Rattle.type_notes.proofs.PointLemmas.{point-resolved, points-more}
use Rattle.type_notes.specs.Owners.{AreOwners}
use Rattle.type_notes.specs.Resolved.{resolved_point}
use Rattle.type_notes.proofs.points.resolve_points.Goals as goal

pub loop-item-preserved : goal.loop-item-preserved
loop-item-preserved c =
    let own : AreOwners c.args.draft.now.function c.as_slice-drafts.result.now c.args.owners.now =
    rw c.as_slice-drafts.ensures c.requires in
    let is : record {
      place = c.index-drafts-item.result.place;
      state = c.in_ok-new.field-0;
    } ≡ resolved_point c.args.names.now c.args.draft.now c.index-drafts-item.result
    = point-resolved c.args.names.now c.args.draft.now c.loop-item.item c.as_slice-drafts.result.now c.args.owners.now
    c.index-drafts-item.result c.locals_of_function-locals.result.fields.now c.in_ok-new.field-0 own c.loop-item-test.true
    c.index-drafts-item.is c.locals_of_function-locals.ensures.fields (c.in_ok-new.ensures ∙ c.state_of.ensures) in
    rw c.in_ok-push.ensures.items
    (points-more
    (resolved_point c.args.names.now c.args.draft.now) c.as_slice-drafts.result.now c.loop-item.item c.index-drafts-item.result
    c.loop-item.points.items _ c.loop-item-test.true c.index-drafts-item.is is c.loop-item.invariant)
