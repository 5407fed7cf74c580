use Rattle.std.proofs.Common.{◌≡◌, true, false, ap, sym, ◌∙◌, rules}
use Rattle.std.specs.Prelude.{not}
use Rattle.type_notes.proofs.PointLemmas.{first_point-none, first_point-some, test-here}
use Rattle.type_notes.proofs.SearchLaws.{NoneBelow-more}
use Rattle.type_notes.specs.PointLocals.{point_locals}
use Rattle.type_notes.specs.Owners.{AreOwners}
use Rattle.type_notes.proofs.points.first_point.Goals as goal

pub returns-then-not-passes : goal.returns-then-not-passes
returns-then-not-passes g c =
    let own : AreOwners c.args.draft.now.function c.as_slice-points.result.now c.args.owners.now =
    rw c.as_slice-points.ensures c.requires in
    let found : g.C.PointCheck.passes
    (point_locals c.args.names.now c.args.draft.now c.index-points-item.result.place) c.index-points-item.result ≡ c.passes.result
    = test-here c.args.names.now c.args.draft.now g.C.PointCheck.passes c.loop-item.item c.as_slice-points.result.now c.args.owners.now
    c.index-points-item.result c.locals_of_function-locals.result.has_locals c.locals_of_function-locals.result.fields.now
    c.passes.result
    own c.loop-item-test.true c.index-points-item.is c.locals_of_function-locals.ensures.has_locals
    c.locals_of_function-locals.ensures.fields c.passes.ensures in
    let failed : c.passes.result ≡ false = search rules in
    sym (first_point-some c.args.names.now c.args.draft.now g.C.PointCheck.passes c.loop-item.item c.as_slice-points.result.now
    c.index-points-item.result c.as_slice-points.ensures c.loop-item-test.true c.index-points-item.is
    (found ∙ failed) c.loop-item.invariant)

pub loop-item-preserved : goal.loop-item-preserved
loop-item-preserved g c =
    let own : AreOwners c.args.draft.now.function c.as_slice-points.result.now c.args.owners.now =
    rw c.as_slice-points.ensures c.requires in
    let found : g.C.PointCheck.passes
    (point_locals c.args.names.now c.args.draft.now c.index-points-item.result.place) c.index-points-item.result ≡ c.passes.result
    = test-here c.args.names.now c.args.draft.now g.C.PointCheck.passes c.loop-item.item c.as_slice-points.result.now c.args.owners.now
    c.index-points-item.result c.locals_of_function-locals.result.has_locals c.locals_of_function-locals.result.fields.now
    c.passes.result
    own c.loop-item-test.true c.index-points-item.is c.locals_of_function-locals.ensures.has_locals
    c.locals_of_function-locals.ensures.fields c.passes.ensures in
    let passed : c.passes.result ≡ true = search rules in
    NoneBelow-more
    (λ p. not
    (g.C.PointCheck.passes
    (point_locals c.args.names.now c.args.draft.now p.place) p)) c.as_slice-points.result.now c.loop-item.item
    c.index-points-item.result c.loop-item-test.true c.index-points-item.is (ap not (found ∙ passed)) c.loop-item.invariant

pub returns : goal.returns
returns g c =
    sym (first_point-none c.args.names.now c.args.draft.now g.C.PointCheck.passes c.loop-item.item c.as_slice-points.result.now
    c.as_slice-points.ensures c.loop-item-test.false c.loop-item.invariant)
