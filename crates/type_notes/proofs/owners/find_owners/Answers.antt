use Rattle.std.proofs.Common.{◌∙◌, sym}
use Rattle.type_notes.proofs.OwnerLaws.{AreFound-more, first_stray-none, first_stray-some}
use Rattle.type_notes.proofs.owners.find_owners.Goals as goal

pub returns-in-None : goal.returns-in-None
returns-in-None c =
    let found = c.loop-number in
    let item = c.index-points-number in
    first_stray-some c.args.functions.now c.args.points.now found.number found.from found.owners.items item.result c.loop-number-test.true
    item.is found.invariant (sym c.in-None.is ∙ c.owner_from.ensures.owner)

pub loop-number-preserved : goal.loop-number-preserved
loop-number-preserved c =
    let found = c.loop-number in
    let item = c.index-points-number in
    rw c.in_ok-push-in-Some.ensures.items
    (AreFound-more c.args.functions.now c.args.points.now found.number found.from c.in-Some.owner found.owners.items item.result
    c.requires.points c.loop-number-test.true item.is found.invariant
    (sym c.in-Some.is ∙ c.owner_from.ensures.owner) c.in-Some.ensures.before c.in-Some.ensures.within)

pub returns : goal.returns
returns c =
    first_stray-none c.args.functions.now c.args.points.now c.loop-number.number c.loop-number.from c.loop-number.owners.items
    c.loop-number-test.false c.loop-number.invariant
