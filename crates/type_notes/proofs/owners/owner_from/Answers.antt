use Rattle.type_notes.proofs.OwnerLaws.{EndBy-more, owner_of-here, owner_of-ahead, owner_of-none}
use Rattle.type_notes.proofs.owners.owner_from.Goals as goal

pub returns-then-function-place-clause-owner : goal.returns-then-function-place-clause-owner
returns-then-function-place-clause-owner c =
    let item = c.index-functions-number in
    owner_of-here c.args.functions.now c.loop-number.number c.args.place item.result c.loop-number-test.true item.is c.loop-number.invariant
    c.if-place-function.true c.if-function-place.true

pub returns-else-function-place-clause-owner : goal.returns-else-function-place-clause-owner
returns-else-function-place-clause-owner c =
    let item = c.index-functions-number in
    owner_of-ahead c.args.functions.now c.loop-number.number c.args.place item.result c.requires.ascend c.loop-number-test.true item.is
    c.loop-number.invariant c.if-function-place.false

pub loop-number-preserved : goal.loop-number-preserved
loop-number-preserved c =
    let item = c.index-functions-number in
    EndBy-more c.args.functions.now c.loop-number.number c.args.place item.result c.loop-number-test.true item.is c.if-place-function.false
    c.loop-number.invariant

pub returns-clause-owner : goal.returns-clause-owner
returns-clause-owner c =
    owner_of-none c.args.functions.now c.loop-number.number c.args.place c.loop-number-test.false c.loop-number.invariant
