use Rattle.type_notes.proofs.OrderLemmas.{functions-ascend, none-astray, one-astray, points-ascend}
use Rattle.type_notes.proofs.checks.owners_of.Goals as goal

pub find_owners-requires-clause-functions : goal.find_owners-requires-clause-functions
find_owners-requires-clause-functions c = rw c.as_slice.ensures (functions-ascend c.args.draft.now c.requires)

pub find_owners-requires-clause-points : goal.find_owners-requires-clause-points
find_owners-requires-clause-points c = rw c.as_slice-2.ensures (points-ascend c.args.draft.now c.requires)

pub returns-in-All-clause-stray : goal.returns-in-All-clause-stray
returns-in-All-clause-stray c =
    none-astray c.args.draft.now c.as_slice.result.now c.as_slice-2.result.now c.in_ok-owners.field-0 c.in-All.owners c.as_slice.ensures
    c.as_slice-2.ensures c.in_ok-owners.ensures c.in-All.is

pub returns-in_ok-path-in-Stray-clause-stray : goal.returns-in_ok-path-in-Stray-clause-stray
returns-in_ok-path-in-Stray-clause-stray c =
    rw c.in_ok-path-in-Stray.ensures
    (one-astray c.args.draft.now c.as_slice.result.now c.as_slice-2.result.now c.in_ok-owners.field-0 c.in-Stray.item c.as_slice.ensures
    c.as_slice-2.ensures c.in_ok-owners.ensures c.in-Stray.is)
