use Rattle.width_checker.proofs.Common.{◌≡◌, List, subst, Some, slice_get, FnNote}
use Rattle.rules_image.proofs.Firsts.{item_there}
use Rattle.width_checker.proofs.Walking.{functions_more, refuses}
use Rattle.width_checker.proofs.walk.check_each.Goals as goal

pub check-requires-clause-there : goal.check-requires-clause-there
check-requires-clause-there c =
    subst (λ (fs : List FnNote). slice_get fs c.loop-func.func ≡ Some c.index-functions-func.result) c.requires.functions
    (item_there
    (λ k (f : FnNote). Unit {0}) c.args.functions.now c.loop-func.func c.index-functions-func.result c.loop-func-test.true
    c.index-functions-func.is)

pub check-requires-clause-holds : goal.check-requires-clause-holds
check-requires-clause-holds c =
    c.requires.tables.functions c.loop-func.func c.index-functions-func.result
    (subst (λ (fs : List FnNote). slice_get fs c.loop-func.func ≡ Some c.index-functions-func.result) c.requires.functions
    (item_there
    (λ k (f : FnNote). Unit {0}) c.args.functions.now c.loop-func.func c.index-functions-func.result c.loop-func-test.true
    c.index-functions-func.is))

pub loop-func-preserved : goal.loop-func-preserved
loop-func-preserved c =
    functions_more c.args.image.now c.args.notes.now c.loop-func.func c.index-functions-func.result c.loop-func.invariant
    (subst (λ (fs : List FnNote). slice_get fs c.loop-func.func ≡ Some c.index-functions-func.result) c.requires.functions
    (item_there
    (λ k (f : FnNote). Unit {0}) c.args.functions.now c.loop-func.func c.index-functions-func.result c.loop-func-test.true
    c.index-functions-func.is))
    c.in-Ok.ensures.meets

pub returns-in-Err-clause-fails : goal.returns-in-Err-clause-fails
returns-in-Err-clause-fails c =
    refuses c.args.image.now c.args.notes.now c.loop-func.func c.index-functions-func.result c.in-Err.refusal c.requires.tables
    (subst (λ (fs : List FnNote). slice_get fs c.loop-func.func ≡ Some c.index-functions-func.result) c.requires.functions
    (item_there
    (λ k (f : FnNote). Unit {0}) c.args.functions.now c.loop-func.func c.index-functions-func.result c.loop-func-test.true
    c.index-functions-func.is))
    c.loop-func.invariant c.in-Err.ensures.fails
