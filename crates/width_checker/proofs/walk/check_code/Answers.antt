use Rattle.width_checker.proofs.Common.{List, length, subst, FnNote, FunctionsMeet}
use Rattle.width_checker.proofs.Walking.{typed_image}
use Rattle.width_checker.proofs.walk.check_code.Goals as goal

pub returns-in-Ok-clause-holds : goal.returns-in-Ok-clause-holds
returns-in-Ok-clause-holds c =
    typed_image c.args.image.now c.args.notes.now c.requires.tables
    (subst (λ (fs : List FnNote). FunctionsMeet c.args.image.now c.args.notes.now (length fs)) c.as_slice.ensures c.in-Ok.ensures.holds)
