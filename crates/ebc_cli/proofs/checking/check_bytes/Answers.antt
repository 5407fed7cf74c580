use Rattle.pe_image.specs.Images.{Gives}
use Rattle.ebc_cli.proofs.CheckLaws.{bytes-as-one, if-ok, no-image}
use Rattle.ebc_cli.proofs.checking.check_bytes.Goals as goal
use Rattle.ebc_cli.specs.declared.checking.Checked.TheVariants as checked

pub returns-in-Ok-clause-typed_exactly : goal.returns-in-Ok-clause-typed_exactly
returns-in-Ok-clause-typed_exactly c =
    if-ok c.check_under.result (λ x k. k c.args.image.now c.in-Ok.ensures.reading checked.Neutral) c.check_under.ensures.exactly

pub returns-in-Ok-clause-runs_as_one : goal.returns-in-Ok-clause-runs_as_one
returns-in-Ok-clause-runs_as_one c =
    if-ok c.check_under.result (λ x k. bytes-as-one c.args.image.now c.args.notes.now c.in-Ok.image x c.in-Ok.ensures.reading k)
    c.check_under.ensures.as_one

pub returns-in-Ok-clause-told_exactly : goal.returns-in-Ok-clause-told_exactly
returns-in-Ok-clause-told_exactly c =
    if-ok c.check_under.result (λ x k. k c.args.image.now c.in-Ok.ensures.reading) c.check_under.ensures.exactly

pub returns-in-Err-Fault-clause-typed_exactly : goal.returns-in-Err-Fault-clause-typed_exactly
returns-in-Err-Fault-clause-typed_exactly c =
    rw c.in-Err-Fault.field-0-is (no-image c.args.image.now c.args.notes.now c.in-Err-Fault.kind c.in-Err-Fault.offset
    (rw c.in-Err-Fault.field-0-is at c.in-Err-Fault.ensures.reading) checked.Neutral)

pub returns-in-Err-Fault-clause-told_exactly : goal.returns-in-Err-Fault-clause-told_exactly
returns-in-Err-Fault-clause-told_exactly c =
    rw c.in-Err-Fault.field-0-is (no-image c.args.image.now c.args.notes.now c.in-Err-Fault.kind c.in-Err-Fault.offset
    (rw c.in-Err-Fault.field-0-is at c.in-Err-Fault.ensures.reading))
