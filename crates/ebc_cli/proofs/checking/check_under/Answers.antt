use Rattle.note_texts.specs.Outcome.{Fails}
use Rattle.ebc_cli.proofs.CheckLaws.{checked-as-one, checked-under, if-ok, no-notes}
use Rattle.ebc_cli.proofs.checking.check_under.Goals as goal

pub returns-in-Ok-clause-exactly : goal.returns-in-Ok-clause-exactly
returns-in-Ok-clause-exactly c =
    if-ok c.check_image.result (λ x t. checked-under c.args.image c.in-Ok.notes c.args.text.now x c.in-Ok.ensures.notes t)
    c.check_image.ensures

pub returns-in-Ok-clause-as_one : goal.returns-in-Ok-clause-as_one
returns-in-Ok-clause-as_one c =
    if-ok c.check_image.result (λ x t. checked-as-one c.args.image c.in-Ok.notes c.args.text.now x c.requires c.in-Ok.ensures.conditions
    c.in-Ok.ensures.notes t) c.check_image.ensures

pub returns-in-Err-Fault-clause-exactly : goal.returns-in-Err-Fault-clause-exactly
returns-in-Err-Fault-clause-exactly c =
    rw c.in-Err-Fault.field-0-is (no-notes c.args.image c.args.text.now c.in-Err-Fault.fault
    (rw c.in-Err-Fault.field-0-is at c.in-Err-Fault.ensures.notes))
