use Rattle.std.proofs.Common.{◌∙◌}
use Rattle.std.proofs.lemmas.Result.{err_from_is_err_and}
use Rattle.toml.specs.View.{table_view}
use Rattle.note_completion.proofs.CauseLaws.{caused_unformed, caused_unread}
use Rattle.note_completion.proofs.HaltLaws.{ends_over, ends_unread, faults_over}
use Rattle.note_completion.proofs.task.Task.check_forms.Goals as goal

pub returns-in_err-table-clause-faults : goal.returns-in_err-table-clause-faults
returns-in_err-table-clause-faults c =
    let p = err_from_is_err_and c.from_residual.result c.from_residual.ensures.1 in
    rw (p.1, p.2) (ends_unread _ _ _ _ c.in_err-table.ensures)

pub returns-in_err-table-clause-cause : goal.returns-in_err-table-clause-cause
returns-in_err-table-clause-cause c =
    let p = err_from_is_err_and c.from_residual.result c.from_residual.ensures.1 in
    rw (p.1, p.2) (caused_unread c.args.self _ c.in_err-table.ensures)

pub returns-in_err-check_forms-clause-faults : goal.returns-in_err-check_forms-clause-faults
returns-in_err-check_forms-clause-faults c =
    let p = err_from_is_err_and c.from_residual-in_err-check_forms.result c.from_residual-in_err-check_forms.ensures.1 in
    rw (p.1, p.2) (ends_over c.args.self c.context.result _ _ (faults_over c.args.self c.context.result _ c.context.ensures.labels
    c.context.ensures.names c.in_ok-table.ensures) c.in_err-check_forms.ensures.labels)

pub returns-in_err-check_forms-clause-cause : goal.returns-in_err-check_forms-clause-cause
returns-in_err-check_forms-clause-cause c =
    let p = err_from_is_err_and c.from_residual-in_err-check_forms.result c.from_residual-in_err-check_forms.ensures.1 in
    rw (p.1, p.2) (caused_unformed c.args.self c.context.result (table_view c.in_ok-table.table) _ c.context.ensures.labels
    c.context.ensures.names c.in_ok-table.ensures c.in_err-check_forms.ensures.cause)

pub returns-clause-faults : goal.returns-clause-faults
returns-clause-faults c =
    faults_over c.args.self c.context.result _ c.context.ensures.labels c.context.ensures.names c.in_ok-table.ensures
    ∙ c.in_ok-check_forms.ensures.labels
