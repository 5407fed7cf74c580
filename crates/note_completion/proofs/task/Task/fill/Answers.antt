use Rattle.std.proofs.lemmas.Result.{err_from_is_err_and}
use Rattle.toml.specs.View.{table_view}
use Rattle.note_completion.proofs.CauseLaws.{arranged_over, caused_unfilled, caused_unread}
use Rattle.note_completion.proofs.task.Task.fill.Goals as goal

pub returns-in_err-table-clause-cause : goal.returns-in_err-table-clause-cause
returns-in_err-table-clause-cause c =
    let p = err_from_is_err_and c.from_residual.result c.from_residual.ensures.1 in
    rw (p.1, p.2) (caused_unread c.args.self _ c.in_err-table.ensures)

pub returns-in-Ok-clause-arranged : goal.returns-in-Ok-clause-arranged
returns-in-Ok-clause-arranged c =
    arranged_over c.args.self c.context.result _ _ _ _ _ (table_view c.in_ok-table.table) _ c.context.ensures.labels
    c.context.ensures.names c.in_ok-table.ensures c.in-Ok.ensures.kept c.in-Ok.ensures.orders

pub returns-in-Err-clause-cause : goal.returns-in-Err-clause-cause
returns-in-Err-clause-cause c =
    rw c.from.ensures (caused_unfilled c.args.self c.context.result _ _ (table_view c.in_ok-table.table) c.in-Err.end
    c.context.ensures.labels c.context.ensures.names c.in_ok-table.ensures c.in-Err.ensures.cause)
