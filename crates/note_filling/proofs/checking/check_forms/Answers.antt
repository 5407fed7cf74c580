use Rattle.note_filling.proofs.Common.{err_from_is_err_and, table_view, context_place}
use Rattle.note_filling.proofs.{CauseLaws.caused_form, CauseLaws.caused_label, CauseLaws.kept_in_place, CheckLaws.refuses_from}
use Rattle.note_filling.proofs.CheckLaws.{refuses_notes}
use Rattle.note_filling.proofs.checking.check_forms.Goals as goal

pub returns-in_err-lists-clause-labels : goal.returns-in_err-lists-clause-labels
returns-in_err-lists-clause-labels c =
    let p = err_from_is_err_and c.from_residual.result c.from_residual.ensures.1 in
    rw (p.1, p.2) (refuses_from _ _ c.in_err-lists.ensures.labels)

pub returns-in_err-lists-clause-cause : goal.returns-in_err-lists-clause-cause
returns-in_err-lists-clause-cause c =
    let p = err_from_is_err_and c.from_residual.result c.from_residual.ensures.1 in
    rw (p.1, p.2) (caused_label _ _ _ c.in_err-lists.ensures.labels)

pub returns-in_err-check_draft-clause-labels : goal.returns-in_err-check_draft-clause-labels
returns-in_err-check_draft-clause-labels c =
    let p = err_from_is_err_and c.from_residual-in_err-check_draft.result c.from_residual-in_err-check_draft.ensures.1 in
    rw (p.1, p.2) (refuses_notes _ _ c.in_ok-lists.ensures.labels)

pub returns-in_err-check_draft-clause-cause : goal.returns-in_err-check_draft-clause-cause
returns-in_err-check_draft-clause-cause c =
    let p = err_from_is_err_and c.from_residual-in_err-check_draft.result c.from_residual-in_err-check_draft.ensures.1 in
    rw (p.1, p.2) (caused_form _ _ (context_place c.args.context) (table_view c.args.table) (table_view c.in_ok-table.table)
    (kept_in_place _ c.args.entry.now _ _ c.in_ok-lists.lists c.in_ok-lists.ensures.kept c.in_ok-table.ensures)
    c.in_err-check_draft.ensures)
