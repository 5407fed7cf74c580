use Rattle.note_filling.proofs.Common.{err_from_is_err_and}
use Rattle.note_filling.specs.Rows.{text_labels}
use Rattle.note_filling.proofs.CheckLaws.{fails_first, fails_then, goes_then}
use Rattle.note_filling.proofs.filling.filled_with.Goals as goal

pub returns-in_err-statics-clause-labels : goal.returns-in_err-statics-clause-labels
unfolding text_labels
returns-in_err-statics-clause-labels c =
    let p = err_from_is_err_and c.from_residual.result c.from_residual.ensures.1 in
    rw (p.1, p.2) (fails_first _ _ _ c.in_err-statics.ensures.labels)

pub returns-in_err-thunks-clause-labels : goal.returns-in_err-thunks-clause-labels
unfolding text_labels
returns-in_err-thunks-clause-labels c =
    let p = err_from_is_err_and c.from_residual-in_err-thunks.result c.from_residual-in_err-thunks.ensures.1 in
    rw (p.1, p.2) (fails_then _ _ tt _ c.in_ok-statics.ensures.labels (fails_first _ _ _ c.in_err-thunks.ensures.labels))

pub returns-in_err-functions-clause-labels : goal.returns-in_err-functions-clause-labels
unfolding text_labels
returns-in_err-functions-clause-labels c =
    let p = err_from_is_err_and c.from_residual-in_err-functions.result c.from_residual-in_err-functions.ensures.1 in
    rw (p.1, p.2) (fails_then _ _ tt _ c.in_ok-statics.ensures.labels (fails_then _ _ tt _ c.in_ok-thunks.ensures.labels (fails_first _ _
    _ c.in_err-functions.ensures.labels)))

pub returns-in_err-points-clause-labels : goal.returns-in_err-points-clause-labels
unfolding text_labels
returns-in_err-points-clause-labels c =
    let p = err_from_is_err_and c.from_residual-in_err-points.result c.from_residual-in_err-points.ensures.1 in
    rw (p.1, p.2) (fails_then _ _ tt _ c.in_ok-statics.ensures.labels (fails_then _ _ tt _ c.in_ok-thunks.ensures.labels (fails_then _ _
    tt _ c.in_ok-functions.ensures.labels (fails_first _ _ _ c.in_err-points.ensures.labels))))

pub returns-in_err-sites-clause-labels : goal.returns-in_err-sites-clause-labels
unfolding text_labels
returns-in_err-sites-clause-labels c =
    let p = err_from_is_err_and c.from_residual-in_err-sites.result c.from_residual-in_err-sites.ensures.1 in
    rw (p.1, p.2) (fails_then _ _ tt _ c.in_ok-statics.ensures.labels (fails_then _ _ tt _ c.in_ok-thunks.ensures.labels (fails_then _ _
    tt _ c.in_ok-functions.ensures.labels (fails_then _ _ tt _ c.in_ok-points.ensures.labels c.in_err-sites.ensures.labels))))

pub returns-clause-labels : goal.returns-clause-labels
unfolding text_labels
returns-clause-labels c = goes_then _ tt tt _ c.in_ok-statics.ensures.labels (goes_then _ tt tt _ c.in_ok-thunks.ensures.labels
    (goes_then _ tt tt _ c.in_ok-functions.ensures.labels (goes_then _ tt tt _ c.in_ok-points.ensures.labels
    c.in_ok-sites.ensures.labels)))
