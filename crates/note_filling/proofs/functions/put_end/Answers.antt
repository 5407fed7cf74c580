use Rattle.note_filling.proofs.Common.{refl, err_from_is_err_and}
use Rattle.note_filling.proofs.CheckLaws.{fails_first, goes_then}
use Rattle.note_filling.proofs.functions.put_end.Goals as goal

pub returns-in_err-replace_label-clause-labels : goal.returns-in_err-replace_label-clause-labels
returns-in_err-replace_label-clause-labels c =
    let p = err_from_is_err_and c.from_residual.result c.from_residual.ensures.1 in
    rw (p.1, p.2) (fails_first _ _ _ c.in_err-replace_label.ensures.gives)

pub returns-clause-labels : goal.returns-clause-labels
returns-clause-labels c = goes_then _ _ tt _ c.in_ok-replace_label.ensures.gives refl
