use Rattle.note_filling.proofs.Common.{[], codes, refl, sym, err_from_is_err_and, table_view, context_place}
use Rattle.note_filling.proofs.{CheckLaws.fails_first, CheckLaws.goes_then, RowLaws.kept_one, RowLaws.stays_out}
use Rattle.note_filling.proofs.rows.fill_place.Goals as goal

pub returns-in_err-replace_label-clause-labels : goal.returns-in_err-replace_label-clause-labels
returns-in_err-replace_label-clause-labels c =
    let p = err_from_is_err_and c.from_residual.result c.from_residual.ensures.1 in
    rw (p.1, p.2, sym c.is_code.ensures) (fails_first _ _ _ c.in_err-replace_label.ensures.gives)

pub returns-clause-labels : goal.returns-clause-labels
returns-clause-labels c = rw (sym c.is_code.ensures) (goes_then _ _ tt _ c.in_ok-replace_label.ensures.gives refl)

pub returns-clause-kept : goal.returns-clause-kept
returns-clause-kept c =
    let old = table_view c.args.row.now in
    let new = table_view c.replace_label.new.row in
    kept_one (context_place c.args.context) [] (codes "place") old new c.in_ok-replace_label.ensures.replaced
    (stays_out [] (codes "place") old new c.in_ok-replace_label.ensures.left)
