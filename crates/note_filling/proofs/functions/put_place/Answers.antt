use Rattle.note_filling.proofs.Common.{ap, codes, refl, sym, true, ◌∙◌, err_from_is_err_and, path_of, table_view, text_at_key}
use Rattle.note_filling.proofs.Common.{labelled_place, context_labels, context_names}
use Rattle.note_filling.specs.Rows.{place_naming_text, place_text_or}
use Rattle.note_filling.proofs.{CheckLaws.fails_first, CheckLaws.goes_then, PlaceLaws.replaced_by}
use Rattle.note_draft.specs.declared.finding.Key.TheVariants as keys
use Rattle.note_draft.specs.declared.finding.TableList.TheVariants as lists
use Rattle.note_filling.proofs.functions.put_place.Goals as goal

pub returns-in_err-placed-clause-labels : goal.returns-in_err-placed-clause-labels
returns-in_err-placed-clause-labels c =
    let p = err_from_is_err_and c.from_residual.result c.from_residual.ensures.1 in
    rw (p.1, p.2, sym c.place_naming_text.ensures) (fails_first _ _ _ c.in_err-placed.ensures.gives)

pub returns-clause-labels : goal.returns-clause-labels
returns-clause-labels c =
    rw (sym c.place_naming_text.ensures) (goes_then _ c.in_ok-placed.placed tt _ c.in_ok-placed.ensures.gives refl)

pub returns-clause-replaced : goal.returns-clause-replaced
returns-clause-replaced c =
    let row = table_view c.args.row.now in
    let names = context_names c.args.context in
    let labels = context_labels c.args.context in
    let path = path_of (record { list = lists.Function; item = c.args.item; key = keys.Place }) in
    replaced_by true names labels path (codes "place") (place_naming_text row) c.in_ok-placed.placed row (table_view c.put_placed.new.table)
    (ap (labelled_place true names labels path) (sym c.place_naming_text.ensures) ∙ c.in_ok-placed.ensures.gives)
    (λ d there. sym (ap (place_text_or (text_at_key (codes "name") row)) there)) c.in_ok-put_placed.ensures
