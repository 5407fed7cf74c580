use Rattle.note_filling.proofs.Common.{ap, sym, ◌∙◌, option_and_then, path_of, as_str, table_view, text_at_key, labelled_place}
use Rattle.note_filling.proofs.Common.{context_labels, context_names}
use Rattle.note_filling.proofs.PlaceLaws.{replaced_by}
use Rattle.note_filling.proofs.rows.replace_label.Goals as goal

pub returns-clause-replaced : goal.returns-clause-replaced
returns-clause-replaced c =
    let row = table_view c.args.row.now in
    let key = c.args.key.now in
    let names = context_names c.args.context in
    let labels = context_labels c.args.context in
    let path = path_of c.args.finding in
    replaced_by c.args.code names labels path key (text_at_key key row) c.in_ok-placed.placed row (table_view c.put_placed.new.table)
    (ap (labelled_place c.args.code names labels path) (sym c.text_at.ensures) ∙ c.in_ok-placed.ensures.gives)
    (λ d there. sym (ap (option_and_then as_str) there)) c.in_ok-put_placed.ensures
