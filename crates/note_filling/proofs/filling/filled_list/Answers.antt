use Rattle.note_filling.proofs.Common.{map, subst, sym, get_member, table_view, view, AreKept, context_place}
use Rattle.note_filling.proofs.ListLaws.{filled-array}
use Rattle.note_filling.proofs.filling.filled_list.Goals as goal

pub returns-in_ok-filled_items-in-Some-as_array-clause-kept : goal.returns-in_ok-filled_items-in-Some-as_array-clause-kept
returns-in_ok-filled_items-in-Some-as_array-clause-kept c =
    let place = context_place c.args.rows.context in
    let values = c.in_ok-filled_items-in-Some-as_array.field-0 in
    filled-array place c.args.list (get_member c.args.key.now (table_view c.args.table.now)) (view c.in-Some.value.now)
    (map view c.in-Some-as_array.items.now.items) values (sym c.in-Some.ensures) (sym c.in-Some-as_array.ensures)
    (subst (λ xs. AreKept place c.args.list (map view xs) (map view values.items)) c.as_slice.ensures.value
    c.in_ok-filled_items-in-Some-as_array.ensures.kept)
