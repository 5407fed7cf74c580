use Rattle.note_filling.proofs.Common.{table_view}
use Rattle.note_filling.proofs.TextLaws.{assembled_by}
use Rattle.note_filling.proofs.assembling.assembled.Goals as goal

pub returns : goal.returns
returns c =
    assembled_by c.args.entry.now c.args.lists (table_view c.args.table) (table_view c.put_missing.new.table)
    (table_view c.put_missing-2.new.table)
    (table_view c.put_list.new.table) (table_view c.put_list-2.new.table) (table_view c.put_list-3.new.table)
    (table_view c.put_list-4.new.table) (table_view c.put_list-5.new.table)
    (record {
      version = rw c.number.ensures.value at c.in_ok-put_missing.ensures;
      entry = rw (c.in_ok-entry.ensures, c.as_str.ensures) at c.in_ok-put_missing-2.ensures;
      statics = c.in_ok-put_list.ensures;
      thunks = c.in_ok-put_list-2.ensures;
      functions = c.in_ok-put_list-3.ensures;
      points = c.in_ok-put_list-4.ensures;
      sites = c.in_ok-put_list-5.ensures;
    })
