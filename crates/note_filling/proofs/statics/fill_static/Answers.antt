use Rattle.note_filling.proofs.Common.{[], ◌∷◌, codes, inl, refl, table_view, view, context_place}
use Rattle.note_filling.specs.{Kept.left_out, Members.MayBePut}
use Rattle.note_filling.proofs.{MemberLaws.extended-by, RowLaws.kept_more, RowLaws.kept_one, RowLaws.stays_out}
use Rattle.note_draft.specs.declared.finding.TableList.TheVariants as lists
use Rattle.note_filling.proofs.statics.fill_static.Goals as goal

pub returns-clause-kept : goal.returns-clause-kept
unfolding MayBePut
returns-clause-kept c =
    kept_more (context_place c.args.rows.context) (codes "place" ∷ []) (left_out lists.Static) (table_view c.args.row.now)
    (table_view c.replace_label.new.row) (table_view c.put_missing.new.table)
    (kept_one (context_place c.args.rows.context) (left_out lists.Static) (codes "place") (table_view c.args.row.now)
    (table_view c.replace_label.new.row) c.in_ok-placed.ensures.replaced
    (stays_out (left_out lists.Static) (codes "place") (table_view c.args.row.now) (table_view c.replace_label.new.row)
    c.in_ok-placed.ensures.left))
    (extended-by (left_out lists.Static) (codes "count") (view c.number-count.result) (table_view c.replace_label.new.row)
    (table_view c.put_missing.new.table) c.in_ok-put_missing.ensures (inl (refl, tt)))
