use Rattle.note_filling.proofs.Common.{codes, inl, inr, refl, table_view, view}
use Rattle.note_filling.specs.{Kept.left_out, Members.MayBePut}
use Rattle.note_filling.proofs.MemberLaws.{extended-by, extended-twice}
use Rattle.note_draft.specs.declared.finding.TableList.TheVariants as lists
use Rattle.note_filling.proofs.functions.put_interface.Goals as goal

pub returns-in_ok-put_missing-2 : goal.returns-in_ok-put_missing-2
unfolding MayBePut
returns-in_ok-put_missing-2 c =
    extended-twice (left_out lists.Function) (table_view c.args.row.now) (table_view c.put_missing.new.table)
    (table_view c.put_missing-then-is_entered.new.table)
    (extended-by (left_out lists.Function) (codes "result") _ _ _ c.in_ok-put_missing.ensures
    (inr (inr (inr (inr (inl (refl, c.in_ok-string.ensures)))))))
    (extended-by (left_out lists.Function) (codes "enter") (view c.truth.result) (table_view c.put_missing.new.table)
    (table_view c.put_missing-then-is_entered.new.table) c.in_ok-put_missing-2.ensures
    (inr (inr (inr (inr (inr (inl (refl, c.truth.ensures))))))))

pub returns-else-is_entered : goal.returns-else-is_entered
unfolding MayBePut
returns-else-is_entered c =
    extended-by (left_out lists.Function) (codes "result") _ _ _ c.in_ok-put_missing.ensures
    (inr (inr (inr (inr (inl (refl, c.in_ok-string.ensures))))))
