use Rattle.note_filling.proofs.Common.{codes, inl, inr, refl, table_view, view}
use Rattle.note_filling.specs.{Kept.left_out, Members.MayBePut}
use Rattle.note_filling.proofs.MemberLaws.{extended-where}
use Rattle.note_draft.specs.declared.finding.TableList.TheVariants as lists
use Rattle.note_filling.proofs.functions.put_left_end.Goals as goal

pub returns-in-Some : goal.returns-in-Some
unfolding MayBePut
returns-in-Some c =
    extended-where c.put_missing.result (left_out lists.Function) (codes "end") (view c.number.result) (table_view c.args.row.now)
    (table_view c.put_missing.new.table) c.put_missing.ensures (inr (inl (refl, tt)))
