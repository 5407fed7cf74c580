use Rattle.note_filling.proofs.Common.{◌≡◌, Some, None, ap, codes, inl, refl, err_from_is_err_and, option_and_then, Data, Members}
use Rattle.note_filling.proofs.Common.{get_member, as_str, table_view, context_place}
use Rattle.note_filling.specs.{Kept.left_out, Members.MayBePut, Rows.row_labels}
use Rattle.note_filling.proofs.{CheckLaws.fails_first, CheckLaws.fails_then, CheckLaws.goes_then, RowLaws.kept_more, RowLaws.kept_two}
use Rattle.note_filling.proofs.RowLaws.{stays_out}
use Rattle.note_draft.specs.declared.finding.TableList.TheVariants as lists
use Rattle.note_filling.proofs.functions.fill_function.Goals as goal

pub returns-in_err-place-clause-labels : goal.returns-in_err-place-clause-labels
unfolding row_labels
returns-in_err-place-clause-labels c =
    let p = err_from_is_err_and c.from_residual.result c.from_residual.ensures.1 in
    rw (p.1, p.2) (fails_first _ _ _ c.in_err-place.ensures.labels)

pub returns-in_err-put_end-clause-labels : goal.returns-in_err-put_end-clause-labels
unfolding row_labels
returns-in_err-put_end-clause-labels c =
    let p = err_from_is_err_and c.from_residual-in_err-put_end.result c.from_residual-in_err-put_end.ensures.1 in
    let same = ap (option_and_then as_str) (c.in_ok-place.ensures.replaced.elsewhere (codes "end") refl) in
    rw (p.1, p.2) (fails_then _ _ tt _ c.in_ok-place.ensures.labels (rw same at c.in_err-put_end.ensures.labels))

pub returns-clause-labels : goal.returns-clause-labels
unfolding row_labels
returns-clause-labels c =
    let same = ap (option_and_then as_str) (c.in_ok-place.ensures.replaced.elsewhere (codes "end") refl) in
    goes_then _ tt tt _ c.in_ok-place.ensures.labels (rw same at c.in_ok-put_end.ensures.labels)

pub returns-clause-kept : goal.returns-clause-kept
unfolding MayBePut
returns-clause-kept c =
    kept_more (context_place c.args.rows.context) _ (left_out lists.Function) (table_view c.args.row.now) (table_view c.put_end.new.row)
    (table_view c.fill_left.new.row)
    (kept_two (context_place c.args.rows.context) (left_out lists.Function) (codes "place") (codes "end") (table_view c.args.row.now)
    (table_view c.put_place.new.row) (table_view c.put_end.new.row) refl refl c.in_ok-place.ensures.replaced
    (may_have_place (table_view c.args.row.now) (table_view c.put_place.new.row))
    c.in_ok-put_end.ensures.replaced (stays_out (left_out lists.Function) (codes "end")
    (table_view c.put_place.new.row) (table_view c.put_end.new.row) c.in_ok-put_end.ensures.left))
    c.in_ok-fill_left.ensures
  where
    may_have_place : (old new : Members) (d : Data) → get_member (codes "place") old ≡ None → get_member (codes "place") new ≡ Some d
        → MayBePut (left_out lists.Function) (codes "place") d
    may_have_place old new d none there = inl (refl, tt)
