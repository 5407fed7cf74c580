use Rattle.note_filling.proofs.Common.{inr, map, refl, err_from_is_err_and, members_depth, table_view, view, context_place}
use Rattle.note_filling.proofs.{CauseLaws.caused_label, CauseLaws.orders_of, CheckLaws.refuses_from, DepthLaws.beyond_limit}
use Rattle.note_filling.proofs.TextLaws.{text_kept}
use Rattle.note_filling.proofs.filling.fill.Goals as goal

pub returns-clause-kept : goal.returns-clause-kept
returns-clause-kept c =
    text_kept (context_place c.args.context) (map view c.args.more.points.items) (map view c.args.more.sites.items)
    c.args.entry.now (table_view c.args.table)
    (table_view c.in_ok-table.table) c.in_ok-lists.lists c.in_ok-arranged_lists.arranged_lists c.in_ok-lists.ensures.kept
    c.in_ok-arranged_lists.ensures.arranged
    c.in_ok-table.ensures

pub returns-clause-orders : goal.returns-clause-orders
returns-clause-orders c =
    orders_of (context_place c.args.context) (map view c.args.more.points.items) (map view c.args.more.sites.items)
    c.args.entry.now (table_view c.args.table)
    (table_view c.in_ok-table.table) c.in_ok-lists.lists c.in_ok-arranged_lists.arranged_lists c.in_ok-arranged_lists.orders
    c.in_ok-lists.ensures.kept c.in_ok-arranged_lists.ensures.arranged c.in_ok-arranged_lists.ensures.order c.in_ok-table.ensures

pub returns-in_err-lists-clause-labels : goal.returns-in_err-lists-clause-labels
returns-in_err-lists-clause-labels c =
    let p = err_from_is_err_and c.from_residual.result c.from_residual.ensures.1 in
    rw (p.1, p.2) (refuses_from _ _ c.in_err-lists.ensures.labels)

pub returns-in_err-lists-clause-cause : goal.returns-in_err-lists-clause-cause
returns-in_err-lists-clause-cause c =
    let p = err_from_is_err_and c.from_residual.result c.from_residual.ensures.1 in
    rw (p.1, p.2) (caused_label _ _ _ c.in_err-lists.ensures.labels)

pub returns-then-not-members_fit-clause-cause : goal.returns-then-not-members_fit-clause-cause
returns-then-not-members_fit-clause-cause c =
    let place = context_place c.args.context in
    let points = map view c.args.more.points.items in
    let sites = map view c.args.more.sites.items in
    let new = table_view c.in_ok-table.table in
    inr (
      refl,
      record {
        new = new;
        kept = text_kept place points sites c.args.entry.now (table_view c.args.table) new c.in_ok-lists.lists
            c.in_ok-arranged_lists.arranged_lists c.in_ok-lists.ensures.kept c.in_ok-arranged_lists.ensures.arranged c.in_ok-table.ensures;
        deep = beyond_limit c.members_fit.result (members_depth new) 80 c.members_fit.ensures c.if-not-members_fit.true;
        told = refl;
      },
    )
