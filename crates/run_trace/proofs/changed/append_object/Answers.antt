use Rattle.std.proofs.Common.{ap, arith}
use Rattle.run_trace.specs.Changes.{row_line_of}
use Rattle.run_trace.proofs.RowLaws.{none-chosen, object_is, row-step, row_differs}
use Rattle.run_trace.proofs.changed.append_object.Goals as goal

pub loop-k-init : goal.loop-k-init
loop-k-init c =
    none-chosen (row_differs c.args.old.now c.args.new.now)
    (row_line_of c.args.notes.now c.args.base c.args.object c.args.old.now c.args.new.now) c.args.out.now.items

pub loop-k-preserved : goal.loop-k-preserved
loop-k-preserved c =
    let done = c.in_ok-rows.ensures in
    row-step c.args.notes.now c.args.base c.args.object c.args.old.now c.args.new.now c.loop-k.k c.loop-k.rows c.in_ok-rows.rows
    c.row_place-place.result c.row_of-before.result.now c.row_of-row.result.now c.args.out.now.items c.loop-k.out.items
    c.append_if_changed.new.out.items c.row_place-place.ensures c.row_of-before.ensures c.row_of-row.ensures c.loop-k.invariant
    done.count_same done.count_more (λ isnt. ap (λ v. v.items) (done.same isnt)) done.told
    (λ does least. ap (λ v. v.items) (done.more does least))

pub returns : goal.returns
returns c =
    let over = c.loop-k-test.false in
    let most = c.loop-k.auto.k-end in
    let count = c.div_ceil-k-end.ensures in
    let left = c.saturating_sub.ensures in
    object_is c.args.notes.now c.args.base c.args.object c.args.old.now c.args.new.now c.loop-k.k c.loop-k.rows c.saturating_sub.result
    c.args.out.now.items c.loop-k.out.items c.append_more.new.out.items c.loop-k.invariant (omega (arith, over, most, count))
    (omega (arith, left)) c.in_ok-append_more.ensures
