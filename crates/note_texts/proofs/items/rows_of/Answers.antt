use Rattle.std.proofs.Common.{refl, length-append, arith}
use Rattle.std.proofs.lemmas.Result.{err_from_is_err_and}
use Rattle.toml.specs.View.{items_view}
use Rattle.note_texts.specs.Lists.{row_of, rows_of}
use Rattle.note_texts.proofs.Loop.{from_start, goes_on, stops, is_done}
use Rattle.note_texts.proofs.items.rows_of.Goals as goal

pub loop-i-init : goal.loop-i-init
unfolding rows_of
loop-i-init g c = record {
  so_far = rw c.new-rows.ensures.items (from_start (row_of g.T.FromTable.reads_as c.args.path.now) c.args.values.now);
  counted = rw c.new-rows.ensures.items refl;
}

pub returns-in_err-row_of-clause-rows : goal.returns-in_err-row_of-clause-rows
unfolding rows_of
returns-in_err-row_of-clause-rows g c =
    let p = err_from_is_err_and c.from_residual.result c.from_residual.ensures.1 in
    rw (p.1, p.2)
    (stops c.in_err-row_of.field-0.0
    (row_of g.T.FromTable.reads_as c.args.path.now) c.loop-i.rows.items c.loop-i.i c.args.values.now c.index-values-i.result
    (rows_of g.T.FromTable.reads_as c.args.path.now
    (items_view c.args.values.now)) c.loop-i-test.true c.index-values-i.is c.in_err-row_of.ensures c.loop-i.invariant.so_far)

pub loop-i-preserved : goal.loop-i-preserved
unfolding rows_of
loop-i-preserved g c = record {
  so_far = rw c.in_ok-push.ensures.items
      (goes_on (row_of g.T.FromTable.reads_as c.args.path.now) c.loop-i.rows.items c.loop-i.i c.args.values.now c.index-values-i.result
      c.in_ok-row_of.field-0 _ c.loop-i-test.true c.index-values-i.is c.in_ok-row_of.ensures c.loop-i.invariant.so_far);
  counted = rw c.in_ok-push.ensures.items (rw length-append (omega arith));
}

pub returns-clause-rows : goal.returns-clause-rows
unfolding rows_of
returns-clause-rows g c =
    is_done (row_of g.T.FromTable.reads_as c.args.path.now) c.loop-i.rows.items c.loop-i.i c.args.values.now _ c.loop-i-test.false
    c.loop-i.invariant.so_far
