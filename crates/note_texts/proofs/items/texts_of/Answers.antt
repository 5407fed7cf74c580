use Rattle.std.proofs.Common.{refl, ◌++◌, length-append, arith}
use Rattle.std.proofs.lemmas.Result.{err_from_is_err_and}
use Rattle.toml.specs.View.{items_view}
use Rattle.note_texts.specs.Keys.{text_of}
use Rattle.note_texts.specs.Lists.{texts_of}
use Rattle.note_texts.proofs.Loop.{from_start, goes_on, stops, is_done}
use Rattle.note_texts.proofs.items.texts_of.Goals as goal

pub loop-i-init : goal.loop-i-init
unfolding texts_of
loop-i-init g c = record {
  so_far = rw c.new-texts.ensures.items
      (from_start (λ i d. text_of g.T.FromText.reads_as (c.args.row.prefix.now ++ c.args.key.now) d) c.args.values.now);
  counted = rw c.new-texts.ensures.items refl;
}

pub returns-in_err-text_of-clause-texts : goal.returns-in_err-text_of-clause-texts
unfolding texts_of
returns-in_err-text_of-clause-texts g c =
    let p = err_from_is_err_and c.from_residual.result c.from_residual.ensures.1 in
    rw (p.1, p.2)
    (stops c.in_err-text_of.field-0.0
    (λ i d. text_of g.T.FromText.reads_as (c.args.row.prefix.now ++ c.args.key.now) d) c.loop-i.texts.items c.loop-i.i
    c.args.values.now c.index-values-i.result
    (texts_of g.T.FromText.reads_as (c.args.row.prefix.now ++ c.args.key.now)
    (items_view c.args.values.now)) c.loop-i-test.true c.index-values-i.is c.in_err-text_of.ensures c.loop-i.invariant.so_far)

pub loop-i-preserved : goal.loop-i-preserved
unfolding texts_of
loop-i-preserved g c = record {
  so_far = rw c.in_ok-push.ensures.items
      (goes_on (λ i d. text_of g.T.FromText.reads_as (c.args.row.prefix.now ++ c.args.key.now) d) c.loop-i.texts.items c.loop-i.i
      c.args.values.now c.index-values-i.result c.in_ok-text_of.field-0 _ c.loop-i-test.true c.index-values-i.is c.in_ok-text_of.ensures
      c.loop-i.invariant.so_far);
  counted = rw c.in_ok-push.ensures.items (rw length-append (omega arith));
}

pub returns-clause-texts : goal.returns-clause-texts
unfolding texts_of
returns-clause-texts g c =
    is_done (λ i d. text_of g.T.FromText.reads_as (c.args.row.prefix.now ++ c.args.key.now) d) c.loop-i.texts.items c.loop-i.i
    c.args.values.now _ c.loop-i-test.false c.loop-i.invariant.so_far
