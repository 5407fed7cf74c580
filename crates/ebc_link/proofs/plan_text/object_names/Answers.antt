use Rattle.ebc_link.proofs.Common.{ℕ, List, [], refl, length-append, arith, ◌≢◌, codes, All-nil, All-push, err_from_is_err_and, some_text}
use Rattle.toml.specs.View.{items_view}
use Rattle.note_texts.specs.{Keys.text_of, Lists.texts_of}
use Rattle.note_texts.proofs.Loop.{from_start, goes_on, stops, is_done}
use Rattle.ebc_link.proofs.plan_text.object_names.Goals as goal

pub loop-i-init : goal.loop-i-init
unfolding texts_of
loop-i-init c = record {
  so_far = rw c.new-names.ensures.items (from_start (λ i d. text_of some_text (codes "objects") d) c.args.values.now);
  counted = rw c.new-names.ensures.items refl;
  some = rw c.new-names.ensures.items (All-nil (λ (name : List ℕ). name ≢ []));
}

pub returns-in_err-object_name-clause-names : goal.returns-in_err-object_name-clause-names
unfolding texts_of
returns-in_err-object_name-clause-names c =
    let p = err_from_is_err_and c.from_residual.result c.from_residual.ensures.1 in
    rw (p.1, p.2)
    (stops c.in_err-object_name.field-0.0
    (λ i d. text_of some_text (codes "objects") d) c.loop-i.names.items c.loop-i.i c.args.values.now c.index-values-i.result
    (texts_of some_text (codes "objects") (items_view c.args.values.now))
    c.loop-i-test.true c.index-values-i.is c.in_err-object_name.ensures.name c.loop-i.invariant.so_far)

pub loop-i-preserved : goal.loop-i-preserved
unfolding texts_of
loop-i-preserved c = record {
  so_far = rw c.in_ok-push.ensures.items
      (goes_on (λ i d. text_of some_text (codes "objects") d) c.loop-i.names.items c.loop-i.i c.args.values.now
      c.index-values-i.result c.in_ok-object_name.field-0 _ c.loop-i-test.true c.index-values-i.is c.in_ok-object_name.ensures.name
      c.loop-i.invariant.so_far);
  counted = rw c.in_ok-push.ensures.items (rw length-append (omega arith));
  some = rw c.in_ok-push.ensures.items
      (All-push (λ (name : List ℕ). name ≢ []) c.loop-i.names.items c.in_ok-object_name.field-0 c.loop-i.invariant.some
      c.in_ok-object_name.ensures.some);
}

pub returns-clause-names : goal.returns-clause-names
unfolding texts_of
returns-clause-names c =
    is_done (λ i d. text_of some_text (codes "objects") d) c.loop-i.names.items c.loop-i.i c.args.values.now _ c.loop-i-test.false
    c.loop-i.invariant.so_far
