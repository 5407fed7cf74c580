use Rattle.script_draft.proofs.Common.{◌≡◌, Some, None, sym, ◌∙◌, arith, ap, all_of, cut, pieces, values_of, value_of}
use Rattle.std.proofs.Common.{rules}
use Rattle.script_draft.proofs.{ListLaws.onto-none, PieceLaws.cut-shorter, PieceLaws.last-done, PieceLaws.last-stop, PieceLaws.values-on}
use Rattle.script_draft.proofs.PieceLaws.{values-stop}
use Rattle.script_draft.proofs.pieces.values_of.Goals as goal

pub loop-first-init : goal.loop-first-init
unfolding values_of
loop-first-init c = (c.utf8.text, rw c.new-values.ensures.items (onto-none (all_of value_of (pieces c.args.text.now))))

pub returns-in_default-2 : goal.returns-in_default-2
returns-in_default-2 c =
    values-stop c.loop-first.values.items c.loop-first.rest.now c.in-Some.first.now c.in-Some.after.now (values_of c.args.text.now)
    (sym c.in-Some.ensures) c.loop-first.invariant.1 (sym c.in_ok-value.ensures.value ∙ c.in_default-2.is)

pub loop-first-smaller : goal.loop-first-smaller
loop-first-smaller c = cut-shorter c.loop-first.rest.now (c.in-Some.first.now, c.in-Some.after.now) (sym c.in-Some.ensures)

pub loop-first-preserved : goal.loop-first-preserved
loop-first-preserved c = (
  search rules,
  rw c.in_ok-push.ensures.items
      (values-on c.loop-first.values.items c.loop-first.rest.now c.in-Some.first.now c.in-Some.after.now (values_of c.args.text.now)
      (sym c.in-Some.ensures) c.loop-first.invariant.1 c.in-Some-2.value (sym c.in_ok-value.ensures.value ∙ c.in-Some-2.is)),
)

pub returns-in_default-3 : goal.returns-in_default-3
returns-in_default-3 c =
    last-stop c.loop-first.values.items c.loop-first.rest.now (values_of c.args.text.now)
    (sym c.in_default.ensures) c.loop-first.invariant.1 (sym c.in_ok-value-2.ensures.value ∙ c.in_default-3.is)

pub returns : goal.returns
returns c =
    rw (c.new.ensures, c.in_ok-push-2.ensures.items)
    (last-done c.loop-first.values.items c.loop-first.rest.now (values_of c.args.text.now)
    (sym c.in_default.ensures) c.loop-first.invariant.1 c.in-Some-3.value (sym c.in_ok-value-2.ensures.value ∙ c.in-Some-3.is))
