use Rattle.note_infer.proofs.Joins.{sym, ◌∙◌, arith, Locals}
use Rattle.note_infer.proofs.StateJoins.{items_agree-all, items_agree-none, items_agree-lengths}
use Rattle.note_infer.proofs.state_joins.items_agree.Goals as goal

pub returns-then-xs-ys : goal.returns-then-xs-ys
returns-then-xs-ys c = sym (items_agree-lengths _ _ c.if-xs-ys.true)

pub returns-then-not-item_agrees : goal.returns-then-not-item_agrees
returns-then-not-item_agrees c = sym (items_agree-none _ c.args.xs.now c.args.ys.now c.loop-number.number (omega arith) (omega arith)
    (sym c.item_agrees.ensures ∙ c.if-not-item_agrees.true))

pub returns : goal.returns
returns c = sym (items_agree-all Locals c.args.xs.now c.args.ys.now (omega arith) (λ k l. c.loop-number.invariant k (omega arith)))
