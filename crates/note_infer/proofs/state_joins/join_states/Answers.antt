use Rattle.note_infer.proofs.Joins.{◌∙◌, ap, sym, subst, Some, false≢true, AreBothBelow, StateWeakens}
use Rattle.note_infer.proofs.StateJoins.{agree_equal, joined_equal, states-length, states_below, state_weakens}
use Rattle.note_infer.proofs.state_joins.join_states.Goals as goal

pub joined-requires : goal.joined-requires
joined-requires c = states-length c.args.s.now c.args.t.now (sym c.agree.ensures ∙ c.if-agree.true)

pub returns-then-agree-clause-below : goal.returns-then-agree-clause-below
returns-then-agree-clause-below c =
    subst (AreBothBelow c.args.s.now c.args.t.now) (sym c.joined.ensures)
    (states_below c.args.s.now c.args.t.now (sym c.agree.ensures ∙ c.if-agree.true))

pub returns-then-agree-clause-weaker : goal.returns-then-agree-clause-weaker
returns-then-agree-clause-weaker c = subst (StateWeakens c.args.s.now) (sym c.joined.ensures) (state_weakens c.args.s.now c.args.t.now)

pub returns-then-agree-clause-equal : goal.returns-then-agree-clause-equal
returns-then-agree-clause-equal c = λ e n. ap Some (c.joined.ensures ∙ joined_equal c.args.s.now c.args.t.now e n)

pub returns-else-agree-clause-equal : goal.returns-else-agree-clause-equal
returns-else-agree-clause-equal c =
    λ e n. absurd (false≢true (sym c.if-agree.false ∙ (c.agree.ensures ∙ agree_equal c.args.s.now c.args.t.now e)))
