use Rattle.note_infer.proofs.Joins.{subst, sym, ◌∙◌, AreBelow, KeepsKnown, Weakens}
use Rattle.note_infer.proofs.TypeJoins.{types_below, types_equal, types_known, types_weaken}
use Rattle.note_infer.proofs.type_joins.join_types.Goals as goal

pub returns-clause-below : goal.returns-clause-below
returns-clause-below c = subst (AreBelow c.args.a.now c.args.b.now) (sym c.joined.ensures) (types_below c.args.a.now c.args.b.now)

pub returns-clause-known : goal.returns-clause-known
returns-clause-known c = subst (KeepsKnown c.args.a.now c.args.b.now) (sym c.joined.ensures) (types_known c.args.a.now c.args.b.now)

pub returns-clause-weaker : goal.returns-clause-weaker
returns-clause-weaker c = subst (Weakens c.args.a.now) (sym c.joined.ensures) (types_weaken c.args.a.now c.args.b.now)

pub returns-clause-equal : goal.returns-clause-equal
returns-clause-equal c = λ e. c.joined.ensures ∙ types_equal c.args.a.now c.args.b.now e
