use Rattle.rules_laws.proofs.Common.{subst, sym, Successors, FlowFirst, FlowGiven, FlowRelated, OrRule}
use Rattle.rules_laws.specs.Keeping.{FlowKeeps}
use Rattle.rules_laws.proofs.{FlowKeeps.after_flow-keeps, FlowRule.flow_first, FlowRule.flow_given, FlowRule.flow_related}
use Rattle.rules_laws.proofs.flow_answer.Goals as goal

pub returns-clause-related : goal.returns-clause-related
returns-clause-related c =
    subst (λ (r : OrRule Successors). FlowRelated c.args.notes.now c.args.here.now c.args.s.now c.args.i.now r) (sym c.after_flow.ensures)
    (flow_related c.args.notes.now c.args.here.now c.args.s.now c.args.i.now)

pub returns-clause-first : goal.returns-clause-first
returns-clause-first c =
    subst (λ (r : OrRule Successors). FlowFirst c.args.notes.now c.args.here.now c.args.s.now c.args.i.now r) (sym c.after_flow.ensures)
    (flow_first c.args.notes.now c.args.here.now c.args.s.now c.args.i.now)

pub returns-clause-keeps : goal.returns-clause-keeps
returns-clause-keeps c =
    subst (λ (r : OrRule Successors). FlowKeeps c.args.notes.now c.args.here.now c.args.s.now r) (sym c.after_flow.ensures)
    (λ f e n h. after_flow-keeps c.args.notes.now c.args.here.now c.args.s.now c.args.i.now f e n h)

pub returns-clause-given : goal.returns-clause-given
returns-clause-given c =
    subst (λ (r : OrRule Successors). FlowGiven c.args.notes.now c.args.here.now c.args.s.now c.args.i.now r) (sym c.after_flow.ensures)
    (flow_given c.args.notes.now c.args.here.now c.args.s.now c.args.i.now)
