use Rattle.rules_laws.proofs.Common.{subst, sym, State, DataFirst, DataRelated, OrRule}
use Rattle.rules_laws.specs.Keeping.{DataKeeps}
use Rattle.rules_laws.proofs.{RowsKeep.after_data-keeps, DataRule.data_first, DataRule.data_related}
use Rattle.rules_laws.proofs.data_answer.Goals as goal

pub returns-clause-related : goal.returns-clause-related
returns-clause-related c =
    subst (λ (r : OrRule State). DataRelated c.args.notes.now c.args.here.now c.args.s.now c.args.i.now r) (sym c.after_data.ensures)
    (data_related c.args.notes.now c.args.here.now c.args.s.now c.args.i.now)

pub returns-clause-first : goal.returns-clause-first
returns-clause-first c =
    subst (λ (r : OrRule State). DataFirst c.args.notes.now c.args.here.now c.args.s.now c.args.i.now r) (sym c.after_data.ensures)
    (data_first c.args.notes.now c.args.here.now c.args.s.now c.args.i.now)

pub returns-clause-keeps : goal.returns-clause-keeps
returns-clause-keeps c =
    subst (λ (r : OrRule State). DataKeeps c.args.notes.now c.args.here.now c.args.s.now r) (sym c.after_data.ensures)
    (λ f e n h. after_data-keeps c.args.notes.now c.args.here.now c.args.s.now c.args.i.now f e n h c.requires.well_formed)
