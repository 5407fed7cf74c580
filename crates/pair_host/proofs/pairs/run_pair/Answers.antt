use Rattle.pair_host.proofs.Common.{images_for, pair_world}
use Rattle.pair_host.proofs.PairDiffering.{raised_at4, raised_at8, typed_pair}
use Rattle.pair_host.proofs.{PairDiffering.typed_pairs_never_differ, PairOnItsWay.starts}
use Rattle.pair_host.proofs.pairs.run_pair.Goals as goal

pub step_together-taken-requires-clause-at4 : goal.step_together-taken-requires-clause-at4
step_together-taken-requires-clause-at4 c =
    starts 4 (images_for c.args.a.now c.args.b.now) (pair_world c.args.a.now c.args.b.now c.args.binds.now) c.args.steps
    c.in_ok-at4.at4 (c.in_ok-at4.ensures.start c.args.binds.now) c.in_ok-at4.ensures.room

pub step_together-taken-requires-clause-at8 : goal.step_together-taken-requires-clause-at8
step_together-taken-requires-clause-at8 c =
    starts 8 (images_for c.args.a.now c.args.b.now) (pair_world c.args.a.now c.args.b.now c.args.binds.now) c.args.steps
    c.in-Ok.at8 (c.in-Ok.ensures.start c.args.binds.now) c.in-Ok.ensures.room

pub returns-in-Ok-clause-at4 : goal.returns-in-Ok-clause-at4
returns-in-Ok-clause-at4 c = c.finish.ensures.report

pub returns-in-Ok-clause-at8 : goal.returns-in-Ok-clause-at8
returns-in-Ok-clause-at8 c = c.finish-in-Ok.ensures.report

pub returns-in-Ok-clause-differ : goal.returns-in-Ok-clause-differ
returns-in-Ok-clause-differ c = c.step_together-taken.ensures.differ

pub returns-in-Ok-clause-same_where_typed : goal.returns-in-Ok-clause-same_where_typed
returns-in-Ok-clause-same_where_typed c = λ ta tb.
    let images = images_for c.args.a.now c.args.b.now in
    let world = pair_world c.args.a.now c.args.b.now c.args.binds.now in
    typed_pairs_never_differ images world c.args.steps c.step_together-taken.result.differ
    (typed_pair c.args.a.now c.args.b.now c.args.binds.now c.requires.paired ta tb) c.step_together-taken.ensures.differ

pub returns-in-Ok-clause-raised_where_typed : goal.returns-in-Ok-clause-raised_where_typed
returns-in-Ok-clause-raised_where_typed c = λ ta tb.
    let images = images_for c.args.a.now c.args.b.now in
    let world = pair_world c.args.a.now c.args.b.now c.args.binds.now in
    let typed = typed_pair c.args.a.now c.args.b.now c.args.binds.now c.requires.paired ta tb in (
      raised_at4 images world c.args.steps c.finish.result typed c.finish.ensures.report,
      raised_at8 images world c.args.steps c.finish-in-Ok.result typed c.finish-in-Ok.ensures.report,
    )
