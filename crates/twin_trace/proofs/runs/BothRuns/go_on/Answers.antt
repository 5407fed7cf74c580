use Rattle.std.proofs.Common.{sym, ◌∙◌}
use Rattle.std.proofs.lemmas.Bool.{false≢true}
use Rattle.run_trace.specs.Following.{world_under}
use Rattle.twin_trace.proofs.runs.BothRuns.go_on.Goals as goal

pub returns-then-goes_on : goal.returns-then-goes_on
returns-then-goes_on c = λ p taken are no. absurd (false≢true (sym no))

pub returns : goal.returns
returns c = λ p taken are no. (
  λ on. false≢true (sym c.if-goes_on.false ∙ (c.goes_on.ensures (world_under p) _ are.at4.there).1 on),
  λ on. false≢true (sym no ∙ (c.goes_on-2.ensures (world_under p) _ are.at8.there).1 on),
)
