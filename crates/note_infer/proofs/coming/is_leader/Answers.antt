use Rattle.note_infer.proofs.Common.{refl}
use Rattle.note_infer.proofs.Searching.{there_at}
use Rattle.note_infer.proofs.coming.is_leader.Goals as goal

pub returns-in-Some : goal.returns-in-Some
returns-in-Some c = (
  λ t. there_at c.args.leaders.now c.args.place c.in-Some.field-0 c.in-Some.ensures.some.0 c.in-Some.ensures.some.1,
  λ h. refl,
)

pub returns-in-None : goal.returns-in-None
returns-in-None c = (λ t. absurd cc, λ h. absurd (c.in-None.ensures.none h))
