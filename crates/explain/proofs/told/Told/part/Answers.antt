use Rattle.explain.proofs.ShownLaws.{added-shown}
use Rattle.explain.proofs.told.Told.part.Goals as goal

pub invariant_of-self : goal.invariant_of-self
invariant_of-self c = rw (c.push_str.ensures.bytes, c.as_str.ensures.value) (added-shown _ _ _ c.self.invariant c.in_ok-text.ensures.shown)
