use Rattle.std.specs.Char.{encode_utf8}
use Rattle.explain.proofs.ShownLaws.{added-shown, end-shown}
use Rattle.explain.proofs.told.Told.end.Goals as goal

pub invariant_of-self : goal.invariant_of-self
unfolding encode_utf8
invariant_of-self c = rw c.push.ensures.bytes (added-shown _ _ _ c.self.invariant end-shown)
