use Rattle.ebc_link.proofs.Common.{◌≡◌, drop, not, find, Fixup, is_near}
use Rattle.ebc_link.proofs.fixups.first_far.Given as goal

abbrev pub invariant-loop-fixup : goal.invariant-loop-fixup
invariant-loop-fixup l =
    let is_far = λ (f : Fixup). not (is_near l.places l.home f) in find is_far (drop l.fixup-index l.fixups) ≡ find is_far l.fixups
