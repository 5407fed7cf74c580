use Rattle.image_warnings.specs.ImageEffects.{EffectsBefore}
use Rattle.image_warnings.proofs.gather.add_each.Given as goal

abbrev pub invariant-loop-func : goal.invariant-loop-func
invariant-loop-func l = EffectsBefore l.image l.notes l.func l.out.items
