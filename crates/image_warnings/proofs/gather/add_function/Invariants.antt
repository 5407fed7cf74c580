use Rattle.std.proofs.Common.{◌-◌}
use Rattle.state_walk.specs.Standing.{StandsBefore}
use Rattle.image_warnings.specs.ImageEffects.{EffectsTo}
use Rattle.image_warnings.proofs.gather.add_function.Given as goal

abbrev pub invariant-places : goal.invariant-places
invariant-places l = record {
  stands : StandsBefore l.walk.image.now l.walk.notes.now l.walk.func l.walk.f.now l.b;
  effects : EffectsTo l.walk.image.now l.walk.notes.now l.walk.func l.walk.f.now l.b.place l.out.items;
}

abbrev pub decreases-places : goal.decreases-places
decreases-places l = l.walk.f.now.end - l.b.place
