use Rattle.std.proofs.Common.{◌-◌, ◌<◌, ◌≤◌}
use Rattle.rules_image.specs.Places.{IsPlaceOf}
use Rattle.image_warnings.specs.Spreading.{IsSpread, ReachesCallsBefore}
use Rattle.image_warnings.specs.Uncut.{way_of}
use Rattle.image_warnings.proofs.spread.Spread.begin.Given as goal

abbrev pub invariant-loop-place : goal.invariant-loop-place
invariant-loop-place l = record {
  spread : IsSpread l.walk.image.now l.walk.f.now (way_of l.walk.notes.now l.above) l.self;
  calls : ReachesCallsBefore l.walk.image.now l.walk.f.now (way_of l.walk.notes.now l.above) l.place l.self.reached.items;
  reached : l.place < l.walk.f.now.end → IsPlaceOf l.walk.image.now l.walk.f.now l.place;
  first : l.walk.f.now.place ≤ l.place;
}

abbrev pub decreases-loop-place : goal.decreases-loop-place
decreases-loop-place l = l.walk.f.now.end - l.place
