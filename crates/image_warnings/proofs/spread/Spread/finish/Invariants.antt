use Rattle.std.proofs.Common.{◌-◌, ◌≤◌, length}
use Rattle.image_warnings.specs.Spreading.{AreFollowed, IsSpread, ReachesCalls}
use Rattle.image_warnings.specs.Uncut.{way_of}
use Rattle.image_warnings.proofs.spread.Spread.finish.Given as goal

abbrev pub invariant-loop-followed : goal.invariant-loop-followed
invariant-loop-followed l = record {
  spread : IsSpread l.walk.image.now l.walk.f.now (way_of l.walk.notes.now l.above) l.self;
  calls : ReachesCalls l.walk.image.now l.walk.f.now (way_of l.walk.notes.now l.above) l.self.reached.items;
  followed : AreFollowed l.walk.image.now l.walk.f.now (way_of l.walk.notes.now l.above) l.followed l.self.reached.items;
  within : l.followed ≤ length l.self.reached.items;
}

abbrev pub decreases-loop-followed : goal.decreases-loop-followed
decreases-loop-followed l = l.walk.f.now.end - l.walk.f.now.place - l.followed
