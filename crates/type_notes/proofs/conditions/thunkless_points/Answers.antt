use Rattle.type_notes.specs.Conditions.{thunkless_points}
use Rattle.type_notes.proofs.conditions.thunkless_points.Goals as goal

pub returns : goal.returns
unfolding thunkless_points
returns c = cc
