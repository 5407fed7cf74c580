use Rattle.type_notes.specs.Resolved.{state_of}
use Rattle.type_notes.proofs.points.state_of.Goals as goal

pub returns : goal.returns
unfolding state_of
returns c = cc
