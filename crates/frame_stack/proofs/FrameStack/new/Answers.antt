use Rattle.std.specs.Prelude.{slice_index}
use Rattle.frame_stack.proofs.FrameLaws.{frames_none}
use Rattle.frame_stack.proofs.FrameStack.new.Goals as goal

pub returns : goal.returns
returns c = frames_none (slice_index c.in_ok-region.region)
