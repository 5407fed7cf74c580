use Rattle.std.specs.Prelude.{slice_index}
use Rattle.frame_stack.proofs.FrameLaws.{depth_is}
use Rattle.frame_stack.proofs.FrameStack.depth.Goals as goal

pub returns-clause-count : goal.returns-clause-count
returns-clause-count c = depth_is (slice_index c.self.inside.region) c.self.inside.depth c.args.self.now c.self.view_is
