use Rattle.std.specs.Prelude.{slice_index}
use Rattle.frame_stack.proofs.FrameLaws.{frame-from_bottom}
use Rattle.frame_stack.proofs.FrameStack.region.Goals as goal

pub returns-clause-frames : goal.returns-clause-frames
returns-clause-frames c = λ i f is. frame-from_bottom
    (slice_index c.self.inside.region) c.self.inside.depth i c.args.self.now f c.self.view_is is
