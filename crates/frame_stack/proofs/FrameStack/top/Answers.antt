use Rattle.std.proofs.Common.{arith}
use Rattle.std.specs.Prelude.{slice_index}
use Rattle.frame_stack.proofs.FrameLaws.{depth_is}
use Rattle.frame_stack.proofs.FrameStack.top.Goals as goal

pub overflow_sub-self-inside : goal.overflow_sub-self-inside
overflow_sub-self-inside c =
    omega (arith, c.requires, depth_is (slice_index c.self.inside.region) c.self.inside.depth c.args.self.now c.self.view_is)

pub returns-clause-top : goal.returns-clause-top
returns-clause-top c =
    omega (
      arith,
      c.requires,
      c.start_of.ensures.start,
      depth_is (slice_index c.self.inside.region) c.self.inside.depth c.args.self.now c.self.view_is,
    )
