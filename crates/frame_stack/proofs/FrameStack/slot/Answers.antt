use Rattle.std.proofs.Common.{◌∙◌, arith}
use Rattle.std.specs.Prelude.{slice_index}
use Rattle.frame_stack.proofs.FrameLaws.{depth_is, slot_is}
use Rattle.frame_stack.proofs.FrameStack.slot.Goals as goal

pub start_of-requires : goal.start_of-requires
start_of-requires c =
    omega (
      arith,
      c.requires.frame,
      c.self.invariant.1,
      depth_is (slice_index c.self.inside.region) c.self.inside.depth c.args.self.now c.self.view_is,
    )

pub returns : goal.returns
returns c = λ f is.
    let b = slice_index c.self.inside.region in
    c.load.ensures.number
    ∙ slot_is b c.self.inside.depth c.args.below c.start_of.result c.args.slot c.args.self.now f c.self.view_is is c.start_of.ensures.start
    c.requires.slot
