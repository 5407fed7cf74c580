use Rattle.std.proofs.Common.{rules}
use Rattle.std.specs.Prelude.{slice_index}
use Rattle.frame_stack.proofs.FrameLaws.{length_is, frames-with_slot}
use Rattle.frame_stack.proofs.FrameStack.set_slot.Goals as goal

pub returns-clause-after : goal.returns-clause-after
returns-clause-after c =
    frames-with_slot (slice_index c.self.inside.region)
    (slice_index c.store.new.self) c.self.inside.depth c.top-top.result c.args.slot c.args.value c.args.self.now
    c.self.view_is c.top-top.ensures.top c.requires.slot (search rules) c.store.ensures.bytes

pub returns-clause-len : goal.returns-clause-len
returns-clause-len c = length_is (slice_index c.self.inside.region)
    (slice_index c.store.new.self) c.self.inside.depth c.args.self.now c.self.view_is
