use Rattle.std.proofs.Common.{rules}
use Rattle.std.specs.Prelude.{slice_index}
use Rattle.frame_stack.proofs.FrameLaws.{length_is, Puts-same, frames-with_mark}
use Rattle.frame_stack.proofs.FrameStack.set_mark.Goals as goal

pub returns-clause-after : goal.returns-clause-after
returns-clause-after c =
    frames-with_mark (slice_index c.self.inside.region) (slice_index c.store.new.self) (slice_index c.store-2.new.self)
    (slice_index c.store-3.new.self) c.self.inside.depth c.top-top.result c.args.entry c.args.callback c.args.count c.args.self.now
    c.self.view_is c.top-top.ensures.top (search rules) (search rules) (search rules)
    (Puts-same _ _ _ _ _ _ c.store.ensures.bytes c.from.ensures) (Puts-same _ _ _ _ _ _ c.store-2.ensures.bytes c.from-2.ensures)
    (Puts-same _ _ _ _ _ _ c.store-3.ensures.bytes c.from-3.ensures)

pub returns-clause-len : goal.returns-clause-len
returns-clause-len c = length_is (slice_index c.self.inside.region)
    (slice_index c.store-3.new.self) c.self.inside.depth c.args.self.now c.self.view_is
