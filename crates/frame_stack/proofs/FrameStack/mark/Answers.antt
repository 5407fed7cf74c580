use Rattle.std.proofs.Common.{◌∙◌}
use Rattle.std.specs.Prelude.{slice_index}
use Rattle.frame_stack.proofs.FrameLaws.{mark_is}
use Rattle.frame_stack.proofs.FrameStack.mark.Goals as goal

pub returns-clause-entry : goal.returns-clause-entry
returns-clause-entry c = λ f is.
    c.load_u32.ensures
    ∙ (mark_is
    (slice_index c.self.inside.region) c.self.inside.depth c.top-top.result c.args.self.now f c.self.view_is is c.top-top.ensures.top).0

pub returns-clause-callback : goal.returns-clause-callback
returns-clause-callback c = λ f is.
    c.load_u32-2.ensures
    ∙ (mark_is
    (slice_index c.self.inside.region) c.self.inside.depth c.top-top.result c.args.self.now f c.self.view_is is c.top-top.ensures.top).1

pub returns-clause-count : goal.returns-clause-count
returns-clause-count c = λ f is.
    c.load_u32-3.ensures
    ∙ (mark_is
    (slice_index c.self.inside.region) c.self.inside.depth c.top-top.result c.args.self.now f c.self.view_is is c.top-top.ensures.top).2
