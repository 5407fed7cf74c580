use Rattle.std.proofs.Common.{◌-◌, sym, ap, ◌∙◌, ◌∷◌, arith}
use Rattle.std.specs.Prelude.{slice_index}
use Rattle.frame_stack.specs.Frames.{frames}
use Rattle.frame_stack.proofs.FrameLaws.{frames_none, frames-pop}
use Rattle.frame_stack.proofs.FrameStack.pop.Goals as goal

pub returns-then-self-eq0-clause-none : goal.returns-then-self-eq0-clause-none
returns-then-self-eq0-clause-none c =
    let b = slice_index c.self.inside.region in
    sym c.self.view_is ∙ ap (frames b) c.if-self-eq0.true ∙ frames_none b

pub returns-clause-popped : goal.returns-clause-popped
returns-clause-popped c =
    let b = slice_index c.self.inside.region in let d = c.self.inside.depth in let below = frames b (d - 1) in
    frames-pop b d (d - 1) c.start_of.result c.args.self.now c.self.view_is (omega (arith, c.if-self-eq0.false)) c.start_of.ensures.start
    ∙ ap (λ f. f ∷ below) (sym c.read_frame.ensures)
