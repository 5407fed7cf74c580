use Rattle.std.proofs.Common.{sym, ◌∙◌, refl}
use Rattle.std.specs.Prelude.{slice_index}
use Rattle.std.proofs.lemmas.Bool.{true≢false}
use Rattle.frame_stack.proofs.FrameLaws.{depth_is, frames-push}
use Rattle.frame_stack.proofs.WordLaws.{same_below}
use Rattle.frame_stack.proofs.FrameStack.push.Goals as goal

pub returns-then-self-eq-FRAMES-clause-full : goal.returns-then-self-eq-FRAMES-clause-full
returns-then-self-eq-FRAMES-clause-full c =
    let count = depth_is (slice_index c.self.inside.region) c.self.inside.depth c.args.self.now c.self.view_is in
    ((λ e. sym count ∙ c.if-self-eq-FRAMES.true), (λ e. refl))

pub returns-clause-full : goal.returns-clause-full
returns-clause-full c =
    let count = depth_is (slice_index c.self.inside.region) c.self.inside.depth c.args.self.now c.self.view_is in
    ((λ e. absurd (true≢false e)), (λ e. absurd (c.if-self-eq-FRAMES.false (count ∙ e))))

pub returns-clause-pushed : goal.returns-clause-pushed
returns-clause-pushed c =
    let b = slice_index c.self.inside.region in let after = slice_index c.write_frame.new.region in let start = c.start_of.result in
    frames-push b after c.self.inside.depth start c.args.self.now c.args.frame.now c.self.view_is c.start_of.ensures.start
    c.write_frame.ensures.frame
    (same_below b after start 224 c.write_frame.ensures.apart)
