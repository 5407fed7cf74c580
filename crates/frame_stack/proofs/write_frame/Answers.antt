use Rattle.std.proofs.Common.{rules, ◌≡◌}
use Rattle.std.specs.Prelude.{slice_index}
use Rattle.frame_stack.specs.Frames.{frame_at}
use Rattle.frame_stack.specs.Words.{SameApart}
use Rattle.frame_stack.proofs.FrameLaws.{Puts-same, written_frame}
use Rattle.frame_stack.proofs.write_frame.Goals as goal
use Rattle.frame_stack.proofs.write_frame.Goals.{After-write_words-2}

both : (c : After-write_words-2)
    → (frame_at (slice_index c.write_words-2.new.region) c.args.offset ≡ c.args.frame.now)
    × SameApart (slice_index c.args.region.now) (slice_index c.write_words-2.new.region) c.args.offset 224
both c =
    written_frame (slice_index c.args.region.now) (slice_index c.write_words.new.region) (slice_index c.store.new.self)
    (slice_index c.store-2.new.self) (slice_index c.store-3.new.self) (slice_index c.store-4.new.self) (slice_index c.store-5.new.self)
    (slice_index c.store-6.new.self) (slice_index c.write_words-2.new.region) c.args.offset c.args.frame.now (search rules) (search rules)
    c.write_words.ensures.words c.write_words.ensures.apart c.store.ensures.bytes c.store-2.ensures.bytes
    (Puts-same _ _ _ _ _ _ c.store-3.ensures.bytes c.from.ensures) (Puts-same _ _ _ _ _ _ c.store-4.ensures.bytes c.from-2.ensures)
    (Puts-same _ _ _ _ _ _ c.store-5.ensures.bytes c.from-3.ensures) (Puts-same _ _ _ _ _ _ c.store-6.ensures.bytes c.from-4.ensures)
    c.write_words-2.ensures.words c.write_words-2.ensures.apart (search rules) (search rules) (search rules) (search rules) (search rules)
    (search rules)

pub returns-clause-frame : goal.returns-clause-frame
returns-clause-frame c = (both c).0

pub returns-clause-apart : goal.returns-clause-apart
returns-clause-apart c = (both c).1
