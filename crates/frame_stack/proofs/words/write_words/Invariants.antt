use Rattle.std.proofs.Common.{◌≡◌, ◌*◌, length, take}
use Rattle.std.specs.Prelude.{slice_index}
use Rattle.frame_stack.specs.Words.{words_at, SameApart}
use Rattle.frame_stack.proofs.words.write_words.Given as goal

abbrev pub invariant-loop-k : goal.invariant-loop-k
invariant-loop-k l = record {
  words : words_at (slice_index l.region) l.offset l.k ≡ take l.k l.words;
  apart : SameApart (slice_index l.fn.region) (slice_index l.region) l.offset (8 * l.k);
  len : length l.region ≡ length l.fn.region;
}
