use Rattle.std.proofs.Common.{◌≡◌, length, take}
use Rattle.std.specs.Prelude.{slice_index}
use Rattle.frame_stack.specs.Words.{words_at}
use Rattle.frame_stack.proofs.words.read_words.Given as goal

abbrev pub invariant-loop-k : goal.invariant-loop-k
invariant-loop-k g l = record {
  words : take l.k l.words ≡ words_at (slice_index l.region) l.offset l.k;
  long : length l.words ≡ g.row.N;
}
