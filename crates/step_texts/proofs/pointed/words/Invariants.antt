use Rattle.std.proofs.Common.{◌≡◌}
use Rattle.step_texts.specs.PointedTexts.{first_words}
use Rattle.step_texts.proofs.pointed.words.Given as goal

abbrev pub invariant-loop-k : goal.invariant-loop-k
invariant-loop-k l = l.cells.items ≡ first_words l.bytes l.k
