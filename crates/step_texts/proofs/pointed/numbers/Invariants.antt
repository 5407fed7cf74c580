use Rattle.std.proofs.Common.{◌≡◌, take}
use Rattle.step_texts.proofs.pointed.numbers.Given as goal

abbrev pub invariant-loop-byte : goal.invariant-loop-byte
invariant-loop-byte l = l.cells.items ≡ take l.byte-index l.bytes
