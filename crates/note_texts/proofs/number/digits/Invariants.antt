use Rattle.std.proofs.Common.{◌≡◌, drop}
use Rattle.note_texts.specs.Numbers.{number_from}
use Rattle.note_texts.proofs.number.digits.Given as goal

abbrev pub invariant-loop-byte : goal.invariant-loop-byte
invariant-loop-byte l = number_from l.number (drop l.byte-index l.text) ≡ number_from 0 l.text
