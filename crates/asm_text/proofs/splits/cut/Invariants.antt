use Rattle.std.proofs.Common.{◌≡◌, take, drop, option_map}
use Rattle.asm_text.specs.Splits.{cut}
use Rattle.asm_text.proofs.Pieces.{onto}
use Rattle.asm_text.proofs.splits.cut.Given as goal

abbrev pub invariant-loop-at : goal.invariant-loop-at
invariant-loop-at l = option_map (onto (take l.at l.text)) (cut (drop l.at l.text)) ≡ cut l.text
