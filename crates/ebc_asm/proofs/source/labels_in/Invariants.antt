use Rattle.std.proofs.Common.{length}
use Rattle.asm_text.specs.Splits.{lines_of}
use Rattle.ebc_asm.proofs.SourceLaws.{WillBeLabels}
use Rattle.ebc_asm.proofs.source.labels_in.Given as goal

abbrev pub invariant-loop-text : goal.invariant-loop-text
invariant-loop-text l = WillBeLabels l.labels l.rest (lines_of l.source)

abbrev pub decreases-loop-text : goal.decreases-loop-text
decreases-loop-text l = length l.rest
