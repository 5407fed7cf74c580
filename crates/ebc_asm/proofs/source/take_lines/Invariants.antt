use Rattle.std.proofs.Common.{◌+◌, ◌≤◌, length}
use Rattle.asm_text.specs.Splits.{lines_of}
use Rattle.ebc_asm.specs.Held.{Fits}
use Rattle.ebc_asm.proofs.SourceLaws.{HoldsBefore}
use Rattle.ebc_asm.proofs.source.take_lines.Given as goal

abbrev pub invariant-loop-text : goal.invariant-loop-text
invariant-loop-text l =
    record {
      fits : Fits l.assembler;
      number : l.number + length l.rest ≤ length l.source;
      lines : HoldsBefore (lines_of l.source) l.rest l.number l.assembler;
    }

abbrev pub decreases-loop-text : goal.decreases-loop-text
decreases-loop-text l = length l.rest
