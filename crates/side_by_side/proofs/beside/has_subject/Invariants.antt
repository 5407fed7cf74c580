use Rattle.std.proofs.Common.{◌≡◌, length}
use Rattle.std.specs.List.{list_any}
use Rattle.asm_text.specs.Splits.{lines_of}
use Rattle.side_by_side.specs.SideBySide.{same_subject}
use Rattle.side_by_side.proofs.beside.has_subject.Given as goal

abbrev pub invariant-loop-next : goal.invariant-loop-next
invariant-loop-next l =
    list_any (same_subject l.line) (lines_of l.text) ≡ list_any (same_subject l.line) (lines_of l.rest)

abbrev pub decreases-loop-next : goal.decreases-loop-next
decreases-loop-next l = length l.rest
