use Rattle.std.proofs.Common.{◌≡◌, ◌++◌, length}
use Rattle.asm_text.specs.Splits.{lines_of}
use Rattle.side_by_side.specs.SideBySide.{lines_beside}
use Rattle.side_by_side.proofs.beside.append_beside.Given as goal

abbrev pub invariant-loop-line : goal.invariant-loop-line
invariant-loop-line l =
    l.out.items ++ lines_beside (lines_of l.left) (lines_of l.other)
    ≡ l.fn.out.items ++ lines_beside (lines_of l.at32) (lines_of l.at64)

abbrev pub decreases-loop-line : goal.decreases-loop-line
decreases-loop-line l = length l.left
