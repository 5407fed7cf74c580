use Rattle.std.proofs.Common.{◌≡◌, ◌++◌, ℕ, List, length}
use Rattle.asm_text.specs.Splits.{lines_of}
use Rattle.side_by_side.specs.SideBySide.{until_beside}
use Rattle.side_by_side.proofs.beside.append_until.Given as goal

abbrev pub invariant-loop-next : goal.invariant-loop-next
invariant-loop-next l =
    (rest : List (List ℕ) → List ℕ) → l.out.items ++ until_beside l.line rest (lines_of l.left)
    ≡ l.fn.out.items ++ until_beside l.line rest (lines_of l.text)

abbrev pub decreases-loop-next : goal.decreases-loop-next
decreases-loop-next l = length l.left
