use Rattle.std.proofs.Common.{◌≡◌, ◌++◌, length}
use Rattle.std.specs.List.{flat_map}
use Rattle.asm_text.specs.Splits.{lines_of}
use Rattle.side_by_side.specs.SideBySide.{only64}
use Rattle.side_by_side.proofs.beside.append_rest.Given as goal

abbrev pub invariant-loop-next : goal.invariant-loop-next
invariant-loop-next l =
    l.out.items ++ flat_map only64 (lines_of l.rest) ≡ l.fn.out.items ++ flat_map only64 (lines_of l.text)

abbrev pub decreases-loop-next : goal.decreases-loop-next
decreases-loop-next l = length l.rest
