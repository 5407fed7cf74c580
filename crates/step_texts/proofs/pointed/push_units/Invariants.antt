use Rattle.std.proofs.Common.{◌≡◌, ◌++◌, take, string_bytes}
use Rattle.std.specs.List.{flat_map}
use Rattle.step_texts.specs.PointedTexts.{unit_text}
use Rattle.step_texts.proofs.pointed.push_units.Given as goal

abbrev pub invariant-loop-cell : goal.invariant-loop-cell
invariant-loop-cell l = string_bytes l.line ≡ string_bytes l.fn.line ++ flat_map unit_text (take l.cell-index l.cells)
