use Rattle.std.proofs.Common.{◌≡◌, take}
use Rattle.std.specs.List.{flat_map}
use Rattle.image_lint.specs.Texts.{warning_line}
use Rattle.image_lint.proofs.text.warning_lines.Given as goal

abbrev pub invariant-loop-warning : goal.invariant-loop-warning
invariant-loop-warning l = l.out.items ≡ flat_map warning_line (take l.warning-index l.warnings)
