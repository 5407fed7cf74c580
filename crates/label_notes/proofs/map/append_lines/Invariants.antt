use Rattle.std.proofs.Common.{◌≡◌, ◌++◌, take}
use Rattle.std.specs.List.{flat_map}
use Rattle.label_notes.specs.Maps.{label_line}
use Rattle.label_notes.proofs.map.append_lines.Given as goal

abbrev pub invariant-loop-label : goal.invariant-loop-label
invariant-loop-label l = l.out.items ≡ l.fn.out.items ++ flat_map (label_line l.objects l.shared) (take l.label-index l.labels)
